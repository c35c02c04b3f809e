use Rattle.std.proofs.Common.{inl, inr, refl}
use Rattle.std.proofs.lemmas.Result.{IfErr-weaker, on_ok_weaker}
use Rattle.fec_area.specs.declared.writing.ParityFault.TheVariants.{TooSmall}
use Rattle.fec_commands.specs.declared.fault.FecFault.TheVariants.{Parity}
use Rattle.fec_commands.specs.FecFaults.{unopened}
use Rattle.fec_commands.proofs.EndingLemmas.{at-fault, err-enough, err-from}
use Rattle.fec_commands.proofs.growing.protect_growing.Goals as goal

pub returns-in_err-grow_place-clause-err : goal.returns-in_err-grow_place-clause-err
returns-in_err-grow_place-clause-err g c =
    err-from c.from_residual.result _ (unopened c.in_err-grow_place.field-0.0) c.from_residual.ensures.1
    (inl (record { file = c.in_err-grow_place.field-0.0; unmade = c.in_err-grow_place.ensures.err; is = refl }))

pub returns-in_err-grow_place-2-clause-err : goal.returns-in_err-grow_place-2-clause-err
returns-in_err-grow_place-2-clause-err g c =
    let needed = c.in-Some.sectors in
    let vain = at-fault c.protect_image-tried.result _ (Parity (TooSmall needed)) c.in-Some.ensures.some c.protect_image-tried.ensures.err in
    err-from c.from_residual-in_err-grow_place-2.result _ (unopened c.in_err-grow_place-2.field-0.0) c.from_residual-in_err-grow_place-2.ensures.1
    (inr (inl (record {
      tried = c.protect_image-tried.new.images;
      needed = needed;
      vain = record { between = c.grow_place.new.images; made = c.in_ok-grow_place.ensures.ok; follows = vain };
      ungrown = record { file = c.in_err-grow_place-2.field-0.0; unmade = c.in_err-grow_place-2.ensures.err; is = refl };
    })))

pub returns-clause-ok : goal.returns-clause-ok
returns-clause-ok g c =
    let needed = c.in-Some.sectors in
    let vain = at-fault c.protect_image-tried.result _ (Parity (TooSmall needed)) c.in-Some.ensures.some c.protect_image-tried.ensures.err in
    on_ok_weaker c.protect_image.result
    (λ done. inr (record {
      tried = c.protect_image-tried.new.images;
      room = c.grow_place-2.new.images;
      needed = needed;
      vain = record { between = c.grow_place.new.images; made = c.in_ok-grow_place.ensures.ok; follows = vain };
      grown = c.in_ok-grow_place-2.ensures.ok;
      follows = done;
    }))
    c.protect_image.ensures.ok

pub returns-clause-err : goal.returns-clause-err
returns-clause-err g c =
    let needed = c.in-Some.sectors in
    let vain = at-fault c.protect_image-tried.result _ (Parity (TooSmall needed)) c.in-Some.ensures.some c.protect_image-tried.ensures.err in
    IfErr-weaker c.protect_image.result _ _
    (λ fault ends. inr (inr (inr (record {
      tried = c.protect_image-tried.new.images;
      room = c.grow_place-2.new.images;
      needed = needed;
      vain = record { between = c.grow_place.new.images; made = c.in_ok-grow_place.ensures.ok; follows = vain };
      grown = c.in_ok-grow_place-2.ensures.ok;
      follows = ends;
    }))))
    c.protect_image.ensures.err

pub returns-in_default-clause-err : goal.returns-in_default-clause-err
returns-in_default-clause-err g c =
    err-enough c.protect_image-tried.result _ _ c.in_default.ensures.none
    (λ fault enough ends. inr (inr (inl (enough, record { between = c.grow_place.new.images; made = c.in_ok-grow_place.ensures.ok; follows = ends }))))
    c.protect_image-tried.ensures.err
