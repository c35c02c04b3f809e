use Rattle.std.proofs.Common.{ℕ, inl, inr, refl, subst}
use Rattle.image_commands.specs.Places.{IsPartState}
use Rattle.fec_commands.specs.FecFaults.{unopened}
use Rattle.fec_commands.specs.Protecting.{IsParityEnd, ProtectsBehind}
use Rattle.fec_commands.proofs.EndingLemmas.{err-from}
use Rattle.fec_commands.proofs.protect.protect_image.Goals as goal

pub returns-in_err-three-clause-err : goal.returns-in_err-three-clause-err
returns-in_err-three-clause-err g c =
    err-from c.from_residual.result _ (unopened c.in_err-three.field-0.0) c.from_residual.ensures.1
    (inl (record { file = c.in_err-three.field-0.0; refused = c.in_err-three.ensures.err; is = refl }))

pub returns-in_err-protect_behind-clause-err : goal.returns-in_err-protect_behind-clause-err
returns-in_err-protect_behind-clause-err g c =
    let three = c.in_ok-three.three in
    let state = g.I.Dev.BlockDev.state in
    let fault = c.in_err-protect_behind.field-0.0 in
    let new = c.protect_behind.new.parity in
    err-from c.from_residual-in_err-protect_behind.result _ fault c.from_residual-in_err-protect_behind.ensures.1
    (inr (record {
      three = three;
      parity_dev' = new;
      opened = c.in_ok-three.ensures.ok;
      ends = subst (λ (end : ℕ). IsParityEnd (IsPartState state) (IsPartState state) (state three.«data».device) (state three.hash.device) (state three.parity.device) (record { end = end; first = c.args.places.now.hash_first; roots = c.args.fec.now.roots }) c.args.source.now (state new) fault) c.data_end.ensures c.in_err-protect_behind.ensures.err;
    }))

pub returns-clause-ok : goal.returns-clause-ok
returns-clause-ok g c =
    let three = c.in_ok-three.three in
    let state = g.I.Dev.BlockDev.state in
    let new = c.protect_behind.new.parity in
    record {
      between = c.open_three.new.images;
      three = three;
      closed_dev = new;
      opened = c.in_ok-three.ensures.ok;
      protects = subst (λ (end : ℕ). ProtectsBehind (IsPartState state) (IsPartState state) (state three.«data».device) (state three.hash.device) (state three.parity.device) (record { end = end; first = c.args.places.now.hash_first; roots = c.args.fec.now.roots }) c.args.source.now (state new)) c.data_end.ensures c.in_ok-protect_behind.ensures.ok;
      closed = c.close_place.ensures;
    }
