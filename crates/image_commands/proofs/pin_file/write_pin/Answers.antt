use Rattle.std.proofs.Common.{ℕ, List, Ok, Err, inl, inr, refl, subst, ◌∙◌}
use Rattle.image_commands.specs.declared.fault.ImageFault.TheVariants.{NoMemory}
use Rattle.image_commands.proofs.OpeningLemmas.{err-from}
use Rattle.image_commands.proofs.pin_file.write_pin.Goals as goal

pub returns-in_err-check_apart-clause-err : goal.returns-in_err-check_apart-clause-err
returns-in_err-check_apart-clause-err g c =
    err-from c.from_residual.result _ c.in_err-check_apart.field-0.0 c.from_residual.ensures.1 (inl c.in_err-check_apart.ensures.err)

pub returns-in_err-check_old_text-clause-err : goal.returns-in_err-check_old_text-clause-err
returns-in_err-check_old_text-clause-err g c =
    err-from c.from_residual-in_err-check_old_text.result _ c.in_err-check_old_text.field-0.0 c.from_residual-in_err-check_old_text.ensures.1
    (inr (inl (record { told = c.check_apart.new.images; apart = c.in_ok-check_apart.ensures.ok; refuses = c.in_err-check_old_text.ensures.err })))

pub returns-in_err-text-clause-err : goal.returns-in_err-text-clause-err
returns-in_err-text-clause-err g c =
    let e = c.in_err-text.field-0.0 in
    err-from c.from_residual-in_err-text.result _ NoMemory c.from_residual-in_err-text.ensures.1
    (inr (inr (record {
      told = c.check_apart.new.images;
      read = c.check_old_text.new.images;
      apart = c.in_ok-check_apart.ensures.ok;
      replaces = c.in_ok-check_old_text.ensures.ok;
      unreplaced = (refl, (e.asked, c.in_err-text.ensures.err, e.refused));
    })))

pub returns-in-Ok-clause-ok : goal.returns-in-Ok-clause-ok
returns-in-Ok-clause-ok g c = record {
  told = c.check_apart.new.images;
  read = c.check_old_text.new.images;
  apart = c.in_ok-check_apart.ensures.ok;
  replaces = c.in_ok-check_old_text.ensures.ok;
  replaced = subst (λ (bytes : List ℕ). g.I.Images.relations.replaces c.check_old_text.new.images c.args.file.path.now bytes (Ok (tt {0})) c.replace.new.self)
      (c.as_slice.ensures.value ∙ c.in_ok-text.ensures.text) c.in-Ok.ensures;
}

pub returns-clause-err : goal.returns-clause-err
returns-clause-err g c = inr (inr (record {
  told = c.check_apart.new.images;
  read = c.check_old_text.new.images;
  apart = c.in_ok-check_apart.ensures.ok;
  replaces = c.in_ok-check_old_text.ensures.ok;
  unreplaced = subst (λ (bytes : List ℕ). g.I.Images.relations.replaces c.check_old_text.new.images c.args.file.path.now bytes (Err c.in-Err.fault) c.replace.new.self)
      (c.as_slice.ensures.value ∙ c.in_ok-text.ensures.text) c.in-Err.ensures;
}))
