use Rattle.std.proofs.Common.{ap, inl, inr, refl, sym, ◌∙◌, ◌∷◌, []}
use Rattle.image_files.specs.FileUses.{has_clash}
use Rattle.stack_files.proofs.OpeningLemmas.{err-from}
use Rattle.stack_files.proofs.stack_apart.read_apart.Goals as goal

pub returns-in_err-text-clause-err : goal.returns-in_err-text-clause-err
returns-in_err-text-clause-err g c =
    err-from c.from_residual.result _ c.in_err-text.field-0.0 c.from_residual.ensures.1 (inl c.in_err-text.ensures.err)

pub returns-then-has_clash-clause-err : goal.returns-then-has_clash-clause-err
returns-then-has_clash-clause-err g c =
    let clash = sym (c.has_clash.ensures ∙ ap (has_clash (c.args.used ∷ [])) c.text_use.ensures) ∙ c.if-has_clash.true in
    inr (record { text = c.in_ok-text.text; told = c.in_ok-text.ensures.ok; clash = clash; is = (refl, refl) })

pub returns-clause-ok : goal.returns-clause-ok
returns-clause-ok g c =
    record { told = c.in_ok-text.ensures.ok; apart = sym (c.has_clash.ensures ∙ ap (has_clash (c.args.used ∷ [])) c.text_use.ensures) ∙ c.if-has_clash.false }
