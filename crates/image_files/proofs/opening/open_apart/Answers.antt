use Rattle.std.proofs.Common.{ap, inr, refl, sym, ◌∙◌}
use Rattle.image_files.specs.FileUses.{has_clash}
use Rattle.image_files.proofs.opening.open_apart.Goals as goal

pub returns-then-has_clash-clause-err : goal.returns-then-has_clash-clause-err
returns-then-has_clash-clause-err g c =
    let clash = sym (c.has_clash.ensures ∙ ap (has_clash c.args.files.now) c.image_use.ensures) ∙ c.if-has_clash.true in
    inr (record { image = c.in_ok-image.image; opened = c.in_ok-image.ensures.ok; clash = clash; is = (refl, refl) })

pub returns-clause-ok : goal.returns-clause-ok
returns-clause-ok g c =
    record { opened = c.in_ok-image.ensures.ok; apart = sym (c.has_clash.ensures ∙ ap (has_clash c.args.files.now) c.image_use.ensures) ∙ c.if-has_clash.false }
