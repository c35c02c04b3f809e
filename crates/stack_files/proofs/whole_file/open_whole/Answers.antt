use Rattle.std.proofs.Common.{ap, inr, refl, sym, ◌∙◌}
use Rattle.std.proofs.lemmas.Bool.{true≢false}
use Rattle.image_files.specs.FileUses.{has_clash}
use Rattle.stack_files.proofs.whole_file.open_whole.Goals as goal

pub returns-then-not-is_within-clause-err : goal.returns-then-not-is_within-clause-err
returns-then-not-is_within-clause-err g c = record {
  image = c.in-Ok.image;
  opened = c.in-Ok.ensures.ok;
  outside = λ inside. true≢false (sym (c.is_within.ensures.1 inside) ∙ c.if-not-is_within.true);
  is = refl;
}

pub returns-then-has_clash-clause-err : goal.returns-then-has_clash-clause-err
returns-then-has_clash-clause-err g c =
    let clash = sym (c.has_clash.ensures ∙ ap (has_clash c.args.files.now) c.read_use.ensures) ∙ c.if-has_clash.true in
    inr (record { image = c.in-Ok.image; opened = c.in-Ok.ensures.ok; clash = clash; is = (refl, refl) })

pub returns-clause-ok : goal.returns-clause-ok
returns-clause-ok g c = record {
  opened = c.in-Ok.ensures.ok;
  inside = c.is_within.ensures.0 c.if-not-is_within.false;
  apart = sym (c.has_clash.ensures ∙ ap (has_clash c.args.files.now) c.read_use.ensures) ∙ c.if-has_clash.false;
}
