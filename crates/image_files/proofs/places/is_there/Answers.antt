use Rattle.std.proofs.Common.{refl, sym, ◌∙◌}
use Rattle.image_files.proofs.PlaceLemmas.{missing-is}
use Rattle.image_files.proofs.places.is_there.Goals as goal

pub returns-in-Ok-clause-ok : goal.returns-in-Ok-clause-ok
returns-in-Ok-clause-ok g c = (c.in-Ok.field-0, c.in-Ok.ensures)

pub returns-then-is_missing-clause-ok : goal.returns-then-is_missing-clause-ok
returns-then-is_missing-clause-ok g c = rw (missing-is c.in-Err.fault (sym c.is_missing.ensures ∙ c.if-is_missing.true)) at c.in-Err.ensures

pub returns-clause-err : goal.returns-clause-err
returns-clause-err g c = record { path_is = refl; found = sym c.is_missing.ensures ∙ c.if-is_missing.false; measured = c.in-Err.ensures }
