use Rattle.std.proofs.Common.{refl, sym, ◌∙◌}
use Rattle.image_files.proofs.PlaceLemmas.{missing-is}
use Rattle.image_files.proofs.places.find_whole.Goals as goal

pub returns-in-Ok-clause-ok : goal.returns-in-Ok-clause-ok
returns-in-Ok-clause-ok g c = record { opened = c.in-Ok.ensures.opened; path_is = refl; part_is = refl }

pub returns-then-is_missing-clause-ok : goal.returns-then-is_missing-clause-ok
returns-then-is_missing-clause-ok g c = rw (missing-is c.in-Err.fault (sym c.is_missing.ensures ∙ c.if-is_missing.true)) at c.in-Err.ensures.opened

pub returns-clause-err : goal.returns-clause-err
returns-clause-err g c = record { refused = record { path_is = refl; refused = c.in-Err.ensures.opened }; found = sym c.is_missing.ensures ∙ c.if-is_missing.false }
