use Rattle.std.proofs.Common.{inl, inr, sym}
use Rattle.image_files.proofs.PlaceLemmas.{err-from}
use Rattle.image_files.proofs.partitions.usable_part.Goals as goal

pub returns-in_err-part-clause-err : goal.returns-in_err-part-clause-err
returns-in_err-part-clause-err c = err-from c.from_residual.result _ c.in_err-part.field-0.0 c.from_residual.ensures.1 (inl c.in_err-part.ensures.err)

pub returns-in-None-clause-ok : goal.returns-in-None-clause-ok
returns-in-None-clause-ok c = record { has = c.in_ok-part.ensures.ok; usable = sym c.in-None.ensures }

pub returns-in-Some-clause-err : goal.returns-in-Some-clause-err
returns-in-Some-clause-err c = inr (record { part = c.in_ok-part.part; has = c.in_ok-part.ensures.ok; refused = sym c.in-Some.ensures })
