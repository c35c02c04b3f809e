use Rattle.std.proofs.Common.{inl, inr, refl, sym, ◌∙◌}
use Rattle.scan_commands.specs.declared.recovering_fault.RecoveringFault.TheVariants.{NoMemory, Write}
use Rattle.scan_commands.proofs.OpeningLemmas.{err-from}
use Rattle.scan_commands.proofs.ReportLemmas.{all-kept, one-unkept}
use Rattle.scan_commands.proofs.report.tell_object.Goals as goal

pub returns-then-is_some-clause-err : goal.returns-then-is_some-clause-err
returns-then-is_some-clause-err g c = (inl (one-unkept c.args.kept.now (sym c.is_some.ensures ∙ c.if-is_some.true)), refl)

pub returns-in_err-line-clause-err : goal.returns-in_err-line-clause-err
returns-in_err-line-clause-err g c =
    err-from c.from_residual.result _ NoMemory c.from_residual.ensures.1 (inr (all-kept c.args.kept.now (sym c.is_some.ensures ∙ c.if-is_some.false)), refl)

pub returns-in_err-put-clause-err : goal.returns-in_err-put-clause-err
returns-in_err-put-clause-err g c =
    err-from c.from_residual-in_err-put.result _ Write c.from_residual-in_err-put.ensures.1 (all-kept c.args.kept.now (sym c.is_some.ensures ∙ c.if-is_some.false), c.in_err-put.ensures.writes.failed)

pub returns-then-has_missing-clause-err : goal.returns-then-has_missing-clause-err
returns-then-has_missing-clause-err g c =
    (all-kept c.args.kept.now (sym c.is_some.ensures ∙ c.if-is_some.false), sym c.has_missing.ensures ∙ c.if-has_missing.true, rw c.as_slice.ensures.value at (rw c.in_ok-line.ensures at (rw c.as_bytes.ensures.value at c.in_ok-put.ensures.writes.ok)))

pub returns-clause-ok : goal.returns-clause-ok
returns-clause-ok g c =
    (all-kept c.args.kept.now (sym c.is_some.ensures ∙ c.if-is_some.false), sym c.has_missing.ensures ∙ c.if-has_missing.false, rw c.as_slice.ensures.value at (rw c.in_ok-line.ensures at (rw c.as_bytes.ensures.value at c.in_ok-put.ensures.writes.ok)))
