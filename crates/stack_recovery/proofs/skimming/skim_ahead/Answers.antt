use Rattle.std.proofs.lemmas.Result.{err_from_is_err_and}
use Rattle.stack_recovery.proofs.lemmas.WritingLemmas.{err-from}
use Rattle.stack_recovery.proofs.skimming.skim_ahead.Goals as goal

pub returns-in_err-skip-clause-err : goal.returns-in_err-skip-clause-err
returns-in_err-skip-clause-err g c = err-from c.from_residual.result _ c.in_err-skip.field-0.0 c.from_residual.ensures.1 c.in_err-skip.ensures.err

pub returns-in_err-skip-clause-stopped : goal.returns-in_err-skip-clause-stopped
returns-in_err-skip-clause-stopped g c = err-from c.from_residual.result _ c.in_err-skip.field-0.0 c.from_residual.ensures.1 c.in_err-skip.ensures.stopped

pub returns-in_err-skip-clause-called : goal.returns-in_err-skip-clause-called
returns-in_err-skip-clause-called g c = let p = err_from_is_err_and c.from_residual.result c.from_residual.ensures.1 in rw p.1 c.in_err-skip.ensures.called

pub returns-clause-called : goal.returns-clause-called
returns-clause-called g c = c.in_ok-skip.ensures.called
