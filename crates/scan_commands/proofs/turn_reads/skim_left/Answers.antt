use Rattle.scan_commands.proofs.TurnLemmas.{err-from}
use Rattle.scan_commands.proofs.turn_reads.skim_left.Goals as goal

pub returns-in_err-skimmed-clause-err : goal.returns-in_err-skimmed-clause-err
returns-in_err-skimmed-clause-err g c = err-from c.from_residual.result _ c.in_err-skimmed.field-0.0 c.from_residual.ensures.1 c.in_err-skimmed.ensures.err
