use Rattle.stack_recovery.proofs.FailureLemmas.{failures-are-few}
use Rattle.stack_recovery.proofs.laws.failures_are_few.Goals as goal

pub returns : goal.returns
returns c = λ marks d first w skims w' none h. failures-are-few marks d first w skims w' none h
