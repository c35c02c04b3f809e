use Rattle.stack_recovery.proofs.SkimLawLemmas.{sweeps-all}
use Rattle.stack_recovery.proofs.laws.sweeps_try_all.Goals as goal

pub returns : goal.returns
returns c = λ p first skims h. sweeps-all p first skims h
