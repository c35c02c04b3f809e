use Rattle.stack_recovery.proofs.LongestLemmas.{runs-longest}
use Rattle.stack_recovery.proofs.laws.runs_are_longest.Goals as goal

pub returns : goal.returns
returns c = λ states. runs-longest states
