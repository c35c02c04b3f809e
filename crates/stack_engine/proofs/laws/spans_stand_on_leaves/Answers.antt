use Rattle.stack_meaning.proofs.lemmas.LeavesBeneathLemmas.{spans-alike}
use Rattle.stack_engine.proofs.laws.spans_stand_on_leaves.Goals as goal

pub returns : goal.returns
returns c = λ config lower images other same. spans-alike images other config lower same
