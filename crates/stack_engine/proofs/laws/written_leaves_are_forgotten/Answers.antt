use Rattle.stack_lines.proofs.lemmas.KeptLemmas.{forgets-adds_none, forgets-touched}
use Rattle.stack_engine.proofs.laws.written_leaves_are_forgotten.Goals as goal

pub returns : goal.returns
returns c = λ w w' d first bytes result any. record { adds_none = forgets-adds_none any.forgets; drops = any.drops; written = forgets-touched any.forgets }
