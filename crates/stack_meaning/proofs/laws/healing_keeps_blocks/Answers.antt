use Rattle.stack_meaning.proofs.lemmas.SpareLemmas.{healing-keeps}
use Rattle.stack_meaning.proofs.laws.healing_keeps_blocks.Goals as goal

pub returns : goal.returns
returns c = healing-keeps
