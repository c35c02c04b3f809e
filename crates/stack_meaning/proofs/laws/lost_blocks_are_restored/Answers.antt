use Rattle.stack_meaning.proofs.lemmas.ErasureLemmas.{losses-restored}
use Rattle.stack_meaning.proofs.laws.lost_blocks_are_restored.Goals as goal

pub returns : goal.returns
returns c = losses-restored
