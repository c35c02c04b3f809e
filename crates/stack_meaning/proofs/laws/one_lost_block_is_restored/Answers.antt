use Rattle.stack_meaning.proofs.lemmas.SpareLemmas.{lost-restored}
use Rattle.stack_meaning.proofs.laws.one_lost_block_is_restored.Goals as goal

pub returns : goal.returns
returns c = lost-restored
