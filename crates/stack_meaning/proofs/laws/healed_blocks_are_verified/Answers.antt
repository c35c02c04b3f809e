use Rattle.stack_meaning.proofs.lemmas.ErasureLemmas.{healed-verified}
use Rattle.stack_meaning.proofs.laws.healed_blocks_are_verified.Goals as goal

pub returns : goal.returns
returns c = healed-verified
