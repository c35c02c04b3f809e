use Rattle.verified_cache.proofs.lemmas.AnswerLemmas.{block_under-after_keep}
use Rattle.verified_cache.proofs.laws.kept_blocks_are_found.Goals as goal

pub returns : goal.returns
returns c = block_under-after_keep
