use Rattle.verified_cache.proofs.lemmas.AnswerLemmas.{block_under-without_line}
use Rattle.verified_cache.proofs.laws.forgetting_is_exact.Goals as goal

pub returns : goal.returns
returns c = block_under-without_line
