use Rattle.verified_cache.proofs.lemmas.AnswerLemmas.{block_under-after_find}
use Rattle.verified_cache.proofs.laws.finds_change_no_answer.Goals as goal

pub returns : goal.returns
returns c = block_under-after_find
