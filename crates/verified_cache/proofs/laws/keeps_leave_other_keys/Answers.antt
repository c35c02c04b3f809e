use Rattle.verified_cache.proofs.lemmas.AnswerLemmas.{block_under-others-after_keep}
use Rattle.verified_cache.proofs.laws.keeps_leave_other_keys.Goals as goal

pub returns : goal.returns
returns c = block_under-others-after_keep
