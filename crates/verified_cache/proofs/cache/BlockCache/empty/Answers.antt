use Rattle.verified_cache.proofs.lemmas.CacheLemmas.{IsCache-empty}
use Rattle.verified_cache.proofs.cache.BlockCache.empty.Goals as goal

pub invariant_of-result : goal.invariant_of-result
invariant_of-result c = (tt, IsCache-empty c.args.capacity)
