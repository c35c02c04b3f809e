use Rattle.verified_cache.proofs.lemmas.CacheLemmas.{IsCache-empty}
use Rattle.verified_cache.proofs.cache.BlockCache.forget_all.Goals as goal

pub invariant_of-self : goal.invariant_of-self
invariant_of-self c = (tt, IsCache-empty c.self.inside.capacity)
