-- The cache after the block that it lent is returned.
use Rattle.std.specs.Prelude.{◌≡◌, ⊤}
use Rattle.std.specs.Borrow.{follows_so, MutBor, Fml}
use mathlib.Core.Option.{none}
use Rattle.verified_cache.specs.Cache.{CacheRecord}
use Rattle.verified_cache.specs.contracts.cache.BlockCache.{the_row}

-- the cache ends in the state `last`
abbrev pub EndsAs : MutBor CacheRecord → CacheRecord → Fml
EndsAs cache last = follows_so the_row the_row cache.ghost_name none (λ _ _. ⊤) (λ n. n ≡ last)
