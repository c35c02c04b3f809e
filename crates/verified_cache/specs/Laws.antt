-- Laws of the cache.
use Rattle.std.specs.Prelude.{◌≡◌, ◌≢◌, ◌<◌, ◌⊎◌, ℕ, List, length, Some, None, IsSome, if◌then◌else◌}
use Rattle.verified_cache.specs.declared.key.Key.{Key}
use Rattle.verified_cache.specs.Cache.{CachedBlock, CacheRecord, IsCache, cached_at, block_under, cache_after_find, cache_after_keep, cache_without_line, is_of_line}

-- a block that was stored is found, if the capacity isn't 0
abbrev pub KeptBlocksAreFound : Type 0
KeptBlocksAreFound = (cache : CacheRecord) (block : CachedBlock) → 0 < cache.capacity
    → block_under block.key block.digest (cache_after_keep block cache) ≡ Some block

-- a lookup changes no result of another lookup
abbrev pub FindsChangeNoAnswer : Type 0
FindsChangeNoAnswer = (cache : CacheRecord) → IsCache cache → (used : Key) (digest : List ℕ) (key : Key) (expected : List ℕ)
    → block_under key expected (cache_after_find used digest cache) ≡ block_under key expected cache

-- if the cache isn't full, or has the key, storing a block changes no result under other keys
abbrev pub KeepsLeaveOtherKeys : Type 0
KeepsLeaveOtherKeys = (cache : CacheRecord) (block : CachedBlock) → IsCache cache
    → (length cache.blocks < cache.capacity) ⊎ IsSome (cached_at block.key cache)
    → (key : Key) (expected : List ℕ) → key ≢ block.key
    → block_under key expected (cache_after_keep block cache) ≡ block_under key expected cache

-- forgetting a line drops its blocks and no others
abbrev pub ForgettingIsExact : Type 0
ForgettingIsExact = (cache : CacheRecord) (device line : ℕ) (key : Key) (expected : List ℕ)
    → block_under key expected (cache_without_line device line cache)
    ≡ (if is_of_line device line key then None else block_under key expected cache)
