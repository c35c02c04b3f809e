-- The cache as the slots represent it.
use Rattle.std.specs.Prelude.{List, [], Option, Some, None, map}
use Rattle.lru.specs.LruCache.{LruCache}
use Rattle.verified_cache.specs.declared.key.Key.{Key}
use Rattle.verified_cache.specs.declared.slots.DigestedBlock.{DigestedBlock}
use Rattle.verified_cache.specs.declared.cache.BlockCache.TheInside.{Inside}
use Rattle.verified_cache.specs.Cache.{CachedBlock, CacheRecord}

-- the block in a slot
abbrev pub slot_block : Key × DigestedBlock → CachedBlock
slot_block slot = record { key = slot.0; digest = slot.1.digest; bytes = slot.1.bytes.items }

-- the blocks in the slots; none if no slots are allocated
abbrev pub slot_blocks : Option (LruCache Key DigestedBlock) → List CachedBlock
slot_blocks None = []
slot_blocks (Some slots) = map slot_block slots.entries

-- the cache as contracts see it
abbrev pub cache_of : Inside → CacheRecord
cache_of c = record { capacity = c.capacity; blocks = slot_blocks c.slots }
