-- The contents of a cache, and the results and effects of its calls.
use Rattle.std.specs.Prelude.{ℕ, ◌-◌, ◌≤◌, Bool, ◌&&◌, ◌==◌, not, List, ◌∷◌, ◌++◌, length, map, filter, find, take, drop, Option}
use Rattle.std.specs.List.{IsDistinct}
use Rattle.std.specs.Option.{option_map_or}
use Rattle.std.specs.Str.{bytes_eq}
use Rattle.verified_cache.specs.declared.key.Key.{Key}

-- a block with its key and the digest that it was verified against
pub record CachedBlock : Type 0 where
  pub key : Key
  pub digest : List ℕ
  pub bytes : List ℕ

-- the capacity in blocks, and the blocks, the most recently used first
pub record CacheRecord : Type 0 where
  pub capacity : ℕ
  pub blocks : List CachedBlock

-- the keys are equal
abbrev pub same_key : Key → Key → Bool
same_key a b = a.device == b.device && (a.line == b.line && (a.level == b.level && a.block == b.block))

-- the invariant of a cache: no two blocks have the same key, and there are no more blocks than the capacity
pub record IsCache (cache : CacheRecord) : Type 0 where
  pub distinct : IsDistinct same_key (map (λ b. b.key) cache.blocks)
  pub within : length cache.blocks ≤ cache.capacity

-- the block under a key, whatever its digest
abbrev pub cached_at : Key → CacheRecord → Option CachedBlock
cached_at key cache = find (λ b. same_key key b.key) cache.blocks

-- the block under a key, if it has this digest
abbrev pub block_under : Key → List ℕ → CacheRecord → Option CachedBlock
block_under key digest cache = find (λ b. same_key key b.key && bytes_eq b.digest digest) cache.blocks

-- the block, followed by the blocks with other keys
abbrev pub blocks_with : CachedBlock → List CachedBlock → List CachedBlock
blocks_with block blocks = block ∷ filter (λ b. not (same_key block.key b.key)) blocks

-- the cache after a lookup: a block that is found becomes the most recently used
abbrev pub cache_after_find : Key → List ℕ → CacheRecord → CacheRecord
cache_after_find key digest cache =
    option_map_or (λ b. record cache { blocks = blocks_with b cache.blocks }) (block_under key digest cache) cache

-- the cache after a block is stored: it is the most recently used, and the blocks over the capacity are dropped from
-- the end
abbrev pub cache_after_keep : CachedBlock → CacheRecord → CacheRecord
cache_after_keep block cache = record cache { blocks = take cache.capacity (blocks_with block cache.blocks) }

-- the key is one of this line of this device
abbrev pub is_of_line : ℕ → ℕ → Key → Bool
is_of_line device line key = key.device == device && key.line == line

-- the blocks with keys that don't pass the test, in order
abbrev pub blocks_without : (Key → Bool) → List CachedBlock → List CachedBlock
blocks_without test blocks = filter (λ b. not (test b.key)) blocks

-- the cache without the blocks whose keys pass the test
abbrev pub cache_without : (Key → Bool) → CacheRecord → CacheRecord
cache_without test cache = record cache { blocks = blocks_without test cache.blocks }

-- the cache without the blocks of a line
abbrev pub cache_without_line : ℕ → ℕ → CacheRecord → CacheRecord
cache_without_line device line = cache_without (is_of_line device line)

-- the cache after its last n blocks moved to the front, in order, except that those with keys that pass the test are
-- dropped
abbrev pub cache_after_moves : (Key → Bool) → ℕ → CacheRecord → CacheRecord
cache_after_moves test n cache = let front = length cache.blocks - n in
    record cache { blocks = blocks_without test (drop front cache.blocks) ++ take front cache.blocks }
