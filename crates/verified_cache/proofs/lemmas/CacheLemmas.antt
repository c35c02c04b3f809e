-- What holds of every cache, before and after its calls.
use Rattle.std.proofs.Common.{◌≡◌, ℕ, zero, suc, ◌<◌, ◌≤◌, Bool, true, false, not, ◌&&◌, List, [], ◌∷◌, length, map, take, Option, Some, None, refl, ap, subst, arith}
use Rattle.std.specs.Prelude.{filter, find, IsSome}
use Rattle.std.specs.List.{AllByRecursion, IsDistinct}
use Rattle.std.specs.Option.{option_map_or}
use Rattle.std.specs.Str.{bytes_eq}
use Rattle.verified_cache.specs.declared.key.Key.{Key}
use Rattle.verified_cache.specs.Cache.{CachedBlock, CacheRecord, IsCache, same_key, block_under, blocks_with, cache_after_find, cache_after_keep}
use Rattle.verified_cache.proofs.lemmas.KeyLemmas.{same_key-exact}

-- the block is under another key
abbrev pub is_under_another : Key → CachedBlock → Bool
is_under_another key block = not (same_key key block.key)

abbrev pub keys_of : List CachedBlock → List Key
keys_of = map (λ b. b.key)

-- no block is under that key
abbrev pub IsAbsent : Key → List CachedBlock → Type 0
IsAbsent key blocks = AllByRecursion (λ k. same_key key k ≡ false) (keys_of blocks)

-- a filter keeps what holds of each key
IsAbsent-filter : (p : CachedBlock → Bool) (key : Key) (blocks : List CachedBlock) → IsAbsent key blocks → IsAbsent key (filter p blocks)
IsAbsent-filter p key [] h = tt
IsAbsent-filter p key (b ∷ bs) h = (elim (p b) as (λ y. p b ≡ y → IsAbsent key (filter p (b ∷ bs))) [
  | true ↦ λ t. rw t (h.0, IsAbsent-filter p key bs h.1)
  | false ↦ λ t. rw t (IsAbsent-filter p key bs h.1)
]) refl

-- none of the blocks under other keys is under the key
pub IsAbsent-others : (key : Key) (blocks : List CachedBlock) → IsAbsent key (filter (is_under_another key) blocks)
IsAbsent-others key [] = tt
IsAbsent-others key (b ∷ bs) = (elim (same_key key b.key) as (λ y. same_key key b.key ≡ y → IsAbsent key (filter (is_under_another key) (b ∷ bs))) [
  | true ↦ λ t. rw t (IsAbsent-others key bs)
  | false ↦ λ t. rw t (t, IsAbsent-others key bs)
]) refl

-- where no block is under the key, all are under others
pub filter-absent : (key : Key) (blocks : List CachedBlock) → IsAbsent key blocks → filter (is_under_another key) blocks ≡ blocks
filter-absent key [] h = refl
filter-absent key (b ∷ bs) h = rw h.0 (ap (λ l. b ∷ l) (filter-absent key bs h.1))

IsAbsent-take : (n : ℕ) (key : Key) (blocks : List CachedBlock) → IsAbsent key blocks → IsAbsent key (take n blocks)
IsAbsent-take zero key bs h = tt
IsAbsent-take (suc n) key [] h = tt
IsAbsent-take (suc n) key (b ∷ bs) h = (h.0, IsAbsent-take n key bs h.1)

-- no two blocks have one key
abbrev pub AreDistinct : List CachedBlock → Type 0
AreDistinct blocks = IsDistinct same_key (keys_of blocks)

AreDistinct-filter : (p : CachedBlock → Bool) (blocks : List CachedBlock) → AreDistinct blocks → AreDistinct (filter p blocks)
unfolding IsDistinct
AreDistinct-filter p [] h = tt
AreDistinct-filter p (b ∷ bs) h = (elim (p b) as (λ y. p b ≡ y → AreDistinct (filter p (b ∷ bs))) [
  | true ↦ λ t. rw t (IsAbsent-filter p b.key bs h.0, AreDistinct-filter p bs h.1)
  | false ↦ λ t. rw t (AreDistinct-filter p bs h.1)
]) refl

AreDistinct-take : (n : ℕ) (blocks : List CachedBlock) → AreDistinct blocks → AreDistinct (take n blocks)
unfolding IsDistinct
AreDistinct-take zero bs h = tt
AreDistinct-take (suc n) [] h = tt
AreDistinct-take (suc n) (b ∷ bs) h = (IsAbsent-take n b.key bs h.0, AreDistinct-take n bs h.1)

AreDistinct-blocks_with : (block : CachedBlock) (blocks : List CachedBlock) → AreDistinct blocks → AreDistinct (blocks_with block blocks)
unfolding IsDistinct
AreDistinct-blocks_with block blocks h = (IsAbsent-others block.key blocks, AreDistinct-filter (is_under_another block.key) blocks h)

pub length-filter-le : (p : CachedBlock → Bool) (blocks : List CachedBlock) → length (filter p blocks) ≤ length blocks
length-filter-le p [] = omega arith
length-filter-le p (b ∷ bs) = (elim (p b) as (λ y. p b ≡ y → length (filter p (b ∷ bs)) ≤ length (b ∷ bs)) [
  | true ↦ λ t. rw t (omega (arith, length-filter-le p bs))
  | false ↦ λ t. rw t (omega (arith, length-filter-le p bs))
]) refl

-- where a block is under the key, fewer are under others
pub length-others : (key : Key) (blocks : List CachedBlock) → IsSome (find (λ c. same_key key c.key) blocks) → length (filter (is_under_another key) blocks) < length blocks
length-others key [] h = absurd cc
length-others key (c ∷ cs) h = (elim (same_key key c.key) as (λ y. same_key key c.key ≡ y → length (filter (is_under_another key) (c ∷ cs)) < length (c ∷ cs)) [
  | true ↦ λ s. rw s (omega (arith, length-filter-le (is_under_another key) cs))
  | false ↦ λ s. let rest : IsSome (find (λ c. same_key key c.key) cs) = rw s at h in rw s (omega (arith, length-others key cs rest))
]) refl

-- where one is found under a further test, there is one
pub find-key : (key : Key) (t : CachedBlock → Bool) (blocks : List CachedBlock) (b : CachedBlock) → find (λ c. same_key key c.key && t c) blocks ≡ Some b → IsSome (find (λ c. same_key key c.key) blocks)
find-key key t [] b h = absurd cc
find-key key t (c ∷ cs) b h = (elim (same_key key c.key) as (λ y. same_key key c.key ≡ y → IsSome (find (λ c. same_key key c.key) (c ∷ cs))) [
  | true ↦ λ s. rw s refl
  | false ↦ λ s. rw s (find-key key t cs b (rw s at h))
]) refl

-- what is found passes the test
pub find-passes : (t : CachedBlock → Bool) (blocks : List CachedBlock) (b : CachedBlock) → find t blocks ≡ Some b → t b ≡ true
find-passes t [] b h = absurd cc
find-passes t (c ∷ cs) b h = (elim (t c) as (λ y. t c ≡ y → t b ≡ true) [
  | true ↦ λ s. let h' = rw s at h in let same : c ≡ b = cc in subst (λ x. t x ≡ true) same s
  | false ↦ λ s. find-passes t cs b (rw s at h)
]) refl

pub left_of : (a b : Bool) → (a && b) ≡ true → a ≡ true
left_of true b h = refl
left_of false b h = absurd cc

pub found_key : (key : Key) (t : CachedBlock → Bool) (blocks : List CachedBlock) (b : CachedBlock) → find (λ c. same_key key c.key && t c) blocks ≡ Some b → key ≡ b.key
found_key key t blocks b h = same_key-exact key b.key (left_of (same_key key b.key) (t b) (find-passes (λ c. same_key key c.key && t c) blocks b h))

after_found : (key : Key) (digest : List ℕ) (cache : CacheRecord) (o : Option CachedBlock) → block_under key digest cache ≡ o → IsCache cache
    → IsCache (option_map_or (λ b. record cache { blocks = blocks_with b cache.blocks }) o cache)
after_found key digest cache None e h = h
after_found key digest cache (Some b) e h =
    let key_is = found_key key (λ c. bytes_eq c.digest digest) cache.blocks b e in
    let fewer : length (filter (is_under_another b.key) cache.blocks) < length cache.blocks =
    subst (λ k. length (filter (is_under_another k) cache.blocks) < length cache.blocks) key_is (length-others key cache.blocks (find-key key (λ c. bytes_eq c.digest digest) cache.blocks b e)) in
    let within = h.within in
    record { distinct = AreDistinct-blocks_with b cache.blocks h.distinct; within = omega arith }

pub IsCache-after_find : (key : Key) (digest : List ℕ) (cache : CacheRecord) → IsCache cache → IsCache (cache_after_find key digest cache)
IsCache-after_find key digest cache = after_found key digest cache (block_under key digest cache) refl

length-take-within : (n : ℕ) (blocks : List CachedBlock) → length (take n blocks) ≤ n
length-take-within zero bs = omega arith
length-take-within (suc n) [] = omega arith
length-take-within (suc n) (b ∷ bs) = omega (arith, length-take-within n bs)

pub IsCache-after_keep : (block : CachedBlock) (cache : CacheRecord) → IsCache cache → IsCache (cache_after_keep block cache)
IsCache-after_keep block cache h = record {
  distinct = AreDistinct-take cache.capacity (blocks_with block cache.blocks) (AreDistinct-blocks_with block cache.blocks h.distinct);
  within = length-take-within cache.capacity (blocks_with block cache.blocks);
}

pub IsCache-filter : (p : CachedBlock → Bool) (cache : CacheRecord) → IsCache cache → IsCache (record cache { blocks = filter p cache.blocks })
IsCache-filter p cache h =
    let within = h.within in
    record { distinct = AreDistinct-filter p cache.blocks h.distinct; within = omega (arith, length-filter-le p cache.blocks) }

pub IsCache-empty : (capacity : ℕ) → IsCache (record { capacity = capacity; blocks = [] })
unfolding IsDistinct
IsCache-empty capacity = record { distinct = tt; within = omega arith }

length-take-shorter : (n : ℕ) (blocks : List CachedBlock) → length (take n blocks) ≤ length blocks
length-take-shorter zero bs = omega arith
length-take-shorter (suc n) [] = omega arith
length-take-shorter (suc n) (b ∷ bs) = omega (arith, length-take-shorter n bs)

pub IsCache-take : (n : ℕ) (cache : CacheRecord) → IsCache cache → IsCache (record cache { blocks = take n cache.blocks })
IsCache-take n cache h =
    let within = h.within in
    record { distinct = AreDistinct-take n cache.blocks h.distinct; within = omega (arith, length-take-shorter n cache.blocks) }
