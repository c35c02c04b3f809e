-- What is found after each call, and what holds of every block.
use Rattle.std.proofs.Common.{◌≡◌, ◌≢◌, ℕ, zero, suc, ◌<◌, ◌≤◌, Bool, true, false, not, ◌&&◌, cond, List, [], ◌∷◌, length, take, Option, Some, None, refl, sym, ap, ◌∙◌, subst, inl, inr, arith}
use Rattle.std.specs.Prelude.{filter, find, All}
use Rattle.std.specs.List.{IsDistinct}
use Rattle.std.specs.Option.{option_map_or}
use Rattle.std.specs.Str.{bytes_eq}
use Rattle.std.proofs.lemmas.Option.{cond_some, same_Some}
use Rattle.std.proofs.lemmas.List.Elements.{All-head, All-tail, All-cons, All-filter, All-take}
use Rattle.std.proofs.lemmas.List.{take_all}
use Rattle.std.proofs.lemmas.Slice.Eq.{bytes_eq-Decides}
use Rattle.verified_cache.specs.declared.key.Key.{Key}
use Rattle.verified_cache.specs.Cache.{CachedBlock, CacheRecord, IsCache, same_key, block_under, blocks_with, cache_after_find, cache_after_keep, cache_without_line, is_of_line}
use Rattle.verified_cache.specs.Laws.{KeptBlocksAreFound, FindsChangeNoAnswer, KeepsLeaveOtherKeys, ForgettingIsExact}
use Rattle.verified_cache.proofs.lemmas.KeyLemmas.{same_key-refl, same_key-exact}
use Rattle.verified_cache.proofs.lemmas.CacheLemmas.{is_under_another, IsAbsent, IsAbsent-others, AreDistinct, length-filter-le, length-others, find-passes, found_key, left_of}

bytes_eq-refl : (digest : List ℕ) → bytes_eq digest digest ≡ true
bytes_eq-refl digest = (bytes_eq-Decides digest digest).1 refl

-- a block that was just kept
module _ (block : CachedBlock) where
  abbrev is_kept : CachedBlock → Bool
  is_kept b = same_key block.key b.key && bytes_eq b.digest block.digest

  find-kept : (n : ℕ) (blocks : List CachedBlock) → 0 < n → find is_kept (take n (blocks_with block blocks)) ≡ Some block
  find-kept zero blocks h = absurd (omega arith)
  find-kept (suc n) blocks h = rw (same_key-refl block.key, bytes_eq-refl block.digest) refl

pub block_under-after_keep : KeptBlocksAreFound
block_under-after_keep cache block some = find-kept block cache.capacity cache.blocks some

right_of : (a b : Bool) → (a && b) ≡ true → b ≡ true
right_of true b h = h
right_of false b h = absurd cc

-- the key and the digest of a block that is found
pub block_under-is : (key : Key) (digest : List ℕ) (cache : CacheRecord) (b : CachedBlock) → block_under key digest cache ≡ Some b → (b.key ≡ key) × (b.digest ≡ digest)
block_under-is key digest cache b h =
    let passes = find-passes (λ c. same_key key c.key && bytes_eq c.digest digest) cache.blocks b h in
    (sym (found_key key (λ c. bytes_eq c.digest digest) cache.blocks b h), (bytes_eq-Decides b.digest digest).0 (right_of (same_key key b.key) (bytes_eq b.digest digest) passes))

pub find-absent : (key : Key) (t : CachedBlock → Bool) (blocks : List CachedBlock) → IsAbsent key blocks → find (λ b. same_key key b.key && t b) blocks ≡ None
find-absent key t [] h = refl
find-absent key t (b ∷ bs) h = rw h.0 (find-absent key t bs h.1)

-- among the blocks under other keys than one, the others' are found as before
find-others : (k : Key) (key : Key) (t : CachedBlock → Bool) (blocks : List CachedBlock) → same_key key k ≡ false
    → find (λ b. same_key key b.key && t b) (filter (is_under_another k) blocks) ≡ find (λ b. same_key key b.key && t b) blocks
find-others k key t [] h = refl
find-others k key t (b ∷ bs) h =
    (elim (same_key k b.key) as (λ y. same_key k b.key ≡ y → find (λ c. same_key key c.key && t c) (filter (is_under_another k) (b ∷ bs)) ≡ find (λ c. same_key key c.key && t c) (b ∷ bs)) [
      | true ↦ λ e. let other : same_key key b.key ≡ false = subst (λ j. same_key key j ≡ false) (same_key-exact k b.key e) h in rw (e, other) (find-others k key t bs h)
      | false ↦ λ e. rw e (ap (λ o. cond (same_key key b.key && t b) (Some b) o) (find-others k key t bs h))
    ]) refl

-- a block that is found under a key is the only one that another test finds there
find-only : (key : Key) (t s : CachedBlock → Bool) (blocks : List CachedBlock) (b : CachedBlock) → AreDistinct blocks → find (λ c. same_key key c.key && t c) blocks ≡ Some b
    → find (λ c. same_key key c.key && s c) blocks ≡ cond (s b) (Some b) None
unfolding IsDistinct
find-only key t s [] b d h = absurd cc
find-only key t s (c ∷ cs) b d h =
    (elim (same_key key c.key) as (λ y. same_key key c.key ≡ y → find (λ c. same_key key c.key && s c) (c ∷ cs) ≡ cond (s b) (Some b) None) [
      | true ↦ λ e.
          let absent : IsAbsent key cs = subst (λ k. IsAbsent k cs) (sym (same_key-exact key c.key e)) d.0 in
          let first : cond (t c) (Some c) None ≡ Some b = subst (λ o. cond (t c) (Some c) o ≡ Some b) (find-absent key t cs absent) (rw e at h) in
          let same : c ≡ b = (cond_some (t c) c b first).1 in
          rw (e, find-absent key s cs absent) (ap (λ x. cond (s x) (Some x) None) same)
      | false ↦ λ e. rw e (find-only key t s cs b d.1 (rw e at h))
    ]) refl

module _ (key : Key) (expected : List ℕ) where
  abbrev is_expected : CachedBlock → Bool
  is_expected b = same_key key b.key && bytes_eq b.digest expected

  with_used : (used : Key) (digest : List ℕ) (cache : CacheRecord) → IsCache cache → (b : CachedBlock) → block_under used digest cache ≡ Some b
      → find is_expected (blocks_with b cache.blocks) ≡ find is_expected cache.blocks
  with_used used digest cache valid b h =
      (elim (same_key key b.key) as (λ y. same_key key b.key ≡ y → find is_expected (blocks_with b cache.blocks) ≡ find is_expected cache.blocks) [
        | true ↦ λ e.
            let key_is : key ≡ b.key = same_key-exact key b.key e in
            let found = subst (λ k. find (λ c. same_key k c.key && bytes_eq c.digest digest) cache.blocks ≡ Some b) (sym (key_is ∙ (block_under-is used digest cache b h).0)) h in
            let absent : IsAbsent key (filter (is_under_another b.key) cache.blocks) = subst (λ k. IsAbsent k (filter (is_under_another b.key) cache.blocks)) (sym key_is) (IsAbsent-others b.key cache.blocks) in
            rw (e, find-absent key (λ c. bytes_eq c.digest expected) (filter (is_under_another b.key) cache.blocks) absent)
            (sym (find-only key (λ c. bytes_eq c.digest digest) (λ c. bytes_eq c.digest expected) cache.blocks b valid.distinct found))
        | false ↦ λ e. rw e (find-others b.key key (λ c. bytes_eq c.digest expected) cache.blocks e)
      ]) refl

  after_found : (used : Key) (digest : List ℕ) (cache : CacheRecord) → IsCache cache → (o : Option CachedBlock) → block_under used digest cache ≡ o
      → block_under key expected (option_map_or (λ b. record cache { blocks = blocks_with b cache.blocks }) o cache) ≡ block_under key expected cache
  after_found used digest cache valid None h = refl
  after_found used digest cache valid (Some b) h = with_used used digest cache valid b h

-- a filter that answers b at each block that passes the test keeps or loses what the test finds
module _ (t p : CachedBlock → Bool) (b : Bool) (agree : (c : CachedBlock) → t c ≡ true → p c ≡ b) where
  passed : (b : Bool) (c : CachedBlock) (cs rest : List CachedBlock) → t c ≡ true → find t rest ≡ cond b (find t cs) None → find t (cond b (c ∷ rest) rest) ≡ cond b (Some c) None
  passed true c cs rest e h = rw e refl
  passed false c cs rest e h = h

  left_out : (keeps : Bool) (c : CachedBlock) (rest : List CachedBlock) → t c ≡ false → find t (cond keeps (c ∷ rest) rest) ≡ find t rest
  left_out true c rest e = rw e refl
  left_out false c rest e = refl

  find-filter : (blocks : List CachedBlock) → find t (filter p blocks) ≡ cond b (find t blocks) None
  find-filter [] = same_none b where
    same_none : (b : Bool) → None ≡ cond {A = Option CachedBlock} b None None
    same_none true = refl
    same_none false = refl
  find-filter (c ∷ cs) = (elim (t c) as (λ y. t c ≡ y → find t (filter p (c ∷ cs)) ≡ cond b (find t (c ∷ cs)) None) [
    | true ↦ λ e. rw (agree c e, e) (passed b c cs (filter p cs) e (find-filter cs))
    | false ↦ λ e. rw e (left_out (p c) c (filter p cs) e ∙ find-filter cs)
  ]) refl

cond_not : (b : Bool) (o : Option CachedBlock) → cond (not b) o None ≡ cond b None o
cond_not true o = refl
cond_not false o = refl

pub block_under-without_line : ForgettingIsExact
block_under-without_line cache device line key expected =
    let agree : (c : CachedBlock) → (same_key key c.key && bytes_eq c.digest expected) ≡ true → not (is_of_line device line c.key) ≡ not (is_of_line device line key) =
    λ c e. ap (λ k. not (is_of_line device line k)) (sym (same_key-exact key c.key (left_of (same_key key c.key) (bytes_eq c.digest expected) e))) in
    find-filter (λ c. same_key key c.key && bytes_eq c.digest expected) (λ b. not (is_of_line device line b.key)) (not (is_of_line device line key)) agree cache.blocks
    ∙ cond_not (is_of_line device line key) (block_under key expected cache)

-- what holds of each block, and of the one that is kept, holds of each after a call
module _ (P : CachedBlock → Type 0) where
  find-All : (t : CachedBlock → Bool) (blocks : List CachedBlock) (b : CachedBlock) → All P blocks → find t blocks ≡ Some b → P b
  find-All t [] b h e = absurd cc
  find-All t (c ∷ cs) b h e = (elim (t c) as (λ y. t c ≡ y → P b) [
    | true ↦ λ s. subst P (cond_some_first s) (All-head P c cs h)
    | false ↦ λ s. find-All t cs b (All-tail P c cs h) (rw s at e)
  ]) refl where
    cond_some_first : t c ≡ true → c ≡ b
    cond_some_first s = same_Some c b (rw s at e)

  pub All-block_under : (key : Key) (digest : List ℕ) (cache : CacheRecord) (b : CachedBlock) → All P cache.blocks → block_under key digest cache ≡ Some b → P b
  All-block_under key digest cache b h e = find-All (λ c. same_key key c.key && bytes_eq c.digest digest) cache.blocks b h e

  All-blocks_with : (b : CachedBlock) (blocks : List CachedBlock) → P b → All P blocks → All P (blocks_with b blocks)
  All-blocks_with b blocks p h = All-cons P b (filter (is_under_another b.key) blocks) p (All-filter (is_under_another b.key) P blocks h)

  all_after_found : (cache : CacheRecord) (key : Key) (digest : List ℕ) → All P cache.blocks → (o : Option CachedBlock) → block_under key digest cache ≡ o
      → All P (option_map_or (λ b. record cache { blocks = blocks_with b cache.blocks }) o cache).blocks
  all_after_found cache key digest h None e = h
  all_after_found cache key digest h (Some b) e = All-blocks_with b cache.blocks (All-block_under key digest cache b h e) h

  pub All-after_find : (key : Key) (digest : List ℕ) (cache : CacheRecord) → All P cache.blocks → All P (cache_after_find key digest cache).blocks
  All-after_find key digest cache h = all_after_found cache key digest h (block_under key digest cache) refl

  pub All-after_keep : (block : CachedBlock) (cache : CacheRecord) → P block → All P cache.blocks → All P (cache_after_keep block cache).blocks
  All-after_keep block cache p h = All-take P cache.capacity (blocks_with block cache.blocks) (All-blocks_with block cache.blocks p h)

  pub All-without_line : (device line : ℕ) (cache : CacheRecord) → All P cache.blocks → All P (cache_without_line device line cache).blocks
  All-without_line device line cache h = All-filter (λ b. not (is_of_line device line b.key)) P cache.blocks h

pub block_under-after_find : FindsChangeNoAnswer
block_under-after_find cache valid used digest key expected = after_found key expected used digest cache valid (block_under used digest cache) refl

different : (a b : Key) → a ≢ b → same_key a b ≡ false
different a b h = (elim (same_key a b) as (λ y. same_key a b ≡ y → same_key a b ≡ false) [
  | true ↦ λ e. absurd (h (same_key-exact a b e))
  | false ↦ λ e. e
]) refl

pub block_under-others-after_keep : KeepsLeaveOtherKeys
block_under-others-after_keep cache block valid room key expected other =
    let within = valid.within in
    let all : length (blocks_with block cache.blocks) ≤ cache.capacity = elim room [
      | inl short ↦ omega (arith, length-filter-le (is_under_another block.key) cache.blocks)
      | inr there ↦ omega (arith, length-others block.key cache.blocks there)
    ] in
    let same = different key block.key other in
    rw (take_all cache.capacity (blocks_with block cache.blocks) all, same) (find-others block.key key (λ c. bytes_eq c.digest expected) cache.blocks same)
