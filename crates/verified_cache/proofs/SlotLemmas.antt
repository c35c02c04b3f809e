-- The slots of a cache against its blocks.
use Rattle.std.proofs.Common.{◌≡◌, ◌≢◌, ℕ, zero, suc, ◌-◌, ◌<◌, ◌≤◌, Bool, true, false, not, ◌&&◌, cond, List, [], ◌∷◌, length, map, take, Option, Some, None, option_map, refl, sym, ap, ◌∙◌, subst, arith}
use Rattle.std.specs.Prelude.{filter, find, max, IsSome}
use Rattle.std.specs.List.{IsDistinct}
use Rattle.std.specs.Map.{lookup, lookup_entry, remove_entry}
use Rattle.std.specs.Option.{option_map_or}
use Rattle.std.specs.Str.{bytes_eq}
use Rattle.std.proofs.lemmas.Option.{same_Some}
use Rattle.std.proofs.lemmas.List.{length-map, take_all}
use Rattle.lru.specs.LruCache.{LruCache, promoted, put_entries}
use Rattle.verified_cache.specs.declared.key.Key.{Key}
use Rattle.verified_cache.specs.declared.slots.DigestedBlock.{DigestedBlock}
use Rattle.verified_cache.specs.Cache.{CachedBlock, CacheRecord, IsCache, same_key, block_under, blocks_with, cache_after_find, cache_after_keep}
use Rattle.verified_cache.specs.Slots.{slot_block}
use Rattle.verified_cache.proofs.lemmas.KeyLemmas.{same_key-exact}
use Rattle.verified_cache.proofs.lemmas.CacheLemmas.{is_under_another, IsAbsent, AreDistinct, filter-absent}
use Rattle.verified_cache.proofs.lemmas.AnswerLemmas.{find-absent}

abbrev pub Slots : Type 0
Slots = List (Key × DigestedBlock)

-- a slot that the key finds
pub record Finds (key : Key) (slots : Slots) (held : DigestedBlock) : Type 0 where
  pub entry : lookup_entry (same_key key) slots ≡ Some (key, held)
  pub found : (t : CachedBlock → Bool) → find (λ b. same_key key b.key && t b) (map slot_block slots) ≡ cond (t (slot_block (key, held))) (Some (slot_block (key, held))) None

-- a key that finds no slot
pub record Misses (key : Key) (slots : Slots) : Type 0 where
  pub entry : lookup_entry (same_key key) slots ≡ None
  pub absent : IsAbsent key (map slot_block slots)
  pub found : (t : CachedBlock → Bool) → find (λ b. same_key key b.key && t b) (map slot_block slots) ≡ None

pub missed : (key : Key) (slots : Slots) → lookup (same_key key) slots ≡ None → Misses key slots
missed key [] h = record { entry = refl; absent = tt; found = λ t. refl }
missed key (s ∷ ss) h = (elim (same_key key s.0) as (λ y. same_key key s.0 ≡ y → Misses key (s ∷ ss)) [
  | true ↦ λ e. let h' = rw e at h in absurd cc
  | false ↦ λ e. let on = missed key ss (rw e at h) in record { entry = rw e on.entry; absent = (e, on.absent); found = λ t. rw e (on.found t) }
]) refl

-- no slot of the rest has the key of the first
pub absent_rest : (key : Key) (s : Key × DigestedBlock) (ss : Slots) → AreDistinct (map slot_block (s ∷ ss)) → same_key key s.0 ≡ true → IsAbsent key (map slot_block ss)
unfolding IsDistinct
absent_rest key s ss h e = subst (λ k. IsAbsent k (map slot_block ss)) (sym (same_key-exact key s.0 e)) h.0

slot_is : (s : Key × DigestedBlock) (key : Key) (held : DigestedBlock) → s.0 ≡ key → Some s.1 ≡ Some held → s ≡ (key, held)
slot_is s key held k h = let v = same_Some s.1 held h in rw (← k, ← v)

at_head : (key : Key) (s : Key × DigestedBlock) (ss : Slots) (held : DigestedBlock) → same_key key s.0 ≡ true → Some s.1 ≡ Some held → IsAbsent key (map slot_block ss)
    → Finds key (s ∷ ss) held
at_head key s ss held e same absent = record {
  entry = rw e (ap (λ x. Some x) (slot_is s key held (sym (same_key-exact key s.0 e)) same));
  found = λ t. rw (e, find-absent key t (map slot_block ss) absent) (ap (λ x. cond (t (slot_block x)) (Some (slot_block x)) None) (slot_is s key held (sym (same_key-exact key s.0 e)) same));
}

pub found : (key : Key) (slots : Slots) (held : DigestedBlock) → AreDistinct (map slot_block slots) → lookup (same_key key) slots ≡ Some held → Finds key slots held
unfolding IsDistinct
found key [] held d h = absurd cc
found key (s ∷ ss) held d h = (elim (same_key key s.0) as (λ y. same_key key s.0 ≡ y → Finds key (s ∷ ss) held) [
  | true ↦ λ e. at_head key s ss held e (rw e at h) (absent_rest key s ss d e)
  | false ↦ λ e. let on = found key ss held d.1 (rw e at h) in record { entry = rw e on.entry; found = λ t. rw e (on.found t) }
]) refl

-- removing a key leaves the blocks under others
pub removed : (key : Key) (slots : Slots) → AreDistinct (map slot_block slots) → map slot_block (remove_entry (same_key key) slots) ≡ filter (is_under_another key) (map slot_block slots)
unfolding IsDistinct
removed key [] d = refl
removed key (s ∷ ss) d =
    (elim (same_key key s.0) as (λ y. same_key key s.0 ≡ y → map slot_block (remove_entry (same_key key) (s ∷ ss)) ≡ filter (is_under_another key) (map slot_block (s ∷ ss))) [
      | true ↦ λ e. rw e (sym (filter-absent key (map slot_block ss) (absent_rest key s ss d e)))
      | false ↦ λ e. rw e (ap (λ l. slot_block s ∷ l) (removed key ss d.1))
    ]) refl

-- a key that is promoted is first
pub map-promoted : (key : Key) (slots : Slots) (held : DigestedBlock) → AreDistinct (map slot_block slots) → lookup (same_key key) slots ≡ Some held
    → map slot_block (promoted (same_key key) slots) ≡ blocks_with (slot_block (key, held)) (map slot_block slots)
map-promoted key slots held d h = rw (found key slots held d h).entry (ap (λ l. slot_block (key, held) ∷ l) (removed key slots d))

length-removed : (key : Key) (slots : Slots) (e : Key × DigestedBlock) → lookup_entry (same_key key) slots ≡ Some e → length (remove_entry (same_key key) slots) < length slots
length-removed key [] e h = absurd cc
length-removed key (s ∷ ss) e h = (elim (same_key key s.0) as (λ y. same_key key s.0 ≡ y → length (remove_entry (same_key key) (s ∷ ss)) < length (s ∷ ss)) [
  | true ↦ λ t. rw t (omega arith)
  | false ↦ λ t. let rest : lookup_entry (same_key key) ss ≡ Some e = rw t at h in rw t (omega (arith, length-removed key ss e rest))
]) refl

pub map-take : (n : ℕ) (slots : Slots) → map slot_block (take n slots) ≡ take n (map slot_block slots)
map-take zero ss = refl
map-take (suc n) [] = refl
map-take (suc n) (s ∷ ss) = ap (λ l. slot_block s ∷ l) (map-take n ss)

-- the new cache and the answer are those of a find
pub record IsFind (key : Key) (digest : List ℕ) (old new : CacheRecord) (answer : Option (List ℕ)) : Type 0 where
  pub cache_left : new ≡ cache_after_find key digest old
  pub bytes_found : answer ≡ option_map (λ b. b.bytes) (block_under key digest old)

module _ (key : Key) (digest : List ℕ) (cache : CacheRecord) where
  abbrev after : Option CachedBlock → CacheRecord
  after o = option_map_or (λ b. record cache { blocks = blocks_with b cache.blocks }) o cache

  answered : (o : Option CachedBlock) → block_under key digest cache ≡ o → IsFind key digest cache (after o) (option_map (λ b. b.bytes) o)
  answered o h = record { cache_left = ap after (sym h); bytes_found = ap (option_map (λ b. b.bytes)) (sym h) }

not_true : (b : Bool) → true ≡ not b → b ≡ false
not_true true h = absurd cc
not_true false h = refl

not_false : (b : Bool) → false ≡ not b → b ≡ true
not_false true h = refl
not_false false h = absurd cc

-- a find where the key finds nothing, another digest, or the block
module _ (key : Key) (digest : List ℕ) (capacity : ℕ) (slots : Slots) where
  abbrev cache : CacheRecord
  cache = record { capacity = capacity; blocks = map slot_block slots }

  pub find-missed : (old : CacheRecord) → cache ≡ old → lookup (same_key key) slots ≡ None → IsFind key digest old cache None
  find-missed old is h = subst (λ o. IsFind key digest o cache None) is (answered key digest cache None ((missed key slots h).found (λ b. bytes_eq b.digest digest)))

  pub find-other : (old : CacheRecord) → cache ≡ old → AreDistinct (map slot_block slots) → (held : DigestedBlock) → lookup (same_key key) slots ≡ Some held → true ≡ not (bytes_eq held.digest digest)
      → IsFind key digest old cache None
  find-other old is distinct held h other =
      let none = (found key slots held distinct h).found (λ b. bytes_eq b.digest digest) ∙ ap (λ t. cond t (Some (slot_block (key, held))) None) (not_true (bytes_eq held.digest digest) other) in
      subst (λ o. IsFind key digest o cache None) is (answered key digest cache None none)

  pub find-hit : (old : CacheRecord) → cache ≡ old → AreDistinct (map slot_block slots) → (held : DigestedBlock) → lookup (same_key key) slots ≡ Some held → false ≡ not (bytes_eq held.digest digest)
      → IsFind key digest old (record { capacity = capacity; blocks = map slot_block (promoted (same_key key) slots) }) (Some held.bytes.items)
  find-hit old is distinct held h same =
      let some = (found key slots held distinct h).found (λ b. bytes_eq b.digest digest) ∙ ap (λ t. cond t (Some (slot_block (key, held))) None) (not_false (bytes_eq held.digest digest) same) in
      let first = sym (map-promoted key slots held distinct h) in
      subst (λ bs. IsFind key digest old (record { capacity = capacity; blocks = bs }) (Some held.bytes.items)) first
      (subst (λ o. IsFind key digest o (record { capacity = capacity; blocks = blocks_with (slot_block (key, held)) (map slot_block slots) }) (Some held.bytes.items)) is
      (answered key digest cache (Some (slot_block (key, held))) some))

-- a key that has a block has a slot
pub lookup-block_at : (key : Key) (slots : Slots) → IsSome (find (λ b. same_key key b.key) (map slot_block slots)) → IsSome (lookup (same_key key) slots)
lookup-block_at key [] h = h
lookup-block_at key (s ∷ ss) h = (elim (same_key key s.0) as (λ y. same_key key s.0 ≡ y → IsSome (lookup (same_key key) (s ∷ ss))) [
  | true ↦ λ e. rw e refl
  | false ↦ λ e. rw e (lookup-block_at key ss (rw e at h))
]) refl

-- what a put leaves
module _ (key : Key) (held : DigestedBlock) (old : LruCache Key DigestedBlock) (distinct : AreDistinct (map slot_block old.entries)) where
  abbrev block : CachedBlock
  block = slot_block (key, held)

  put_new : (n : ℕ) → old.cap - 1 ≡ n → lookup (same_key key) old.entries ≡ None → map slot_block (put_entries same_key old key held) ≡ take (suc n) (blocks_with block (map slot_block old.entries))
  put_new n less h =
      let none = missed key old.entries h in
      rw (none.entry, less, filter-absent key (map slot_block old.entries) none.absent) (ap (λ l. block ∷ l) (map-take n old.entries))

  put_again : (n : ℕ) → length old.entries ≤ n → (was : DigestedBlock) → lookup (same_key key) old.entries ≡ Some was
      → map slot_block (put_entries same_key old key held) ≡ take n (blocks_with block (map slot_block old.entries))
  put_again n within was h =
      let entry = (found key old.entries was distinct h).entry in
      let rest = removed key old.entries distinct in
      let fewer = length-removed key old.entries (key, was) entry in
      let long : length (block ∷ map slot_block (remove_entry (same_key key) old.entries)) ≤ n = omega (arith, length-map (remove_entry (same_key key) old.entries) slot_block) in
      rw (entry, ← rest, take_all n (block ∷ map slot_block (remove_entry (same_key key) old.entries)) long)

  put_either : (n : ℕ) → old.cap ≡ suc n → length old.entries ≤ suc n → (o : Option DigestedBlock) → lookup (same_key key) old.entries ≡ o
      → map slot_block (put_entries same_key old key held) ≡ take (suc n) (blocks_with block (map slot_block old.entries))
  put_either n room within None h = put_new n (omega arith) h
  put_either n room within (Some was) h = put_again (suc n) within was h

  at_capacity : (n : ℕ) → n ≢ 0 → old.cap ≡ n → length old.entries ≤ n → map slot_block (put_entries same_key old key held) ≡ take n (blocks_with block (map slot_block old.entries))
  at_capacity zero some room within = absurd (some refl)
  at_capacity (suc n) some room within = put_either n room within (lookup (same_key key) old.entries) refl

  -- it leaves what keeping the block leaves
  pub map-put_entries : (capacity : ℕ) → IsCache (record { capacity = capacity; blocks = map slot_block old.entries }) → capacity ≢ 0 → old.cap ≡ capacity
      → (seen : CacheRecord) → record { capacity = capacity; blocks = map slot_block old.entries } ≡ seen
      → record { capacity = capacity; blocks = map slot_block (put_entries same_key old key held) } ≡ cache_after_keep block seen
  map-put_entries capacity valid some room seen is =
      let long = length-map old.entries slot_block in
      let within = valid.within in
      let put = at_capacity capacity some (omega arith) (omega arith) in
      ap (λ bs. record { capacity = capacity; blocks = bs }) put ∙ ap (cache_after_keep block) is
