-- Blocks that move from the end to the front.
use Rattle.std.proofs.Common.{◌≡◌, ℕ, zero, suc, ◌+◌, ◌-◌, ◌<◌, ◌≤◌, Bool, true, false, not, List, [], ◌∷◌, ◌++◌, length, map, take, drop, Some, refl, sym, ap, ◌∙◌, subst, arith, length-append, append-nil, append_assoc, add-one}
use Rattle.std.specs.Prelude.{filter, slice_get}
use Rattle.std.specs.List.{IsDistinct}
use Rattle.std.specs.Map.{lookup}
use Rattle.std.proofs.Math.Seq.{take-append_seam, drop-append_seam, drop-cons}
use Rattle.std.specs.Str.{bytes_eq}
use Rattle.std.proofs.lemmas.Slice.Eq.{bytes_eq-Decides}
use Rattle.std.proofs.lemmas.Option.{slice_get_within, get_or_from_slice_get}
use Rattle.std.proofs.lemmas.List.{map-append, take-append-drop, drop_all}
use Rattle.std.proofs.lemmas.List.Elements.{filter-append}
use Rattle.lru.specs.LruCache.{promoted}
use Rattle.verified_cache.specs.declared.key.Key.{Key}
use Rattle.verified_cache.specs.declared.slots.DigestedBlock.{DigestedBlock}
use Rattle.verified_cache.specs.Cache.{CachedBlock, CacheRecord, IsCache, same_key, cache_after_moves, cache_without, blocks_without}
use Rattle.verified_cache.specs.Slots.{slot_block}
use Rattle.verified_cache.proofs.lemmas.KeyLemmas.{same_key-refl, same_key-symm}
use Rattle.verified_cache.proofs.lemmas.CacheLemmas.{is_under_another, IsAbsent, AreDistinct, IsCache-after_find, IsCache-take}
use Rattle.verified_cache.proofs.SlotLemmas.{Slots, map-promoted, map-take, find-hit}

module _ {X : Type 0} where
  -- a list, cut at an index within it
  cut_at : (xs : List X) (i : ℕ) → i < length xs → (us : List X) × (x : X) × (vs : List X) × (xs ≡ us ++ x ∷ vs) × (length us ≡ i)
  cut_at [] i h = absurd (omega arith)
  cut_at (x ∷ xs) zero h = ([], x, xs, refl, refl)
  cut_at (x ∷ xs) (suc i) h = let on = cut_at xs i (omega arith) in let long = on.4 in (x ∷ on.0, on.1, on.2, ap (λ l. x ∷ l) on.3, omega arith)

  -- the last element, and those before it
  pub last_cut : (xs : List X) (x : X) → Some x ≡ slice_get xs (length xs - 1) → xs ≡ take (length xs - 1) xs ++ x ∷ []
  last_cut xs x h =
      let i : ℕ = length xs - 1 in
      let within : i < length xs = slice_get_within xs i x (sym h) in
      let past : length xs ≤ suc i = omega arith in
      let rest : drop i xs ≡ x ∷ [] = drop-cons xs i x within ∙ ap (λ y. y ∷ drop (suc i) xs) (get_or_from_slice_get xs i x x (sym h)) ∙ ap (λ l. x ∷ l) (drop_all (suc i) xs past) in
      sym (take-append-drop i xs) ∙ ap (λ l. take i xs ++ l) rest

-- what holds of each key holds of the last
at_last : (key : Key) (us : Slots) (e : Key × DigestedBlock) → IsAbsent key (map slot_block (us ++ e ∷ [])) → same_key key e.0 ≡ false
at_last key [] e h = h.0
at_last key (u ∷ us) e h = at_last key us e h.1

-- the last slot is the one that its key finds, and the others are under other keys
others_of_last : (us : Slots) (e : Key × DigestedBlock) → AreDistinct (map slot_block (us ++ e ∷ [])) → filter (is_under_another e.0) (map slot_block (us ++ e ∷ [])) ≡ map slot_block us
unfolding IsDistinct
others_of_last [] e d = rw (same_key-refl e.0) refl
others_of_last (u ∷ us) e d =
    let other : same_key e.0 u.0 ≡ false = same_key-symm e.0 u.0 ∙ at_last u.0 us e d.0 in
    rw other (ap (λ l. slot_block u ∷ l) (others_of_last us e d.1))

lookup_last : (us : Slots) (e : Key × DigestedBlock) → AreDistinct (map slot_block (us ++ e ∷ [])) → lookup (same_key e.0) (us ++ e ∷ []) ≡ Some e.1
unfolding IsDistinct
lookup_last [] e d = rw (same_key-refl e.0) refl
lookup_last (u ∷ us) e d =
    let other : same_key e.0 u.0 ≡ false = same_key-symm e.0 u.0 ∙ at_last u.0 us e d.0 in
    rw other (lookup_last us e d.1)

same_bytes : (digest : List ℕ) → false ≡ not (bytes_eq digest digest)
same_bytes digest = rw ((bytes_eq-Decides digest digest).1 refl) refl

module _ (test : Key → Bool) where
  abbrev kept : List CachedBlock → List CachedBlock
  kept = blocks_without test

  module _ (capacity : ℕ) where
    abbrev cache_with : List CachedBlock → CacheRecord
    cache_with blocks = record { capacity = capacity; blocks = blocks }

    pub after_moves_of : (us vs : List CachedBlock) → cache_after_moves test (length vs) (cache_with (us ++ vs)) ≡ cache_with (kept vs ++ us)
    after_moves_of us vs =
        let front : length (us ++ vs) - length vs ≡ length us = omega (arith, length-append us vs) in
        ap cache_with (rw (front, drop-append_seam us vs, take-append_seam us vs) refl)

    more_at : (us : List CachedBlock) (x : CachedBlock) (vs : List CachedBlock)
        → cache_after_moves test 1 (cache_after_moves test (length vs) (cache_with ((us ++ x ∷ []) ++ vs))) ≡ cache_after_moves test (length (x ∷ vs)) (cache_with (us ++ (x ∷ vs)))
    more_at us x vs =
        let first : cache_after_moves test (length vs) (cache_with ((us ++ x ∷ []) ++ vs)) ≡ cache_with (kept vs ++ (us ++ x ∷ [])) = after_moves_of (us ++ x ∷ []) vs in
        let turned : cache_with (kept vs ++ (us ++ x ∷ [])) ≡ cache_with ((kept vs ++ us) ++ x ∷ []) = ap cache_with (sym (append_assoc (kept vs) us (x ∷ []))) in
        let next : cache_after_moves test 1 (cache_with ((kept vs ++ us) ++ x ∷ [])) ≡ cache_with (kept (x ∷ []) ++ (kept vs ++ us)) = after_moves_of (kept vs ++ us) (x ∷ []) in
        let joined : (kept (x ∷ []) ++ kept vs) ++ us ≡ kept (x ∷ []) ++ (kept vs ++ us) = append_assoc (kept (x ∷ [])) (kept vs) us in
        let both : kept (x ∷ vs) ≡ kept (x ∷ []) ++ kept vs = filter-append (λ b. not (test b.key)) (x ∷ []) vs in
        let all : cache_after_moves test (length (x ∷ vs)) (cache_with (us ++ (x ∷ vs))) ≡ cache_with (kept (x ∷ vs) ++ us) = after_moves_of us (x ∷ vs) in
        ap (cache_after_moves test 1) (first ∙ turned) ∙ next ∙ ap cache_with (sym joined ∙ ap (λ l. l ++ us) (sym both)) ∙ sym all

    module _ (slots : Slots) (e : Key × DigestedBlock) (last : Some e ≡ slice_get slots (length slots - 1)) where
      abbrev before : Slots
      before = take (length slots - 1) slots

      cut : slots ≡ before ++ e ∷ []
      cut = last_cut slots e last

      one_move : cache_after_moves test 1 (cache_with (map slot_block slots)) ≡ cache_with (kept (slot_block e ∷ []) ++ map slot_block before)
      one_move =
          ap (cache_after_moves test 1) (ap cache_with (ap (map slot_block) cut ∙ map-append slot_block before (e ∷ []))) ∙ after_moves_of (map slot_block before) (slot_block e ∷ [])

      -- where its key passes the test, the last slot goes
      pub dropped : true ≡ test e.0 → (seen : CacheRecord) → cache_with (map slot_block slots) ≡ seen → cache_with (map slot_block before) ≡ cache_after_moves test 1 seen
      dropped goes seen is =
          let none : kept (slot_block e ∷ []) ≡ [] = rw (← goes) refl in
          sym (ap (cache_after_moves test 1) (sym is) ∙ one_move ∙ ap (λ l. cache_with (l ++ map slot_block before)) none)

      found_last : AreDistinct (map slot_block slots) → lookup (same_key e.0) slots ≡ Some e.1
      found_last d = subst (λ l. lookup (same_key e.0) l ≡ Some e.1) (sym cut) (lookup_last before e (subst (λ l. AreDistinct (map slot_block l)) cut d))

      -- else it is promoted
      pub moved : AreDistinct (map slot_block slots) → false ≡ test e.0 → (seen : CacheRecord) → cache_with (map slot_block slots) ≡ seen
          → cache_with (map slot_block (promoted (same_key e.0) slots)) ≡ cache_after_moves test 1 seen
      moved d other seen is =
          let one : kept (slot_block e ∷ []) ≡ slot_block e ∷ [] = rw (← other) refl in
          let others : filter (is_under_another e.0) (map slot_block slots) ≡ map slot_block before =
          subst (λ l. filter (is_under_another e.0) (map slot_block l) ≡ map slot_block before) (sym cut) (others_of_last before e (subst (λ l. AreDistinct (map slot_block l)) cut d)) in
          let first : map slot_block (promoted (same_key e.0) slots) ≡ slot_block e ∷ map slot_block before = map-promoted e.0 slots e.1 d (found_last d) ∙ ap (λ l. slot_block e ∷ l) others in
          ap cache_with first ∙ sym (ap (cache_after_moves test 1) (sym is) ∙ one_move ∙ ap (λ l. cache_with (l ++ map slot_block before)) one)

      pub IsCache-moved : IsCache (cache_with (map slot_block slots)) → IsCache (cache_with (map slot_block (promoted (same_key e.0) slots)))
      IsCache-moved valid =
          let hit = find-hit e.0 e.1.digest capacity slots (cache_with (map slot_block slots)) refl valid.distinct e.1 (found_last valid.distinct) (same_bytes e.1.digest) in
          subst IsCache (sym hit.cache_left) (IsCache-after_find e.0 e.1.digest (cache_with (map slot_block slots)) valid)

      pub IsCache-dropped : IsCache (cache_with (map slot_block slots)) → IsCache (cache_with (map slot_block before))
      IsCache-dropped valid =
          subst (λ bs. IsCache (cache_with bs)) (sym (map-take (length slots - 1) slots)) (IsCache-take (length slots - 1) (cache_with (map slot_block slots)) valid)

    front_moves : (blocks : List CachedBlock) (n : ℕ) → n < length blocks
        → cache_after_moves test 1 (cache_after_moves test n (cache_with blocks)) ≡ cache_after_moves test (suc n) (cache_with blocks)
    front_moves blocks n within =
        let at = cut_at blocks (length blocks - suc n) (omega arith) in
        let us : List CachedBlock = at.0 in
        let x : CachedBlock = at.1 in
        let vs : List CachedBlock = at.2 in
        let is : blocks ≡ us ++ x ∷ vs = at.3 in
        let long : length us ≡ length blocks - suc n = at.4 in
        let whole : length blocks ≡ length (us ++ x ∷ vs) = ap length is in
        let rest : length vs ≡ n = omega (arith, length-append us (x ∷ vs)) in
        let parts : (us ++ x ∷ []) ++ vs ≡ us ++ x ∷ vs = append_assoc us (x ∷ []) vs in
        subst (λ m. cache_after_moves test 1 (cache_after_moves test m (cache_with blocks)) ≡ cache_after_moves test (suc m) (cache_with blocks)) rest
        (subst (λ l. cache_after_moves test 1 (cache_after_moves test (length vs) (cache_with l)) ≡ cache_after_moves test (suc (length vs)) (cache_with l)) (sym is)
        (subst (λ l. cache_after_moves test 1 (cache_after_moves test (length vs) (cache_with l)) ≡ cache_after_moves test (suc (length vs)) (cache_with (us ++ x ∷ vs))) parts
        (more_at us x vs)))

  -- no moves, one more, and all
  pub cache_after_moves-none : (cache : CacheRecord) → cache_after_moves test 0 cache ≡ cache
  cache_after_moves-none cache = ap (λ l. cache_after_moves test 0 (cache_with cache.capacity l)) (sym (append-nil cache.blocks)) ∙ after_moves_of cache.capacity cache.blocks []

  pub cache_after_moves-more : (n : ℕ) (cache : CacheRecord) → n < length cache.blocks
      → cache_after_moves test 1 (cache_after_moves test n cache) ≡ cache_after_moves test (n + 1) cache
  cache_after_moves-more n cache within = rw add-one (front_moves cache.capacity cache.blocks n within)

  pub cache_after_moves-all : (cache : CacheRecord) → cache_after_moves test (length cache.blocks) cache ≡ cache_without test cache
  cache_after_moves-all cache = after_moves_of cache.capacity [] cache.blocks ∙ ap (cache_with cache.capacity) (append-nil (kept cache.blocks))
