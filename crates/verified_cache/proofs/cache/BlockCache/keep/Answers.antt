use Rattle.std.proofs.Common.{◌≡◌, ◌≢◌, ℕ, List, map, sym, ap, ◌∙◌, subst, inl, inr, arith, refl}
use Rattle.std.specs.Prelude.{find, IsSome}
use Rattle.std.specs.Option.{IfSome}
use Rattle.lru.specs.LruCache.{LruCache}
use Rattle.verified_cache.specs.Cache.{CachedBlock, CacheRecord, IsCache, cached_at, same_key}
use Rattle.verified_cache.specs.Slots.{slot_block}
use Rattle.verified_cache.specs.declared.key.Key.{Key}
use Rattle.verified_cache.specs.declared.slots.DigestedBlock.{DigestedBlock}
use Rattle.verified_cache.proofs.lemmas.CacheLemmas.{IsCache-after_keep}
use Rattle.verified_cache.proofs.SlotLemmas.{map-put_entries, lookup-block_at}
use Rattle.verified_cache.proofs.cache.BlockCache.keep.Goals as goal

abbrev cache_with : ℕ → List CachedBlock → CacheRecord
cache_with capacity blocks = record { capacity = capacity; blocks = blocks }

pub returns-in_err-outcome-clause-succeeds : goal.returns-in_err-outcome-clause-succeeds
returns-in_err-outcome-clause-succeeds c = λ known. elim known [
  | inl zero ↦
      let capacity : c.self.inside.capacity ≡ 0 = ap (λ (k : CacheRecord). k.capacity) c.self.view_is ∙ zero in
      absurd (omega (arith, c.in-Some.most.ok, c.in-Some.ensures, capacity))
  | inr there ↦ let seen = subst (λ k. IsSome (cached_at c.args.key k)) (sym c.self.view_is) there in
      let kept = subst (λ (blocks : List CachedBlock). IsSome (find (λ b. same_key c.args.key b.key) blocks)) (sym (rw c.take.ensures.value at c.in_ok-slots.ensures.blocks)) seen in
      let impossible = c.in_err-outcome.ensures.succeeds (lookup-block_at c.args.key c.in_ok-slots.slots.entries kept) in absurd cc
]

pub invariant_of-self-2 : goal.invariant_of-self-2
invariant_of-self-2 c =
    let held : DigestedBlock = record { digest = c.args.digest; bytes = c.args.block } in
    let capacity = c.self.inside.capacity in
    let some : capacity ≢ 0 = λ zero. omega (arith, c.in-Some.most.ok, c.in-Some.ensures, zero) in
    let there : IfSome c.take.result (λ (slots : LruCache Key DigestedBlock). slots.cap ≡ c.in-Some.most.value) = rw (c.take.ensures.value, c.in-Some.ensures) c.self.invariant.0 in
    let full = c.in_ok-slots.ensures.most there ∙ c.in-Some.ensures in
    let same = rw c.take.ensures.value at c.in_ok-slots.ensures.blocks in
    let valid = subst (λ (blocks : List CachedBlock). IsCache (cache_with capacity blocks)) (sym same) c.self.invariant.1 in
    let put = map-put_entries c.args.key held c.in_ok-slots.slots valid.distinct capacity valid some full (cache_with capacity (map slot_block c.in_ok-slots.slots.entries)) refl in
    rw c.in_ok-outcome.ensures.entries (full, subst IsCache (sym put) (IsCache-after_keep (slot_block (c.args.key, held)) (cache_with capacity (map slot_block c.in_ok-slots.slots.entries)) valid))

pub returns-clause-ok : goal.returns-clause-ok
returns-clause-ok c =
    let held : DigestedBlock = record { digest = c.args.digest; bytes = c.args.block } in
    let capacity = c.self.inside.capacity in
    let some : capacity ≢ 0 = λ zero. omega (arith, c.in-Some.most.ok, c.in-Some.ensures, zero) in
    let there : IfSome c.take.result (λ (slots : LruCache Key DigestedBlock). slots.cap ≡ c.in-Some.most.value) = rw (c.take.ensures.value, c.in-Some.ensures) c.self.invariant.0 in
    let full = c.in_ok-slots.ensures.most there ∙ c.in-Some.ensures in
    let same = rw c.take.ensures.value at c.in_ok-slots.ensures.blocks in
    let valid = subst (λ (blocks : List CachedBlock). IsCache (cache_with capacity blocks)) (sym same) c.self.invariant.1 in
    rw c.in_ok-outcome.ensures.entries
    (map-put_entries c.args.key held c.in_ok-slots.slots valid.distinct capacity valid some full c.args.self.now (ap (cache_with capacity) same ∙ c.self.view_is))
