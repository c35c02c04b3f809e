use Rattle.std.proofs.Common.{◌≡◌, Some, refl, sym, ap, ◌∙◌, subst}
use Rattle.std.specs.Option.{option_copied}
use Rattle.std.proofs.lemmas.Option.{same_Some}
use Rattle.verified_cache.specs.declared.slots.DigestedBlock.{DigestedBlock}
use Rattle.verified_cache.specs.Cache.{IsCache}
use Rattle.verified_cache.proofs.lemmas.CacheLemmas.{IsCache-after_find}
use Rattle.verified_cache.proofs.SlotLemmas.{find-hit, find-missed, find-other}
use Rattle.verified_cache.proofs.cache.BlockCache.find.Goals as goal

pub returns-in_err-kept : goal.returns-in_err-kept
returns-in_err-kept c =
    let view = rw c.in-Some.is at c.self.view_is in
    let is = find-missed c.args.key c.args.digest.now c.self.inside.capacity c.in-Some.slots.entries c.args.self.now view (sym (rw c.in-Some.is at c.in_err-kept.ensures)) in
    rw c.in-Some.is ((refl, (λ _. tt), is.cache_left), record { leaves = tt; answer = ap option_copied c.from_residual.ensures ∙ is.bytes_found })

pub returns-then-ne : goal.returns-then-ne
returns-then-ne c =
    let valid = rw c.in-Some.is at c.self.invariant in
    let view = rw c.in-Some.is at c.self.view_is in
    let is = find-other c.args.key c.args.digest.now c.self.inside.capacity c.in-Some.slots.entries c.args.self.now view valid.1.distinct c.in_ok-kept.kept.now (sym (rw c.in-Some.is at c.in_ok-kept.ensures)) c.if-ne.ensures in
    rw c.in-Some.is ((refl, (λ _. tt), is.cache_left), record { leaves = tt; answer = is.bytes_found })

pub invariant_of-self-2 : goal.invariant_of-self-2
invariant_of-self-2 c =
    let valid = rw c.in-Some.is at c.self.invariant in
    let view = rw c.in-Some.is at c.self.view_is in
    let is = find-hit c.args.key c.args.digest.now c.self.inside.capacity c.in-Some.slots.entries c.args.self.now view valid.1.distinct c.in_ok-kept.kept.now (sym (rw c.in-Some.is at c.in_ok-kept.ensures)) c.if-ne.ensures in
    let cache : IsCache c.args.self.now = subst IsCache view valid.1 in
    rw (c.in-Some.is, c.get.follows.holds-at-none, c.in-Some.is) (valid.0, subst IsCache (sym is.cache_left) (IsCache-after_find c.args.key c.args.digest.now c.args.self.now cache))

pub returns : goal.returns
returns c =
    let valid = rw c.in-Some.is at c.self.invariant in
    let view = rw c.in-Some.is at c.self.view_is in
    let is = find-hit c.args.key c.args.digest.now c.self.inside.capacity c.in-Some.slots.entries c.args.self.now view valid.1.distinct c.in_ok-kept.kept.now (sym (rw c.in-Some.is at c.in_ok-kept.ensures)) c.if-ne.ensures in
    let same : c.in_ok-kept-2.kept.now ≡ c.in_ok-kept.kept.now = same_Some _ _ (c.in_ok-kept-2.ensures.value ∙ sym c.in_ok-kept.ensures) in
    let bytes : c.as_slice.result.now ≡ c.in_ok-kept.kept.now.bytes.items = c.as_slice.ensures.value ∙ ap (λ (h : DigestedBlock). h.bytes.items) same in
    rw (c.in-Some.is, c.get.follows.holds-at-none, c.in-Some.is) ((refl, (λ _. tt), is.cache_left), record { leaves = tt; answer = ap (λ b. Some b) bytes ∙ is.bytes_found })
