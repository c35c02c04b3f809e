use Rattle.std.proofs.Common.{◌≡◌, ◌<◌, ◌≤◌, ◌+◌, ◌-◌, ◌*◌, ◌/◌, ◌++◌, List, ℕ, length, take, drop, sym, ap, ◌∙◌, arith, subst, refl, get_or}
use Rattle.std.proofs.Math.Nat.{mul-le-mul_left, mul_comm, mul-zero}
use Rattle.std.proofs.lemmas.List.{take_all, length-take, length-take-le}
use Rattle.std.specs.List.{concat}
use Rattle.tree_shape.specs.Digests.{digest}
use Rattle.hash_tree.specs.Building.{BuilderRecord, completed, IsPushed}
use Rattle.hash_tree.proofs.lemmas.GrowLemmas.{HasSome-all}
use Rattle.hash_tree.proofs.lemmas.BuilderLemmas.{left-pushed, failed-pushed}
use Rattle.hash_tree.proofs.lemmas.BlockwiseLemmas.{IsPushed-none, size-pushed}
use Rattle.hash_tree.proofs.PushGroupLemmas.{whole-size, block-at, long, no_rest, eight, digest-at, next-pushed, next-between, next-some}
use Rattle.hash_tree.proofs.RefusalLemmas.{fails-at-block, on-err}
use Rattle.hash_tree.proofs.building.LevelBuilder.push_group.Goals as goal

pub eight_digests-eight-requires-clause-whole : goal.eight_digests-eight-requires-clause-whole
eight_digests-eight-requires-clause-whole c =
    let size = whole-size c.self.inside.hash_block (rw (← c.self.view_is) at c.requires.size) in
    let count = rw (← c.self.view_is) at c.requires.count in
    no_rest c.args.digests.now c.are_whole.ensures c.self.inside.hash_block (c.self.inside.hash_block / 32) size.1 c.deref.result.now (c.deref.ensures.value ∙ c.in-Ok.ensures.ok) count size.0

pub eight_digests-eight-requires-clause-inside : goal.eight_digests-eight-requires-clause-inside
eight_digests-eight-requires-clause-inside c =
    let size = whole-size c.self.inside.hash_block (rw (← c.self.view_is) at c.requires.size) in
    let count = rw (← c.self.view_is) at c.requires.count in
    omega (arith, eight c.args.digests.now c.are_whole.ensures c.self.inside.hash_block (c.self.inside.hash_block / 32) size.1 c.deref.result.now (c.deref.ensures.value ∙ c.in-Ok.ensures.ok) count size.0)

pub loop-k-init : goal.loop-k-init
loop-k-init c =
    let b = c.args.self.now in
    let none : b.hash_block / 32 * 0 ≡ 0 = mul-zero (b.hash_block / 32) in
    record {
      between = c.requires.between;
      pushed = subst (λ n. IsPushed b (take n c.args.digests.now) b c.args.out.now.items c.args.out.now.items) (sym none) (IsPushed-none b c.args.out.now.items);
    }

pub slice_bounds-push_block-end : goal.slice_bounds-push_block-end
slice_bounds-push_block-end c =
    let n = c.self.inside.hash_block in
    let size = whole-size n (rw (← c.self.view_is) at c.requires.size) in
    let count = rw (← c.self.view_is) at c.requires.count in
    let bytes = long c.args.digests.now c.are_whole.ensures n (n / 32) size.1 c.deref-in-loop-k.result.now (c.deref-in-loop-k.ensures.value ∙ c.in-Ok.ensures.ok) count size.0 in
    let most : n * (c.loop-k.k + 1) ≤ n * 8 = mul-le-mul_left n (omega (arith, c.loop-k-test.true)) in
    omega (arith, bytes, most, mul_comm n (c.loop-k.k + 1))

pub push_block-requires-clause-working : goal.push_block-requires-clause-working
push_block-requires-clause-working c =
    ap (λ (b : BuilderRecord). b.failed) c.loop-k.invariant.pushed.builder ∙ failed-pushed c.args.self.now _ ∙ c.requires.working

pub push_block-requires-clause-some : goal.push_block-requires-clause-some
push_block-requires-clause-some c =
    let b = c.args.self.now in
    let size = whole-size b.hash_block c.requires.size in
    let same : c.loop-k.self.hash_block ≡ b.hash_block = ap (λ (b : BuilderRecord). b.hash_block) c.loop-k.invariant.pushed.builder ∙ size-pushed b _ in
    omega (arith, size.0, size.1, same)

-- how many digests are pushed so far
so_far : (n k : ℕ) (ds : List (List ℕ)) → length ds ≡ n / 32 * 8 → k < 8 → (length (take (n / 32 * k) ds) ≡ n / 32 * k) × (n / 32 * k + n / 32 ≤ n / 32 * 8)
so_far n k ds count inside =
    let most : n / 32 * (k + 1) ≤ n / 32 * 8 = mul-le-mul_left (n / 32) (omega arith) in
    let next : n / 32 * (k + 1) ≡ n / 32 * k + n / 32 = grind arith in
    (length-take-le (n / 32 * k) ds (omega (arith, count, most, next)), omega (arith, most, next))

pub push_block-requires-clause-left : goal.push_block-requires-clause-left
push_block-requires-clause-left c =
    let b = c.args.self.now in
    let ds = c.args.digests.now in
    let same : c.loop-k.self.hash_block / 32 ≡ b.hash_block / 32 = ap (λ (b : BuilderRecord). b.hash_block / 32) c.loop-k.invariant.pushed.builder ∙ ap (λ n. n / 32) (size-pushed b _) in
    let left : c.loop-k.self.left ≡ b.left - length (take (b.hash_block / 32 * c.loop-k.k) ds) = ap (λ (b : BuilderRecord). b.left) c.loop-k.invariant.pushed.builder ∙ left-pushed b _ in
    let most = so_far b.hash_block c.loop-k.k ds c.requires.count c.loop-k-test.true in
    omega (arith, same, left, most.0, most.1, c.requires.left, c.requires.count)

pub returns-in_err-push_block-clause-some : goal.returns-in_err-push_block-clause-some
returns-in_err-push_block-clause-some c =
    let b = c.args.self.now in
    let ds = c.args.digests.now in
    let n = c.self.inside.hash_block in
    let k = c.loop-k.k in
    let size = whole-size b.hash_block c.requires.size in
    let same : n ≡ b.hash_block = ap (λ (b : BuilderRecord). b.hash_block) c.self.view_is in
    let salt : c.self.inside.salt ≡ b.salt = ap (λ (b : BuilderRecord). b.salt) c.self.view_is in
    let whole : n ≡ 32 * (b.hash_block / 32) = same ∙ size.1 in
    let width : (k + 1) * n - k * n ≡ n = let e : (k + 1) * n ≡ k * n + n = grind arith in omega (arith, e) in
    let part : List (List ℕ) = take (b.hash_block / 32) (drop (b.hash_block / 32 * k) ds) in
    let block : List ℕ = take ((k + 1) * n - k * n) (drop (k * n) c.deref-in-loop-k.result.now) in
    let is : block ≡ concat part = block-at ds c.are_whole.ensures n (b.hash_block / 32) whole k ((k + 1) * n - k * n) c.deref-in-loop-k.result.now (c.deref-in-loop-k.ensures.value ∙ c.in-Ok.ensures.ok) width in
    let d : List ℕ = get_or c.eight_digests-eight.result k c.index-eight-k.result in
    let made : d ≡ digest b.salt (concat part) =
    digest-at ds c.are_whole.ensures n (b.hash_block / 32) whole c.deref.result.now (c.deref.ensures.value ∙ c.in-Ok.ensures.ok) c.requires.count (omega (arith, size.0, same)) c.self.inside.salt c.eight_digests-eight.result k d c.index-eight-k.result c.loop-k-test.true c.eight_digests-eight.ensures refl
    ∙ ap (λ s. digest s (concat part)) salt in
    next-some b ds c.are_whole.ensures size c.requires.count k c.loop-k-test.true c.loop-k.self c.args.out.now.items c.loop-k.out.items c.loop-k.invariant.pushed c.loop-k.invariant.between block d is made c.push_block.new.out.items c.in_err-push_block.ensures.some

pub returns-in_err-push_block-clause-err : goal.returns-in_err-push_block-clause-err
returns-in_err-push_block-clause-err c =
    let b = c.args.self.now in
    let n = c.self.inside.hash_block in
    let k = c.loop-k.k in
    let same : n ≡ b.hash_block = ap (λ (b : BuilderRecord). b.hash_block) c.self.view_is in
    let width : (k + 1) * n - k * n ≡ n = let e : (k + 1) * n ≡ k * n + n = grind arith in omega (arith, e) in
    let block : List ℕ = take ((k + 1) * n - k * n) (drop (k * n) c.deref-in-loop-k.result.now) in
    let few = length-take ((k + 1) * n - k * n) (drop (k * n) c.deref-in-loop-k.result.now) in
    on-err c.from_residual.result (fails-at-block b c.loop-k.self c.push_block.new.self (take (b.hash_block / 32 * k) c.args.digests.now) (length block) c.loop-k.invariant.pushed.builder (omega (arith, few, width, same)) c.in_err-push_block.ensures.err)

pub loop-k-preserved : goal.loop-k-preserved
loop-k-preserved c =
    let b = c.args.self.now in
    let ds = c.args.digests.now in
    let n = c.self.inside.hash_block in
    let k = c.loop-k.k in
    let size = whole-size b.hash_block c.requires.size in
    let same : n ≡ b.hash_block = ap (λ (b : BuilderRecord). b.hash_block) c.self.view_is in
    let salt : c.self.inside.salt ≡ b.salt = ap (λ (b : BuilderRecord). b.salt) c.self.view_is in
    let whole : n ≡ 32 * (b.hash_block / 32) = same ∙ size.1 in
    let width : (k + 1) * n - k * n ≡ n = let e : (k + 1) * n ≡ k * n + n = grind arith in omega (arith, e) in
    let part : List (List ℕ) = take (b.hash_block / 32) (drop (b.hash_block / 32 * k) ds) in
    let block : List ℕ = take ((k + 1) * n - k * n) (drop (k * n) c.deref-in-loop-k.result.now) in
    let is : block ≡ concat part = block-at ds c.are_whole.ensures n (b.hash_block / 32) whole k ((k + 1) * n - k * n) c.deref-in-loop-k.result.now (c.deref-in-loop-k.ensures.value ∙ c.in-Ok.ensures.ok) width in
    let d : List ℕ = get_or c.eight_digests-eight.result k c.index-eight-k.result in
    let made : d ≡ digest b.salt (concat part) =
    digest-at ds c.are_whole.ensures n (b.hash_block / 32) whole c.deref.result.now (c.deref.ensures.value ∙ c.in-Ok.ensures.ok) c.requires.count (omega (arith, size.0, same)) c.self.inside.salt c.eight_digests-eight.result k d c.index-eight-k.result c.loop-k-test.true c.eight_digests-eight.ensures refl
    ∙ ap (λ s. digest s (concat part)) salt in
    let one = c.in_ok-push_block.ensures.ok in
    record {
      between = next-between b ds c.are_whole.ensures size c.requires.count k c.loop-k-test.true c.loop-k.self c.args.out.now.items c.loop-k.out.items c.loop-k.invariant.pushed c.loop-k.invariant.between block d is made c.push_block.new.self one.0;
      pushed = next-pushed b ds c.are_whole.ensures size c.requires.count k c.loop-k-test.true c.loop-k.self c.args.out.now.items c.loop-k.out.items c.loop-k.invariant.pushed c.loop-k.invariant.between block d is made c.push_block.new.self c.push_block.new.out.items one.0 one.1;
    }

pub returns-clause-some : goal.returns-clause-some
returns-clause-some c =
    let b = c.args.self.now in
    let ds = c.args.digests.now in
    let n = b.hash_block / 32 * c.loop-k.k in
    let last : c.loop-k.k ≡ 8 = omega (arith, c.loop-k-test.false, c.loop-k.auto.k-end) in
    let reach : n ≡ length ds = ap (λ k. b.hash_block / 32 * k) last ∙ sym c.requires.count in
    let all : take n ds ≡ ds = take_all n ds (omega (arith, reach)) in
    HasSome-all c.args.out.now.items (completed b ds) c.loop-k.out.items (c.loop-k.invariant.pushed.out ∙ ap (λ ds. c.args.out.now.items ++ completed b ds) all)
