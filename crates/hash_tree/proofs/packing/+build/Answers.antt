use Rattle.std.proofs.Common.{◌≡◌, ◌<◌, ◌+◌, ◌*◌, List, [], ℕ, length, get_or, refl, sym, ap, ◌∙◌, arith, subst}
use Rattle.std.proofs.lemmas.List.{nil_from_length, get_or_read_under}
use Rattle.std.proofs.lemmas.List.Elements.{All-map}
use Rattle.std.proofs.lemmas.Result.{on_ok_weaker, IfOk-weaker}
use Rattle.std.specs.List.{concat}
use Rattle.tree_shape.specs.Digests.{digest}
use Rattle.hash_tree.specs.Tree.{area, root, pack, digests_above}
use Rattle.hash_tree.proofs.lemmas.PackingLemmas.{AllOf}
use Rattle.hash_tree.proofs.lemmas.TreeLemmas.{length-digest}
use Rattle.hash_tree.proofs.BuildLemmas.{area-single, root-single, level-fits, part-room, next-is, above-is, above-le, area-written, root-same, fewer-above, front-written}
use Rattle.hash_tree.proofs.packing.+build.Goals as goal

pub returns-then-digests-eq1-clause-area : goal.returns-then-digests-eq1-clause-area
returns-then-digests-eq1-clause-area t c =
    let ds = c.args.digests.now in
    let none : area c.args.hash_block c.args.salt.now ds ≡ [] = area-single c.args.hash_block c.args.salt.now ds c.if-digests-eq1.true in
    let empty : length c.args.out.now ≡ 0 = let e : length (area c.args.hash_block c.args.salt.now ds) ≡ 0 = ap length none in c.requires.room ∙ ap (λ n. c.args.hash_block * n) e ∙ omega arith in
    nil_from_length c.args.out.now empty ∙ ap concat (sym none)

pub returns-then-digests-eq1-clause-root : goal.returns-then-digests-eq1-clause-root
returns-then-digests-eq1-clause-root t c = get_or_read_under c.args.digests.now 0 1 c.index-digests-0.result [] c.index-digests-0.is (omega arith) (sym c.if-digests-eq1.true) ∙ sym (root-single c.args.hash_block c.args.salt.now c.args.digests.now c.if-digests-eq1.true)

pub level_start-above-requires-clause-room : goal.level_start-above-requires-clause-room
level_start-above-requires-clause-room t c =
    let ds = c.args.digests.now in
    level-fits c.args.hash_block c.requires.size c.args.salt.now ds c.requires.sized (omega (arith, c.requires.some, c.if-digests-eq1.false)) c.args.out.now c.requires.room

pub put_digests-requires : goal.put_digests-requires
put_digests-requires t c =
    let ds = c.args.digests.now in
    part-room c.args.hash_block c.requires.size c.args.salt.now ds c.requires.sized (omega (arith, c.requires.some, c.if-digests-eq1.false)) c.args.out.now c.requires.room c.level_start-above.result c.level_start-above.ensures

-- the digests that are packed next
next : (t : ℕ) (c : goal.After-build-arg-1 t) → c.deref.result.now ≡ digests_above c.args.hash_block c.args.salt.now c.args.digests.now
next t c =
    let ds = c.args.digests.now in
    c.deref.ensures.value
    ∙ next-is c.args.hash_block c.requires.size c.args.salt.now ds c.requires.sized (omega (arith, c.requires.some, c.if-digests-eq1.false)) c.args.out.now c.requires.room c.level_start-above.result c.level_start-above.ensures c.put_digests.new.out c.put_digests.ensures _ c.in_ok-next.next.items refl c.in_ok-next.ensures.ok

pub build-requires : goal.build-requires
build-requires t c =
    let ds = c.args.digests.now in
    let size = c.args.hash_block in
    let more : 1 < length ds = omega (arith, c.requires.some, c.if-digests-eq1.false) in
    let count : length c.deref.result.now ≡ length (digests_above size c.args.salt.now ds) = ap length (next t c) in
    let fewer = fewer-above size c.requires.size c.args.salt.now ds c.requires.sized more in
    let room : c.level_start-above.result ≡ size * length (area size c.args.salt.now c.deref.result.now) =
    above-is size c.requires.size c.args.salt.now ds c.requires.sized more c.args.out.now c.requires.room c.level_start-above.result c.level_start-above.ensures
    ∙ ap (λ d. size * length (area size c.args.salt.now d)) (sym (next t c)) in
    let inside = above-le size c.requires.size c.args.salt.now ds c.requires.sized more c.args.out.now c.requires.room c.level_start-above.result c.level_start-above.ensures in
    let front : length (Rattle.std.proofs.Common.take c.level_start-above.result _) ≡ c.level_start-above.result = front-written c.level_start-above.result c.args.out.now c.put_digests.new.out inside in
    (omega (arith, c.decreases, count, fewer.1), (c.requires.size, (omega (arith, count, fewer.0), (subst (AllOf 32) (sym (next t c)) (All-map (λ d. length d ≡ 32) (digest c.args.salt.now) (pack size ds) (λ k d inside. length-digest c.args.salt.now _)), front ∙ room))))

pub returns-clause-area : goal.returns-clause-area
returns-clause-area t c =
    let ds = c.args.digests.now in
    let size = c.args.hash_block in
    let salt = c.args.salt.now in
    let more : 1 < length ds = omega (arith, c.requires.some, c.if-digests-eq1.false) in
    let above : c.deref.result.now ≡ digests_above size salt ds =
    c.deref.ensures.value
    ∙ next-is size c.requires.size salt ds c.requires.sized more c.args.out.now c.requires.room c.level_start-above.result c.level_start-above.ensures c.put_digests.new.out c.put_digests.ensures _ c.in_ok-next.next.items refl c.in_ok-next.ensures.ok in
    on_ok_weaker c.build.result
    (λ made. area-written size c.requires.size salt ds c.requires.sized more c.args.out.now c.requires.room c.level_start-above.result c.level_start-above.ensures c.put_digests.new.out c.put_digests.ensures c.deref.result.now c.build.new.out above made)
    c.build.ensures.area

pub returns-clause-root : goal.returns-clause-root
returns-clause-root t c =
    let ds = c.args.digests.now in
    let size = c.args.hash_block in
    let salt = c.args.salt.now in
    let more : 1 < length ds = omega (arith, c.requires.some, c.if-digests-eq1.false) in
    let above : c.deref.result.now ≡ digests_above size salt ds =
    c.deref.ensures.value
    ∙ next-is size c.requires.size salt ds c.requires.sized more c.args.out.now c.requires.room c.level_start-above.result c.level_start-above.ensures c.put_digests.new.out c.put_digests.ensures _ c.in_ok-next.next.items refl c.in_ok-next.ensures.ok in
    IfOk-weaker c.build.result _ _ (λ r is. is ∙ ap (root size salt) above ∙ sym (root-same size c.requires.size salt ds c.requires.sized more)) c.build.ensures.root
