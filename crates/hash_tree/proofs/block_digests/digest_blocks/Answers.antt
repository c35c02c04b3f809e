use Rattle.std.proofs.Common.{◌≡◌, ◌*◌, ◌/◌, ◌+◌, ◌-◌, ◌++◌, ◌∷◌, ℕ, List, [], length, get_or, take, drop, map, sym, ap, ◌∙◌, arith}
use Rattle.std.proofs.Math.Nat.{mul_comm}
use Rattle.std.proofs.Math.Seq.{take-add}
use borrow.Rule.Slice.PartMut.{put_mid}
use Rattle.std.proofs.lemmas.List.{length-drop, length-take-le, map_more, map-append, take_all, take_more_set}
use Rattle.tree_shape.specs.Digests.{digest}
use Rattle.hash_tree.specs.Tree.{cut}
use Rattle.hash_tree.proofs.GroupLemmas.{length-cut_whole}
use Rattle.hash_tree.proofs.lemmas.PackingLemmas.{get_or-cut_whole, take-put_mid}
use Rattle.hash_tree.proofs.block_digests.digest_blocks.Goals as goal

pub loop-g-preserved : goal.loop-g-preserved
loop-g-preserved c =
    let cs : List (List ℕ) = cut c.args.size c.args.blocks.now in
    let f = digest c.args.salt.now in
    let n : ℕ = 8 * c.loop-g.g in
    let put : List (List ℕ) = c.copy_from_slice.new.self in
    let is : put ≡ c.eight_digests-eight.result = c.copy_from_slice.ensures.after in
    let eight : n + 8 - n ≡ 8 = omega arith in
    let long : length put ≡ n + 8 - n = c.copy_from_slice.auto.self ∙ length-take-le (n + 8 - n) (drop n c.loop-g.out) (omega (arith, length-drop n c.loop-g.out)) in
    let next : 8 * (c.loop-g.g + 1) ≡ n + (n + 8 - n) = omega arith in
    ap (λ (k : ℕ). take k (put_mid n (n + 8 - n) c.loop-g.out put)) next
    ∙ take-put_mid n (n + 8 - n) c.loop-g.out put (omega arith) long
    ∙ ap (λ xs. xs ++ put) c.loop-g.invariant
    ∙ ap (λ xs. map f (take n cs) ++ xs) (is ∙ c.eight_digests-eight.ensures)
    ∙ sym (map-append f (take n cs) (take 8 (drop n cs)))
    ∙ ap (map f) (sym (take-add n 8 cs))
    ∙ ap (λ (k : ℕ). map f (take k cs)) (omega arith)

pub loop-i-preserved : goal.loop-i-preserved
loop-i-preserved c =
    let size = c.args.size in
    let i = c.loop-i.i in
    let bytes = c.args.blocks.now in
    let f = digest c.args.salt.now in
    let count : length (cut size bytes) ≡ length bytes / size = length-cut_whole size bytes c.requires.some c.requires.whole in
    let width : (i + 1) * size - i * size ≡ size = omega arith in
    let part : take ((i + 1) * size - i * size) (drop (i * size) bytes) ≡ get_or (cut size bytes) i [] =
    ap (λ n. take n (drop (i * size) bytes)) width
    ∙ ap (λ n. take size (drop n bytes)) (mul_comm i size)
    ∙ sym (get_or-cut_whole size i bytes c.requires.some c.requires.whole (omega arith)) in
    let here : c.digest.result ≡ f (get_or (cut size bytes) i []) = c.digest.ensures ∙ ap f part in
    take_more_set c.loop-i.out i c.digest.result (omega arith)
    ∙ ap (λ xs. xs ++ c.digest.result ∷ []) c.loop-i.invariant
    ∙ ap (λ d. map f (take i (cut size bytes)) ++ d ∷ []) here
    ∙ sym (map_more f (cut size bytes) i [] (omega (arith, count)))

pub returns : goal.returns
returns c =
    let size = c.args.size in
    let bytes = c.args.blocks.now in
    let count : length (cut size bytes) ≡ length bytes / size = length-cut_whole size bytes c.requires.some c.requires.whole in
    sym (take_all c.loop-i.i c.loop-i.out (omega arith))
    ∙ c.loop-i.invariant
    ∙ ap (map (digest c.args.salt.now)) (take_all c.loop-i.i (cut size bytes) (omega (arith, count)))
