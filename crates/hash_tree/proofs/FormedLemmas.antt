-- The chain formed of a data block hangs from the root.
use Rattle.std.proofs.Common.{◌≡◌, ◌≤◌, ◌<◌, ◌/◌, ◌%◌, ◌*◌, ◌+◌, ◌-◌, ◌^◌, ℕ, zero, suc, refl, sym, ap, ◌∙◌, subst, arith, List, [], length, get_or, map, add-one}
use Rattle.std.proofs.Math.Nat.{mod-add-div, mul_comm}
use Rattle.std.proofs.lemmas.Nat.{mod_below}
use Rattle.std.proofs.lemmas.List.{length-map, get_or-map}
use Rattle.std.proofs.lemmas.List.Elements.{All-get_or, All-map}
use Rattle.tree_shape.specs.Digests.{digest, digest_in}
use Rattle.tree_shape.specs.Shape.{ShapeRecord, IsShape, per_block, levels, level_blocks, slot, ancestor}
use Rattle.hash_tree.specs.Tree.{root, level}
use Rattle.hash_tree.specs.Chain.{HangsFrom, IsGood, path_to, formed}
use Rattle.hash_tree.specs.Laws.{AreBlocks}
use Rattle.tree_shape.proofs.lemmas.ShapeLemmas.{over, pow_pos}
use Rattle.tree_shape.proofs.lemmas.ShapeFaultLemmas.{per_block-wide}
use Rattle.tree_shape.proofs.lemmas.ShapeFactLemmas.{quotient-le, two as two_of, over-same, ancestor-none, ancestor-more, ancestor-lt}
use Rattle.hash_tree.proofs.lemmas.PackingLemmas.{AllOf}
use Rattle.hash_tree.proofs.lemmas.TreeLemmas.{length-digest, digest_in-pack}
use Rattle.hash_tree.proofs.lemmas.TreeFactLemmas.{length-level, level-sized, packed_in, level-packed, packed_in-sized, length-packed_in, root-top, top-none}

length-path_to : (s : ShapeRecord) (salt : List ℕ) (ds : List (List ℕ)) (n i : ℕ) → length (path_to s salt ds n i) ≡ n
length-path_to s salt ds zero i = refl
length-path_to s salt ds (suc l) i = ap suc (length-path_to s salt ds l i)

module _ (s : ShapeRecord) (valid : IsShape s) (salt : List ℕ) (blocks : List (List ℕ)) (are : AreBlocks s.blocks s.data_block blocks) (i : ℕ) (inside : i < s.blocks) where
  ds : List (List ℕ)
  ds = map (digest salt) blocks

  two : 2 ≤ per_block s
  two = two_of s valid

  whole : s.hash_block ≡ 32 * per_block s
  whole = (per_block-wide s valid).1

  sized : AllOf 32 ds
  unfolding ds
  sized = All-map (λ d. length d ≡ 32) (digest salt) blocks (λ k d here. length-digest salt _)

  counted : length ds ≡ suc (s.blocks - 1)
  unfolding ds
  counted = length-map blocks (digest salt) ∙ omega (arith, are.count, valid.some)

  -- the digest that is expected of the block that many steps above data block i
  expected : ℕ → List ℕ
  expected l = get_or (packed_in s two whole salt ds l) (ancestor s l i) []

  ancestor-low : (l : ℕ) → ancestor s l i ≤ (s.blocks - 1) / per_block s ^ l
  unfolding ancestor
  ancestor-low l = quotient-le i (s.blocks - 1) (per_block s ^ l) (pow_pos (per_block s) l (omega (arith, two))) (omega (arith, inside))

  -- it is stored in its slot of the block above
  in_slot : (l : ℕ) → digest_in (get_or (level s.hash_block salt ds l) (ancestor s (l + 1) i) []) (slot s (ancestor s l i)) ≡ expected l
  unfolding slot expected
  in_slot l =
      let p = per_block s in
      let n = ancestor s l i in
      let up : ancestor s (l + 1) i ≡ n / p = ancestor-more s valid l i in
      let parts : n / p * p + n % p ≡ n = omega (arith, mod-add-div n p, mul_comm (n / p) p) in
      let count = length-packed_in s two whole salt l (s.blocks - 1) ds sized counted in
      ap (λ k. digest_in (get_or (level s.hash_block salt ds l) k []) (n % p)) up
      ∙ ap (λ b. digest_in (get_or b (n / p) []) (n % p)) (level-packed s two whole salt ds l)
      ∙ digest_in-pack s two whole salt ((s.blocks - 1) / p ^ l) (n / p) (n % p) (packed_in s two whole salt ds l) (packed_in-sized s two whole salt ds l sized) count
      (mod_below n p (omega (arith, two))) (omega (arith, parts, ancestor-low l))
      ∙ ap (λ k. get_or (packed_in s two whole salt ds l) k []) parts

  level-has : (l : ℕ) → ancestor s (l + 1) i < length (level s.hash_block salt ds l)
  level-has l =
      let count : length (level s.hash_block salt ds l) ≡ level_blocks s l =
      length-level s two whole salt l (s.blocks - 1) ds sized counted ∙ ap (λ t. level_blocks t l) (over-same s valid.some) in
      omega (arith, count, ancestor-lt s valid l i inside)

  -- a level's block has the digest that is expected of it
  block-digest : (l : ℕ) → digest salt (get_or (level s.hash_block salt ds l) (ancestor s (l + 1) i) []) ≡ expected (suc l)
  unfolding expected
  block-digest l =
      let at : ancestor s (suc l) i ≡ ancestor s (l + 1) i = ap (λ k. ancestor s k i) (sym (add-one l)) in
      let here : ancestor s (l + 1) i < length (level s.hash_block salt ds l) = level-has l in
      sym (ap (λ k. get_or (map (digest salt) (level s.hash_block salt ds l)) k []) at
      ∙ get_or-map (digest salt) (level s.hash_block salt ds l) (ancestor s (l + 1) i) [] [] here)

  content-digest : digest salt (get_or blocks i []) ≡ expected 0
  unfolding expected ds
  content-digest =
      sym (ap (λ k. get_or (map (digest salt) blocks) k []) (ancestor-none s valid i)
      ∙ get_or-map (digest salt) blocks i [] [] (omega (arith, are.count, inside)))

  hangs : (l : ℕ) → HangsFrom s salt i (expected l) (path_to s salt ds l i) (get_or blocks i [])
  hangs zero = (All-get_or (λ b. length b ≡ s.data_block) blocks i [] (omega (arith, are.count, inside)) are.sized, content-digest)
  hangs (suc l) =
      let block = get_or (level s.hash_block salt ds l) (ancestor s (l + 1) i) [] in
      let below : digest_in block (slot s (ancestor s (length (path_to s salt ds l i)) i)) ≡ expected l =
      ap (λ k. digest_in block (slot s (ancestor s k i))) (length-path_to s salt ds l i) ∙ in_slot l in (
        All-get_or (λ b. length b ≡ s.hash_block) (level s.hash_block salt ds l) (ancestor s (l + 1) i) [] (level-has l) (level-sized s two whole salt l ds),
        block-digest l,
        subst (λ (e : List ℕ). HangsFrom s salt i e (path_to s salt ds l i) (get_or blocks i [])) (sym below) (hangs l),
      )

  root-expected : root s.hash_block salt ds ≡ expected (levels s)
  unfolding expected
  root-expected =
      let top : levels (over s (suc (s.blocks - 1))) ≡ levels s = ap levels (over-same s valid.some) in
      let none : (s.blocks - 1) / per_block s ^ levels s ≡ 0 = top-none s two whole salt (levels s) (s.blocks - 1) top in
      let first : ancestor s (levels s) i ≡ 0 = omega (arith, ancestor-low (levels s), none) in
      root-top s two whole salt (levels s) (s.blocks - 1) ds sized counted top
      ∙ ap (λ k. get_or (packed_in s two whole salt ds (levels s)) k []) (sym first)

  pub formed-good : IsGood s salt (root s.hash_block salt (map (digest salt) blocks)) (formed s salt blocks i)
  unfolding formed ds
  formed-good = record {
    index = inside;
    path = length-path_to s salt ds (levels s) i;
    hangs = subst (λ (e : List ℕ). HangsFrom s salt i e (path_to s salt ds (levels s) i) (get_or blocks i [])) (sym root-expected) (hangs (levels s));
  }
