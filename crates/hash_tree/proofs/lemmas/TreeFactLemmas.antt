-- The tree that a shape describes: its levels, where their blocks are stored, and what their slots hold.
use Rattle.std.proofs.Common.{◌≡◌, ◌≤◌, ◌<◌, ◌/◌, ◌*◌, ◌+◌, ◌-◌, ◌^◌, ℕ, zero, suc, refl, sym, ap, ◌∙◌, arith, List, [], ◌++◌, length, get_or, map, add-one}
use Rattle.std.proofs.Math.Nat.{div-div-eq-div-mul, pow-zero, div-one, zero-div, pow-succ'}
use Rattle.std.proofs.lemmas.List.{length-map, get_or_append_left, get_or-append-add}
use Rattle.std.proofs.lemmas.List.Elements.{All-map}
use Rattle.tree_shape.specs.Digests.{digest}
use Rattle.tree_shape.specs.Shape.{ShapeRecord, IsShape, per_block, levels, level_blocks, blocks_above, area_blocks}
use Rattle.hash_tree.specs.Tree.{pack, digests_above, root, area, level}
use Rattle.tree_shape.proofs.lemmas.ShapeLemmas.{over, levels-one, levels-up, level_blocks-over, level_blocks-first, level_blocks-up, blocks_above-first, blocks_above-up, place-lt}
use Rattle.tree_shape.proofs.lemmas.ShapeFaultLemmas.{per_block-wide}
use Rattle.tree_shape.proofs.lemmas.ShapeFactLemmas.{two as two_of, over-same}
use Rattle.hash_tree.proofs.lemmas.PackingLemmas.{AllOf}
use Rattle.hash_tree.proofs.lemmas.TreeLemmas.{length-digest, length-pack, pack-sized, above-sized, length-above, root-one, root-up, area-up, length-area}

module _ (s : ShapeRecord) (two : 2 ≤ per_block s) (whole : s.hash_block ≡ 32 * per_block s) (salt : List ℕ) where
  -- level l has as many blocks as the shape says
  pub length-level : (l m : ℕ) (ds : List (List ℕ)) → AllOf 32 ds → length ds ≡ suc m → length (level s.hash_block salt ds l) ≡ level_blocks (over s (suc m)) l
  unfolding level
  length-level zero m ds all count = length-pack s two whole salt m ds all count ∙ sym (level_blocks-first s two m)
  length-level (suc l) m ds all count =
      length-level l (m / per_block s) (digests_above s.hash_block salt ds) (above-sized s two whole salt ds) (length-above s two whole salt m ds all count)
      ∙ sym (level_blocks-up s two m l)

  pub level-sized : (l : ℕ) (ds : List (List ℕ)) → AllOf s.hash_block (level s.hash_block salt ds l)
  unfolding level
  level-sized zero ds = pack-sized s two whole salt ds
  level-sized (suc l) ds = level-sized l (digests_above s.hash_block salt ds)

  -- block i of level l is stored in the area after the levels above it
  pub area-place : (l m i : ℕ) (ds : List (List ℕ)) → AllOf 32 ds → length ds ≡ suc m
      → l < levels (over s (suc m)) → i < level_blocks (over s (suc m)) l
      → get_or (area s.hash_block salt ds) (blocks_above (over s (suc m)) l + i) [] ≡ get_or (level s.hash_block salt ds l) i []
  unfolding level
  area-place l zero i ds all count below inside = absurd (omega (arith, below, levels-one s two))
  area-place zero (suc m) i ds all count below inside =
      let above = digests_above s.hash_block salt ds in
      let front : length (area s.hash_block salt above) ≡ blocks_above (over s (suc (suc m))) 0 =
      length-area s two whole salt (suc m / per_block s) above (above-sized s two whole salt ds) (length-above s two whole salt (suc m) ds all count)
      ∙ sym (blocks_above-first s two m) in
      ap (λ a. get_or a (blocks_above (over s (suc (suc m))) 0 + i) []) (area-up s two whole salt m ds all count)
      ∙ ap (λ n. get_or (area s.hash_block salt above ++ pack s.hash_block ds) (n + i) []) (sym front)
      ∙ get_or-append-add (area s.hash_block salt above) (pack s.hash_block ds) i []
  area-place (suc l) (suc m) i ds all count below inside =
      let above = digests_above s.hash_block salt ds in
      let q = suc m / per_block s in
      let low : l < levels (over s (suc q)) = omega (arith, below, levels-up s two m) in
      let fits : i < level_blocks (over s (suc q)) l = omega (arith, inside, level_blocks-up s two (suc m) l) in
      let counted : length above ≡ suc q = length-above s two whole salt (suc m) ds all count in
      let front : blocks_above (over s (suc q)) l + i < length (area s.hash_block salt above) =
      omega (arith, place-lt s two q l i low fits, length-area s two whole salt q above (above-sized s two whole salt ds) counted) in
      ap (λ a. get_or a (blocks_above (over s (suc (suc m))) (suc l) + i) []) (area-up s two whole salt m ds all count)
      ∙ ap (λ n. get_or (area s.hash_block salt above ++ pack s.hash_block ds) (n + i) []) (blocks_above-up s two m l)
      ∙ get_or_append_left (area s.hash_block salt above) (pack s.hash_block ds) [] (blocks_above (over s (suc q)) l + i) front
      ∙ area-place l q i above (above-sized s two whole salt ds) counted low fits

  -- the digests that level l is packed of
  abbrev pub packed_in : List (List ℕ) → ℕ → List (List ℕ)
  packed_in ds zero = ds
  packed_in ds (suc l) = map (digest salt) (level s.hash_block salt ds l)

  packed_in-up : (ds : List (List ℕ)) (l : ℕ) → packed_in (digests_above s.hash_block salt ds) l ≡ packed_in ds (suc l)
  unfolding level
  packed_in-up ds zero = refl
  packed_in-up ds (suc l) = refl

  pub level-packed : (ds : List (List ℕ)) (l : ℕ) → level s.hash_block salt ds l ≡ pack s.hash_block (packed_in ds l)
  unfolding level
  level-packed ds zero = refl
  level-packed ds (suc l) = level-packed (digests_above s.hash_block salt ds) l ∙ ap (pack s.hash_block) (packed_in-up ds l)

  pub packed_in-sized : (ds : List (List ℕ)) (l : ℕ) → AllOf 32 ds → AllOf 32 (packed_in ds l)
  packed_in-sized ds zero all = all
  packed_in-sized ds (suc l) all = All-map (λ d. length d ≡ 32) (digest salt) (level s.hash_block salt ds l) (λ k d inside. length-digest salt _)

  pub length-packed_in : (l m : ℕ) (ds : List (List ℕ)) → AllOf 32 ds → length ds ≡ suc m → length (packed_in ds l) ≡ suc (m / per_block s ^ l)
  length-packed_in zero m ds all count = count ∙ ap suc (sym (ap (λ q. m / q) (pow-zero (per_block s)) ∙ div-one m))
  length-packed_in (suc l) m ds all count =
      length-map (level s.hash_block salt ds l) (digest salt)
      ∙ length-level l m ds all count
      ∙ level_blocks-over s two m l
      ∙ ap (λ k. suc (m / per_block s ^ k)) (add-one l)

  -- the root is the digest of the one block of the top level
  pub root-top : (l m : ℕ) (ds : List (List ℕ)) → AllOf 32 ds → length ds ≡ suc m → levels (over s (suc m)) ≡ l → root s.hash_block salt ds ≡ get_or (packed_in ds l) 0 []
  root-top zero zero ds all count top = root-one s two whole salt ds count
  root-top zero (suc m) ds all count top = absurd (omega (arith, top, levels-up s two m))
  root-top (suc l) zero ds all count top = absurd (omega (arith, top, levels-one s two))
  root-top (suc l) (suc m) ds all count top =
      root-up s two whole salt m ds all count
      ∙ root-top l (suc m / per_block s) (digests_above s.hash_block salt ds) (above-sized s two whole salt ds) (length-above s two whole salt (suc m) ds all count) (omega (arith, top, levels-up s two m))
      ∙ ap (λ xs. get_or xs 0 []) (packed_in-up ds l)

  -- above all levels there is one block
  pub top-none : (l m : ℕ) → levels (over s (suc m)) ≡ l → m / per_block s ^ l ≡ 0
  top-none zero zero top = zero-div (per_block s ^ 0)
  top-none zero (suc m) top = absurd (omega (arith, top, levels-up s two m))
  top-none (suc l) zero top = zero-div (per_block s ^ suc l)
  top-none (suc l) (suc m) top =
      ap (λ q. suc m / q) (pow-succ' (per_block s) l)
      ∙ sym (div-div-eq-div-mul (suc m) (per_block s) (per_block s ^ l))
      ∙ top-none l (suc m / per_block s) (omega (arith, top, levels-up s two m))

-- the area has as many blocks as the shape says
pub length-area_of : (s : ShapeRecord) → IsShape s → (salt : List ℕ) (ds : List (List ℕ)) → AllOf 32 ds → length ds ≡ s.blocks → length (area s.hash_block salt ds) ≡ area_blocks s
length-area_of s valid salt ds all count =
    let counted : length ds ≡ suc (s.blocks - 1) = omega (arith, count, valid.some) in
    length-area s (two_of s valid) (per_block-wide s valid).1 salt (s.blocks - 1) ds all counted ∙ ap area_blocks (over-same s valid.some)
