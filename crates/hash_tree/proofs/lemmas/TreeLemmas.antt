-- The tree over some digests, and the tree over the digests of their hash blocks.
use Rattle.std.proofs.Common.{◌≡◌, ◌≤◌, ◌<◌, ◌/◌, ◌*◌, ◌+◌, ◌-◌, ℕ, zero, suc, refl, sym, ap, ◌∙◌, arith, List, [], ◌∷◌, ◌++◌, length, get_or, take, drop, replicate}
use Rattle.std.proofs.Math.Nat.{div-div-eq-div-mul, div-lt_self}
use Rattle.std.proofs.lemmas.Nat.{div-mul-add, le-div}
use Rattle.std.proofs.lemmas.List.{length-map, length-append, drop-take, take-take, drop-drop}
use Rattle.std.proofs.lemmas.List.Elements.{All-map, All-same, All-nil, All-append}
use Rattle.std.specs.Int.{div_ceil}
use Rattle.std.specs.List.{concat}
use Rattle.sha2.proofs.Facts256.{length-sha256}
use Rattle.tree_shape.specs.Digests.{digest, digest_in}
use Rattle.tree_shape.specs.Shape.{ShapeRecord, per_block, area_blocks}
use Rattle.hash_tree.specs.Tree.{pack, digests_above, root_in, root, area_in, area}
use Rattle.tree_shape.proofs.lemmas.ShapeLemmas.{over, div_ceil-suc, area_blocks-one, area_blocks-up}
use Rattle.hash_tree.proofs.lemmas.PackingLemmas.{AllOf, length-concat, piece-concat, padded, cut-sized, length-cut, get_or-cut}

pub length-digest : (salt block : List ℕ) → length (digest salt block) ≡ 32
unfolding digest
length-digest salt block = length-sha256 (salt ++ block)

-- so many digests fill so many hash blocks
blocks_for : (hash_block p m : ℕ) → hash_block ≡ 32 * p → 2 ≤ p → div_ceil (32 * suc m) hash_block ≡ suc (m / p)
blocks_for hash_block p m whole two =
    let count : 32 * suc m ≡ suc (m * 32 + 31) = omega arith in
    let digests : (m * 32 + 31) / 32 ≡ m = div-mul-add m 32 31 (omega arith) in
    rw (whole, count)
    (div_ceil-suc (m * 32 + 31) (32 * p) (omega (arith, two))
    ∙ ap suc (sym (div-div-eq-div-mul (m * 32 + 31) 32 p) ∙ ap (λ n. n / p) digests))

-- a part of a part
take-part : (n size at : ℕ) (xs : List ℕ) → at + n ≤ size → take n (drop at (take size xs)) ≡ take n (drop at xs)
take-part n size at xs inside =
    let sum : size ≡ at + (size - at) = omega arith in
    ap (λ k. take n (drop at (take k xs))) sum
    ∙ ap (take n) (drop-take at (size - at) xs)
    ∙ take-take n (size - at) (drop at xs) (omega arith)

module _ (s : ShapeRecord) (two : 2 ≤ per_block s) (whole : s.hash_block ≡ 32 * per_block s) (salt : List ℕ) where
  pub length-pack : (m : ℕ) (ds : List (List ℕ)) → AllOf 32 ds → length ds ≡ suc m → length (pack s.hash_block ds) ≡ suc (m / per_block s)
  length-pack m ds all count =
      length-cut s.hash_block (concat ds)
      ∙ ap (λ n. div_ceil n s.hash_block) (length-concat 32 ds all ∙ ap (λ n. 32 * n) count)
      ∙ blocks_for s.hash_block (per_block s) m whole two

  pub pack-sized : (ds : List (List ℕ)) → AllOf s.hash_block (pack s.hash_block ds)
  pack-sized ds = cut-sized s.hash_block (concat ds) (omega (arith, two, whole))

  pub above-sized : (ds : List (List ℕ)) → AllOf 32 (digests_above s.hash_block salt ds)
  above-sized ds = All-map (λ d. length d ≡ 32) (digest salt) (pack s.hash_block ds) (λ k d inside. length-digest salt _)

  pub length-above : (m : ℕ) (ds : List (List ℕ)) → AllOf 32 ds → length ds ≡ suc m → length (digests_above s.hash_block salt ds) ≡ suc (m / per_block s)
  length-above m ds all count = length-map (pack s.hash_block ds) (digest salt) ∙ length-pack m ds all count

  -- digest j of block k is one of the digests
  pub digest_in-pack : (m k j : ℕ) (ds : List (List ℕ)) → AllOf 32 ds → length ds ≡ suc m → j < per_block s → k * per_block s + j ≤ m
      → digest_in (get_or (pack s.hash_block ds) k []) j ≡ get_or ds (k * per_block s + j) []
  unfolding digest_in
  digest_in-pack m k j ds all count slot inside =
      let p = per_block s in
      let size = s.hash_block in
      let q = div_ceil (length (concat ds)) size in
      let z = padded size q (concat ds) in
      let blocks : q ≡ suc (m / p) = ap (λ n. div_ceil n size) (length-concat 32 ds all ∙ ap (λ n. 32 * n) count) ∙ blocks_for size p m whole two in
      let low : k ≤ m / p = le-div k m p (omega (arith, two)) (omega (arith, inside)) in
      let block : get_or (pack size ds) k [] ≡ take size (drop (size * k) z) = get_or-cut size k (concat ds) (omega (arith, two, whole)) (omega (arith, low, blocks)) in
      let at : size * k + 32 * j ≡ 32 * (k * p + j) = let e : size * k ≡ 32 * p * k = ap (λ n. n * k) whole in omega (arith, e) in
      ap (λ b. take 32 (drop (32 * j) b)) block
      ∙ take-part 32 size (32 * j) (drop (size * k) z) (omega (arith, slot, whole))
      ∙ ap (take 32) (drop-drop (32 * j) (size * k) z ∙ ap (λ n. drop n z) at)
      ∙ piece-concat 32 ds (replicate (size * q - length (concat ds)) 0) (k * p + j) all (omega (arith, count, inside))

  no_root : (f : ℕ) → root_in f s.hash_block salt [] ≡ []
  no_root zero = refl
  no_root (suc f) = refl

  no_area : (f : ℕ) → area_in f s.hash_block salt [] ≡ []
  no_area zero = refl
  no_area (suc f) = refl

  fewer : (f : ℕ) (one two' : List ℕ) (more : List (List ℕ)) → AllOf 32 (one ∷ two' ∷ more) → length (one ∷ two' ∷ more) ≤ suc f → length (digests_above s.hash_block salt (one ∷ two' ∷ more)) ≤ f
  fewer f one two' more all room =
      let count : length (digests_above s.hash_block salt (one ∷ two' ∷ more)) ≡ suc (suc (length more) / per_block s) = length-above (suc (length more)) (one ∷ two' ∷ more) all refl in
      let less : suc (length more) / per_block s < suc (length more) = div-lt_self (omega arith) (omega (arith, two)) in
      omega (arith, count, less, room)

  -- the root doesn't depend on the steps that are allowed, once they are enough
  root-steps : (f g : ℕ) (ds : List (List ℕ)) → AllOf 32 ds → length ds ≤ f → length ds ≤ g → root_in f s.hash_block salt ds ≡ root_in g s.hash_block salt ds
  root-steps f g [] all hf hg = no_root f ∙ sym (no_root g)
  root-steps zero g (one ∷ ds) all hf hg = absurd (omega (arith, hf))
  root-steps (suc f) zero (one ∷ ds) all hf hg = absurd (omega (arith, hg))
  root-steps (suc f) (suc g) (one ∷ []) all hf hg = refl
  root-steps (suc f) (suc g) (one ∷ two' ∷ more) all hf hg =
      root-steps f g (digests_above s.hash_block salt (one ∷ two' ∷ more)) (above-sized (one ∷ two' ∷ more)) (fewer f one two' more all hf) (fewer g one two' more all hg)

  area-steps : (f g : ℕ) (ds : List (List ℕ)) → AllOf 32 ds → length ds ≤ f → length ds ≤ g → area_in f s.hash_block salt ds ≡ area_in g s.hash_block salt ds
  area-steps f g [] all hf hg = no_area f ∙ sym (no_area g)
  area-steps zero g (one ∷ ds) all hf hg = absurd (omega (arith, hf))
  area-steps (suc f) zero (one ∷ ds) all hf hg = absurd (omega (arith, hg))
  area-steps (suc f) (suc g) (one ∷ []) all hf hg = refl
  area-steps (suc f) (suc g) (one ∷ two' ∷ more) all hf hg =
      ap (λ above. above ++ pack s.hash_block (one ∷ two' ∷ more))
      (area-steps f g (digests_above s.hash_block salt (one ∷ two' ∷ more)) (above-sized (one ∷ two' ∷ more)) (fewer f one two' more all hf) (fewer g one two' more all hg))

  pub root-one : (ds : List (List ℕ)) → length ds ≡ 1 → root s.hash_block salt ds ≡ get_or ds 0 []
  unfolding root
  root-one [] count = absurd (omega (arith, count))
  root-one (one ∷ []) count = refl
  root-one (one ∷ two' ∷ more) count = absurd (omega (arith, count))

  pub area-one : (ds : List (List ℕ)) → length ds ≡ 1 → area s.hash_block salt ds ≡ []
  unfolding area
  area-one [] count = absurd (omega (arith, count))
  area-one (one ∷ []) count = refl
  area-one (one ∷ two' ∷ more) count = absurd (omega (arith, count))

  -- more than one digest have the root of their hash blocks' digests
  pub root-up : (m : ℕ) (ds : List (List ℕ)) → AllOf 32 ds → length ds ≡ suc (suc m) → root s.hash_block salt ds ≡ root s.hash_block salt (digests_above s.hash_block salt ds)
  unfolding root
  root-up m [] all count = absurd (omega (arith, count))
  root-up m (one ∷ []) all count = absurd (omega (arith, count))
  root-up m (one ∷ two' ∷ more) all count =
      root-steps (suc (length more)) _ (digests_above s.hash_block salt (one ∷ two' ∷ more)) (above-sized (one ∷ two' ∷ more)) (fewer (suc (length more)) one two' more all (omega arith)) (omega arith)

  -- level 0 is stored after the tree over it
  pub area-up : (m : ℕ) (ds : List (List ℕ)) → AllOf 32 ds → length ds ≡ suc (suc m)
      → area s.hash_block salt ds ≡ area s.hash_block salt (digests_above s.hash_block salt ds) ++ pack s.hash_block ds
  unfolding area
  area-up m [] all count = absurd (omega (arith, count))
  area-up m (one ∷ []) all count = absurd (omega (arith, count))
  area-up m (one ∷ two' ∷ more) all count =
      ap (λ above. above ++ pack s.hash_block (one ∷ two' ∷ more))
      (area-steps (suc (length more)) _ (digests_above s.hash_block salt (one ∷ two' ∷ more)) (above-sized (one ∷ two' ∷ more)) (fewer (suc (length more)) one two' more all (omega arith)) (omega arith))

  less_above : (m f : ℕ) → suc m ≤ suc f → suc m / per_block s ≤ f
  less_above m f room = let less : suc m / per_block s < suc m = div-lt_self (omega arith) (omega (arith, two)) in omega (arith, less, room)

  area-counted : (f m : ℕ) (ds : List (List ℕ)) → m ≤ f → AllOf 32 ds → length ds ≡ suc m → length (area s.hash_block salt ds) ≡ area_blocks (over s (suc m))
  area-counted f zero ds room all count = ap length (area-one ds count) ∙ sym (area_blocks-one s two)
  area-counted zero (suc m) ds room all count = absurd (omega arith)
  area-counted (suc f) (suc m) ds room all count =
      let above = digests_above s.hash_block salt ds in
      let higher : length (area s.hash_block salt above) ≡ area_blocks (over s (suc (suc m / per_block s))) =
      area-counted f (suc m / per_block s) above (less_above m f room) (above-sized ds) (length-above (suc m) ds all count) in
      ap length (area-up m ds all count)
      ∙ length-append (area s.hash_block salt above) (pack s.hash_block ds)
      ∙ omega (arith, higher, length-pack (suc m) ds all count, area_blocks-up s two m)

  -- the area has as many blocks as the shape says
  pub length-area : (m : ℕ) (ds : List (List ℕ)) → AllOf 32 ds → length ds ≡ suc m → length (area s.hash_block salt ds) ≡ area_blocks (over s (suc m))
  length-area m ds all count = area-counted m m ds (omega arith) all count

  area-all : (f m : ℕ) (ds : List (List ℕ)) → m ≤ f → AllOf 32 ds → length ds ≡ suc m → AllOf s.hash_block (area s.hash_block salt ds)
  area-all f zero ds room all count = All-same (λ x. length x ≡ s.hash_block) (area s.hash_block salt ds) [] (area-one ds count) (All-nil (λ x. length x ≡ s.hash_block))
  area-all zero (suc m) ds room all count = absurd (omega arith)
  area-all (suc f) (suc m) ds room all count =
      let above = digests_above s.hash_block salt ds in
      All-same (λ x. length x ≡ s.hash_block) (area s.hash_block salt ds) (area s.hash_block salt above ++ pack s.hash_block ds) (area-up m ds all count)
      (All-append (λ x. length x ≡ s.hash_block) (area s.hash_block salt above) (pack s.hash_block ds)
      (area-all f (suc m / per_block s) above (less_above m f room) (above-sized ds) (length-above (suc m) ds all count))
      (pack-sized ds))

  -- its blocks are hash blocks
  pub area-sized : (m : ℕ) (ds : List (List ℕ)) → AllOf 32 ds → length ds ≡ suc m → AllOf s.hash_block (area s.hash_block salt ds)
  area-sized m ds all count = area-all m m ds (omega arith) all count
