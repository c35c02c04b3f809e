-- Places and levels of every shape.
use Rattle.std.proofs.Common.{◌≡◌, ◌≤◌, ◌<◌, ◌/◌, ◌+◌, ◌-◌, ◌^◌, ℕ, zero, suc, refl, sym, ap, ◌∙◌, subst, inl, inr, arith, List, [], length, get_or, Some}
use Rattle.std.specs.Prelude.{slice_get}
use Rattle.std.proofs.Math.Nat.{div-lt_self, div-div-eq-div-mul, pow-zero, div-one, pow-succ'}
use Rattle.std.proofs.lemmas.Bool.{cases_lt}
use Rattle.std.proofs.lemmas.Option.{slice_get-get_or}
use Rattle.tree_shape.specs.Shape.{ShapeRecord, IsShape, per_block, levels, level_blocks, blocks_above, position, area_blocks, area_end}
use Rattle.hash_tree.specs.Tree.{area, level}
use Rattle.hash_tree.specs.Laws.{HasBlock, AreDigests, StandsInShape}
use Rattle.tree_shape.proofs.lemmas.ShapeLemmas.{over, levels-one, levels-up, level_blocks-first, level_blocks-up, area_blocks-one, area_blocks-up, blocks_above-first, blocks_above-up, place-lt}
use Rattle.tree_shape.proofs.lemmas.ShapeFaultLemmas.{per_block-wide}
use Rattle.tree_shape.proofs.lemmas.ShapeFactLemmas.{two as two_of, over-same, position-lt, above-lt}
use Rattle.hash_tree.proofs.lemmas.TreeLemmas.{area-sized}
use Rattle.hash_tree.proofs.lemmas.TreeFactLemmas.{top-none, length-area_of, length-level, area-place}

module _ (s : ShapeRecord) (two : 2 ≤ per_block s) where
  below-top : (l m : ℕ) → l < levels (over s (suc m)) → 0 < m / per_block s ^ l
  below-top l zero below = absurd (omega (arith, below, levels-one s two))
  below-top zero (suc m) below =
      let self : suc m / per_block s ^ 0 ≡ suc m = ap (λ q. suc m / q) (pow-zero (per_block s)) ∙ div-one (suc m) in
      omega (arith, self)
  below-top (suc l) (suc m) below =
      let higher : 0 < suc m / per_block s / per_block s ^ l = below-top l (suc m / per_block s) (omega (arith, below, levels-up s two m)) in
      let same : suc m / per_block s ^ suc l ≡ suc m / per_block s / per_block s ^ l =
      ap (λ q. suc m / q) (pow-succ' (per_block s) l) ∙ sym (div-div-eq-div-mul (suc m) (per_block s) (per_block s ^ l)) in
      omega (arith, higher, same)

  -- the place of a block among the area's blocks
  place-same : (l k m i j : ℕ) → l < levels (over s (suc m)) → i < level_blocks (over s (suc m)) l
      → k < levels (over s (suc m)) → j < level_blocks (over s (suc m)) k
      → blocks_above (over s (suc m)) l + i ≡ blocks_above (over s (suc m)) k + j → (l ≡ k) × (i ≡ j)
  place-same l k zero i j hl hi hk hj same = absurd (omega (arith, hl, levels-one s two))
  place-same zero zero (suc m) i j hl hi hk hj same = (refl, omega (arith, same))
  place-same zero (suc k) (suc m) i j hl hi hk hj same =
      let q = suc m / per_block s in
      absurd (omega (
        arith,
        same,
        blocks_above-first s two m,
        blocks_above-up s two m k,
        place-lt s two q k j (omega (arith, hk, levels-up s two m)) (omega (arith, hj, level_blocks-up s two (suc m) k)),
      ))
  place-same (suc l) zero (suc m) i j hl hi hk hj same =
      let q = suc m / per_block s in
      absurd (omega (
        arith,
        same,
        blocks_above-first s two m,
        blocks_above-up s two m l,
        place-lt s two q l i (omega (arith, hl, levels-up s two m)) (omega (arith, hi, level_blocks-up s two (suc m) l)),
      ))
  place-same (suc l) (suc k) (suc m) i j hl hi hk hj same =
      let q = suc m / per_block s in
      let higher : (l ≡ k) × (i ≡ j) = place-same l k q i j
      (omega (arith, hl, levels-up s two m)) (omega (arith, hi, level_blocks-up s two (suc m) l))
      (omega (arith, hk, levels-up s two m)) (omega (arith, hj, level_blocks-up s two (suc m) k))
      (omega (arith, same, blocks_above-up s two m l, blocks_above-up s two m k)) in
      (ap suc higher.0, higher.1)

  place-found : (f m k : ℕ) → m ≤ f → k < area_blocks (over s (suc m))
      → (l : ℕ) × ((i : ℕ) × (((l < levels (over s (suc m))) × (i < level_blocks (over s (suc m)) l)) × (blocks_above (over s (suc m)) l + i ≡ k)))
  place-found f zero k room inside = absurd (omega (arith, inside, area_blocks-one s two))
  place-found zero (suc m) k room inside = absurd (omega arith)
  place-found (suc f) (suc m) k room inside =
      let q = suc m / per_block s in
      elim (cases_lt k (area_blocks (over s (suc q)))) [
        | inl high ↦
            let less : q < suc m = div-lt_self (omega arith) (omega (arith, two)) in
            let found = place-found f q k (omega (arith, less, room)) high in
            (suc found.0, (found.1.0, ((omega (arith, found.1.1.0.0, levels-up s two m), omega (arith, found.1.1.0.1, level_blocks-up s two (suc m) found.0)), omega (arith, found.1.1.1, blocks_above-up s two m found.0))))
        | inr low ↦
            (0, (k - area_blocks (over s (suc q)), ((omega (arith, levels-up s two m), omega (arith, inside, low, area_blocks-up s two m, level_blocks-first s two (suc m))), omega (arith, low, blocks_above-first s two m))))
      ]

pub levels-least : (s : ShapeRecord) → IsShape s → ((s.blocks - 1) / per_block s ^ levels s ≡ 0) × ((l : ℕ) → l < levels s → 0 < (s.blocks - 1) / per_block s ^ l)
levels-least s valid =
    let two : 2 ≤ per_block s = two_of s valid in
    let same : levels (over s (suc (s.blocks - 1))) ≡ levels s = ap levels (over-same s valid.some) in
    (top-none s two (per_block-wide s valid).1 [] (levels s) (s.blocks - 1) same, λ l below. below-top s two l (s.blocks - 1) (omega (arith, below, same)))

pub places-inside : (s : ShapeRecord) → IsShape s → (l i : ℕ) → HasBlock s l i → (s.start ≤ position s l i) × (position s l i + 1 ≤ area_end s)
unfolding position
places-inside s valid l i has = (omega arith, let inside : position s l i < area_end s = position-lt s valid l i has.0 has.1 in omega (arith, inside))

abbrev OncePlaced : ShapeRecord → Type 0
OncePlaced s = ((l i m j : ℕ) → HasBlock s l i → HasBlock s m j → position s l i ≡ position s m j → (l ≡ m) × (i ≡ j))
    × ((k : ℕ) → k < area_blocks s → (l : ℕ) × ((i : ℕ) × (HasBlock s l i × (position s l i ≡ s.start + k))))

once-over : (s : ShapeRecord) → 2 ≤ per_block s → (m : ℕ) → OncePlaced (over s (suc m))
unfolding position
once-over s two m = (
  λ l i k j here there same. place-same s two l k m i j here.0 here.1 there.0 there.1 (omega (arith, same)),
  λ k inside. let found = place-found s two m m k (omega arith) inside in (found.0, (found.1.0, (found.1.1.0, omega (arith, found.1.1.1)))),
)

pub places-once : (s : ShapeRecord) → IsShape s → OncePlaced s
places-once s valid = subst OncePlaced (over-same s valid.some) (once-over s (two_of s valid) (s.blocks - 1))

same_element : (xs ys : List (List ℕ)) (i j : ℕ) → i < length xs → j < length ys → get_or xs i [] ≡ get_or ys j [] → slice_get xs i ≡ slice_get ys j
same_element xs ys i j hi hj same = slice_get-get_or xs i [] hi ∙ ap Some same ∙ sym (slice_get-get_or ys j [] hj)

pub stands-in_shape : (s : ShapeRecord) → IsShape s → (salt : List ℕ) (digests : List (List ℕ)) → AreDigests s.blocks digests → StandsInShape s salt digests
unfolding position
stands-in_shape s valid salt digests are =
    let two : 2 ≤ per_block s = two_of s valid in
    let whole = (per_block-wide s valid).1 in
    let m = s.blocks - 1 in
    let counted : length digests ≡ suc m = omega (arith, are.count, valid.some) in
    let shape = over-same s valid.some in
    let total : length (area s.hash_block salt digests) ≡ area_blocks s = length-area_of s valid salt digests are.sized are.count in
    let level_count = λ (l : ℕ). length-level s two whole salt l m digests are.sized counted ∙ ap (λ t. level_blocks t l) shape in
    record {
      total = total;
      sized = area-sized s two whole salt m digests are.sized counted;
      counts = λ l below. level_count l;
      places = λ l i has.
          let above : blocks_above s l + i < area_blocks s = above-lt s valid l i has.0 has.1 in
          let at : s.start + blocks_above s l + i - s.start ≡ blocks_above s l + i = omega arith in
          let place : get_or (area s.hash_block salt digests) (blocks_above s l + i) [] ≡ get_or (level s.hash_block salt digests l) i [] =
          ap (λ t. get_or (area s.hash_block salt digests) (blocks_above t l + i) []) (sym shape)
          ∙ area-place s two whole salt l m i digests are.sized counted (subst (λ (t : ShapeRecord). l < levels t) (sym shape) has.0) (subst (λ (t : ShapeRecord). i < level_blocks t l) (sym shape) has.1) in
          ap (slice_get (area s.hash_block salt digests)) at
          ∙ same_element (area s.hash_block salt digests) (level s.hash_block salt digests l) (blocks_above s l + i) i (omega (arith, above, total)) (omega (arith, has.1, level_count l)) place;
    }
