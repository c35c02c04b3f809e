-- What holds of each lane.
use Rattle.std.proofs.Common.{◌≡◌, ℕ, zero, suc, ◌+◌, ◌*◌, ◌/◌, ◌%◌, ◌<◌, true, nat_eq, List, [], ◌++◌, length, get_or, slice_index, slice_index_or, w8, sym, ap, ◌∙◌, arith}
use Rattle.std.specs.Simd.Lanes.{zip2, pick_l}
use Rattle.std.proofs.lemmas.Simd.{length-zip2, get_or-zip2}
use Rattle.std.proofs.lemmas.List.{get_or-map, get_or_append_left, length-map}
use Rattle.aes_block.proofs.lemmas.ByteLemmas.{all_below, same_below}

pub below_eight : (P : ℕ → Type 0) → P 0 → P 1 → P 2 → P 3 → P 4 → P 5 → P 6 → P 7 → (j : ℕ) → j < 8 → P j
below_eight P p0 p1 p2 p3 p4 p5 p6 p7 zero h = p0
below_eight P p0 p1 p2 p3 p4 p5 p6 p7 (suc zero) h = p1
below_eight P p0 p1 p2 p3 p4 p5 p6 p7 (suc (suc zero)) h = p2
below_eight P p0 p1 p2 p3 p4 p5 p6 p7 (suc (suc (suc zero))) h = p3
below_eight P p0 p1 p2 p3 p4 p5 p6 p7 (suc (suc (suc (suc zero)))) h = p4
below_eight P p0 p1 p2 p3 p4 p5 p6 p7 (suc (suc (suc (suc (suc zero))))) h = p5
below_eight P p0 p1 p2 p3 p4 p5 p6 p7 (suc (suc (suc (suc (suc (suc zero)))))) h = p6
below_eight P p0 p1 p2 p3 p4 p5 p6 p7 (suc (suc (suc (suc (suc (suc (suc zero))))))) h = p7
below_eight P p0 p1 p2 p3 p4 p5 p6 p7 (suc (suc (suc (suc (suc (suc (suc (suc n)))))))) h = absurd (omega arith)

-- an operation on two vectors
module _ (f : ℕ → ℕ → ℕ) (x y : List ℕ) (left : length x ≡ 32) (right : length y ≡ 32) where
  pub length-zipped : length (zip2 f x y) ≡ 32
  length-zipped = length-zip2 f x y (left ∙ sym right) ∙ left

  pub slice_index-zipped : (p : ℕ) → p < 32 → slice_index (zip2 f x y) p ≡ f (slice_index x p) (slice_index y p)
  slice_index-zipped p h = get_or-zip2 f x y p 0 0 0 (omega (arith, left)) (omega (arith, right))

-- lanes of one vector at other places
module _ (x places : List ℕ) (long : length x ≡ 32) (count : length places ≡ 32) (from : ℕ → ℕ)
    (computed : all_below 32 (λ p. nat_eq (slice_index places p) (from p % 32)) ≡ true) (inside : all_below 32 (λ p. nat_eq (from p % 32) (from p)) ≡ true) where
  pub length-picked : length (pick_l 0 (x ++ x) places) ≡ 32
  length-picked = length-map places (λ k. get_or (x ++ x) k 0) ∙ count

  pub slice_index-picked : (p : ℕ) → p < 32 → slice_index (pick_l 0 (x ++ x) places) p ≡ slice_index x (from p)
  slice_index-picked p h =
      let at = same_below 32 (slice_index places) (λ p. from p % 32) computed p h in
      let in_x = same_below 32 (λ p. from p % 32) from inside p h in
      get_or-map (λ k. get_or (x ++ x) k 0) places p 0 0 (omega (arith, count))
      ∙ get_or_append_left x x 0 (slice_index places p) (omega (arith, at, long))
      ∙ ap (slice_index x) (at ∙ in_x)
