-- Words of a vector of bytes, and rows of words turned to columns.
use Rattle.std.proofs.Common.{◌≡◌, ℕ, zero, suc, ◌<◌, ◌+◌, ◌*◌, List, [], ◌∷◌, ◌++◌, length, get_or, slice_index, map, refl, ap, ◌∙◌, arith}
use Rattle.std.specs.Simd.Lanes.{Each1, chunk, pick_l, number_l, digits_l}
use Rattle.std.proofs.lemmas.Simd.{get_or_wider}
use Rattle.sha2.specs.Sha256.{word_at}
use Rattle.sha256_lanes.specs.Lanes.{word_of_lane}
use Rattle.sha256_lanes.proofs.LaneLemmas.{below_eight, eight_lanes}

pub below_four : (P : ℕ → Type 0) → P 0 → P 1 → P 2 → P 3 → (k : ℕ) → k < 4 → P k
below_four P p0 p1 p2 p3 zero h = p0
below_four P p0 p1 p2 p3 (suc zero) h = p1
below_four P p0 p1 p2 p3 (suc (suc zero)) h = p2
below_four P p0 p1 p2 p3 (suc (suc (suc zero))) h = p3
below_four P p0 p1 p2 p3 (suc (suc (suc (suc n)))) h = absurd (omega arith)

-- the bytes of two vectors, those of each word in the other order
abbrev reversed_places : List ℕ
reversed_places =
    3 ∷ 2 ∷ 1 ∷ 0 ∷ 7 ∷ 6 ∷ 5 ∷ 4 ∷ 11 ∷ 10 ∷ 9 ∷ 8 ∷ 15 ∷ 14 ∷ 13 ∷ 12
    ∷ 19 ∷ 18 ∷ 17 ∷ 16 ∷ 23 ∷ 22 ∷ 21 ∷ 20 ∷ 27 ∷ 26 ∷ 25 ∷ 24 ∷ 31 ∷ 30 ∷ 29 ∷ 28 ∷ []

abbrev reversed : List ℕ → List ℕ → List ℕ
reversed xs ys = pick_l 0 (xs ++ ys) reversed_places

fits_map : (f : ℕ → ℕ) → ((n : ℕ) → f n < 256) → (ks : List ℕ) → Each1 (λ x. x < 256) (map f ks)
fits_map f small [] = tt
fits_map f small (k ∷ ks) = (small k, fits_map f small ks)

-- the bytes of two vectors
pub byte_of_two : (xs ys : List ℕ) → ((n : ℕ) → get_or xs n 0 < 256) → ((n : ℕ) → get_or ys n 0 < 256) → (n : ℕ) → get_or (xs ++ ys) n 0 < 256
byte_of_two [] ys fx fy n = fy n
byte_of_two (x ∷ xs) ys fx fy zero = fx 0
byte_of_two (x ∷ xs) ys fx fy (suc n) = byte_of_two xs ys (λ k. fx (suc k)) fy n

-- the words that they are
pub words_of_bytes : (xs ys : List ℕ) → ((n : ℕ) → get_or (xs ++ ys) n 0 < 256) → (k : ℕ) → k < 8
    → get_or (digits_l 4294967296 8 (number_l 256 (reversed xs ys))) k 0 ≡ word_at (xs ++ ys) (4 * k)
words_of_bytes xs ys small =
    let fits : Each1 (λ x. x < 256) (reversed xs ys) = fits_map (λ k. get_or (xs ++ ys) k 0) small reversed_places in
    let wide : (k : ℕ) → k < 8 → get_or (digits_l 4294967296 8 (number_l 256 (reversed xs ys))) k 0 ≡ number_l 256 (chunk (4 * k) 4 (reversed xs ys)) =
    λ k h. get_or_wider 256 4 4294967296 8 (reversed xs ys) k refl fits h in
    below_eight _ (wide 0 (omega arith) ∙ omega arith) (wide 1 (omega arith) ∙ omega arith) (wide 2 (omega arith) ∙ omega arith) (wide 3 (omega arith) ∙ omega arith)
    (wide 4 (omega arith) ∙ omega arith) (wide 5 (omega arith) ∙ omega arith) (wide 6 (omega arith) ∙ omega arith) (wide 7 (omega arith) ∙ omega arith)

-- a word of four equal bytes
pub word_at-same : (b d : List ℕ) (i m : ℕ) → ((n : ℕ) → n < 4 → slice_index b (i + n) ≡ slice_index d (m + n)) → word_at b i ≡ word_at d m
word_at-same b d i m same =
    let b0 : slice_index b i ≡ slice_index d m = ap (slice_index b) (omega arith) ∙ same 0 (omega arith) ∙ ap (slice_index d) (omega arith) in
    rw (b0, same 1 (omega arith), same 2 (omega arith), same 3 (omega arith)) refl

-- four rows turned, in each half
abbrev columns : List ℕ → List ℕ → List ℕ → List ℕ → List (List ℕ)
columns a b c d =
    let ab = pick_l 0 (a ++ b) (0 ∷ 8 ∷ 1 ∷ 9 ∷ 4 ∷ 12 ∷ 5 ∷ 13 ∷ []) in
    let cd = pick_l 0 (c ++ d) (0 ∷ 8 ∷ 1 ∷ 9 ∷ 4 ∷ 12 ∷ 5 ∷ 13 ∷ []) in
    let ab_later = pick_l 0 (a ++ b) (2 ∷ 10 ∷ 3 ∷ 11 ∷ 6 ∷ 14 ∷ 7 ∷ 15 ∷ []) in
    let cd_later = pick_l 0 (c ++ d) (2 ∷ 10 ∷ 3 ∷ 11 ∷ 6 ∷ 14 ∷ 7 ∷ 15 ∷ []) in
    pick_l 0 (ab ++ cd) (0 ∷ 1 ∷ 8 ∷ 9 ∷ 4 ∷ 5 ∷ 12 ∷ 13 ∷ [])
    ∷ pick_l 0 (ab ++ cd) (2 ∷ 3 ∷ 10 ∷ 11 ∷ 6 ∷ 7 ∷ 14 ∷ 15 ∷ [])
    ∷ pick_l 0 (ab_later ++ cd_later) (0 ∷ 1 ∷ 8 ∷ 9 ∷ 4 ∷ 5 ∷ 12 ∷ 13 ∷ [])
    ∷ pick_l 0 (ab_later ++ cd_later) (2 ∷ 3 ∷ 10 ∷ 11 ∷ 6 ∷ 7 ∷ 14 ∷ 15 ∷ []) ∷ []

abbrev AreTurned : List ℕ → List ℕ → List ℕ → List ℕ → Type 0
AreTurned a b c d = (k : ℕ) → k < 4 → (j : ℕ) → j < 4
    → (word_of_lane (columns a b c d) k j ≡ word_of_lane (a ∷ b ∷ c ∷ d ∷ []) j k)
    × (word_of_lane (columns a b c d) k (4 + j) ≡ word_of_lane (a ∷ b ∷ c ∷ d ∷ []) j (4 + k))

turned_lanes : (a0 a1 a2 a3 a4 a5 a6 a7 b0 b1 b2 b3 b4 b5 b6 b7 c0 c1 c2 c3 c4 c5 c6 c7 d0 d1 d2 d3 d4 d5 d6 d7 : ℕ)
    → AreTurned (a0 ∷ a1 ∷ a2 ∷ a3 ∷ a4 ∷ a5 ∷ a6 ∷ a7 ∷ []) (b0 ∷ b1 ∷ b2 ∷ b3 ∷ b4 ∷ b5 ∷ b6 ∷ b7 ∷ [])
    (c0 ∷ c1 ∷ c2 ∷ c3 ∷ c4 ∷ c5 ∷ c6 ∷ c7 ∷ []) (d0 ∷ d1 ∷ d2 ∷ d3 ∷ d4 ∷ d5 ∷ d6 ∷ d7 ∷ [])
turned_lanes a0 a1 a2 a3 a4 a5 a6 a7 b0 b1 b2 b3 b4 b5 b6 b7 c0 c1 c2 c3 c4 c5 c6 c7 d0 d1 d2 d3 d4 d5 d6 d7 =
    below_four _ (below_four _ (refl, refl) (refl, refl) (refl, refl) (refl, refl)) (below_four _ (refl, refl) (refl, refl) (refl, refl) (refl, refl))
    (below_four _ (refl, refl) (refl, refl) (refl, refl) (refl, refl)) (below_four _ (refl, refl) (refl, refl) (refl, refl) (refl, refl))

pub turned : (a b c d : List ℕ) → length a ≡ 8 → length b ≡ 8 → length c ≡ 8 → length d ≡ 8 → AreTurned a b c d
turned a b c d la lb lc ld =
    eight_lanes (λ a. AreTurned a b c d) (λ a0 a1 a2 a3 a4 a5 a6 a7.
    eight_lanes (λ b. AreTurned (a0 ∷ a1 ∷ a2 ∷ a3 ∷ a4 ∷ a5 ∷ a6 ∷ a7 ∷ []) b c d) (λ b0 b1 b2 b3 b4 b5 b6 b7.
    eight_lanes (λ c. AreTurned (a0 ∷ a1 ∷ a2 ∷ a3 ∷ a4 ∷ a5 ∷ a6 ∷ a7 ∷ []) (b0 ∷ b1 ∷ b2 ∷ b3 ∷ b4 ∷ b5 ∷ b6 ∷ b7 ∷ []) c d) (λ c0 c1 c2 c3 c4 c5 c6 c7.
    eight_lanes (λ d. AreTurned (a0 ∷ a1 ∷ a2 ∷ a3 ∷ a4 ∷ a5 ∷ a6 ∷ a7 ∷ []) (b0 ∷ b1 ∷ b2 ∷ b3 ∷ b4 ∷ b5 ∷ b6 ∷ b7 ∷ []) (c0 ∷ c1 ∷ c2 ∷ c3 ∷ c4 ∷ c5 ∷ c6 ∷ c7 ∷ []) d) (λ d0 d1 d2 d3 d4 d5 d6 d7.
    turned_lanes a0 a1 a2 a3 a4 a5 a6 a7 b0 b1 b2 b3 b4 b5 b6 b7 c0 c1 c2 c3 c4 c5 c6 c7 d0 d1 d2 d3 d4 d5 d6 d7) d ld) c lc) b lb) a la
