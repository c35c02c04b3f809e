-- Two vectors whose bits are swapped under a mask, and three such steps that turn eight vectors.
use Rattle.std.proofs.lemmas.Bool.{cases_lt}
use Rattle.std.proofs.Common.{◌≡◌, ℕ, zero, suc, ◌+◌, ◌-◌, ◌*◌, ◌/◌, ◌%◌, ◌^◌, ◌<◌, ◌≤◌, ◌⊎◌, true, List, length, slice_index, nat_eq, bit_and, bit_xor, min, inl, inr, refl, sym, ap, ◌∙◌, arith}
use Rattle.std.specs.Int.{bit_at}
use Rattle.std.specs.Prelude.{replicate}
use Rattle.std.specs.Simd.Lanes.{zip2}
use Rattle.std.proofs.lemmas.Simd.{length-replicate, get_or-replicate}
use Rattle.std.proofs.lemmas.Nat.{xor_lt, and_le_r}
use Rattle.std.proofs.lemmas.Nat.Bits.{bit_at_and, bit_at_xor, bit_at-lt}
use Rattle.aes_block.proofs.lemmas.ByteLemmas.{all_below, same_below}
use Rattle.aes_lanes.specs.Planes.{lane, differing_bits, first_swapped, second_swapped, exchanged, AreExchanged, AreTurned}
use Rattle.aes_lanes.proofs.LaneLemmas.{below_eight, length-zipped, slice_index-zipped}

-- ---- the vectors

module _ (x y : List ℕ) (by mask : ℕ) (left : length x ≡ 32) (right : length y ≡ 32) where
  shifts : List ℕ
  shifts = replicate 32 by

  masks : List ℕ
  masks = replicate 32 mask

  -- the steps, each a vector
  lower : List ℕ
  lower = zip2 (λ a n. a / 2 ^ n) x shifts

  differ : List ℕ
  differ = zip2 bit_xor lower y

  kept : List ℕ
  kept = zip2 bit_and differ masks

  raised : List ℕ
  raised = zip2 (λ a n. a * 2 ^ n % 2 ^ 8) kept shifts

  length-lower : length lower ≡ 32
  unfolding lower shifts
  length-lower = length-zipped (λ a n. a / 2 ^ n) x (replicate 32 by) left (length-replicate 32 by)

  length-kept : length kept ≡ 32
  unfolding kept differ masks
  length-kept = length-zipped bit_and (zip2 bit_xor lower y) (replicate 32 mask) (length-zipped bit_xor lower y length-lower right) (length-replicate 32 mask)

  length-raised : length raised ≡ 32
  unfolding raised shifts
  length-raised = length-zipped (λ a n. a * 2 ^ n % 2 ^ 8) kept (replicate 32 by) length-kept (length-replicate 32 by)

  kept-at : (p : ℕ) → p < 32 → slice_index kept p ≡ differing_bits by mask (slice_index x p) (slice_index y p)
  unfolding kept differ lower shifts masks
  kept-at p h =
      let shift = get_or-replicate 32 p by 0 h in
      let masked = get_or-replicate 32 p mask 0 h in
      let one = slice_index-zipped (λ a n. a / 2 ^ n) x (replicate 32 by) left (length-replicate 32 by) p h in
      let two = slice_index-zipped bit_xor lower y length-lower right p h in
      let three = slice_index-zipped bit_and (zip2 bit_xor lower y) (replicate 32 mask) (length-zipped bit_xor lower y length-lower right) (length-replicate 32 mask) p h in
      cc (shift, masked, one, two, three)

  pub length-first : length (zip2 bit_xor x (zip2 (λ a n. a * 2 ^ n % 2 ^ 8) (zip2 bit_and (zip2 bit_xor (zip2 (λ a n. a / 2 ^ n) x (replicate 32 by)) y) (replicate 32 mask)) (replicate 32 by))) ≡ 32
  unfolding raised kept differ lower shifts masks
  length-first = length-zipped bit_xor x raised left length-raised

  pub length-second : length (zip2 bit_xor y (zip2 bit_and (zip2 bit_xor (zip2 (λ a n. a / 2 ^ n) x (replicate 32 by)) y) (replicate 32 mask))) ≡ 32
  unfolding kept differ lower shifts masks
  length-second = length-zipped bit_xor y kept right length-kept

  pub first-at : (p : ℕ) → p < 32 → slice_index (zip2 bit_xor x (zip2 (λ a n. a * 2 ^ n % 2 ^ 8) (zip2 bit_and (zip2 bit_xor (zip2 (λ a n. a / 2 ^ n) x (replicate 32 by)) y) (replicate 32 mask)) (replicate 32 by))) p ≡ first_swapped by mask (slice_index x p) (slice_index y p)
  unfolding raised kept differ lower shifts masks
  first-at p h =
      let shift = get_or-replicate 32 p by 0 h in
      let up = slice_index-zipped (λ a n. a * 2 ^ n % 2 ^ 8) kept (replicate 32 by) length-kept (length-replicate 32 by) p h in
      slice_index-zipped bit_xor x raised left length-raised p h
      ∙ ap (bit_xor (slice_index x p)) (up ∙ ap (λ n. slice_index kept p * 2 ^ n % 2 ^ 8) shift ∙ ap (λ m. m * 2 ^ by % 2 ^ 8) (kept-at p h))

  pub second-at : (p : ℕ) → p < 32 → slice_index (zip2 bit_xor y (zip2 bit_and (zip2 bit_xor (zip2 (λ a n. a / 2 ^ n) x (replicate 32 by)) y) (replicate 32 mask))) p ≡ second_swapped by mask (slice_index x p) (slice_index y p)
  unfolding kept differ lower shifts masks
  second-at p h = slice_index-zipped bit_xor y kept right length-kept p h ∙ ap (bit_xor (slice_index y p)) (kept-at p h)

module _ (by mask a b : ℕ) where
  pub first_swapped_lt : a < 256 → first_swapped by mask a b < 256
  first_swapped_lt h = xor_lt 8 a (differing_bits by mask a b * 2 ^ by % 2 ^ 8) h (omega arith)

  pub second_swapped_lt : mask < 256 → b < 256 → second_swapped by mask a b < 256
  second_swapped_lt hm h = xor_lt 8 b (differing_bits by mask a b) h (omega (arith, hm, and_le_r (bit_xor (a / 2 ^ by) b) mask))

-- ---- the bits of two numbers

-- the first number at 0, and else the second
abbrev chosen : ℕ → ℕ → ℕ → ℕ
chosen zero a b = a
chosen (suc n) a b = b

-- what the two steps do to each bit, where bits of weight s are exchanged
pub record Swaps (s : ℕ) (first second : ℕ → ℕ → ℕ) : Type 0 where
  pub first_is : (a b i : ℕ) → i < 8 → bit_at (first a b) i ≡ bit_at (chosen (i / s % 2) a b) (i - i / s % 2 * s)
  pub second_is : (a b i : ℕ) → i < 8 → bit_at (second a b) i ≡ bit_at (chosen (i / s % 2) a b) (i + s - i / s % 2 * s)

module _ (by mask a b : ℕ) where
  -- a bit of what differs
  differing-at : (i : ℕ) → bit_at (differing_bits by mask a b) i ≡ min ((bit_at (a / 2 ^ by) i + bit_at b i) % 2) (bit_at mask i)
  differing-at i = bit_at_and (bit_xor (a / 2 ^ by) b) mask i ∙ ap (λ n. min n (bit_at mask i)) (bit_at_xor (a / 2 ^ by) b i)

  -- a bit of the second number
  second_kept : (i : ℕ) → bit_at mask i ≡ 0 → bit_at (second_swapped by mask a b) i ≡ bit_at b i
  second_kept i out = omega (arith, out, differing-at i, bit_at_xor b (differing_bits by mask a b) i, bit_at-lt b i)

  second_taken : (i j : ℕ) → bit_at mask i ≡ 1 → bit_at (a / 2 ^ by) i ≡ bit_at a j → bit_at (second_swapped by mask a b) i ≡ bit_at a j
  second_taken i j in_mask at = omega (arith, in_mask, at, differing-at i, bit_at_xor b (differing_bits by mask a b) i, bit_at-lt b i, bit_at-lt a j)

  -- a bit of the first
  first_kept : (i : ℕ) → bit_at (differing_bits by mask a b * 2 ^ by % 2 ^ 8) i ≡ 0 → bit_at (first_swapped by mask a b) i ≡ bit_at a i
  first_kept i out = omega (arith, out, bit_at_xor a (differing_bits by mask a b * 2 ^ by % 2 ^ 8) i, bit_at-lt a i)

  first_taken : (i j : ℕ) → bit_at (differing_bits by mask a b * 2 ^ by % 2 ^ 8) i ≡ bit_at (differing_bits by mask a b) j → bit_at mask j ≡ 1 → bit_at (a / 2 ^ by) j ≡ bit_at a i
      → bit_at (first_swapped by mask a b) i ≡ bit_at b j
  first_taken i j up in_mask at = omega (arith, up, in_mask, at, differing-at j, bit_at_xor a (differing_bits by mask a b * 2 ^ by % 2 ^ 8) i, bit_at-lt a i, bit_at-lt b j)

pub Swaps_1 : Swaps 1 (first_swapped 1 0x55) (second_swapped 1 0x55)
Swaps_1 = record {
  first_is = λ a b. below_eight _
      (first_kept 1 0x55 a b 0 (omega arith))
      (first_taken 1 0x55 a b 1 0 (omega arith) refl (omega arith))
      (first_kept 1 0x55 a b 2 (omega (arith, differing-at 1 0x55 a b 1)))
      (first_taken 1 0x55 a b 3 2 (omega arith) refl (omega arith))
      (first_kept 1 0x55 a b 4 (omega (arith, differing-at 1 0x55 a b 3)))
      (first_taken 1 0x55 a b 5 4 (omega arith) refl (omega arith))
      (first_kept 1 0x55 a b 6 (omega (arith, differing-at 1 0x55 a b 5)))
      (first_taken 1 0x55 a b 7 6 (omega arith) refl (omega arith));
  second_is = λ a b. below_eight _
      (second_taken 1 0x55 a b 0 1 refl (omega arith))
      (second_kept 1 0x55 a b 1 refl)
      (second_taken 1 0x55 a b 2 3 refl (omega arith))
      (second_kept 1 0x55 a b 3 refl)
      (second_taken 1 0x55 a b 4 5 refl (omega arith))
      (second_kept 1 0x55 a b 5 refl)
      (second_taken 1 0x55 a b 6 7 refl (omega arith))
      (second_kept 1 0x55 a b 7 refl);
}

pub Swaps_2 : Swaps 2 (first_swapped 2 0x33) (second_swapped 2 0x33)
Swaps_2 = record {
  first_is = λ a b. below_eight _
      (first_kept 2 0x33 a b 0 (omega arith))
      (first_kept 2 0x33 a b 1 (omega arith))
      (first_taken 2 0x33 a b 2 0 (omega arith) refl (omega arith))
      (first_taken 2 0x33 a b 3 1 (omega arith) refl (omega arith))
      (first_kept 2 0x33 a b 4 (omega (arith, differing-at 2 0x33 a b 2)))
      (first_kept 2 0x33 a b 5 (omega (arith, differing-at 2 0x33 a b 3)))
      (first_taken 2 0x33 a b 6 4 (omega arith) refl (omega arith))
      (first_taken 2 0x33 a b 7 5 (omega arith) refl (omega arith));
  second_is = λ a b. below_eight _
      (second_taken 2 0x33 a b 0 2 refl (omega arith))
      (second_taken 2 0x33 a b 1 3 refl (omega arith))
      (second_kept 2 0x33 a b 2 refl)
      (second_kept 2 0x33 a b 3 refl)
      (second_taken 2 0x33 a b 4 6 refl (omega arith))
      (second_taken 2 0x33 a b 5 7 refl (omega arith))
      (second_kept 2 0x33 a b 6 refl)
      (second_kept 2 0x33 a b 7 refl);
}

pub Swaps_4 : Swaps 4 (first_swapped 4 0x0f) (second_swapped 4 0x0f)
Swaps_4 = record {
  first_is = λ a b. below_eight _
      (first_kept 4 0x0f a b 0 (omega arith))
      (first_kept 4 0x0f a b 1 (omega arith))
      (first_kept 4 0x0f a b 2 (omega arith))
      (first_kept 4 0x0f a b 3 (omega arith))
      (first_taken 4 0x0f a b 4 0 (omega arith) refl (omega arith))
      (first_taken 4 0x0f a b 5 1 (omega arith) refl (omega arith))
      (first_taken 4 0x0f a b 6 2 (omega arith) refl (omega arith))
      (first_taken 4 0x0f a b 7 3 (omega arith) refl (omega arith));
  second_is = λ a b. below_eight _
      (second_taken 4 0x0f a b 0 4 refl (omega arith))
      (second_taken 4 0x0f a b 1 5 refl (omega arith))
      (second_taken 4 0x0f a b 2 6 refl (omega arith))
      (second_taken 4 0x0f a b 3 7 refl (omega arith))
      (second_kept 4 0x0f a b 4 refl)
      (second_kept 4 0x0f a b 5 refl)
      (second_kept 4 0x0f a b 6 refl)
      (second_kept 4 0x0f a b 7 refl);
}

-- ---- the bits of eight numbers

pub zero_or_one : (n : ℕ) → (n % 2 ≡ 0) ⊎ (n % 2 ≡ 1)
zero_or_one n = elim (cases_lt (n % 2) 1) [ inl h ↦ inl (omega (arith, h)) | inr h ↦ inr (omega (arith, h)) ]

exchanged_by : (s m n u v : ℕ) → m / s % 2 ≡ u → n / s % 2 ≡ v → exchanged s m n ≡ m - u * s + v * s
exchanged_by s m n u v hu hv = rw (hu, hv) refl

-- each of a pair whose numbers are s apart, and where its bits come from
module _ (s : ℕ) (first second : ℕ → ℕ → ℕ) (swaps : Swaps s first second) (reach : (i : ℕ) → i / s % 2 ≡ 1 → s ≤ i) (old : ℕ → ℕ) where
  pub first_of_pair : (k l i : ℕ) → k / s % 2 ≡ 0 → l ≡ k + s → i < 8 → bit_at (first (old k) (old l)) i ≡ bit_at (old (exchanged s k i)) (exchanged s i k)
  first_of_pair k l i low pair h =
      let start = swaps.first_is (old k) (old l) i h in
      elim (zero_or_one (i / s)) [
        | inl bit ↦
            let row : exchanged s k i ≡ k = exchanged_by s k i 0 0 low bit ∙ omega arith in
            let at : exchanged s i k ≡ i = exchanged_by s i k 0 0 bit low ∙ omega arith in
            start ∙ ap (λ n. bit_at (chosen n (old k) (old l)) (i - n * s)) bit ∙ ap (bit_at (old k)) (omega arith)
            ∙ sym (ap (λ m. bit_at (old m) (exchanged s i k)) row ∙ ap (bit_at (old k)) at)
        | inr bit ↦
            let row : exchanged s k i ≡ l = exchanged_by s k i 0 1 low bit ∙ omega (arith, pair) in
            let at : exchanged s i k ≡ i - s = exchanged_by s i k 1 0 bit low ∙ omega arith in
            start ∙ ap (λ n. bit_at (chosen n (old k) (old l)) (i - n * s)) bit ∙ ap (bit_at (old l)) (omega arith)
            ∙ sym (ap (λ m. bit_at (old m) (exchanged s i k)) row ∙ ap (bit_at (old l)) at)
      ]

  pub second_of_pair : (k l i : ℕ) → k / s % 2 ≡ 1 → k ≡ l + s → i < 8 → bit_at (second (old l) (old k)) i ≡ bit_at (old (exchanged s k i)) (exchanged s i k)
  second_of_pair k l i high pair h =
      let start = swaps.second_is (old l) (old k) i h in
      elim (zero_or_one (i / s)) [
        | inl bit ↦
            let row : exchanged s k i ≡ l = exchanged_by s k i 1 0 high bit ∙ omega (arith, pair) in
            let at : exchanged s i k ≡ i + s = exchanged_by s i k 0 1 bit high ∙ omega arith in
            start ∙ ap (λ n. bit_at (chosen n (old l) (old k)) (i + s - n * s)) bit ∙ ap (bit_at (old l)) (omega arith)
            ∙ sym (ap (λ m. bit_at (old m) (exchanged s i k)) row ∙ ap (bit_at (old l)) at)
        | inr bit ↦
            let row : exchanged s k i ≡ k = exchanged_by s k i 1 1 high bit ∙ omega (arith, pair) in
            let at : exchanged s i k ≡ i = exchanged_by s i k 1 1 bit high ∙ omega (arith, reach i bit) in
            start ∙ ap (λ n. bit_at (chosen n (old l) (old k)) (i + s - n * s)) bit ∙ ap (bit_at (old k)) (omega arith)
            ∙ sym (ap (λ m. bit_at (old m) (exchanged s i k)) row ∙ ap (bit_at (old k)) at)
      ]

-- ---- three steps turn eight vectors

-- what is computed for the 64 pairs of numbers below 8
pairs_below : (f g : ℕ → ℕ → ℕ) → all_below 64 (λ n. nat_eq (f (n / 8) (n % 8)) (g (n / 8) (n % 8))) ≡ true → (k i : ℕ) → k < 8 → i < 8 → f k i ≡ g k i
pairs_below f g computed k i hk hi =
    let row : (8 * k + i) / 8 ≡ k = omega arith in
    let column : (8 * k + i) % 8 ≡ i = omega arith in
    rw (row, column) at (same_below 64 (λ n. f (n / 8) (n % 8)) (λ n. g (n / 8) (n % 8)) computed (8 * k + i) (omega arith))

exchanged_2_lt : (k i : ℕ) → k < 8 → i < 8 → exchanged 2 k i < 8
exchanged_2_lt k i hk hi = omega (arith, pairs_below (exchanged 2) (λ k i. exchanged 2 k i % 8) refl k i hk hi)

exchanged_4_lt : (k i : ℕ) → k < 8 → i < 8 → exchanged 4 k i < 8
exchanged_4_lt k i hk hi = omega (arith, pairs_below (exchanged 4) (λ k i. exchanged 4 k i % 8) refl k i hk hi)

-- the number that three exchanges give
thrice : ℕ → ℕ → ℕ
thrice k i = exchanged 1 (exchanged 2 (exchanged 4 k i) (exchanged 4 i k)) (exchanged 2 (exchanged 4 i k) (exchanged 4 k i))

thrice_is : (k i : ℕ) → k < 8 → i < 8 → thrice k i ≡ i
unfolding thrice
thrice_is = pairs_below thrice (λ k i. i) refl

pub AreTurned-from_exchanged : (q a b r : List (List ℕ)) → AreExchanged 1 q a → AreExchanged 2 a b → AreExchanged 4 b r → AreTurned q r
unfolding thrice
AreTurned-from_exchanged q a b r one two four = record {
  vectors = four.vectors;
  bits = λ p k i hp hk hi.
      let k4 = exchanged_4_lt k i hk hi in
      let i4 = exchanged_4_lt i k hi hk in
      let k2 = exchanged_2_lt (exchanged 4 k i) (exchanged 4 i k) k4 i4 in
      let i2 = exchanged_2_lt (exchanged 4 i k) (exchanged 4 k i) i4 k4 in
      four.bits p k i hp hk hi
      ∙ two.bits p (exchanged 4 k i) (exchanged 4 i k) hp k4 i4
      ∙ one.bits p (exchanged 2 (exchanged 4 k i) (exchanged 4 i k)) (exchanged 2 (exchanged 4 i k) (exchanged 4 k i)) hp k2 i2
      ∙ ap (λ m. bit_at (lane q m p) (thrice i k)) (thrice_is k i hk hi)
      ∙ ap (bit_at (lane q i p)) (thrice_is i k hi hk);
}
