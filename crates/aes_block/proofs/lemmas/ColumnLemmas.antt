-- MixColumns and InvMixColumns undo each other, byte by byte of a column.
-- Both are linear, so it is enough to compute columns with one byte that is not 0.
use Rattle.std.proofs.Common.{◌≡◌, ℕ, ◌<◌, nat_eq, true, refl, arith, bit_xor}
use Rattle.std.specs.Int.Bits.{xor_zero_l, xor_zero_r}
use Rattle.aes_block.specs.Field.{product_low, product}
use Rattle.aes_block.specs.Rounds.{mixed_byte, unmixed_byte}
use Rattle.aes_block.proofs.lemmas.ByteLemmas.{all_below, same_below}
use Rattle.aes_block.proofs.lemmas.FieldLemmas.{product-xor, product_lt, xor_swap, xor_byte}

-- the sum of the products of the bytes of a column by e, f, g and h
unfoldable pub combined : ℕ → ℕ → ℕ → ℕ → ℕ → ℕ → ℕ → ℕ → ℕ
combined e f g h a b c d = bit_xor (bit_xor (product a e) (product b f)) (bit_xor (product c g) (product d h))

product-one-computed : all_below 256 (λ a. nat_eq (product a 1) a) ≡ true
unfolding product product_low
product-one-computed = refl

product-one : (a : ℕ) → a < 256 → product a 1 ≡ a
product-one = same_below 256 (λ a. product a 1) (λ a. a) product-one-computed

pub mixed_is : (a b c d : ℕ) → c < 256 → d < 256 → mixed_byte a b c d ≡ combined 2 3 1 1 a b c d
unfolding combined
mixed_is a b c d hc hd = rw (product-one c hc, product-one d hd) refl

pub unmixed_is : (a b c d : ℕ) → unmixed_byte a b c d ≡ combined 14 11 13 9 a b c d
unfolding combined
unmixed_is a b c d = refl

eight : (p q r s p' q' r' s' : ℕ)
    → bit_xor (bit_xor (bit_xor p p') (bit_xor q q')) (bit_xor (bit_xor r r') (bit_xor s s'))
    ≡ bit_xor (bit_xor (bit_xor p q) (bit_xor r s)) (bit_xor (bit_xor p' q') (bit_xor r' s'))
eight p q r s p' q' r' s' =
    let e1 = xor_swap p p' q q' in
    let e2 = xor_swap r r' s s' in
    let e3 = xor_swap (bit_xor p q) (bit_xor p' q') (bit_xor r s) (bit_xor r' s') in
    cc (e1, e2, e3)

module _ (e f g h : ℕ) where
  pub combined_lt : (a b c d : ℕ) → a < 256 → b < 256 → c < 256 → d < 256 → combined e f g h a b c d < 256
  unfolding combined
  combined_lt a b c d ha hb hc hd =
      xor_byte (bit_xor (product a e) (product b f)) (bit_xor (product c g) (product d h))
      (xor_byte (product a e) (product b f) (product_lt a e ha) (product_lt b f hb))
      (xor_byte (product c g) (product d h) (product_lt c g hc) (product_lt d h hd))

  pub combined-xor : (a b c d a' b' c' d' : ℕ) → a < 256 → b < 256 → c < 256 → d < 256 → a' < 256 → b' < 256 → c' < 256 → d' < 256
      → combined e f g h (bit_xor a a') (bit_xor b b') (bit_xor c c') (bit_xor d d') ≡ bit_xor (combined e f g h a b c d) (combined e f g h a' b' c' d')
  unfolding combined
  combined-xor a b c d a' b' c' d' ha hb hc hd ha' hb' hc' hd' =
      let e1 = product-xor a a' e ha ha' in
      let e2 = product-xor b b' f hb hb' in
      let e3 = product-xor c c' g hc hc' in
      let e4 = product-xor d d' h hd hd' in
      let e5 = eight (product a e) (product b f) (product c g) (product d h) (product a' e) (product b' f) (product c' g) (product d' h) in
      cc (e1, e2, e3, e4, e5)

-- a column combined by e, f, g, h in each row, and then by i, j, k, l in its first row
unfoldable pub twice : ℕ → ℕ → ℕ → ℕ → ℕ → ℕ → ℕ → ℕ → ℕ → ℕ → ℕ → ℕ → ℕ
twice e f g h i j k l a b c d = combined i j k l (combined e f g h a b c d) (combined e f g h b c d a) (combined e f g h c d a b) (combined e f g h d a b c)

module _ (e f g h i j k l : ℕ) where
  twice-xor : (a b c d a' b' c' d' : ℕ) → a < 256 → b < 256 → c < 256 → d < 256 → a' < 256 → b' < 256 → c' < 256 → d' < 256
      → twice e f g h i j k l (bit_xor a a') (bit_xor b b') (bit_xor c c') (bit_xor d d') ≡ bit_xor (twice e f g h i j k l a b c d) (twice e f g h i j k l a' b' c' d')
  unfolding twice
  twice-xor a b c d a' b' c' d' ha hb hc hd ha' hb' hc' hd' =
      let e1 = combined-xor e f g h a b c d a' b' c' d' ha hb hc hd ha' hb' hc' hd' in
      let e2 = combined-xor e f g h b c d a b' c' d' a' hb hc hd ha hb' hc' hd' ha' in
      let e3 = combined-xor e f g h c d a b c' d' a' b' hc hd ha hb hc' hd' ha' hb' in
      let e4 = combined-xor e f g h d a b c d' a' b' c' hd ha hb hc hd' ha' hb' hc' in
      let e5 = combined-xor i j k l (combined e f g h a b c d) (combined e f g h b c d a) (combined e f g h c d a b) (combined e f g h d a b c)
      (combined e f g h a' b' c' d') (combined e f g h b' c' d' a') (combined e f g h c' d' a' b') (combined e f g h d' a' b' c')
      (combined_lt e f g h a b c d ha hb hc hd) (combined_lt e f g h b c d a hb hc hd ha) (combined_lt e f g h c d a b hc hd ha hb) (combined_lt e f g h d a b c hd ha hb hc)
      (combined_lt e f g h a' b' c' d' ha' hb' hc' hd') (combined_lt e f g h b' c' d' a' hb' hc' hd' ha') (combined_lt e f g h c' d' a' b' hc' hd' ha' hb') (combined_lt e f g h d' a' b' c' hd' ha' hb' hc') in
      cc (e1, e2, e3, e4, e5)

  -- what holds of columns with one byte that is not 0 holds of all
  twice_is : all_below 256 (λ a. nat_eq (twice e f g h i j k l a 0 0 0) a) ≡ true
      → all_below 256 (λ b. nat_eq (twice e f g h i j k l 0 b 0 0) 0) ≡ true
      → all_below 256 (λ c. nat_eq (twice e f g h i j k l 0 0 c 0) 0) ≡ true
      → all_below 256 (λ d. nat_eq (twice e f g h i j k l 0 0 0 d) 0) ≡ true
      → (a b c d : ℕ) → a < 256 → b < 256 → c < 256 → d < 256 → twice e f g h i j k l a b c d ≡ a
  twice_is first second third fourth a b c d ha hb hc hd =
      let z : 0 < 256 = omega arith in
      let f1 = same_below 256 (λ x. twice e f g h i j k l x 0 0 0) (λ x. x) first a ha in
      let f2 = same_below 256 (λ x. twice e f g h i j k l 0 x 0 0) (λ x. 0) second b hb in
      let f3 = same_below 256 (λ x. twice e f g h i j k l 0 0 x 0) (λ x. 0) third c hc in
      let f4 = same_below 256 (λ x. twice e f g h i j k l 0 0 0 x) (λ x. 0) fourth d hd in
      let s1 = twice-xor a 0 0 0 0 b c d ha z z z z hb hc hd in
      let s2 = twice-xor 0 b 0 0 0 0 c d z hb z z z z hc hd in
      let s3 = twice-xor 0 0 c 0 0 0 0 d z z hc z z z z hd in
      let ra = xor_zero_r a in
      let rb = xor_zero_r b in
      let rc = xor_zero_r c in
      let lb = xor_zero_l b in
      let lc = xor_zero_l c in
      let ld = xor_zero_l d in
      let zz : bit_xor 0 0 ≡ 0 = refl in
      cc (f1, f2, f3, f4, s1, s2, s3, ra, rb, rc, lb, lc, ld, zz)

-- InvMixColumns undoes MixColumns
pub unmixed-mixed : (a b c d : ℕ) → a < 256 → b < 256 → c < 256 → d < 256 → twice 2 3 1 1 14 11 13 9 a b c d ≡ a
unfolding product product_low combined twice
unmixed-mixed = twice_is 2 3 1 1 14 11 13 9 refl refl refl refl

-- MixColumns undoes InvMixColumns
pub mixed-unmixed : (a b c d : ℕ) → a < 256 → b < 256 → c < 256 → d < 256 → twice 14 11 13 9 2 3 1 1 a b c d ≡ a
unfolding product product_low combined twice
mixed-unmixed = twice_is 14 11 13 9 2 3 1 1 refl refl refl refl
