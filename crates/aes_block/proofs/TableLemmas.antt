-- The tables of the rounds: each entry is a byte's share of its mixed column, and four of them make the column.
use Rattle.std.proofs.Common.{◌≡◌, ℕ, zero, suc, ◌+◌, ◌*◌, ◌/◌, ◌%◌, ◌^◌, ◌<◌, nat_eq, true, refl, ap, ◌∙◌, arith, bit_xor}
use Rattle.std.specs.Prelude.{slice_index}
use Rattle.std.specs.Int.Bits.{xor_assoc}
use Rattle.std.proofs.lemmas.Nat.{xor_comm, xor_shr, xor_mod}
use Rattle.aes_block.specs.Field.{product_low, product, sub_byte, inv_sub_byte}
use Rattle.aes_block.specs.Columns.{row_of}
use Rattle.aes_block.specs.declared.s_box.TheConstants.{S_BOX, INV_S_BOX}
use Rattle.aes_block.specs.declared.encryption_tables.TheConstants.{ENCRYPTION_0, ENCRYPTION_1, ENCRYPTION_2, ENCRYPTION_3}
use Rattle.aes_block.specs.declared.decryption_tables.TheConstants.{DECRYPTION_0, DECRYPTION_1, DECRYPTION_2, DECRYPTION_3}
use Rattle.aes_block.proofs.lemmas.ByteLemmas.{all_below, same_below}
use Rattle.aes_block.proofs.lemmas.FieldLemmas.{product_lt}
use Rattle.aes_block.proofs.lemmas.ColumnLemmas.{combined}
use Rattle.aes_block.proofs.SubByteLemmas.{s_box_is, inv_s_box_is}

-- the word of four rows
abbrev word_of : ℕ → ℕ → ℕ → ℕ → ℕ
word_of a b c d = a + 256 * b + 65536 * c + 16777216 * d

-- the word of the products of a byte
unfoldable pub products : ℕ → ℕ → ℕ → ℕ → ℕ → ℕ
products e f g h s = word_of (product s e) (product s f) (product s g) (product s h)

-- ---- the entries

encryption_0-computed : all_below 256 (λ x. nat_eq (slice_index ENCRYPTION_0 x) (products 2 1 1 3 (slice_index S_BOX x))) ≡ true
unfolding product product_low products
encryption_0-computed = refl

encryption_1-computed : all_below 256 (λ x. nat_eq (slice_index ENCRYPTION_1 x) (products 3 2 1 1 (slice_index S_BOX x))) ≡ true
unfolding product product_low products
encryption_1-computed = refl

encryption_2-computed : all_below 256 (λ x. nat_eq (slice_index ENCRYPTION_2 x) (products 1 3 2 1 (slice_index S_BOX x))) ≡ true
unfolding product product_low products
encryption_2-computed = refl

encryption_3-computed : all_below 256 (λ x. nat_eq (slice_index ENCRYPTION_3 x) (products 1 1 3 2 (slice_index S_BOX x))) ≡ true
unfolding product product_low products
encryption_3-computed = refl

decryption_0-computed : all_below 256 (λ x. nat_eq (slice_index DECRYPTION_0 x) (products 14 9 13 11 (slice_index INV_S_BOX x))) ≡ true
unfolding product product_low products
decryption_0-computed = refl

decryption_1-computed : all_below 256 (λ x. nat_eq (slice_index DECRYPTION_1 x) (products 11 14 9 13 (slice_index INV_S_BOX x))) ≡ true
unfolding product product_low products
decryption_1-computed = refl

decryption_2-computed : all_below 256 (λ x. nat_eq (slice_index DECRYPTION_2 x) (products 13 11 14 9 (slice_index INV_S_BOX x))) ≡ true
unfolding product product_low products
decryption_2-computed = refl

decryption_3-computed : all_below 256 (λ x. nat_eq (slice_index DECRYPTION_3 x) (products 9 13 11 14 (slice_index INV_S_BOX x))) ≡ true
unfolding product product_low products
decryption_3-computed = refl

module _ (x : ℕ) (h : x < 256) where
  pub encryption_0_is : slice_index ENCRYPTION_0 x ≡ products 2 1 1 3 (sub_byte x)
  encryption_0_is = same_below 256 (λ k. slice_index ENCRYPTION_0 k) (λ k. products 2 1 1 3 (slice_index S_BOX k)) encryption_0-computed x h ∙ ap (products 2 1 1 3) (s_box_is x h)

  pub encryption_1_is : slice_index ENCRYPTION_1 x ≡ products 3 2 1 1 (sub_byte x)
  encryption_1_is = same_below 256 (λ k. slice_index ENCRYPTION_1 k) (λ k. products 3 2 1 1 (slice_index S_BOX k)) encryption_1-computed x h ∙ ap (products 3 2 1 1) (s_box_is x h)

  pub encryption_2_is : slice_index ENCRYPTION_2 x ≡ products 1 3 2 1 (sub_byte x)
  encryption_2_is = same_below 256 (λ k. slice_index ENCRYPTION_2 k) (λ k. products 1 3 2 1 (slice_index S_BOX k)) encryption_2-computed x h ∙ ap (products 1 3 2 1) (s_box_is x h)

  pub encryption_3_is : slice_index ENCRYPTION_3 x ≡ products 1 1 3 2 (sub_byte x)
  encryption_3_is = same_below 256 (λ k. slice_index ENCRYPTION_3 k) (λ k. products 1 1 3 2 (slice_index S_BOX k)) encryption_3-computed x h ∙ ap (products 1 1 3 2) (s_box_is x h)

  pub decryption_0_is : slice_index DECRYPTION_0 x ≡ products 14 9 13 11 (inv_sub_byte x)
  decryption_0_is = same_below 256 (λ k. slice_index DECRYPTION_0 k) (λ k. products 14 9 13 11 (slice_index INV_S_BOX k)) decryption_0-computed x h ∙ ap (products 14 9 13 11) (inv_s_box_is x h)

  pub decryption_1_is : slice_index DECRYPTION_1 x ≡ products 11 14 9 13 (inv_sub_byte x)
  decryption_1_is = same_below 256 (λ k. slice_index DECRYPTION_1 k) (λ k. products 11 14 9 13 (slice_index INV_S_BOX k)) decryption_1-computed x h ∙ ap (products 11 14 9 13) (inv_s_box_is x h)

  pub decryption_2_is : slice_index DECRYPTION_2 x ≡ products 13 11 14 9 (inv_sub_byte x)
  decryption_2_is = same_below 256 (λ k. slice_index DECRYPTION_2 k) (λ k. products 13 11 14 9 (slice_index INV_S_BOX k)) decryption_2-computed x h ∙ ap (products 13 11 14 9) (inv_s_box_is x h)

  pub decryption_3_is : slice_index DECRYPTION_3 x ≡ products 9 13 11 14 (inv_sub_byte x)
  decryption_3_is = same_below 256 (λ k. slice_index DECRYPTION_3 k) (λ k. products 9 13 11 14 (slice_index INV_S_BOX k)) decryption_3-computed x h ∙ ap (products 9 13 11 14) (inv_s_box_is x h)

-- ---- rows of words

pub below_four : (P : ℕ → Type 0) → P 0 → P 1 → P 2 → P 3 → (r : ℕ) → r < 4 → P r
below_four P p0 p1 p2 p3 zero h = p0
below_four P p0 p1 p2 p3 (suc zero) h = p1
below_four P p0 p1 p2 p3 (suc (suc zero)) h = p2
below_four P p0 p1 p2 p3 (suc (suc (suc zero))) h = p3
below_four P p0 p1 p2 p3 (suc (suc (suc (suc r)))) h = absurd (omega arith)

pub row_of-xor : (a b r : ℕ) → row_of (bit_xor a b) r ≡ bit_xor (row_of a r) (row_of b r)
row_of-xor a b r = ap (λ x. x % 256) (xor_shr a b (8 * r)) ∙ xor_mod (a / 2 ^ (8 * r)) (b / 2 ^ (8 * r)) 8

module _ (e f g h s : ℕ) (fits : s < 256) where
  row_0-products : row_of (products e f g h s) 0 ≡ product s e
  unfolding products
  row_0-products = omega (arith, product_lt s e fits, product_lt s f fits, product_lt s g fits, product_lt s h fits)

  row_1-products : row_of (products e f g h s) 1 ≡ product s f
  unfolding products
  row_1-products = omega (arith, product_lt s e fits, product_lt s f fits, product_lt s g fits, product_lt s h fits)

  row_2-products : row_of (products e f g h s) 2 ≡ product s g
  unfolding products
  row_2-products = omega (arith, product_lt s e fits, product_lt s f fits, product_lt s g fits, product_lt s h fits)

  row_3-products : row_of (products e f g h s) 3 ≡ product s h
  unfolding products
  row_3-products = omega (arith, product_lt s e fits, product_lt s f fits, product_lt s g fits, product_lt s h fits)

-- ---- a column

-- the sum of four, from each of them on
sum_from_0 : (p q r s : ℕ) → bit_xor (bit_xor (bit_xor p q) r) s ≡ bit_xor (bit_xor p q) (bit_xor r s)
sum_from_0 p q r s = xor_assoc (bit_xor p q) r s

sum_from_2 : (p q r s : ℕ) → bit_xor (bit_xor (bit_xor p q) r) s ≡ bit_xor (bit_xor r s) (bit_xor p q)
sum_from_2 p q r s = xor_assoc (bit_xor p q) r s ∙ xor_comm (bit_xor p q) (bit_xor r s)

sum_from_1 : (p q r s : ℕ) → bit_xor (bit_xor (bit_xor p q) r) s ≡ bit_xor (bit_xor q r) (bit_xor s p)
sum_from_1 p q r s =
    let e1 = xor_assoc p q r in
    let e2 = xor_assoc p (bit_xor q r) s in
    let e3 = xor_comm p (bit_xor (bit_xor q r) s) in
    let e4 = xor_assoc (bit_xor q r) s p in
    cc (e1, e2, e3, e4)

sum_from_3 : (p q r s : ℕ) → bit_xor (bit_xor (bit_xor p q) r) s ≡ bit_xor (bit_xor s p) (bit_xor q r)
sum_from_3 p q r s = sum_from_1 p q r s ∙ xor_comm (bit_xor q r) (bit_xor s p)

-- the four shares of a column, each by its table, make the combined column in each row
module _ (e f g h : ℕ) (s : ℕ → ℕ) (fits : (r : ℕ) → s r < 256) where
  pub row_of-shares : (a b c d : ℕ) → a ≡ products e h g f (s 0) → b ≡ products f e h g (s 1) → c ≡ products g f e h (s 2) → d ≡ products h g f e (s 3)
      → (r : ℕ) → r < 4 → row_of (bit_xor (bit_xor (bit_xor a b) c) d) r ≡ combined e f g h (s r) (s ((r + 1) % 4)) (s ((r + 2) % 4)) (s ((r + 3) % 4))
  unfolding combined
  row_of-shares a b c d ha hb hc hd =
      let split = λ (r : ℕ). row_of-xor (bit_xor (bit_xor a b) c) d r ∙ ap (λ x. bit_xor x (row_of d r)) (row_of-xor (bit_xor a b) c r ∙ ap (λ x. bit_xor x (row_of c r)) (row_of-xor a b r)) in
      below_four _
      (cc (split 0, sum_from_0 (row_of a 0) (row_of b 0) (row_of c 0) (row_of d 0), ap (λ n. row_of n 0) ha ∙ row_0-products e h g f (s 0) (fits 0), ap (λ n. row_of n 0) hb ∙ row_0-products f e h g (s 1) (fits 1), ap (λ n. row_of n 0) hc ∙ row_0-products g f e h (s 2) (fits 2), ap (λ n. row_of n 0) hd ∙ row_0-products h g f e (s 3) (fits 3)))
      (cc (split 1, sum_from_1 (row_of a 1) (row_of b 1) (row_of c 1) (row_of d 1), ap (λ n. row_of n 1) ha ∙ row_1-products e h g f (s 0) (fits 0), ap (λ n. row_of n 1) hb ∙ row_1-products f e h g (s 1) (fits 1), ap (λ n. row_of n 1) hc ∙ row_1-products g f e h (s 2) (fits 2), ap (λ n. row_of n 1) hd ∙ row_1-products h g f e (s 3) (fits 3)))
      (cc (split 2, sum_from_2 (row_of a 2) (row_of b 2) (row_of c 2) (row_of d 2), ap (λ n. row_of n 2) ha ∙ row_2-products e h g f (s 0) (fits 0), ap (λ n. row_of n 2) hb ∙ row_2-products f e h g (s 1) (fits 1), ap (λ n. row_of n 2) hc ∙ row_2-products g f e h (s 2) (fits 2), ap (λ n. row_of n 2) hd ∙ row_2-products h g f e (s 3) (fits 3)))
      (cc (split 3, sum_from_3 (row_of a 3) (row_of b 3) (row_of c 3) (row_of d 3), ap (λ n. row_of n 3) ha ∙ row_3-products e h g f (s 0) (fits 0), ap (λ n. row_of n 3) hb ∙ row_3-products f e h g (s 1) (fits 1), ap (λ n. row_of n 3) hc ∙ row_3-products g f e h (s 2) (fits 2), ap (λ n. row_of n 3) hd ∙ row_3-products h g f e (s 3) (fits 3)))
