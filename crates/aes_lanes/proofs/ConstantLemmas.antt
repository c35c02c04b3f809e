-- The constant of SubBytes goes through MixColumns and its inverse, and is gone where it is added twice.
use Rattle.std.proofs.Common.{◌≡◌, ℕ, ◌+◌, ◌%◌, ◌<◌, List, length, bit_xor, refl, sym, ap, ◌∙◌, arith}
use Rattle.std.specs.Int.Bits.{xor_zero_r, xor_assoc}
use Rattle.aes_block.specs.Field.{product_low, product}
use Rattle.aes_block.specs.Rounds.{mix_columns, inv_mix_columns, add_round_key, mixed_byte, unmixed_byte}
use Rattle.aes_block.specs.State.{byte_at}
use Rattle.aes_block.proofs.lemmas.ColumnLemmas.{combined, combined-xor, mixed_is, unmixed_is}
use Rattle.aes_block.proofs.lemmas.FieldLemmas.{xor_swap, xor_twice, xor_byte}
use Rattle.aes_block.proofs.lemmas.StateLemmas.{length-state_of, byte_at-state_of, same_state, state_of-same}
use Rattle.aes_lanes.specs.Constant.{add_constant}

pub length-add_constant : (x : List ℕ) → length (add_constant x) ≡ 16
unfolding add_constant
length-add_constant x = length-state_of (λ r c. bit_xor (byte_at x r c) 0x63)

pub byte_at-add_constant : (x : List ℕ) (r c : ℕ) → r < 4 → c < 4 → byte_at (add_constant x) r c ≡ bit_xor (byte_at x r c) 0x63
unfolding add_constant
byte_at-add_constant x r c hr hc = byte_at-state_of (λ r c. bit_xor (byte_at x r c) 0x63) r c hr hc

pub add_constant-twice : (x : List ℕ) → length x ≡ 16 → add_constant (add_constant x) ≡ x
unfolding add_constant
add_constant-twice x long =
    sym (same_state x _ long (λ r c hr hc.
    sym (ap (λ b. bit_xor b 0x63) (byte_at-add_constant x r c hr hc) ∙ xor_twice (byte_at x r c) 0x63)))

-- ---- columns

mixed-constant : combined 2 3 1 1 0x63 0x63 0x63 0x63 ≡ 0x63
unfolding combined product product_low
mixed-constant = refl

unmixed-constant : combined 14 11 13 9 0x63 0x63 0x63 0x63 ≡ 0x63
unfolding combined product product_low
unmixed-constant = refl

module _ (a b c d : ℕ) (ha : a < 256) (hb : b < 256) (hc : c < 256) (hd : d < 256) where
  with_constant : (x : ℕ) → x < 256 → bit_xor x 0x63 < 256
  with_constant x h = xor_byte x 0x63 h (omega arith)

  mixed_byte-constant : mixed_byte (bit_xor a 0x63) (bit_xor b 0x63) (bit_xor c 0x63) (bit_xor d 0x63) ≡ bit_xor (mixed_byte a b c d) 0x63
  mixed_byte-constant =
      let z : 0x63 < 256 = omega arith in
      mixed_is (bit_xor a 0x63) (bit_xor b 0x63) (bit_xor c 0x63) (bit_xor d 0x63) (with_constant c hc) (with_constant d hd)
      ∙ combined-xor 2 3 1 1 a b c d 0x63 0x63 0x63 0x63 ha hb hc hd z z z z
      ∙ ap (bit_xor (combined 2 3 1 1 a b c d)) mixed-constant
      ∙ ap (λ x. bit_xor x 0x63) (sym (mixed_is a b c d hc hd))

  unmixed_byte-constant : unmixed_byte (bit_xor a 0x63) (bit_xor b 0x63) (bit_xor c 0x63) (bit_xor d 0x63) ≡ bit_xor (unmixed_byte a b c d) 0x63
  unmixed_byte-constant =
      let z : 0x63 < 256 = omega arith in
      unmixed_is (bit_xor a 0x63) (bit_xor b 0x63) (bit_xor c 0x63) (bit_xor d 0x63)
      ∙ combined-xor 14 11 13 9 a b c d 0x63 0x63 0x63 0x63 ha hb hc hd z z z z
      ∙ ap (bit_xor (combined 14 11 13 9 a b c d)) unmixed-constant
      ∙ ap (λ x. bit_xor x 0x63) (sym (unmixed_is a b c d))

module _ (x : List ℕ) (fits : (r c : ℕ) → r < 4 → c < 4 → byte_at x r c < 256) where
  pub mix_columns-constant : mix_columns (add_constant x) ≡ add_constant (mix_columns x)
  unfolding mix_columns
  mix_columns-constant =
      sym (same_state (add_constant (mix_columns x)) _ (length-add_constant (mix_columns x)) (λ r c hr hc.
      let r1 = (r + 1) % 4 in
      let r2 = (r + 2) % 4 in
      let r3 = (r + 3) % 4 in
      let h1 : r1 < 4 = omega arith in
      let h2 : r2 < 4 = omega arith in
      let h3 : r3 < 4 = omega arith in
      let e0 = byte_at-add_constant x r c hr hc in
      let e1 = byte_at-add_constant x r1 c h1 hc in
      let e2 = byte_at-add_constant x r2 c h2 hc in
      let e3 = byte_at-add_constant x r3 c h3 hc in
      byte_at-add_constant (mix_columns x) r c hr hc
      ∙ ap (λ b. bit_xor b 0x63) (byte_at-state_of (λ r c. mixed_byte (byte_at x r c) (byte_at x ((r + 1) % 4) c) (byte_at x ((r + 2) % 4) c) (byte_at x ((r + 3) % 4) c)) r c hr hc)
      ∙ sym (mixed_byte-constant (byte_at x r c) (byte_at x r1 c) (byte_at x r2 c) (byte_at x r3 c) (fits r c hr hc) (fits r1 c h1 hc) (fits r2 c h2 hc) (fits r3 c h3 hc))
      ∙ rw (e0, e1, e2, e3) refl))

  pub inv_mix_columns-constant : inv_mix_columns (add_constant x) ≡ add_constant (inv_mix_columns x)
  unfolding inv_mix_columns
  inv_mix_columns-constant =
      sym (same_state (add_constant (inv_mix_columns x)) _ (length-add_constant (inv_mix_columns x)) (λ r c hr hc.
      let r1 = (r + 1) % 4 in
      let r2 = (r + 2) % 4 in
      let r3 = (r + 3) % 4 in
      let h1 : r1 < 4 = omega arith in
      let h2 : r2 < 4 = omega arith in
      let h3 : r3 < 4 = omega arith in
      let e0 = byte_at-add_constant x r c hr hc in
      let e1 = byte_at-add_constant x r1 c h1 hc in
      let e2 = byte_at-add_constant x r2 c h2 hc in
      let e3 = byte_at-add_constant x r3 c h3 hc in
      byte_at-add_constant (inv_mix_columns x) r c hr hc
      ∙ ap (λ b. bit_xor b 0x63) (byte_at-state_of (λ r c. unmixed_byte (byte_at x r c) (byte_at x ((r + 1) % 4) c) (byte_at x ((r + 2) % 4) c) (byte_at x ((r + 3) % 4) c)) r c hr hc)
      ∙ sym (unmixed_byte-constant (byte_at x r c) (byte_at x r1 c) (byte_at x r2 c) (byte_at x r3 c) (fits r c hr hc) (fits r1 c h1 hc) (fits r2 c h2 hc) (fits r3 c h3 hc))
      ∙ rw (e0, e1, e2, e3) refl))

-- mixed columns of a state with the constant
pub mixed-with_constant : (w z : List ℕ) → ((r c : ℕ) → r < 4 → c < 4 → byte_at w r c < 256) → add_constant w ≡ z → mix_columns w ≡ add_constant (mix_columns z)
unfolding mix_columns
mixed-with_constant w z fits plain =
    sym (ap (λ x. add_constant (mix_columns x)) (sym plain) ∙ ap add_constant (mix_columns-constant w fits) ∙ add_constant-twice (mix_columns w) (length-state_of _))

-- ---- round keys

pub length-add_round_key : (x k : List ℕ) → length (add_round_key x k) ≡ 16
unfolding add_round_key
length-add_round_key x k = length-state_of (λ r c. bit_xor (byte_at x r c) (byte_at k r c))

-- the constant in both is gone
pub add_round_key-constants : (x k : List ℕ) → add_round_key (add_constant x) (add_constant k) ≡ add_round_key x k
unfolding add_round_key
add_round_key-constants x k =
    state_of-same _ _ (λ r c hr hc.
    let left = byte_at-add_constant x r c hr hc in
    let right = byte_at-add_constant k r c hr hc in
    let none : bit_xor 0x63 0x63 ≡ 0 = refl in
    ap (λ b. bit_xor b (byte_at (add_constant k) r c)) left
    ∙ ap (bit_xor (bit_xor (byte_at x r c) 0x63)) right
    ∙ xor_swap (byte_at x r c) 0x63 (byte_at k r c) 0x63
    ∙ ap (bit_xor (bit_xor (byte_at x r c) (byte_at k r c))) none
    ∙ xor_zero_r (bit_xor (byte_at x r c) (byte_at k r c)))

-- the constant in the round key stays
pub add_round_key-constant : (x k : List ℕ) → add_round_key x (add_constant k) ≡ add_constant (add_round_key x k)
unfolding add_round_key
add_round_key-constant x k =
    sym (same_state (add_constant (add_round_key x k)) _ (length-add_constant (add_round_key x k)) (λ r c hr hc.
    byte_at-add_constant (add_round_key x k) r c hr hc
    ∙ ap (λ b. bit_xor b 0x63) (byte_at-state_of (λ r c. bit_xor (byte_at x r c) (byte_at k r c)) r c hr hc)
    ∙ xor_assoc (byte_at x r c) (byte_at k r c) 0x63
    ∙ ap (bit_xor (byte_at x r c)) (sym (byte_at-add_constant k r c hr hc))))
