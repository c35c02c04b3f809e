-- The circuit is the map of SubBytes without its constant: computed for all 256 bytes at once, on the numbers whose bit v is a
-- bit of v.
use Rattle.std.proofs.Common.{◌≡◌, ℕ, ◌+◌, ◌-◌, ◌*◌, ◌/◌, ◌%◌, ◌^◌, ◌<◌, true, List, [], ◌∷◌, nat_eq, slice_index, bit_xor, refl, sym, ap, ◌∙◌, arith}
use Rattle.std.specs.Int.{bit_at}
use Rattle.aes_block.specs.Field.{xtimes, parities, product_low, product, inverse, affine, inv_affine, sub_byte, inv_sub_byte}
use Rattle.aes_block.specs.Rounds.{sub_bytes, inv_sub_bytes}
use Rattle.aes_block.specs.State.{byte_at, state_of}
use Rattle.aes_block.proofs.lemmas.ByteLemmas.{all_below, same_below}
use Rattle.aes_block.proofs.lemmas.StateLemmas.{byte_at-state_of, state_of-same}
use Rattle.aes_lanes.specs.Planes.{ArePlanes, plane, lane, byte_of, lane_block}
use Rattle.aes_lanes.specs.Circuit.{CarriesBit, CarryEach, sums, combined, products, substituted}
use Rattle.aes_lanes.specs.Circuit.{inverse_bits}
use Rattle.aes_lanes.specs.Constant.{add_constant}
use Rattle.aes_lanes.specs.InverseCircuit.{inverse_sums, inverse_substituted}
use Rattle.aes_lanes.proofs.ConstantLemmas.{byte_at-add_constant}
use Rattle.aes_lanes.proofs.LaneLemmas.{below_eight}
use Rattle.aes_lanes.proofs.PlaneLemmas.{parities-same, byte_of_lt, bit_at-byte_of, lane_lt, byte_at-block_of, block_of-is}

-- the number below 2^256 whose bit v is bit k of v
abbrev pub bits_of_bytes : ℕ → ℕ
bits_of_bytes k = (2 ^ 256 - 1) / (2 ^ 2 ^ k + 1) * 2 ^ 2 ^ k

-- for the eight bits of a byte
unfoldable pub inputs : List ℕ
inputs = bits_of_bytes 0 ∷ bits_of_bytes 1 ∷ bits_of_bytes 2 ∷ bits_of_bytes 3 ∷ bits_of_bytes 4 ∷ bits_of_bytes 5 ∷ bits_of_bytes 6 ∷ bits_of_bytes 7 ∷ []

-- what the circuit makes of them
unfoldable pub outputs : List ℕ
outputs = substituted (products (sums inputs) (inverse_bits (combined (sums inputs))))

-- and what that of the inverse makes
unfoldable pub inverse_outputs : List ℕ
inverse_outputs = inverse_substituted (products (inverse_sums inputs) (inverse_bits (combined (inverse_sums inputs))))

inputs-computed : all_below 2048 (λ n. nat_eq (bit_at (slice_index inputs (n / 256)) (n % 256)) (bit_at (n % 256) (n / 256))) ≡ true
unfolding inputs
inputs-computed = refl

-- bit v of the input k is bit k of v
pub inputs_are : (k v : ℕ) → k < 8 → v < 256 → bit_at (slice_index inputs k) v ≡ bit_at v k
inputs_are k v hk hv =
    let row : (256 * k + v) / 256 ≡ k = omega arith in
    let column : (256 * k + v) % 256 ≡ v = omega arith in
    rw (row, column) at (same_below 2048 (λ n. bit_at (slice_index inputs (n / 256)) (n % 256)) (λ n. bit_at (n % 256) (n / 256)) inputs-computed (256 * k + v) (omega arith))

-- the product by x: bit 7 goes to the bits 0, 1, 3 and 4
unfoldable pub doubled : List ℕ
doubled =
    let top = slice_index inputs 7 in
    top ∷ bit_xor (slice_index inputs 0) top ∷ slice_index inputs 1 ∷ bit_xor (slice_index inputs 2) top ∷ bit_xor (slice_index inputs 3) top ∷ slice_index inputs 4 ∷ slice_index inputs 5 ∷ slice_index inputs 6 ∷ []

-- the byte of bit v of each of eight numbers
byte_in : List ℕ → ℕ → ℕ
byte_in ts v = parities (λ k. bit_at (slice_index ts k) v) 8

-- the constant of SubBytes added: its bits 0, 1, 5 and 6 are set
unfoldable pub constant_added : List ℕ
constant_added =
    let ones = 2 ^ 256 - 1 in
    bit_xor (slice_index inputs 0) ones ∷ bit_xor (slice_index inputs 1) ones ∷ slice_index inputs 2 ∷ slice_index inputs 3 ∷ slice_index inputs 4 ∷ bit_xor (slice_index inputs 5) ones ∷ bit_xor (slice_index inputs 6) ones ∷ slice_index inputs 7 ∷ []

constant_added-computed : all_below 256 (λ v. nat_eq (byte_in constant_added v) (bit_xor v 0x63)) ≡ true
unfolding byte_in constant_added inputs
constant_added-computed = refl

doubled-computed : all_below 256 (λ v. nat_eq (byte_in doubled v) (xtimes v)) ≡ true
unfolding byte_in doubled inputs
doubled-computed = refl

outputs-computed : all_below 256 (λ v. nat_eq (byte_in outputs v) (bit_xor (sub_byte v) 0x63)) ≡ true
unfolding byte_in outputs inputs sums combined inverse_bits products substituted product product_low inverse affine sub_byte
outputs-computed = refl

inverse_outputs-computed : all_below 256 (λ v. nat_eq (byte_in inverse_outputs v) (inv_sub_byte (bit_xor v 0x63))) ≡ true
unfolding byte_in inverse_outputs inputs inverse_sums combined inverse_bits products inverse_substituted product product_low inverse inv_affine inv_sub_byte
inverse_outputs-computed = refl

module _ (q : List (List ℕ)) (planes : ArePlanes q) (p b : ℕ) where
  -- the planes carry the inputs
  pub input_carried : (k : ℕ) → k < 8 → CarriesBit p b (byte_of q p b) (plane q k) (slice_index inputs k)
  input_carried k h = record {
    len = planes k h;
    bit = sym (inputs_are k (byte_of q p b) h (byte_of_lt q p b) ∙ bit_at-byte_of q p b k h);
  }

  pub inputs_carried : CarryEach 8 p b (byte_of q p b) q inputs
  unfolding CarryEach
  inputs_carried =
      ((((((((tt, input_carried 0 (omega arith)), input_carried 1 (omega arith)), input_carried 2 (omega arith)), input_carried 3 (omega arith)), input_carried 4 (omega arith)), input_carried 5 (omega arith)), input_carried 6 (omega arith)), input_carried 7 (omega arith))

-- each of eight that carry
carried : (p b v : ℕ) (x : List (List ℕ)) (ts : List ℕ) → CarryEach 8 p b v x ts → (k : ℕ) → k < 8 → CarriesBit p b v (plane x k) (slice_index ts k)
unfolding CarryEach
carried p b v x ts all = below_eight _ all.0.0.0.0.0.0.0.1 all.0.0.0.0.0.0.1 all.0.0.0.0.0.1 all.0.0.0.0.1 all.0.0.0.1 all.0.0.1 all.0.1 all.1

-- planes that carry numbers hold the byte that the numbers' bits give
byte_of-carried : (p b v : ℕ) (r : List (List ℕ)) (ts : List ℕ) → CarryEach 8 p b v r ts → byte_of r p b ≡ byte_in ts v
unfolding byte_of byte_in
byte_of-carried p b v r ts all = parities-same (λ k. bit_at (lane r k p) b) (λ k. bit_at (slice_index ts k) v) 8 (λ k low. (carried p b v r ts all k low).bit)

pub byte_of-outputs : (p b v : ℕ) (r : List (List ℕ)) → v < 256 → CarryEach 8 p b v r outputs → byte_of r p b ≡ bit_xor (sub_byte v) 0x63
byte_of-outputs p b v r h all = byte_of-carried p b v r outputs all ∙ same_below 256 (byte_in outputs) (λ v. bit_xor (sub_byte v) 0x63) outputs-computed v h

pub byte_of-doubled : (p b v : ℕ) (r : List (List ℕ)) → v < 256 → CarryEach 8 p b v r doubled → byte_of r p b ≡ xtimes v
byte_of-doubled p b v r h all = byte_of-carried p b v r doubled all ∙ same_below 256 (byte_in doubled) xtimes doubled-computed v h

pub byte_of-constant_added : (p b v : ℕ) (r : List (List ℕ)) → v < 256 → CarryEach 8 p b v r constant_added → byte_of r p b ≡ bit_xor v 0x63
byte_of-constant_added p b v r h all = byte_of-carried p b v r constant_added all ∙ same_below 256 (byte_in constant_added) (λ v. bit_xor v 0x63) constant_added-computed v h

pub byte_of-inverse_outputs : (p b v : ℕ) (r : List (List ℕ)) → v < 256 → CarryEach 8 p b v r inverse_outputs → byte_of r p b ≡ inv_sub_byte (bit_xor v 0x63)
byte_of-inverse_outputs p b v r h all = byte_of-carried p b v r inverse_outputs all ∙ same_below 256 (byte_in inverse_outputs) (λ v. inv_sub_byte (bit_xor v 0x63)) inverse_outputs-computed v h

pub ArePlanes-carried : (p b v : ℕ) (r : List (List ℕ)) (ts : List ℕ) → CarryEach 8 p b v r ts → ArePlanes r
ArePlanes-carried p b v r ts all k h = (carried p b v r ts all k h).len

-- bytes that went through a map make blocks whose bytes did
module _ (f : ℕ → ℕ) (q r : List (List ℕ)) (same : (p b : ℕ) → p < 32 → b < 8 → byte_of r p b ≡ f (byte_of q p b)) where
  block_of-each : (j : ℕ) → j < 16 → lane_block r j ≡ state_of (λ row c. f (byte_at (lane_block q j) row c))
  block_of-each j h =
      block_of-is r (λ row c. f (byte_at (lane_block q j) row c)) j (λ row c hr hc.
      same (16 * (j % 2) + (4 * c + row)) (j / 2) (lane_lt j row c hr hc) (omega arith)
      ∙ ap f (sym (byte_at-block_of q j row c hr hc)))

pub block_of-constant : (q r : List (List ℕ)) → ((p b : ℕ) → p < 32 → b < 8 → byte_of r p b ≡ bit_xor (byte_of q p b) 0x63) → (j : ℕ) → j < 16 → lane_block r j ≡ add_constant (lane_block q j)
unfolding add_constant
block_of-constant q r same = block_of-each (λ b. bit_xor b 0x63) q r same

pub block_of-sub_bytes : (q r : List (List ℕ)) → ((p b : ℕ) → p < 32 → b < 8 → byte_of r p b ≡ bit_xor (sub_byte (byte_of q p b)) 0x63) → (j : ℕ) → j < 16 → lane_block r j ≡ add_constant (sub_bytes (lane_block q j))
unfolding add_constant sub_bytes
block_of-sub_bytes q r same j h =
    block_of-each (λ b. bit_xor (sub_byte b) 0x63) q r same j h
    ∙ state_of-same _ _ (λ row c hr hc. ap (λ b. bit_xor b 0x63) (sym (byte_at-state_of (λ r c. sub_byte (byte_at (lane_block q j) r c)) row c hr hc)))

pub block_of-inv_sub_bytes : (q r : List (List ℕ)) → ((p b : ℕ) → p < 32 → b < 8 → byte_of r p b ≡ inv_sub_byte (bit_xor (byte_of q p b) 0x63)) → (j : ℕ) → j < 16 → lane_block r j ≡ inv_sub_bytes (add_constant (lane_block q j))
unfolding inv_sub_bytes
block_of-inv_sub_bytes q r same j h =
    block_of-each (λ b. inv_sub_byte (bit_xor b 0x63)) q r same j h
    ∙ state_of-same _ _ (λ row c hr hc. ap inv_sub_byte (sym (byte_at-add_constant (lane_block q j) row c hr hc)))
