-- Bytes and blocks by the bits of planes.
use Rattle.std.proofs.Common.{◌≡◌, ℕ, zero, suc, ◌+◌, ◌*◌, ◌/◌, ◌%◌, ◌<◌, List, bit_xor, refl, sym, ap, ◌∙◌, arith}
use Rattle.std.specs.Int.{bit_at}
use Rattle.std.proofs.lemmas.Nat.Bits.{bit_at_xor, bit_at-lt, same_from_bits_below}
use Rattle.std.proofs.lemmas.Nat.{xor_lt}
use Rattle.aes_block.specs.Field.{parities}
use Rattle.aes_block.specs.State.{byte_at, state_of}
use Rattle.aes_block.proofs.lemmas.StateLemmas.{byte_at-state_of, state_of-same}
use Rattle.aes_lanes.specs.Planes.{lane, byte_of, lane_block, AreSums}
use Rattle.aes_lanes.proofs.LaneLemmas.{below_eight}

-- ---- a number by its bits

parities_lt : (f : ℕ → ℕ) → parities f 8 < 256
parities_lt f = omega arith

bit_at-parities : (f : ℕ → ℕ) (k : ℕ) → k < 8 → bit_at (parities f 8) k ≡ f k % 2
bit_at-parities f =
    below_eight (λ k. bit_at (parities f 8) k ≡ f k % 2) (omega arith) (omega arith) (omega arith) (omega arith) (omega arith) (omega arith) (omega arith) (omega arith)

pub parities-same : (f g : ℕ → ℕ) (n : ℕ) → ((k : ℕ) → k < n → f k ≡ g k) → parities f n ≡ parities g n
parities-same f g zero same = refl
parities-same f g (suc n) same =
    let front = parities-same f g n (λ k h. same k (omega (arith, h))) in
    let last = same n (omega arith) in
    cc (front, last)

-- ---- a byte

module _ (q : List (List ℕ)) (p b : ℕ) where
  pub byte_of_lt : byte_of q p b < 256
  unfolding byte_of
  byte_of_lt = parities_lt (λ k. bit_at (lane q k p) b)

  pub bit_at-byte_of : (k : ℕ) → k < 8 → bit_at (byte_of q p b) k ≡ bit_at (lane q k p) b
  unfolding byte_of
  bit_at-byte_of k h = omega (arith, bit_at-parities (λ k. bit_at (lane q k p) b) k h, bit_at-lt (lane q k p) b)

  -- a byte with those bits
  pub byte_of-from_bits : (n : ℕ) → n < 256 → ((k : ℕ) → k < 8 → bit_at (lane q k p) b ≡ bit_at n k) → byte_of q p b ≡ n
  byte_of-from_bits n h same = same_from_bits_below 8 (byte_of q p b) n byte_of_lt h (λ k low. bit_at-byte_of k low ∙ same k low)

-- a byte that was moved
pub byte_of-moved : (q r : List (List ℕ)) (p from b : ℕ) → ((k : ℕ) → k < 8 → lane r k p ≡ lane q k from) → byte_of r p b ≡ byte_of q from b
unfolding byte_of
byte_of-moved q r p from b same = parities-same _ _ 8 (λ k h. ap (λ n. bit_at n b) (same k h))

-- a byte of sums
pub byte_of-sums : (x y z : List (List ℕ)) (p b : ℕ) → p < 32 → AreSums x y z → byte_of z p b ≡ bit_xor (byte_of x p b) (byte_of y p b)
byte_of-sums x y z p b hp sums =
    byte_of-from_bits z p b (bit_xor (byte_of x p b) (byte_of y p b)) (xor_lt 8 (byte_of x p b) (byte_of y p b) (byte_of_lt x p b) (byte_of_lt y p b))
    (λ k h.
    let split = bit_at_xor (lane x k p) (lane y k p) b in
    let joint = bit_at_xor (byte_of x p b) (byte_of y p b) k in
    let left = bit_at-byte_of x p b k h in
    let right = bit_at-byte_of y p b k h in
    let sum = ap (λ n. bit_at n b) (sums.lanes k p h hp) in
    sum ∙ split ∙ ap (λ n. (n + bit_at (lane y k p) b) % 2) (sym left) ∙ ap (λ n. (bit_at (byte_of x p b) k + n) % 2) (sym right) ∙ sym joint)

-- ---- a block

-- the lane of a byte of block j
pub lane_lt : (j r c : ℕ) → r < 4 → c < 4 → 16 * (j % 2) + (4 * c + r) < 32
lane_lt j r c hr hc = omega arith

pub byte_at-block_of : (q : List (List ℕ)) (j r c : ℕ) → r < 4 → c < 4 → byte_at (lane_block q j) r c ≡ byte_of q (16 * (j % 2) + (4 * c + r)) (j / 2)
unfolding lane_block
byte_at-block_of q j r c hr hc = byte_at-state_of (λ r c. byte_of q (16 * (j % 2) + (4 * c + r)) (j / 2)) r c hr hc

-- a block whose bytes are known
pub block_of-is : (q : List (List ℕ)) (f : ℕ → ℕ → ℕ) (j : ℕ) → ((r c : ℕ) → r < 4 → c < 4 → byte_of q (16 * (j % 2) + (4 * c + r)) (j / 2) ≡ f r c) → lane_block q j ≡ state_of f
unfolding lane_block
block_of-is q f j same = state_of-same (λ r c. byte_of q (16 * (j % 2) + (4 * c + r)) (j / 2)) f same
