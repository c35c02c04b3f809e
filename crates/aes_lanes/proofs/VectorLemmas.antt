-- Blocks as vectors of 32 bytes.
use Rattle.std.proofs.Common.{◌≡◌, ℕ, ◌+◌, ◌-◌, ◌*◌, ◌/◌, ◌%◌, ◌<◌, ◌≤◌, List, ◌++◌, length, drop, slice_index, inl, inr, sym, ap, ◌∙◌, arith}
use Rattle.std.proofs.lemmas.List.{get_or-take, get_or-drop, length-take-le, length-drop, get_or_past, get_or_append_left, get_or-append_right, length-take, take_all}
use Rattle.std.proofs.lemmas.Bool.{cases_lt}
use Rattle.std.specs.Int.{bit_at}
use Rattle.aes_block.specs.Blocks.{block, joined}
use Rattle.aes_block.proofs.lemmas.BlockLemmas.{joined-same, joined-block}
use Rattle.aes_block.proofs.lemmas.PartLemmas.{length-joined_parts, part-joined}
use Rattle.aes_block.specs.State.{IsBytes}
use Rattle.aes_block.proofs.lemmas.StateLemmas.{same_state}
use Rattle.aes_lanes.specs.Planes.{plane, lane, byte_of, lane_block, AreTurned}
use Rattle.aes_lanes.proofs.PlaneLemmas.{byte_of-from_bits, lane_lt}

pub length-block : (bytes : List ℕ) (j : ℕ) → 16 * j + 16 ≤ length bytes → length (block bytes j) ≡ 16
length-block bytes j h = length-take-le 16 (drop (16 * j) bytes) (omega (arith, length-drop (16 * j) bytes))

slice_index-block : (bytes : List ℕ) (j i : ℕ) → i < 16 → slice_index (block bytes j) i ≡ slice_index bytes (16 * j + i)
slice_index-block bytes j i h = get_or-take 16 (drop (16 * j) bytes) i 0 h ∙ get_or-drop (16 * j) bytes i 0

pub IsBytes-block : (bytes : List ℕ) (j : ℕ) → IsBytes bytes → IsBytes (block bytes j)
IsBytes-block bytes j fits i = elim (cases_lt i 16) [
  | inl h ↦ omega (arith, slice_index-block bytes j i h, fits (16 * j + i))
  | inr h ↦ omega (arith, get_or_past (block bytes j) i 0 (omega (arith, h, length-take 16 (drop (16 * j) bytes))))
]

-- the planes to which vectors were turned have the block of the vectors
module _ (vectors planes : List (List ℕ)) (bits : (p k i : ℕ) → p < 32 → k < 8 → i < 8 → bit_at (lane planes k p) i ≡ bit_at (lane vectors i p) k) where
  pub block_of-turned : (s : List ℕ) (j : ℕ) → j < 16 → length s ≡ 16 → ((i : ℕ) → slice_index s i < 256)
      → ((i : ℕ) → i < 16 → lane vectors (j / 2) (16 * (j % 2) + i) ≡ slice_index s i) → lane_block planes j ≡ s
  unfolding lane_block
  block_of-turned s j h long fits at =
      let b = j / 2 in
      sym (same_state s (λ r c. byte_of planes (16 * (j % 2) + (4 * c + r)) b) long (λ r c hr hc.
      let p = 16 * (j % 2) + (4 * c + r) in
      let hp = lane_lt j r c hr hc in
      let byte = slice_index s (4 * c + r) in
      sym (byte_of-from_bits planes p b byte (fits (4 * c + r)) (λ k hk. bits p k b hp hk (omega arith) ∙ ap (λ n. bit_at n k) (at (4 * c + r) (omega arith))))))

-- those of 256 bytes
pub block_of-vectors : (bytes : List ℕ) (vectors planes : List (List ℕ)) → length bytes ≡ 256 → IsBytes bytes → AreTurned vectors planes
    → ((k p : ℕ) → k < 8 → p < 32 → lane vectors k p ≡ slice_index bytes (32 * k + p)) → (j : ℕ) → j < 16 → lane_block planes j ≡ block bytes j
block_of-vectors bytes vectors planes long fits turned at j h =
    block_of-turned vectors planes turned.bits (block bytes j) j h (length-block bytes j (omega (arith, long))) (IsBytes-block bytes j fits) (λ i hi.
    let place : 32 * (j / 2) + (16 * (j % 2) + i) ≡ 16 * j + i = omega arith in
    at (j / 2) (16 * (j % 2) + i) (omega arith) (omega arith) ∙ ap (slice_index bytes) place ∙ sym (slice_index-block bytes j i hi))

-- vectors of bytes, joined, are the blocks of the planes that were turned to them
pub joined-vectors : (planes vectors : List (List ℕ)) → AreTurned planes vectors → joined (plane vectors) 8 ≡ joined (lane_block planes) 16
joined-vectors planes vectors turned =
    let bytes = joined (plane vectors) 8 in
    let vector = λ (k : ℕ) (h : k < 8). (turned.vectors k h).len in
    let long : length bytes ≡ 256 = length-joined_parts 32 (plane vectors) 8 vector in
    let at = λ (k p : ℕ) (hk : k < 8) (hp : p < 32). ap (λ x. slice_index x p) (sym (part-joined 32 (plane vectors) 8 k vector hk)) ∙ get_or-take 32 (drop (32 * k) bytes) p 0 hp ∙ get_or-drop (32 * k) bytes p 0 in
    let blocks = joined-same (block bytes) (lane_block planes) 16 (λ j h.
    sym (block_of-turned vectors planes (λ p k i hp hk hi. sym (turned.bits p i k hp hi hk)) (block bytes j) j h (length-block bytes j (omega (arith, long)))
    (λ i. elim (cases_lt i 16) [
      | inl hi ↦
          let place : 32 * (j / 2) + (16 * (j % 2) + i) ≡ 16 * j + i = omega arith in
          let byte = (turned.vectors (j / 2) (omega arith)).bytes (16 * (j % 2) + i) (omega arith) in
          let same = at (j / 2) (16 * (j % 2) + i) (omega arith) (omega arith) ∙ ap (slice_index bytes) place ∙ sym (slice_index-block bytes j i hi) in
          omega (arith, byte, same)
      | inr hi ↦ omega (arith, get_or_past (block bytes j) i 0 (omega (arith, hi, length-block bytes j (omega (arith, long)))))
    ])
    (λ i hi.
    let place : 32 * (j / 2) + (16 * (j % 2) + i) ≡ 16 * j + i = omega arith in
    at (j / 2) (16 * (j % 2) + i) (omega arith) (omega arith) ∙ ap (slice_index bytes) place ∙ sym (slice_index-block bytes j i hi)))) in
    sym (sym blocks ∙ joined-block bytes 16 (omega (arith, long)) ∙ take_all 256 bytes (omega (arith, long)))

-- two copies of a block
pub slice_index-twice : (key : List ℕ) → length key ≡ 16 → (half i : ℕ) → half < 2 → i < 16 → slice_index (key ++ key) (16 * half + i) ≡ slice_index key i
slice_index-twice key long half i h hi = elim (cases_lt half 1) [
  | inl first ↦
      let at : 16 * half + i ≡ i = omega (arith, first) in
      ap (slice_index (key ++ key)) at ∙ get_or_append_left key key 0 i (omega (arith, long))
  | inr second ↦
      let at : 16 * half + i - 16 ≡ i = omega (arith, second) in
      get_or-append_right key key 16 (16 * half + i) 0 long (omega (arith, second)) ∙ ap (slice_index key) at
]
