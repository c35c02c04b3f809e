-- Each transformation of a round gives a block and is undone by its inverse, both ways.
use Rattle.std.proofs.Common.{◌≡◌, ℕ, ◌+◌, ◌-◌, ◌*◌, ◌%◌, ◌<◌, List, bit_xor, sym, ap, ◌∙◌, refl, arith}
use Rattle.aes_block.specs.Field.{sub_byte, inv_sub_byte}
use Rattle.aes_block.specs.State.{IsBytes, IsBlock, byte_at, state_of}
use Rattle.aes_block.specs.Rounds.{sub_bytes, shift_rows, mix_columns, add_round_key, inv_shift_rows, inv_sub_bytes, inv_mix_columns}
use Rattle.aes_block.proofs.lemmas.FieldLemmas.{xor_byte, xor_twice}
use Rattle.aes_block.proofs.SubByteLemmas.{sub_byte_lt, inv_sub_byte_lt, inv_sub_byte-sub_byte, sub_byte-inv_sub_byte}
use Rattle.aes_block.proofs.lemmas.StateLemmas.{byte_at-state_of, state_of-same, state_of-byte_at, IsBlock-state_of}
use Rattle.aes_block.proofs.lemmas.ColumnLemmas.{combined, combined_lt, combined-xor, mixed_is, unmixed_is, twice, mixed-unmixed, unmixed-mixed}

-- a state whose bytes are those of a block is that block
same_block : (f : ℕ → ℕ → ℕ) (s : List ℕ) → IsBlock s → ((r c : ℕ) → r < 4 → c < 4 → f r c ≡ byte_at s r c) → state_of f ≡ s
same_block f s block same = state_of-same f (byte_at s) same ∙ state_of-byte_at s block.len

-- ---- SubBytes

pub IsBlock-sub_bytes : (s : List ℕ) → IsBlock s → IsBlock (sub_bytes s)
unfolding sub_bytes
IsBlock-sub_bytes s block = IsBlock-state_of (λ r c. sub_byte (byte_at s r c)) (λ r c hr hc. sub_byte_lt (byte_at s r c) (block.bytes (4 * c + r)))

pub IsBlock-inv_sub_bytes : (s : List ℕ) → IsBlock s → IsBlock (inv_sub_bytes s)
unfolding inv_sub_bytes
IsBlock-inv_sub_bytes s block = IsBlock-state_of (λ r c. inv_sub_byte (byte_at s r c)) (λ r c hr hc. inv_sub_byte_lt (byte_at s r c) (block.bytes (4 * c + r)))

pub inv_sub_bytes-sub_bytes : (s : List ℕ) → IsBlock s → inv_sub_bytes (sub_bytes s) ≡ s
unfolding sub_bytes inv_sub_bytes
inv_sub_bytes-sub_bytes s block =
    same_block _ s block (λ r c hr hc. ap inv_sub_byte (byte_at-state_of (λ r c. sub_byte (byte_at s r c)) r c hr hc) ∙ inv_sub_byte-sub_byte (byte_at s r c) (block.bytes (4 * c + r)))

pub sub_bytes-inv_sub_bytes : (s : List ℕ) → IsBlock s → sub_bytes (inv_sub_bytes s) ≡ s
unfolding sub_bytes inv_sub_bytes
sub_bytes-inv_sub_bytes s block =
    same_block _ s block (λ r c hr hc. ap sub_byte (byte_at-state_of (λ r c. inv_sub_byte (byte_at s r c)) r c hr hc) ∙ sub_byte-inv_sub_byte (byte_at s r c) (block.bytes (4 * c + r)))

-- ---- ShiftRows

pub IsBlock-shift_rows : (s : List ℕ) → IsBlock s → IsBlock (shift_rows s)
unfolding shift_rows
IsBlock-shift_rows s block = IsBlock-state_of (λ r c. byte_at s r ((c + r) % 4)) (λ r c hr hc. block.bytes (4 * ((c + r) % 4) + r))

pub IsBlock-inv_shift_rows : (s : List ℕ) → IsBlock s → IsBlock (inv_shift_rows s)
unfolding inv_shift_rows
IsBlock-inv_shift_rows s block = IsBlock-state_of (λ r c. byte_at s r ((c + 4 - r) % 4)) (λ r c hr hc. block.bytes (4 * ((c + 4 - r) % 4) + r))

pub inv_shift_rows-shift_rows : (s : List ℕ) → IsBlock s → inv_shift_rows (shift_rows s) ≡ s
unfolding shift_rows inv_shift_rows
inv_shift_rows-shift_rows s block =
    same_block _ s block (λ r c hr hc.
    let back : ((c + 4 - r) % 4 + r) % 4 ≡ c = omega arith in
    byte_at-state_of (λ r c. byte_at s r ((c + r) % 4)) r ((c + 4 - r) % 4) hr (omega arith) ∙ ap (byte_at s r) back)

pub shift_rows-inv_shift_rows : (s : List ℕ) → IsBlock s → shift_rows (inv_shift_rows s) ≡ s
unfolding shift_rows inv_shift_rows
shift_rows-inv_shift_rows s block =
    same_block _ s block (λ r c hr hc.
    let back : ((c + r) % 4 + 4 - r) % 4 ≡ c = omega arith in
    byte_at-state_of (λ r c. byte_at s r ((c + 4 - r) % 4)) r ((c + r) % 4) hr (omega arith) ∙ ap (byte_at s r) back)

-- ---- MixColumns

-- the state of columns that are combined by e, f, g and h
columns : ℕ → ℕ → ℕ → ℕ → List ℕ → List ℕ
columns e f g h s = state_of (λ r c. combined e f g h (byte_at s r c) (byte_at s ((r + 1) % 4) c) (byte_at s ((r + 2) % 4) c) (byte_at s ((r + 3) % 4) c))

module _ (e f g h : ℕ) where
  IsBlock-columns : (s : List ℕ) → IsBlock s → IsBlock (columns e f g h s)
  unfolding columns
  IsBlock-columns s block =
      IsBlock-state_of (λ r c. combined e f g h (byte_at s r c) (byte_at s ((r + 1) % 4) c) (byte_at s ((r + 2) % 4) c) (byte_at s ((r + 3) % 4) c)) (λ r c hr hc.
      combined_lt e f g h (byte_at s r c) (byte_at s ((r + 1) % 4) c) (byte_at s ((r + 2) % 4) c) (byte_at s ((r + 3) % 4) c)
      (block.bytes (4 * c + r)) (block.bytes (4 * c + (r + 1) % 4)) (block.bytes (4 * c + (r + 2) % 4)) (block.bytes (4 * c + (r + 3) % 4)))

  -- the column's bytes from row q on, where they are rows q, q1, q2 and q3
  byte_at-columns : (s : List ℕ) (q q1 q2 q3 c : ℕ) → q < 4 → c < 4 → (q + 1) % 4 ≡ q1 → (q + 2) % 4 ≡ q2 → (q + 3) % 4 ≡ q3
      → byte_at (columns e f g h s) q c ≡ combined e f g h (byte_at s q c) (byte_at s q1 c) (byte_at s q2 c) (byte_at s q3 c)
  unfolding columns
  byte_at-columns s q q1 q2 q3 c hq hc e1 e2 e3 =
      let at = byte_at-state_of (λ r c. combined e f g h (byte_at s r c) (byte_at s ((r + 1) % 4) c) (byte_at s ((r + 2) % 4) c) (byte_at s ((r + 3) % 4) c)) q c hq hc in
      cc (at, e1, e2, e3)

  -- combined columns of a sum are the sum of combined columns
  columns-add_round_key : (s k : List ℕ) → IsBlock s → IsBlock k → columns e f g h (add_round_key s k) ≡ add_round_key (columns e f g h s) (columns e f g h k)
  unfolding columns add_round_key
  columns-add_round_key s k block key =
      let sum = λ (r c : ℕ). bit_xor (byte_at s r c) (byte_at k r c) in
      state_of-same _ _ (λ r c hr hc.
      let r1 = (r + 1) % 4 in
      let r2 = (r + 2) % 4 in
      let r3 = (r + 3) % 4 in
      let s0 = byte_at-state_of sum r c hr hc in
      let s1 = byte_at-state_of sum r1 c (omega arith) hc in
      let s2 = byte_at-state_of sum r2 c (omega arith) hc in
      let s3 = byte_at-state_of sum r3 c (omega arith) hc in
      let left = byte_at-columns s r r1 r2 r3 c hr hc refl refl refl in
      let right = byte_at-columns k r r1 r2 r3 c hr hc refl refl refl in
      let linear = combined-xor e f g h (byte_at s r c) (byte_at s r1 c) (byte_at s r2 c) (byte_at s r3 c) (byte_at k r c) (byte_at k r1 c) (byte_at k r2 c) (byte_at k r3 c)
      (block.bytes (4 * c + r)) (block.bytes (4 * c + r1)) (block.bytes (4 * c + r2)) (block.bytes (4 * c + r3))
      (key.bytes (4 * c + r)) (key.bytes (4 * c + r1)) (key.bytes (4 * c + r2)) (key.bytes (4 * c + r3)) in
      cc (s0, s1, s2, s3, left, right, linear))

module _ (e f g h i j k l : ℕ) (undone : (a b c d : ℕ) → a < 256 → b < 256 → c < 256 → d < 256 → twice e f g h i j k l a b c d ≡ a) where
  columns-columns : (s : List ℕ) → IsBlock s → columns i j k l (columns e f g h s) ≡ s
  unfolding columns twice
  columns-columns s block =
      same_block (λ r c. combined i j k l (byte_at (columns e f g h s) r c) (byte_at (columns e f g h s) ((r + 1) % 4) c) (byte_at (columns e f g h s) ((r + 2) % 4) c) (byte_at (columns e f g h s) ((r + 3) % 4) c)) s block (λ r c hr hc.
      let r1 = (r + 1) % 4 in
      let r2 = (r + 2) % 4 in
      let r3 = (r + 3) % 4 in
      let c0 = byte_at-columns e f g h s r r1 r2 r3 c hr hc refl refl refl in
      let c1 = byte_at-columns e f g h s r1 r2 r3 r c (omega arith) hc (omega arith) (omega arith) (omega arith) in
      let c2 = byte_at-columns e f g h s r2 r3 r r1 c (omega arith) hc (omega arith) (omega arith) (omega arith) in
      let c3 = byte_at-columns e f g h s r3 r r1 r2 c (omega arith) hc (omega arith) (omega arith) (omega arith) in
      let back = undone (byte_at s r c) (byte_at s r1 c) (byte_at s r2 c) (byte_at s r3 c) (block.bytes (4 * c + r)) (block.bytes (4 * c + r1)) (block.bytes (4 * c + r2)) (block.bytes (4 * c + r3)) in
      cc (c0, c1, c2, c3, back))

mix_columns_is : (s : List ℕ) → IsBlock s → mix_columns s ≡ columns 2 3 1 1 s
unfolding mix_columns columns
mix_columns_is s block =
    state_of-same _ _ (λ r c hr hc. mixed_is (byte_at s r c) (byte_at s ((r + 1) % 4) c) (byte_at s ((r + 2) % 4) c) (byte_at s ((r + 3) % 4) c) (block.bytes (4 * c + (r + 2) % 4)) (block.bytes (4 * c + (r + 3) % 4)))

inv_mix_columns_is : (s : List ℕ) → inv_mix_columns s ≡ columns 14 11 13 9 s
unfolding inv_mix_columns columns
inv_mix_columns_is s =
    state_of-same _ _ (λ r c hr hc. unmixed_is (byte_at s r c) (byte_at s ((r + 1) % 4) c) (byte_at s ((r + 2) % 4) c) (byte_at s ((r + 3) % 4) c))

pub IsBlock-mix_columns : (s : List ℕ) → IsBlock s → IsBlock (mix_columns s)
IsBlock-mix_columns s block = rw (mix_columns_is s block) (IsBlock-columns 2 3 1 1 s block)

pub IsBlock-inv_mix_columns : (s : List ℕ) → IsBlock s → IsBlock (inv_mix_columns s)
IsBlock-inv_mix_columns s block = rw (inv_mix_columns_is s) (IsBlock-columns 14 11 13 9 s block)

pub inv_mix_columns-mix_columns : (s : List ℕ) → IsBlock s → inv_mix_columns (mix_columns s) ≡ s
inv_mix_columns-mix_columns s block =
    inv_mix_columns_is (mix_columns s) ∙ ap (columns 14 11 13 9) (mix_columns_is s block) ∙ columns-columns 2 3 1 1 14 11 13 9 unmixed-mixed s block

pub mix_columns-inv_mix_columns : (s : List ℕ) → IsBlock s → mix_columns (inv_mix_columns s) ≡ s
mix_columns-inv_mix_columns s block =
    mix_columns_is (inv_mix_columns s) (IsBlock-inv_mix_columns s block) ∙ ap (columns 2 3 1 1) (inv_mix_columns_is s) ∙ columns-columns 14 11 13 9 2 3 1 1 mixed-unmixed s block

-- ---- AddRoundKey

pub IsBlock-add_round_key : (s k : List ℕ) → IsBlock s → IsBytes k → IsBlock (add_round_key s k)
unfolding add_round_key
IsBlock-add_round_key s k block bytes =
    IsBlock-state_of (λ r c. bit_xor (byte_at s r c) (byte_at k r c)) (λ r c hr hc. xor_byte (byte_at s r c) (byte_at k r c) (block.bytes (4 * c + r)) (bytes (4 * c + r)))

pub add_round_key-add_round_key : (s k : List ℕ) → IsBlock s → add_round_key (add_round_key s k) k ≡ s
unfolding add_round_key
add_round_key-add_round_key s k block =
    same_block _ s block (λ r c hr hc.
    ap (λ x. bit_xor x (byte_at k r c)) (byte_at-state_of (λ r c. bit_xor (byte_at s r c) (byte_at k r c)) r c hr hc) ∙ xor_twice (byte_at s r c) (byte_at k r c))

-- a round of the inverse cipher with its round key unmixed
pub inv_mix_columns-keyed : (s k : List ℕ) → IsBlock s → IsBlock k → add_round_key (inv_mix_columns s) (inv_mix_columns k) ≡ inv_mix_columns (add_round_key s k)
inv_mix_columns-keyed s k block key =
    rw (inv_mix_columns_is s, inv_mix_columns_is k, inv_mix_columns_is (add_round_key s k)) (sym (columns-add_round_key 14 11 13 9 s k block key))
