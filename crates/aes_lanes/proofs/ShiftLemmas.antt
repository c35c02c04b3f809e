-- Blocks that are some ShiftRows ahead of how the planes have them.
use Rattle.std.proofs.Common.{◌≡◌, ℕ, zero, suc, ◌+◌, ◌-◌, ◌*◌, ◌/◌, ◌%◌, ◌<◌, List, length, bit_xor, refl, sym, ap, ◌∙◌, arith}
use Rattle.aes_block.specs.Field.{sub_byte, inv_sub_byte}
use Rattle.aes_block.specs.Rounds.{sub_bytes, shift_rows, inv_shift_rows, inv_sub_bytes}
use Rattle.aes_block.specs.State.{byte_at, state_of}
use Rattle.aes_block.proofs.lemmas.StateLemmas.{length-state_of, byte_at-state_of, same_state, state_of-byte_at}
use Rattle.aes_lanes.specs.Constant.{add_constant}
use Rattle.aes_lanes.specs.Planes.{byte_of, lane_block, shifted}
use Rattle.aes_lanes.proofs.PlaneLemmas.{lane_lt, byte_of_lt, byte_at-block_of}

pub below_four : (P : ℕ → Type 0) → P 0 → P 1 → P 2 → P 3 → (r : ℕ) → r < 4 → P r
below_four P p0 p1 p2 p3 zero h = p0
below_four P p0 p1 p2 p3 (suc zero) h = p1
below_four P p0 p1 p2 p3 (suc (suc zero)) h = p2
below_four P p0 p1 p2 p3 (suc (suc (suc zero))) h = p3
below_four P p0 p1 p2 p3 (suc (suc (suc (suc n)))) h = absurd (omega arith)

-- ---- the bytes

column-more : (s r c : ℕ) → r < 4 → ((c + r) % 4 + s * r) % 4 ≡ (c + suc s * r) % 4
column-more s r c = below_four (λ r. ((c + r) % 4 + s * r) % 4 ≡ (c + suc s * r) % 4) (omega arith) (omega arith) (omega arith) (omega arith) r

-- row r of s ShiftRows comes from s * r columns further on
pub byte_at-shifted : (s : ℕ) (x : List ℕ) (r c : ℕ) → r < 4 → c < 4 → byte_at (shifted s x) r c ≡ byte_at x r ((c + s * r) % 4)
unfolding shifted shift_rows
byte_at-shifted zero x r c hr hc =
    let same : c ≡ (c + 0 * r) % 4 = omega arith in
    ap (byte_at x r) same
byte_at-shifted (suc s) x r c hr hc =
    byte_at-state_of (λ r c. byte_at (shifted s x) r ((c + r) % 4)) r c hr hc
    ∙ byte_at-shifted s x r ((c + r) % 4) hr (omega arith)
    ∙ ap (byte_at x r) (column-more s r c hr)

pub length-shifted : (s : ℕ) (x : List ℕ) → length x ≡ 16 → length (shifted s x) ≡ 16
unfolding shifted shift_rows
length-shifted zero x long = long
length-shifted (suc s) x long = length-state_of (λ r c. byte_at (shifted s x) r ((c + r) % 4))

-- two states of 16 bytes with the same bytes
same_bytes : (x y : List ℕ) → length x ≡ 16 → length y ≡ 16 → ((r c : ℕ) → r < 4 → c < 4 → byte_at x r c ≡ byte_at y r c) → x ≡ y
same_bytes x y long_x long_y same = same_state x (byte_at y) long_x same ∙ state_of-byte_at y long_y

-- ---- a block of planes

pub length-block_of : (q : List (List ℕ)) (j : ℕ) → length (lane_block q j) ≡ 16
unfolding lane_block
length-block_of q j = length-state_of (λ r c. byte_of q (16 * (j % 2) + (4 * c + r)) (j / 2))

-- the lane of a byte of block j, s ShiftRows ahead
abbrev pub lane_ahead : ℕ → ℕ → ℕ → ℕ → ℕ
lane_ahead s j r c = 16 * (j % 2) + (4 * ((c + s * r) % 4) + r)

pub lane_ahead_lt : (s j r c : ℕ) → r < 4 → lane_ahead s j r c < 32
lane_ahead_lt s j r c hr = lane_lt j r ((c + s * r) % 4) hr (omega arith)

pub byte_at-ahead : (q : List (List ℕ)) (s j r c : ℕ) → r < 4 → c < 4 → byte_at (shifted s (lane_block q j)) r c ≡ byte_of q (lane_ahead s j r c) (j / 2)
byte_at-ahead q s j r c hr hc = byte_at-shifted s (lane_block q j) r c hr hc ∙ byte_at-block_of q j r ((c + s * r) % 4) hr (omega arith)

pub ahead_lt : (q : List (List ℕ)) (s j r c : ℕ) → r < 4 → c < 4 → byte_at (shifted s (lane_block q j)) r c < 256
ahead_lt q s j r c hr hc = rw (byte_at-ahead q s j r c hr hc) (byte_of_lt q (lane_ahead s j r c) (j / 2))

-- such a block whose bytes are known
pub ahead-is : (q : List (List ℕ)) (f : ℕ → ℕ → ℕ) (s j : ℕ) → ((r c : ℕ) → r < 4 → c < 4 → byte_of q (lane_ahead s j r c) (j / 2) ≡ f r c) → shifted s (lane_block q j) ≡ state_of f
ahead-is q f s j same = same_state (shifted s (lane_block q j)) f (length-shifted s (lane_block q j) (length-block_of q j)) (λ r c hr hc. byte_at-ahead q s j r c hr hc ∙ same r c hr hc)

-- ---- one ShiftRows more or less

pub shifted-zero : (x : List ℕ) → shifted 0 x ≡ x
unfolding shifted
shifted-zero x = refl

pub shifted-more : (s t : ℕ) (x : List ℕ) → t ≡ s + 1 → shifted t x ≡ shift_rows (shifted s x)
unfolding shifted
shifted-more s t x next =
    let e : t ≡ suc s = omega (arith, next) in
    rw e refl

-- four are none
pub shifted-around : (s t : ℕ) (x : List ℕ) → length x ≡ 16 → s % 4 ≡ t % 4 → shifted s x ≡ shifted t x
shifted-around s t x long same =
    same_bytes (shifted s x) (shifted t x) (length-shifted s x long) (length-shifted t x long) (λ r c hr hc.
    let column : (c + s * r) % 4 ≡ (c + t * r) % 4 = below_four (λ r. (c + s * r) % 4 ≡ (c + t * r) % 4) (omega arith) (omega (arith, same)) (omega (arith, same)) (omega (arith, same)) r hr in
    byte_at-shifted s x r c hr hc ∙ ap (byte_at x r) column ∙ sym (byte_at-shifted t x r c hr hc))

-- a ShiftRows of what is ahead, and one before
pub shifted-shift_rows : (s : ℕ) (x : List ℕ) → shifted s (shift_rows x) ≡ shift_rows (shifted s x)
unfolding shifted
shifted-shift_rows zero x = refl
shifted-shift_rows (suc s) x = ap shift_rows (shifted-shift_rows s x)

pub inv_shift_rows-undoes : (x : List ℕ) → length x ≡ 16 → inv_shift_rows (shift_rows x) ≡ x
unfolding shift_rows inv_shift_rows
inv_shift_rows-undoes x long =
    sym (same_state x _ long (λ r c hr hc.
    let back : ((c + 4 - r) % 4 + r) % 4 ≡ c = omega arith in
    sym (byte_at-state_of (λ r c. byte_at x r ((c + r) % 4)) r ((c + 4 - r) % 4) hr (omega arith) ∙ ap (byte_at x r) back)))

pub shift_rows-undoes : (x : List ℕ) → length x ≡ 16 → shift_rows (inv_shift_rows x) ≡ x
unfolding shift_rows inv_shift_rows
shift_rows-undoes x long =
    sym (same_state x _ long (λ r c hr hc.
    let back : ((c + r) % 4 + 4 - r) % 4 ≡ c = omega arith in
    sym (byte_at-state_of (λ r c. byte_at x r ((c + 4 - r) % 4)) r ((c + r) % 4) hr (omega arith) ∙ ap (byte_at x r) back)))

pub length-sub_bytes : (x : List ℕ) → length (sub_bytes x) ≡ 16
unfolding sub_bytes
length-sub_bytes x = length-state_of (λ r c. sub_byte (byte_at x r c))

pub length-shift_rows : (x : List ℕ) → length (shift_rows x) ≡ 16
unfolding shift_rows
length-shift_rows x = length-state_of (λ r c. byte_at x r ((c + r) % 4))

-- rows that were moved back are one ShiftRows less ahead
pub shifted-back : (s t : ℕ) (x : List ℕ) → length x ≡ 16 → t ≡ s + 1 → shifted t (inv_shift_rows x) ≡ shifted s x
shifted-back s t x long next = shifted-more s t (inv_shift_rows x) next ∙ sym (shifted-shift_rows s (inv_shift_rows x)) ∙ ap (shifted s) (shift_rows-undoes x long)

-- and one ShiftRows less is an InvShiftRows more
pub shifted-less : (s t : ℕ) (x : List ℕ) → length x ≡ 16 → t ≡ s + 1 → shifted s x ≡ inv_shift_rows (shifted t x)
shifted-less s t x long next = sym (ap inv_shift_rows (shifted-more s t x next) ∙ inv_shift_rows-undoes (shifted s x) (length-shifted s x long))

-- ---- a map of each byte

-- the state whose bytes went through a map
each : (ℕ → ℕ) → List ℕ → List ℕ
each f x = state_of (λ r c. f (byte_at x r c))

shifted-each : (f : ℕ → ℕ) (s : ℕ) (x : List ℕ) → shifted s (each f x) ≡ each f (shifted s x)
unfolding each
shifted-each f s x =
    same_state (shifted s (each f x)) (λ r c. f (byte_at (shifted s x) r c)) (length-shifted s (each f x) (length-state_of (λ r c. f (byte_at x r c)))) (λ r c hr hc.
    byte_at-shifted s (each f x) r c hr hc
    ∙ byte_at-state_of (λ r c. f (byte_at x r c)) r ((c + s * r) % 4) hr (omega arith)
    ∙ ap f (sym (byte_at-shifted s x r c hr hc)))

pub shifted-sub_bytes : (s : ℕ) (x : List ℕ) → shifted s (sub_bytes x) ≡ sub_bytes (shifted s x)
unfolding each sub_bytes
shifted-sub_bytes s x = shifted-each sub_byte s x

pub shifted-inv_sub_bytes : (s : ℕ) (x : List ℕ) → shifted s (inv_sub_bytes x) ≡ inv_sub_bytes (shifted s x)
unfolding each inv_sub_bytes
shifted-inv_sub_bytes s x = shifted-each inv_sub_byte s x

pub shifted-add_constant : (s : ℕ) (x : List ℕ) → shifted s (add_constant x) ≡ add_constant (shifted s x)
unfolding each add_constant
shifted-add_constant s x = shifted-each (λ b. bit_xor b 0x63) s x
