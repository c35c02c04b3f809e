-- States by their columns: what the transformations of a round make of them, row by row.
use Rattle.std.proofs.Common.{◌≡◌, ℕ, ◌+◌, ◌-◌, ◌*◌, ◌%◌, ◌<◌, List, [], ◌∷◌, drop, length, sym, ap, ◌∙◌, arith, bit_xor}
use Rattle.std.specs.Prelude.{slice_index}
use Rattle.std.specs.Int.{from_le_bytes, w32}
use Rattle.std.proofs.lemmas.List.{get_or-take, get_or-drop}
use Rattle.aes_block.specs.Field.{sub_byte, inv_sub_byte}
use Rattle.aes_block.specs.State.{IsBlock, byte_at}
use Rattle.aes_block.specs.Columns.{row_of, state_of_columns}
use Rattle.aes_block.specs.Rounds.{sub_bytes, shift_rows, mixed_byte, mix_columns, add_round_key, inv_shift_rows, inv_sub_bytes, unmixed_byte, inv_mix_columns}
use Rattle.aes_block.specs.KeyExpansion.{round_key}
use Rattle.aes_block.specs.declared.s_box.TheConstants.{S_BOX, INV_S_BOX}
use Rattle.aes_block.specs.declared.encryption_tables.TheConstants.{ENCRYPTION_0, ENCRYPTION_1, ENCRYPTION_2, ENCRYPTION_3}
use Rattle.aes_block.specs.declared.decryption_tables.TheConstants.{DECRYPTION_0, DECRYPTION_1, DECRYPTION_2, DECRYPTION_3}
use Rattle.aes_block.proofs.lemmas.ColumnLemmas.{combined, mixed_is, unmixed_is}
use Rattle.aes_block.proofs.SubByteLemmas.{sub_byte_lt, inv_sub_byte_lt, s_box_is, inv_s_box_is}
use Rattle.aes_block.proofs.lemmas.StateLemmas.{length-state_of, byte_at-state_of, same_state, IsBlock-state_of}
use Rattle.aes_block.proofs.TableLemmas.{products, below_four, row_of-shares, row_of-xor, encryption_0_is, encryption_1_is, encryption_2_is, encryption_3_is, decryption_0_is, decryption_1_is, decryption_2_is, decryption_3_is}

pub byte_at-state_of_columns : (w : List ℕ) (r c : ℕ) → r < 4 → c < 4 → byte_at (state_of_columns w) r c ≡ row_of (slice_index w c) r
unfolding state_of_columns
byte_at-state_of_columns w r c hr hc = byte_at-state_of (λ r c. row_of (slice_index w c) r) r c hr hc

-- a state is that of the columns that have its bytes
pub same_columns : (s w : List ℕ) → length s ≡ 16 → ((c : ℕ) → c < 4 → (r : ℕ) → r < 4 → row_of (slice_index w c) r ≡ byte_at s r c) → state_of_columns w ≡ s
unfolding state_of_columns
same_columns s w len same = sym (same_state s (λ r c. row_of (slice_index w c) r) len (λ r c hr hc. sym (same c hc r hr)))

pub IsBlock-state_of_columns : (w : List ℕ) → IsBlock (state_of_columns w)
unfolding state_of_columns
IsBlock-state_of_columns w = IsBlock-state_of (λ r c. row_of (slice_index w c) r) (λ r c hr hc. omega arith)

pub state_of_columns-add : (v w x : List ℕ) → ((c : ℕ) → c < 4 → slice_index x c ≡ bit_xor (slice_index v c) (slice_index w c))
    → state_of_columns x ≡ add_round_key (state_of_columns v) (state_of_columns w)
unfolding add_round_key
state_of_columns-add v w x sum =
    same_columns _ x (length-state_of _) (λ c hc r hr.
    let at = byte_at-state_of (λ r c. bit_xor (byte_at (state_of_columns v) r c) (byte_at (state_of_columns w) r c)) r c hr hc in
    let left = byte_at-state_of_columns v r c hr hc in
    let right = byte_at-state_of_columns w r c hr hc in
    let both = row_of-xor (slice_index v c) (slice_index w c) r in
    let here = sum c hc in
    cc (at, left, right, both, here))

-- the row of a word of four bytes
row_of-from_le_bytes : (a b c d : ℕ) → a < 256 → b < 256 → c < 256 → d < 256 → (r : ℕ) → r < 4 → row_of (from_le_bytes w32 (a ∷ b ∷ c ∷ d ∷ [])) r ≡ slice_index (a ∷ b ∷ c ∷ d ∷ []) r
row_of-from_le_bytes a b c d ha hb hc hd = below_four _ (omega arith) (omega arith) (omega arith) (omega arith)

-- the byte of a round key in a row and a column
pub byte_at-round_key : (w : List ℕ) (n r c : ℕ) → r < 4 → c < 4 → byte_at (round_key w n) r c ≡ slice_index w (16 * n + 4 * c + r)
byte_at-round_key w n r c hr hc =
    let at : 16 * n + (4 * c + r) ≡ 16 * n + 4 * c + r = omega arith in
    get_or-take 16 (drop (16 * n) w) (4 * c + r) 0 (omega arith) ∙ get_or-drop (16 * n) w (4 * c + r) 0 ∙ ap (λ i. slice_index w i) at

-- ---- the cipher

pub byte_at-shifted : (w : List ℕ) (r c : ℕ) → r < 4 → c < 4 → byte_at (shift_rows (sub_bytes (state_of_columns w))) r c ≡ sub_byte (row_of (slice_index w ((c + r) % 4)) r)
unfolding shift_rows sub_bytes
byte_at-shifted w r c hr hc =
    let low : (c + r) % 4 < 4 = omega arith in
    byte_at-state_of (λ r c. byte_at (sub_bytes (state_of_columns w)) r ((c + r) % 4)) r c hr hc
    ∙ byte_at-state_of (λ r c. sub_byte (byte_at (state_of_columns w) r c)) r ((c + r) % 4) hr low
    ∙ ap sub_byte (byte_at-state_of_columns w r ((c + r) % 4) hr low)

pub length-shifted : (s : List ℕ) → length (shift_rows s) ≡ 16
unfolding shift_rows
length-shifted s = length-state_of _

pub length-mixed : (s : List ℕ) → length (mix_columns s) ≡ 16
unfolding mix_columns
length-mixed s = length-state_of _

-- a column of four entries of the box is a column of the shifted state
pub shifted_from_box : (w : List ℕ) (c : ℕ) → c < 4 → (i j k l : ℕ) → i ≡ row_of (slice_index w ((c + 0) % 4)) 0 → j ≡ row_of (slice_index w ((c + 1) % 4)) 1 → k ≡ row_of (slice_index w ((c + 2) % 4)) 2 → l ≡ row_of (slice_index w ((c + 3) % 4)) 3
    → (r : ℕ) → r < 4 → row_of (from_le_bytes w32 (slice_index S_BOX i ∷ slice_index S_BOX j ∷ slice_index S_BOX k ∷ slice_index S_BOX l ∷ [])) r ≡ byte_at (shift_rows (sub_bytes (state_of_columns w))) r c
shifted_from_box w c hc i j k l hi hj hk hl r hr =
    let ei = s_box_is i (omega arith) in
    let ej = s_box_is j (omega arith) in
    let ek = s_box_is k (omega arith) in
    let el = s_box_is l (omega arith) in
    let bytes = row_of-from_le_bytes (slice_index S_BOX i) (slice_index S_BOX j) (slice_index S_BOX k) (slice_index S_BOX l)
    (omega (arith, ei, sub_byte_lt i (omega arith))) (omega (arith, ej, sub_byte_lt j (omega arith))) (omega (arith, ek, sub_byte_lt k (omega arith))) (omega (arith, el, sub_byte_lt l (omega arith))) r hr in
    bytes
    ∙ below_four (λ r. slice_index (slice_index S_BOX i ∷ slice_index S_BOX j ∷ slice_index S_BOX k ∷ slice_index S_BOX l ∷ []) r ≡ sub_byte (row_of (slice_index w ((c + r) % 4)) r))
    (ei ∙ ap sub_byte hi) (ej ∙ ap sub_byte hj) (ek ∙ ap sub_byte hk) (el ∙ ap sub_byte hl) r hr
    ∙ sym (byte_at-shifted w r c hr hc)

-- a column of four table entries is a column of the mixed state
module _ (w : List ℕ) (c : ℕ) (hc : c < 4) where
  -- the byte in row r of the column before it is mixed
  shifted : ℕ → ℕ
  shifted r = sub_byte (row_of (slice_index w ((c + r) % 4)) r)

  shifted_lt : (r : ℕ) → shifted r < 256
  unfolding shifted
  shifted_lt r = sub_byte_lt (row_of (slice_index w ((c + r) % 4)) r) (omega arith)

  byte_at-mixed : (r : ℕ) → r < 4 → byte_at (mix_columns (shift_rows (sub_bytes (state_of_columns w)))) r c ≡ combined 2 3 1 1 (shifted r) (shifted ((r + 1) % 4)) (shifted ((r + 2) % 4)) (shifted ((r + 3) % 4))
  unfolding mix_columns shifted
  byte_at-mixed r hr =
      let s = shift_rows (sub_bytes (state_of_columns w)) in
      let at = byte_at-state_of (λ r c. mixed_byte (byte_at s r c) (byte_at s ((r + 1) % 4) c) (byte_at s ((r + 2) % 4) c) (byte_at s ((r + 3) % 4) c)) r c hr hc in
      let b0 = byte_at-shifted w r c hr hc in
      let b1 = byte_at-shifted w ((r + 1) % 4) c (omega arith) hc in
      let b2 = byte_at-shifted w ((r + 2) % 4) c (omega arith) hc in
      let b3 = byte_at-shifted w ((r + 3) % 4) c (omega arith) hc in
      let is = mixed_is (shifted r) (shifted ((r + 1) % 4)) (shifted ((r + 2) % 4)) (shifted ((r + 3) % 4)) (shifted_lt ((r + 2) % 4)) (shifted_lt ((r + 3) % 4)) in
      cc (at, b0, b1, b2, b3, is)

  pub mixed_from_tables : (i j k l : ℕ) → i ≡ row_of (slice_index w ((c + 0) % 4)) 0 → j ≡ row_of (slice_index w ((c + 1) % 4)) 1 → k ≡ row_of (slice_index w ((c + 2) % 4)) 2 → l ≡ row_of (slice_index w ((c + 3) % 4)) 3
      → (r : ℕ) → r < 4 → row_of (bit_xor (bit_xor (bit_xor (slice_index ENCRYPTION_0 i) (slice_index ENCRYPTION_1 j)) (slice_index ENCRYPTION_2 k)) (slice_index ENCRYPTION_3 l)) r
      ≡ byte_at (mix_columns (shift_rows (sub_bytes (state_of_columns w)))) r c
  unfolding shifted
  mixed_from_tables i j k l hi hj hk hl r hr =
      row_of-shares 2 3 1 1 shifted shifted_lt _ _ _ _
      (encryption_0_is i (omega arith) ∙ ap (λ x. products 2 1 1 3 (sub_byte x)) hi) (encryption_1_is j (omega arith) ∙ ap (λ x. products 3 2 1 1 (sub_byte x)) hj)
      (encryption_2_is k (omega arith) ∙ ap (λ x. products 1 3 2 1 (sub_byte x)) hk) (encryption_3_is l (omega arith) ∙ ap (λ x. products 1 1 3 2 (sub_byte x)) hl) r hr
      ∙ sym (byte_at-mixed r hr)

-- ---- the inverse cipher

pub byte_at-unshifted : (w : List ℕ) (r c : ℕ) → r < 4 → c < 4 → byte_at (inv_sub_bytes (inv_shift_rows (state_of_columns w))) r c ≡ inv_sub_byte (row_of (slice_index w ((c + 4 - r) % 4)) r)
unfolding inv_shift_rows inv_sub_bytes
byte_at-unshifted w r c hr hc =
    let low : (c + 4 - r) % 4 < 4 = omega arith in
    byte_at-state_of (λ r c. inv_sub_byte (byte_at (inv_shift_rows (state_of_columns w)) r c)) r c hr hc
    ∙ ap inv_sub_byte (byte_at-state_of (λ r c. byte_at (state_of_columns w) r ((c + 4 - r) % 4)) r c hr hc ∙ byte_at-state_of_columns w r ((c + 4 - r) % 4) hr low)

pub unshifted_from_box : (w : List ℕ) (c : ℕ) → c < 4 → (i j k l : ℕ) → i ≡ row_of (slice_index w ((c + 4 - 0) % 4)) 0 → j ≡ row_of (slice_index w ((c + 4 - 1) % 4)) 1 → k ≡ row_of (slice_index w ((c + 4 - 2) % 4)) 2 → l ≡ row_of (slice_index w ((c + 4 - 3) % 4)) 3
    → (r : ℕ) → r < 4 → row_of (from_le_bytes w32 (slice_index INV_S_BOX i ∷ slice_index INV_S_BOX j ∷ slice_index INV_S_BOX k ∷ slice_index INV_S_BOX l ∷ [])) r ≡ byte_at (inv_sub_bytes (inv_shift_rows (state_of_columns w))) r c
unshifted_from_box w c hc i j k l hi hj hk hl r hr =
    let ei = inv_s_box_is i (omega arith) in
    let ej = inv_s_box_is j (omega arith) in
    let ek = inv_s_box_is k (omega arith) in
    let el = inv_s_box_is l (omega arith) in
    let bytes = row_of-from_le_bytes (slice_index INV_S_BOX i) (slice_index INV_S_BOX j) (slice_index INV_S_BOX k) (slice_index INV_S_BOX l)
    (omega (arith, ei, inv_sub_byte_lt i (omega arith))) (omega (arith, ej, inv_sub_byte_lt j (omega arith))) (omega (arith, ek, inv_sub_byte_lt k (omega arith))) (omega (arith, el, inv_sub_byte_lt l (omega arith))) r hr in
    bytes
    ∙ below_four (λ r. slice_index (slice_index INV_S_BOX i ∷ slice_index INV_S_BOX j ∷ slice_index INV_S_BOX k ∷ slice_index INV_S_BOX l ∷ []) r ≡ inv_sub_byte (row_of (slice_index w ((c + 4 - r) % 4)) r))
    (ei ∙ ap inv_sub_byte hi) (ej ∙ ap inv_sub_byte hj) (ek ∙ ap inv_sub_byte hk) (el ∙ ap inv_sub_byte hl) r hr
    ∙ sym (byte_at-unshifted w r c hr hc)

pub length-unshifted : (s : List ℕ) → length (inv_sub_bytes s) ≡ 16
unfolding inv_sub_bytes
length-unshifted s = length-state_of _

pub length-unmixed : (s : List ℕ) → length (inv_mix_columns s) ≡ 16
unfolding inv_mix_columns
length-unmixed s = length-state_of _

module _ (w : List ℕ) (c : ℕ) (hc : c < 4) where
  unshifted : ℕ → ℕ
  unshifted r = inv_sub_byte (row_of (slice_index w ((c + 4 - r) % 4)) r)

  unshifted_lt : (r : ℕ) → unshifted r < 256
  unfolding unshifted
  unshifted_lt r = inv_sub_byte_lt (row_of (slice_index w ((c + 4 - r) % 4)) r) (omega arith)

  byte_at-unmixed : (r : ℕ) → r < 4 → byte_at (inv_mix_columns (inv_sub_bytes (inv_shift_rows (state_of_columns w)))) r c ≡ combined 14 11 13 9 (unshifted r) (unshifted ((r + 1) % 4)) (unshifted ((r + 2) % 4)) (unshifted ((r + 3) % 4))
  unfolding inv_mix_columns unshifted
  byte_at-unmixed r hr =
      let s = inv_sub_bytes (inv_shift_rows (state_of_columns w)) in
      let at = byte_at-state_of (λ r c. unmixed_byte (byte_at s r c) (byte_at s ((r + 1) % 4) c) (byte_at s ((r + 2) % 4) c) (byte_at s ((r + 3) % 4) c)) r c hr hc in
      let b0 = byte_at-unshifted w r c hr hc in
      let b1 = byte_at-unshifted w ((r + 1) % 4) c (omega arith) hc in
      let b2 = byte_at-unshifted w ((r + 2) % 4) c (omega arith) hc in
      let b3 = byte_at-unshifted w ((r + 3) % 4) c (omega arith) hc in
      let is = unmixed_is (unshifted r) (unshifted ((r + 1) % 4)) (unshifted ((r + 2) % 4)) (unshifted ((r + 3) % 4)) in
      cc (at, b0, b1, b2, b3, is)

  pub unmixed_from_tables : (i j k l : ℕ) → i ≡ row_of (slice_index w ((c + 4 - 0) % 4)) 0 → j ≡ row_of (slice_index w ((c + 4 - 1) % 4)) 1 → k ≡ row_of (slice_index w ((c + 4 - 2) % 4)) 2 → l ≡ row_of (slice_index w ((c + 4 - 3) % 4)) 3
      → (r : ℕ) → r < 4 → row_of (bit_xor (bit_xor (bit_xor (slice_index DECRYPTION_0 i) (slice_index DECRYPTION_1 j)) (slice_index DECRYPTION_2 k)) (slice_index DECRYPTION_3 l)) r
      ≡ byte_at (inv_mix_columns (inv_sub_bytes (inv_shift_rows (state_of_columns w)))) r c
  unfolding unshifted
  unmixed_from_tables i j k l hi hj hk hl r hr =
      row_of-shares 14 11 13 9 unshifted unshifted_lt _ _ _ _
      (decryption_0_is i (omega arith) ∙ ap (λ x. products 14 9 13 11 (inv_sub_byte x)) hi) (decryption_1_is j (omega arith) ∙ ap (λ x. products 11 14 9 13 (inv_sub_byte x)) hj)
      (decryption_2_is k (omega arith) ∙ ap (λ x. products 13 11 14 9 (inv_sub_byte x)) hk) (decryption_3_is l (omega arith) ∙ ap (λ x. products 9 13 11 14 (inv_sub_byte x)) hl) r hr
      ∙ sym (byte_at-unmixed r hr)
