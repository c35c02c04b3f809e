-- The cipher and its inverse undo each other, for every key of 16 or 32 bytes and every block.
use Rattle.std.proofs.Common.{◌≡◌, ℕ, zero, suc, ◌-◌, ◌<◌, List, ap, ◌∙◌, refl, arith}
use Rattle.aes_block.specs.State.{IsBytes, IsBlock}
use Rattle.aes_block.specs.Rounds.{sub_bytes, shift_rows, mix_columns, add_round_key, inv_shift_rows, inv_sub_bytes, inv_mix_columns}
use Rattle.aes_block.specs.KeyExpansion.{rounds, key_schedule, round_key}
use Rattle.aes_block.specs.Cipher.{state_after, cipher_with, cipher, inverse_rounds, inverse_cipher_with, inverse_cipher}
use Rattle.aes_block.proofs.KeyScheduleLemmas.{IsBytes-key_schedule, IsBytes-round_key}
use Rattle.aes_block.proofs.RoundLemmas.{IsBlock-sub_bytes, IsBlock-inv_sub_bytes, inv_sub_bytes-sub_bytes, sub_bytes-inv_sub_bytes, IsBlock-shift_rows, IsBlock-inv_shift_rows, inv_shift_rows-shift_rows, shift_rows-inv_shift_rows, IsBlock-mix_columns, IsBlock-inv_mix_columns, inv_mix_columns-mix_columns, mix_columns-inv_mix_columns, IsBlock-add_round_key, add_round_key-add_round_key}

-- ---- what a loop over the rounds needs

pub state_after_more : (w block : List ℕ) (n : ℕ) → 0 < n → state_after w block n ≡ add_round_key (mix_columns (shift_rows (sub_bytes (state_after w block (n - 1))))) (round_key w n)
state_after_more w block zero h = absurd (omega arith)
state_after_more w block (suc n) h =
    let e : suc n - 1 ≡ n = omega arith in
    rw e refl

pub inverse_rounds_more : (w : List ℕ) (n : ℕ) (s : List ℕ) → 0 < n → inverse_rounds w n s ≡ inverse_rounds w (n - 1) (inv_mix_columns (add_round_key (inv_sub_bytes (inv_shift_rows s)) (round_key w n)))
inverse_rounds_more w zero s h = absurd (omega arith)
inverse_rounds_more w (suc n) s h =
    let e : suc n - 1 ≡ n = omega arith in
    rw e refl

-- ---- substitution and shift

-- SubBytes and then ShiftRows, and what undoes them
forth : List ℕ → List ℕ
forth s = shift_rows (sub_bytes s)

back : List ℕ → List ℕ
back s = inv_sub_bytes (inv_shift_rows s)

module _ (s : List ℕ) (block : IsBlock s) where
  IsBlock-forth : IsBlock (forth s)
  unfolding forth
  IsBlock-forth = IsBlock-shift_rows (sub_bytes s) (IsBlock-sub_bytes s block)

  IsBlock-back : IsBlock (back s)
  unfolding back
  IsBlock-back = IsBlock-inv_sub_bytes (inv_shift_rows s) (IsBlock-inv_shift_rows s block)

  back-forth : back (forth s) ≡ s
  unfolding forth back
  back-forth = ap inv_sub_bytes (inv_shift_rows-shift_rows (sub_bytes s) (IsBlock-sub_bytes s block)) ∙ inv_sub_bytes-sub_bytes s block

  forth-back : forth (back s) ≡ s
  unfolding forth back
  forth-back = ap shift_rows (sub_bytes-inv_sub_bytes (inv_shift_rows s) (IsBlock-inv_shift_rows s block)) ∙ shift_rows-inv_shift_rows s block

-- ---- the rounds

module _ (w : List ℕ) (bytes : IsBytes w) where
  IsBlock-keyed : (s : List ℕ) (r : ℕ) → IsBlock s → IsBlock (add_round_key s (round_key w r))
  IsBlock-keyed s r block = IsBlock-add_round_key s (round_key w r) block (IsBytes-round_key w r bytes)

  IsBlock-state_after : (b : List ℕ) (n : ℕ) → IsBlock b → IsBlock (state_after w b n)
  unfolding forth
  IsBlock-state_after b zero block = IsBlock-keyed b 0 block
  IsBlock-state_after b (suc n) block =
      let before = state_after w b n in
      IsBlock-keyed (mix_columns (forth before)) (suc n) (IsBlock-mix_columns (forth before) (IsBlock-forth before (IsBlock-state_after b n block)))

  -- a round of the inverse gives a block
  IsBlock-round : (s : List ℕ) (r : ℕ) → IsBlock s → IsBlock (inv_mix_columns (add_round_key (back s) (round_key w r)))
  IsBlock-round s r block = IsBlock-inv_mix_columns (add_round_key (back s) (round_key w r)) (IsBlock-keyed (back s) r (IsBlock-back s block))

  -- the inverse of the rounds after n rounds gives the block
  inverse_rounds-state_after : (n : ℕ) (b : List ℕ) → IsBlock b → inverse_rounds w n (forth (state_after w b n)) ≡ b
  unfolding forth back
  inverse_rounds-state_after zero b block =
      let k = round_key w 0 in
      ap (λ s. add_round_key s k) (back-forth (state_after w b 0) (IsBlock-state_after b 0 block)) ∙ add_round_key-add_round_key b k block
  inverse_rounds-state_after (suc n) b block =
      let k = round_key w (suc n) in
      let shifted = forth (state_after w b n) in
      let is_block = IsBlock-forth (state_after w b n) (IsBlock-state_after b n block) in
      let off = ap (λ s. add_round_key s k) (back-forth (state_after w b (suc n)) (IsBlock-state_after b (suc n) block)) ∙ add_round_key-add_round_key (mix_columns shifted) k (IsBlock-mix_columns shifted is_block) in
      ap (λ s. inverse_rounds w n (inv_mix_columns s)) off ∙ ap (inverse_rounds w n) (inv_mix_columns-mix_columns shifted is_block) ∙ inverse_rounds-state_after n b block

  -- n rounds after their inverse give the state
  state_after-inverse_rounds : (n : ℕ) (s : List ℕ) → IsBlock s → state_after w (inverse_rounds w n s) n ≡ back s
  unfolding forth back
  state_after-inverse_rounds zero s block = add_round_key-add_round_key (back s) (round_key w 0) (IsBlock-back s block)
  state_after-inverse_rounds (suc n) s block =
      let k = round_key w (suc n) in
      let keyed = add_round_key (back s) k in
      let is_block = IsBlock-keyed (back s) (suc n) (IsBlock-back s block) in
      let before = state_after-inverse_rounds n (inv_mix_columns keyed) (IsBlock-round s (suc n) block) in
      ap (λ t. add_round_key (mix_columns (forth t)) k) before
      ∙ ap (λ t. add_round_key (mix_columns t) k) (forth-back (inv_mix_columns keyed) (IsBlock-round s (suc n) block))
      ∙ ap (λ t. add_round_key t k) (mix_columns-inv_mix_columns keyed is_block)
      ∙ add_round_key-add_round_key (back s) k (IsBlock-back s block)

-- ---- the cipher

module _ (key block : List ℕ) (key_bytes : IsBytes key) (is_block : IsBlock block) where
  -- the inverse cipher undoes the cipher
  pub inverse_cipher-cipher : inverse_cipher key (cipher key block) ≡ block
  unfolding forth cipher cipher_with inverse_cipher inverse_cipher_with
  inverse_cipher-cipher =
      let w = key_schedule key in
      let bytes = IsBytes-key_schedule key key_bytes in
      let n = rounds key - 1 in
      let last = state_after w block n in
      let off = add_round_key-add_round_key (forth last) (round_key w (rounds key)) (IsBlock-forth last (IsBlock-state_after w bytes block n is_block)) in
      ap (inverse_rounds w n) off ∙ inverse_rounds-state_after w bytes n block is_block

  -- the cipher undoes the inverse cipher
  pub cipher-inverse_cipher : cipher key (inverse_cipher key block) ≡ block
  unfolding forth back cipher cipher_with inverse_cipher inverse_cipher_with
  cipher-inverse_cipher =
      let w = key_schedule key in
      let bytes = IsBytes-key_schedule key key_bytes in
      let n = rounds key - 1 in
      let k = round_key w (rounds key) in
      let keyed = add_round_key block k in
      let keyed_block = IsBlock-keyed w bytes block (rounds key) is_block in
      ap (λ s. add_round_key (forth s) k) (state_after-inverse_rounds w bytes n keyed keyed_block)
      ∙ ap (λ s. add_round_key s k) (forth-back keyed keyed_block)
      ∙ add_round_key-add_round_key block k is_block
