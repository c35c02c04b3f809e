-- The cipher by the fields of an `AesKey`.
use Rattle.std.proofs.Common.{◌≡◌, ℕ, ◌+◌, ◌-◌, ◌*◌, ◌⊎◌, ◌≤◌, ◌<◌, List, length, take, sym, ap, ◌∙◌, inl, inr, refl, arith}
use Rattle.std.proofs.lemmas.List.{length-take-le}
use Rattle.aes_block.specs.declared.aes_key.AesKey.TheInside.{Inside}
use Rattle.aes_block.specs.State.{IsBytes, IsBlock}
use Rattle.aes_block.specs.Key.{IsKeyLength}
use Rattle.aes_block.specs.KeyExpansion.{rounds, round_key}
use Rattle.aes_block.specs.Rounds.{inv_mix_columns}
use Rattle.aes_block.specs.Cipher.{cipher_with, cipher, inverse_cipher_with, inverse_cipher}
use Rattle.aes_block.specs.AesKey.{schedule_key, HoldsSchedule}
use Rattle.aes_block.proofs.lemmas.BlockLemmas.{block-take}
use Rattle.aes_block.proofs.BytesLemmas.{IsBytes-take}
use Rattle.aes_block.proofs.lemmas.CipherLemmas.{inverse_cipher-cipher, cipher-inverse_cipher}

-- 10 and 14 are at least 10 and at most 14
pub rounds_between : (n : ℕ) → (n ≡ 10) ⊎ (n ≡ 14) → (10 ≤ n) × (n ≤ 14)
rounds_between n h = elim h [ inl e ↦ (omega arith, omega arith) | inr e ↦ (omega arith, omega arith) ]

module _ (k : Inside) (holds : HoldsSchedule k) (len : length k.schedule ≡ 240) where
  pub rounds-key_of : rounds (schedule_key k) ≡ k.rounds
  rounds-key_of =
      let between = rounds_between k.rounds holds.rounds in
      let long = length-take-le (4 * (k.rounds - 6)) k.schedule (omega (arith, between)) in
      omega (arith, between, long)

  pub IsKeyLength-key_of : IsKeyLength (length (schedule_key k))
  IsKeyLength-key_of =
      elim holds.rounds [
        | inl e ↦ inl (omega (arith, e, length-take-le (4 * (k.rounds - 6)) k.schedule (omega (arith, e, len))))
        | inr e ↦ inr (omega (arith, e, length-take-le (4 * (k.rounds - 6)) k.schedule (omega (arith, e, len))))
      ]

  pub cipher-key_of : (block : List ℕ) → cipher_with k.rounds (take (16 * (k.rounds + 1)) k.schedule) block ≡ cipher (schedule_key k) block
  unfolding cipher
  cipher-key_of block = rw (rounds-key_of, holds.schedule) refl

  pub inverse_cipher-key_of : (block : List ℕ) → inverse_cipher_with k.rounds (take (16 * (k.rounds + 1)) k.schedule) block ≡ inverse_cipher (schedule_key k) block
  unfolding inverse_cipher
  inverse_cipher-key_of block = rw (rounds-key_of, holds.schedule) refl

  pub unmixed-key_of : (r : ℕ) → r < k.rounds → round_key k.unmixed r ≡ inv_mix_columns (round_key (take (16 * (k.rounds + 1)) k.schedule) r)
  unmixed-key_of r h =
      let between = rounds_between k.rounds holds.rounds in
      holds.unmixed r (omega (arith, between)) ∙ ap inv_mix_columns (sym (block-take k.schedule (16 * (k.rounds + 1)) r (omega arith)))

  pub IsBytes-key_of : IsBytes (schedule_key k)
  IsBytes-key_of = IsBytes-take k.schedule (4 * (k.rounds - 6)) holds.bytes

  pub cipher_undone : (block : List ℕ) → IsBlock block → inverse_cipher (schedule_key k) (cipher (schedule_key k) block) ≡ block
  cipher_undone block is_block = inverse_cipher-cipher (schedule_key k) block IsBytes-key_of is_block

  pub inverse_cipher_undone : (block : List ℕ) → IsBlock block → cipher (schedule_key k) (inverse_cipher (schedule_key k) block) ≡ block
  inverse_cipher_undone block is_block = cipher-inverse_cipher (schedule_key k) block IsBytes-key_of is_block
