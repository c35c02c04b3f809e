-- Units under the fields of an `XtsKey`.
use Rattle.std.proofs.Common.{◌≡◌, ℕ, ◌-◌, ◌/◌, List, length, sym, ap, ◌∙◌, inl, inr, arith}
use Rattle.std.proofs.lemmas.List.{length-append, take_at, drop_at}
use Rattle.aes_block.specs.Key as aes
use Rattle.aes_block.specs.Cipher.{cipher}
use Rattle.xts_sector.specs.declared.xts_key.XtsKey.TheInside.{Inside}
use Rattle.xts_sector.specs.Tweak.{unit_number, times_alpha_power}
use Rattle.xts_sector.specs.Xts.{data_key, tweak_key, tweak, encrypted_blocks, decrypted_blocks, encrypted, decrypted}
use Rattle.xts_sector.specs.XtsKey.{two_keys, HoldsKeys}

-- the two halves of a key, each as long as an AES key, are equally long
pub halves_same : (n : ℕ) → aes.IsKeyLength (n / 2) → aes.IsKeyLength (n - n / 2) → n / 2 ≡ n - n / 2
halves_same n front rest =
    elim front [
      | inl f ↦ elim rest [ inl r ↦ omega arith | inr r ↦ omega arith ]
      | inr f ↦ elim rest [ inl r ↦ omega arith | inr r ↦ omega arith ]
    ]

module _ (k : Inside) (holds : HoldsKeys k) where
  half : length (two_keys k) / 2 ≡ length k.data_key
  half = omega (arith, length-append k.data_key k.tweak_key, holds)

  data_key-key_of : data_key (two_keys k) ≡ k.data_key
  data_key-key_of = take_at k.data_key k.tweak_key (length (two_keys k) / 2) (sym half)

  tweak_key-key_of : tweak_key (two_keys k) ≡ k.tweak_key
  tweak_key-key_of = drop_at k.data_key k.tweak_key (length (two_keys k) / 2) (sym half)

  -- the tweak of a unit's first block is its number enciphered under the second key
  pub tweak-key_of : (n : ℕ) → tweak (two_keys k) n 0 ≡ cipher k.tweak_key (unit_number n)
  unfolding tweak
  tweak-key_of n = ap (λ t. cipher t (unit_number n)) tweak_key-key_of

  pub encrypted-key_of : (n : ℕ) (unit first : List ℕ) → first ≡ cipher k.tweak_key (unit_number n)
      → encrypted_blocks k.data_key (λ j. times_alpha_power j first) unit ≡ encrypted (two_keys k) n unit
  unfolding encrypted tweak
  encrypted-key_of n unit first is =
      let whole = λ (d t : List ℕ). encrypted_blocks d (λ j. times_alpha_power j t) unit in
      ap (whole k.data_key) (is ∙ ap (λ t. cipher t (unit_number n)) (sym tweak_key-key_of)) ∙ ap (λ d. whole d (cipher (tweak_key (two_keys k)) (unit_number n))) (sym data_key-key_of)

  pub decrypted-key_of : (n : ℕ) (unit first : List ℕ) → first ≡ cipher k.tweak_key (unit_number n)
      → decrypted_blocks k.data_key (λ j. times_alpha_power j first) unit ≡ decrypted (two_keys k) n unit
  unfolding decrypted tweak
  decrypted-key_of n unit first is =
      let whole = λ (d t : List ℕ). decrypted_blocks d (λ j. times_alpha_power j t) unit in
      ap (whole k.data_key) (is ∙ ap (λ t. cipher t (unit_number n)) (sym tweak_key-key_of)) ∙ ap (λ d. whole d (cipher (tweak_key (two_keys k)) (unit_number n))) (sym data_key-key_of)
