-- Many units of a `crypt` line, enciphered in one call.
use Rattle.std.proofs.Common.{◌≡◌, ℕ, ◌+◌, ◌*◌, ◌%◌, ◌<◌, ◌≤◌, List, length, take, drop, get_or, sym, ap, ◌∙◌, arith}
use Rattle.std.proofs.lemmas.List.{length-take-le, get_or-take}
use borrow.Rule.Slice.PartMut.{put_mid}
use Rattle.aes_block.specs.Blocks.{joined}
use Rattle.aes_block.proofs.lemmas.BlockLemmas.{joined-same}
use Rattle.aes_block.proofs.lemmas.PartLemmas.{IsWrittenTo, IsWrittenTo-more}
use Rattle.stack_meaning.specs.declared.units.CryptUnits.{CryptUnits}
use Rattle.xts_sector.specs.Units.{unit}
use Rattle.xts_sector.specs.Xts.{encrypted, decrypted}
use Rattle.xts_sector.specs.Units as xts
use Rattle.xts_sector.proofs.lemmas.UnitLemmas.{unit-part, length-part, length-encrypted_units, length-decrypted_units}
use Rattle.stack_meaning.specs.Units.{crypt_unit_number, encrypted_unit, decrypted_unit}

module _ (units : CryptUnits) (key : List ℕ) (k size : ℕ) (old now : List ℕ) (m n a w : ℕ) (at : a ≡ size * m) (wide : w ≡ size * n) (fits : a + w ≤ length now) (blocks : size % 16 ≡ 0)
    (table : List ℕ) (long : n ≤ length table) (numbers : (j : ℕ) → j < n → get_or table j 0 ≡ crypt_unit_number units (k + m + j)) where
  count : length (take n table) ≡ n
  count = length-take-le n table long

  number : (j : ℕ) → j < n → get_or (take n table) j 0 ≡ crypt_unit_number units (k + (m + j))
  number j h = let on : k + m + j ≡ k + (m + j) = omega arith in get_or-take n table j 0 h ∙ numbers j h ∙ ap (crypt_unit_number units) on

  module _ (f : List ℕ → ℕ → List ℕ → List ℕ) where
    -- the units that come, each under its number
    units-same : drop (size * m) now ≡ drop (size * m) old
        → joined (λ j. f key (get_or (take n table) j 0) (unit size (take w (drop a now)) j)) (length (take n table)) ≡ joined (λ j. f key (crypt_unit_number units (k + (m + j))) (unit size old (m + j))) n
    units-same rest =
        ap (joined (λ j. f key (get_or (take n table) j 0) (unit size (take w (drop a now)) j))) count
        ∙ joined-same (λ j. f key (get_or (take n table) j 0) (unit size (take w (drop a now)) j)) (λ j. f key (crypt_unit_number units (k + (m + j))) (unit size old (m + j))) n
        (λ j h. ap (λ x. f key x (unit size (take w (drop a now)) j)) (number j h)
        ∙ ap (f key (crypt_unit_number units (k + (m + j)))) (unit-part size old now m n a w at wide rest j h))

  whole : length (take w (drop a now)) ≡ size * length (take n table)
  whole = length-part size n a w now wide fits ∙ ap (λ x. size * x) (sym count)

  pub encrypted-more : (out : List ℕ) → out ≡ xts.encrypted_numbered key (take n table) size (take w (drop a now))
      → IsWrittenTo size (λ j. encrypted_unit units key (k + j) (unit size old j)) old now m → IsWrittenTo size (λ j. encrypted_unit units key (k + j) (unit size old j)) old (put_mid a w now out) (m + n)
  unfolding xts.encrypted_numbered
  encrypted-more out is written =
      let len : length out ≡ w = ap length is ∙ length-encrypted_units key (take n table) size (take w (drop a now)) blocks whole ∙ length-part size n a w now wide fits ∙ sym wide in
      IsWrittenTo-more size (λ j. encrypted_unit units key (k + j) (unit size old j)) old now out m n a w at wide fits (is ∙ units-same encrypted written.rest) len written

  pub decrypted-more : (out : List ℕ) → out ≡ xts.decrypted_numbered key (take n table) size (take w (drop a now))
      → IsWrittenTo size (λ j. decrypted_unit units key (k + j) (unit size old j)) old now m → IsWrittenTo size (λ j. decrypted_unit units key (k + j) (unit size old j)) old (put_mid a w now out) (m + n)
  unfolding xts.decrypted_numbered
  decrypted-more out is written =
      let len : length out ≡ w = ap length is ∙ length-decrypted_units key (take n table) size (take w (drop a now)) blocks whole ∙ length-part size n a w now wide fits ∙ sym wide in
      IsWrittenTo-more size (λ j. decrypted_unit units key (k + j) (unit size old j)) old now out m n a w at wide fits (is ∙ units-same decrypted written.rest) len written
