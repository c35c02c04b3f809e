-- The printed arguments of a `crypt` line read back.
use Rattle.std.proofs.Common.{◌≡◌, ℕ, ◌<◌, true, List, ◌∷◌, length, codes, Ok, refl, ap, ◌∙◌, inl, inr, arith}
use Rattle.std.specs.Prelude.{◌⊎◌}
use Rattle.std.proofs.lemmas.Bool.{cond-true, cond-false, eq-eqb, ne_eqb}
use Rattle.hex.specs.Hex.{IsBytes, encode_lower, lower_digits}
use Rattle.hex.proofs.HexLemmas.{length-encode_with}
use Rattle.dm_table.specs.declared.table.Target.TheVariants as targets
use Rattle.dm_table.specs.declared.target_type.TargetType.TheVariants as types
use Rattle.dm_table.specs.declared.crypt.Crypt.{Crypt}
use Rattle.dm_table.specs.declared.fault.TextKind.TheVariants as kinds
use Rattle.dm_table.specs.Reading.{◌>>=◌}
use Rattle.dm_table.specs.Arguments.{bytes_at}
use Rattle.dm_table.specs.Crypt.{crypt_options, key_at, crypt_at}
use Rattle.table_text.specs.ArgumentWords.{crypt_words}
use Rattle.dm_table.specs.Grammar.{IsCryptOfGrammar}
use Rattle.table_text.proofs.PrintedTargetLemmas.{ReadBack, read_back}
use Rattle.table_text.proofs.PrintedLemmas.{ArePrinted, printed-decimal, printed-device, number_at-decimal, base_at-printed}
use Rattle.table_text.proofs.PrintedBytesLemmas.{bytes_at-printed, printed-bytes}
use Rattle.table_text.proofs.PrintedOptionLemmas.{options-printed, printed-options}

key_at-printed : (key : List ℕ) → (length key ≡ 32) ⊎ (length key ≡ 64) → IsBytes key → key_at (encode_lower key) ≡ Ok key
unfolding key_at
key_at-printed key (inl short) each =
    let twice = length-encode_with lower_digits key in
    ap (λ n. bytes_at n kinds.Key (encode_lower key)) (cond-false _ 64 32 (ne_eqb (length (encode_lower key)) 128 (λ h. omega (arith, twice, short))))
    ∙ bytes_at-printed 32 kinds.Key key short each
key_at-printed key (inr long) each =
    let twice = length-encode_with lower_digits key in
    ap (λ n. bytes_at n kinds.Key (encode_lower key)) (cond-true _ 64 32 (eq-eqb (length (encode_lower key)) 128 (omega (arith, twice, long))))
    ∙ bytes_at-printed 64 kinds.Key key long each

-- printed arguments read back
crypt-printed : (crypt : Crypt) → IsCryptOfGrammar crypt → crypt_at (crypt_words true crypt) ≡ Ok crypt
unfolding crypt_at crypt_words
crypt-printed crypt h =
    let key = key_at-printed crypt.key h.key_size h.key_bytes in
    let first = number_at-decimal crypt.iv_offset h.iv_offset in
    let base = base_at-printed crypt.base h.base in
    let options = options-printed crypt_options crypt.options h.options in
    rw (key, first, base, options) refl

-- each word may be in a text
printed-crypt : (crypt : Crypt) → IsCryptOfGrammar crypt → ArePrinted (crypt_words true crypt)
unfolding crypt_words
printed-crypt crypt h = (
  (omega arith, refl),
  (
    printed-bytes crypt.key (some h.key_size) h.key_bytes,
    (
      printed-decimal crypt.iv_offset h.iv_offset,
      (
        printed-device crypt.base.device h.base.device,
        (
          printed-decimal crypt.base.offset h.base.offset,
          printed-options crypt_options crypt.options known h.options,
        ),
      ),
    ),
  ),
)
  where
    some : (length crypt.key ≡ 32) ⊎ (length crypt.key ≡ 64) → 0 < length crypt.key
    some (inl short) = omega (arith, short)
    some (inr long) = omega (arith, long)

    known : ArePrinted crypt_options
    known = (
      (omega arith, refl),
      ((omega arith, refl), ((omega arith, refl), ((omega arith, refl), ((omega arith, refl), ((omega arith, refl), ((omega arith, refl), ((omega arith, refl), ((omega arith, refl), ((omega arith, refl), tt))))))))),
    )

-- the printed line reads back
pub crypt-read_back : (crypt : Crypt) → IsCryptOfGrammar crypt → ReadBack (targets.Crypt crypt) (codes "crypt" ∷ crypt_words true crypt)
crypt-read_back crypt h =
    read_back types.Crypt (crypt_words true crypt) (targets.Crypt crypt) (printed-crypt crypt h) (ap (λ r. r >>= (λ line. Ok (targets.Crypt line))) (crypt-printed crypt h))
