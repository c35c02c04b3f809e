-- The arguments of a `crypt` line: too few, and within the grammar's limits.
use Rattle.std.proofs.Common.{◌≡◌, ℕ, ◌<◌, eqb, List, [], ◌∷◌, ◌++◌, length, take, Ok, Err, refl, ap, sym, subst, ◌∙◌, inl, inr, arith}
use Rattle.std.specs.Prelude.{◌⊎◌}
use Rattle.std.proofs.lemmas.Bool.{cases_Bool, cond-true, cond-false, eq-eqb, ne_eqb}
use Rattle.std.proofs.lemmas.List.{take_all, take-append-le}
use Rattle.hex.specs.Hex.{IsBytes}
use Rattle.dm_table.specs.declared.crypt.Crypt.{Crypt}
use Rattle.dm_table.specs.declared.fault.TextKind.TheVariants as kinds
use Rattle.dm_table.specs.Words.{Word}
use Rattle.dm_table.specs.Reading.{Read}
use Rattle.dm_table.specs.Arguments.{number_at, base_at, bytes_at}
use Rattle.dm_table.specs.Options.{options_at}
use Rattle.dm_table.specs.Crypt.{crypt_options, cipher_at, key_at, crypt_at}
use Rattle.dm_table.specs.Grammar.{IsCryptOfGrammar}
use Rattle.table_text.proofs.ReadValueLemmas.{bind_ok, ok_same, number_at-fits, base-grammar}
use Rattle.table_text.proofs.BytesLemmas.{bytes_at-grammar}
use Rattle.table_text.proofs.OptionLemmas.{options-grammar}

pub crypt-few : (words : List Word) → length words < 5 → crypt_at words ≡ Err kinds.ArgCount
unfolding crypt_at
crypt-few [] few = refl
crypt-few (a ∷ []) few = refl
crypt-few (a ∷ b ∷ []) few = refl
crypt-few (a ∷ b ∷ c ∷ []) few = refl
crypt-few (a ∷ b ∷ c ∷ d ∷ []) few = refl
crypt-few (a ∷ b ∷ c ∷ d ∷ e ∷ more) few = absurd (omega arith)

-- a key's length follows from its digits
key_at-grammar : (word : Word) (key : List ℕ) → key_at word ≡ Ok key → ((length key ≡ 32) ⊎ (length key ≡ 64)) × IsBytes key
unfolding key_at
key_at-grammar word key e = elim (cases_Bool (eqb (length word) 128)) [
  | inl long ↦
      let read = bytes_at-grammar 64 kinds.Key word key (sym (ap (λ n. bytes_at n kinds.Key word) (cond-true _ 64 32 long)) ∙ e) in
      (inr read.0, read.1)
  | inr short ↦
      let read = bytes_at-grammar 32 kinds.Key word key (sym (ap (λ n. bytes_at n kinds.Key word) (cond-false _ 64 32 short)) ∙ e) in
      (inl read.0, read.1)
]

-- what was read keeps to the grammar's limits
pub crypt-grammar : (words : List Word) (crypt : Crypt) → crypt_at words ≡ Ok crypt → IsCryptOfGrammar crypt
unfolding crypt_at
crypt-grammar [] crypt e = cc
crypt-grammar (a ∷ []) crypt e = cc
crypt-grammar (a ∷ b ∷ []) crypt e = cc
crypt-grammar (a ∷ b ∷ c ∷ []) crypt e = cc
crypt-grammar (a ∷ b ∷ c ∷ d ∷ []) crypt e = cc
crypt-grammar (name ∷ digits ∷ iv ∷ device ∷ offset ∷ params) crypt e =
    let known = bind_ok (cipher_at name) _ crypt e in
    let key = bind_ok (key_at digits) _ crypt known.2 in
    let first = bind_ok (number_at iv) _ crypt key.2 in
    let base = bind_ok (base_at device offset) _ crypt first.2 in
    let options = bind_ok (options_at crypt_options [] params) _ crypt base.2 in
    let bytes = key_at-grammar digits key.0 key.1 in
    subst IsCryptOfGrammar (ok_same _ crypt options.2) (record {
      key_size = bytes.0;
      key_bytes = bytes.1;
      iv_offset = number_at-fits iv first.0 first.1;
      base = base-grammar device offset base.0 base.1;
      options = options-grammar crypt_options params options.0 options.1;
    })

-- a key of 64 bytes, and one of 32
pub key_at-long : (word : Word) (r : Read (List ℕ)) → length word ≡ 128 → bytes_at 64 kinds.Key word ≡ r → key_at word ≡ r
unfolding key_at
key_at-long word r long e = ap (λ n. bytes_at n kinds.Key word) (cond-true _ 64 32 (eq-eqb (length word) 128 long)) ∙ e

pub key_at-short : (word : Word) (r : Read (List ℕ)) → (length word ≡ 128 → ⊥) → bytes_at 32 kinds.Key word ≡ r → key_at word ≡ r
unfolding key_at
key_at-short word r short e = ap (λ n. bytes_at n kinds.Key word) (cond-false _ 64 32 (ne_eqb (length word) 128 short)) ∙ e

pub key-front : (bytes rest : List ℕ) → length bytes ≡ 32 → take 32 (bytes ++ rest) ≡ bytes
key-front bytes rest size = take-append-le 32 bytes rest (omega (arith, size)) ∙ take_all 32 bytes (omega (arith, size))
