-- No name, key description or option has more than 255 bytes.
use Rattle.std.proofs.Common.{◌≡◌, ℕ, ◌≤◌, Bool, true, List, [], ◌∷◌, length, drop, sym, refl, subst, ◌∙◌, not, ◌&&◌, inl, inr, arith}
use Rattle.std.specs.Prelude.{◌==◌, All, nat_le}
use Rattle.std.specs.List.{AllByRecursion, list_all, starts_with}
use Rattle.std.specs.Str.{bytes_eq}
use Rattle.std.proofs.lemmas.Bool.{and_parts, cases_Bool, cond-false, cond-true, leb-true, or_cases}
use Rattle.std.proofs.lemmas.List.{length-drop}
use Rattle.std.proofs.lemmas.List.Elements.{All-from_recursion}
use Rattle.std.proofs.lemmas.Slice.Eq.{bytes_eq-Decides}
use Rattle.dm_table.specs.Crypt.{crypt_options}
use Rattle.dm_table.specs.Names.{is_device, is_leaf_byte, is_mapped_byte, is_mapped_name, is_name_of, mapper, most_name}
use Rattle.dm_table.specs.Options.{are_options, has_name_of, is_one_of, AreOptionsOfGrammar}
use Rattle.dm_table.specs.SignatureKey.{is_key_description}
use Rattle.dm_table.specs.Words.{Word}

name-length : (most : ℕ) (word : Word) (rest : Bool) → (nat_le 1 (length word) && nat_le (length word) most && rest) ≡ true → length word ≤ most
name-length most word rest e =
    let parts = and_parts (nat_le 1 (length word) && nat_le (length word) most) rest e in
    leb-true (length word) most (and_parts (nat_le 1 (length word)) _ parts.0).1

pub mapped_name-length : (word : Word) → is_mapped_name word ≡ true → length word ≤ most_name
unfolding is_mapped_name
mapped_name-length word e = omega (arith, name-length 127 word (list_all is_mapped_byte word) e)

pub device-length : (word : Word) → is_device word ≡ true → length word ≤ most_name
unfolding is_device is_mapped_name
device-length word e = elim (cases_Bool (starts_with ◌==◌ word mapper)) [
  | inl path ↦
      let name = sym (cond-true (starts_with ◌==◌ word mapper) (is_name_of 127 is_mapped_byte (drop 12 word)) (is_name_of 255 is_leaf_byte word) path) ∙ e in
      let short = name-length 127 (drop 12 word) (list_all is_mapped_byte (drop 12 word)) name in
      omega (arith, short, length-drop 12 word)
  | inr leaf ↦
      let name = sym (cond-false (starts_with ◌==◌ word mapper) (is_name_of 127 is_mapped_byte (drop 12 word)) (is_name_of 255 is_leaf_byte word) leaf) ∙ e in
      name-length 255 word (list_all is_leaf_byte word) name
]

pub description-length : (word : Word) → is_key_description word ≡ true → length word ≤ most_name
description-length word e = name-length most_name word (list_all is_leaf_byte word) e

-- one of some words is no longer than the longest
pub one-length : (most : ℕ) (known : List Word) (word : Word) → list_all (λ (w : Word). nat_le (length w) most) known ≡ true → is_one_of word known ≡ true → length word ≤ most
one-length most [] word all one = cc
one-length most (first ∷ more) word all one =
    let parts = and_parts (nat_le (length first) most) _ all in
    elim (or_cases (bytes_eq first word) _ one) [
      | inl same ↦ subst (λ (w : Word). length w ≤ most) ((bytes_eq-Decides first word).0 same) (leb-true (length first) most parts.0)
      | inr later ↦ one-length most more word parts.1 later
    ]

each-length : (options : List Word) → are_options crypt_options options ≡ true → AllByRecursion (λ (word : Word). length word ≤ most_name) options
each-length [] e = tt
each-length (word ∷ more) e =
    let parts = and_parts (is_one_of word crypt_options && not (has_name_of word more)) _ e in
    (one-length most_name crypt_options word refl (and_parts (is_one_of word crypt_options) _ parts.0).0, each-length more parts.1)

pub options-length : (options : List Word) → AreOptionsOfGrammar crypt_options options → All (λ (word : Word). length word ≤ most_name) options
options-length options is = All-from_recursion (λ (word : Word). length word ≤ most_name) options (each-length options is.each)
