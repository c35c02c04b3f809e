-- Printed words, numbers and device arguments read back.
use Rattle.std.proofs.Common.{◌≡◌, ℕ, ◌^◌, ◌<◌, ◌≤◌, ◌==◌, Bool, true, false, not, ◌&&◌, ◌||◌, eqb, ltb, leb, List, [], ◌∷◌, ◌++◌, length, take, drop, filter, codes, decimal, All, Some, Ok, Err, ok_or, refl, ap, sym, subst, ◌∙◌, inl, inr, take-append-drop, arith}
use Rattle.std.specs.List.{list_all, starts_with, join_with_byte}
use Rattle.std.specs.Cmp.Lexicographic.{pointwise}
use Rattle.std.specs.Char.{is_ascii_digit}
use Rattle.std.specs.Str.Parse.{digits_value, AllDigits}
use Rattle.std.proofs.lemmas.Bool.{cases_Bool, cond-true, cond-false, and_parts, and_from, leb-true, le-leb, eqb-true, ne_eqb, lt-ltb}
use Rattle.std.proofs.lemmas.Fmt.{decimal_is_IsNumeral}
use Rattle.std.proofs.lemmas.Str.Parse.{digit_from_value}
use Rattle.std.proofs.lemmas.List.Elements.{All-nil, All-cons, All-append}
use Rattle.std.proofs.lemmas.List.Folds.{list_all-append}
use Rattle.std.proofs.lemmas.List.Splits.{slice_split_none, slice_split_at}
use Rattle.dm_table.specs.declared.table.Base.{Base}
use Rattle.dm_table.specs.declared.fault.TextKind.TheVariants as kinds
use Rattle.dm_table.specs.Words.{Word, is_white, is_graphic, words}
use Rattle.dm_table.specs.Numbers.{number}
use Rattle.dm_table.specs.Names.{is_device, is_mapped_name, is_mapped_byte, is_leaf_byte, is_name_of, mapper}
use Rattle.dm_table.specs.SignatureKey.{is_key_description}
use Rattle.dm_table.specs.Reading.{◌>>=◌}
use Rattle.dm_table.specs.Arguments.{number_at, base_at}
use Rattle.dm_table.specs.Grammar.{IsBaseOfGrammar}
use Rattle.dm_table.proofs.lemmas.ReadLineLemmas.{number-some}

-- a word that may be in a text
abbrev pub IsPrinted : Word → Type 0
IsPrinted word = (0 < length word) × (list_all is_graphic word ≡ true)

abbrev pub ArePrinted : List Word → Type 0
ArePrinted [] = Unit {0}
ArePrinted (word ∷ more) = IsPrinted word × ArePrinted more

graphic-low : (b : ℕ) → is_graphic b ≡ true → 33 ≤ b
graphic-low b e = leb-true 33 b (and_parts (leb 33 b) _ (and_parts (leb 33 b && leb b 126) _ e).0).0

graphic-black : (b : ℕ) → is_graphic b ≡ true → is_white b ≡ false
graphic-black b e =
    let low = graphic-low b e in
    rw (ne_eqb b 32 (λ h. omega arith), ne_eqb b 9 (λ h. omega arith), ne_eqb b 13 (λ h. omega arith), ne_eqb b 10 (λ h. omega arith)) refl

or_true : (a : Bool) → (a || true) ≡ true
or_true true = refl
or_true false = refl

all_black : (word : Word) → list_all is_graphic word ≡ true → All (λ b. is_white b ≡ false) word
all_black [] e = All-nil (λ b. is_white b ≡ false)
all_black (b ∷ word) e =
    let parts = and_parts (is_graphic b) _ e in
    All-cons (λ b. is_white b ≡ false) b word (graphic-black b parts.0) (all_black word parts.1)

all_text : (word : Word) → list_all is_graphic word ≡ true → list_all (λ b. is_white b || is_graphic b) word ≡ true
all_text [] e = refl
all_text (b ∷ word) e =
    let parts = and_parts (is_graphic b) _ e in
    and_from _ _ (ap (λ g. is_white b || g) parts.0 ∙ or_true (is_white b)) (all_text word parts.1)

all_one_line : (word : Word) → list_all is_graphic word ≡ true → All (λ b. eqb b 10 ≡ false) word
all_one_line [] e = All-nil (λ b. eqb b 10 ≡ false)
all_one_line (b ∷ word) e =
    let parts = and_parts (is_graphic b) _ e in
    let low = graphic-low b parts.0 in
    All-cons (λ b. eqb b 10 ≡ false) b word (ne_eqb b 10 (λ h. omega arith)) (all_one_line word parts.1)

-- words with one space between them are those words
words-printed : (word : Word) (rest : List ℕ) → IsPrinted word → words (word ++ 32 ∷ rest) ≡ word ∷ words rest
unfolding words
words-printed word rest printed =
    ap (filter (λ w. ltb 0 (length w))) (slice_split_at is_white word 32 rest (all_black word printed.1) refl)
    ∙ cond-true (ltb 0 (length word)) _ _ (lt-ltb 0 (length word) printed.0)

words-last : (word : Word) → IsPrinted word → words word ≡ word ∷ []
unfolding words
words-last word printed =
    ap (filter (λ w. ltb 0 (length w))) (slice_split_none is_white word (all_black word printed.1))
    ∙ cond-true (ltb 0 (length word)) _ _ (lt-ltb 0 (length word) printed.0)

pub words-joined : (word : Word) (more : List Word) → ArePrinted (word ∷ more) → words (join_with_byte 32 (word ∷ more)) ≡ word ∷ more
words-joined word [] printed = words-last word printed.0
words-joined word (next ∷ more) printed =
    words-printed word (join_with_byte 32 (next ∷ more)) printed.0 ∙ ap (λ ws. word ∷ ws) (words-joined next more printed.1)

pub text-joined : (word : Word) (more : List Word) → ArePrinted (word ∷ more) → list_all (λ b. is_white b || is_graphic b) (join_with_byte 32 (word ∷ more)) ≡ true
text-joined word [] printed = all_text word printed.0.1
text-joined word (next ∷ more) printed =
    list_all-append (λ b. is_white b || is_graphic b) word (32 ∷ join_with_byte 32 (next ∷ more))
    ∙ and_from _ _ (all_text word printed.0.1) (text-joined next more printed.1)

pub one_line-joined : (word : Word) (more : List Word) → ArePrinted (word ∷ more) → All (λ b. eqb b 10 ≡ false) (join_with_byte 32 (word ∷ more))
one_line-joined word [] printed = all_one_line word printed.0.1
one_line-joined word (next ∷ more) printed =
    All-append (λ b. eqb b 10 ≡ false) word (32 ∷ join_with_byte 32 (next ∷ more)) (all_one_line word printed.0.1)
    (All-cons (λ b. eqb b 10 ≡ false) 32 (join_with_byte 32 (next ∷ more)) refl (one_line-joined next more printed.1))

-- printed numbers
digits-ascii : (digits : List ℕ) → AllDigits 10 digits → list_all is_ascii_digit digits ≡ true
digits-ascii [] h = refl
digits-ascii (d ∷ digits) h =
    let range = digit_from_value d h.0 in
    and_from _ _ (and_from _ _ (le-leb 48 d range.0) (le-leb d 57 range.1)) (digits-ascii digits h.1)

digits-graphic : (digits : List ℕ) → AllDigits 10 digits → list_all is_graphic digits ≡ true
digits-graphic [] h = refl
digits-graphic (d ∷ digits) h =
    let range = digit_from_value d h.0 in
    let low : 48 ≤ d = range.0 in
    let high : d ≤ 57 = range.1 in
    and_from _ _ (and_from _ _ (and_from _ _ (le-leb 33 d (omega arith)) (le-leb d 126 (omega arith))) (ap not (ne_eqb d 92 (λ h. omega arith)))) (digits-graphic digits h.1)

pub printed-decimal : (n : ℕ) → n < 2 ^ 64 → IsPrinted (decimal n)
printed-decimal n fits =
    let numeral = decimal_is_IsNumeral n fits in
    (numeral.0.0, digits-graphic (decimal n) numeral.0.1)

pub number-decimal : (n : ℕ) → n < 2 ^ 64 → number (decimal n) ≡ Some n
number-decimal n fits =
    let numeral = decimal_is_IsNumeral n fits in
    let value : digits_value 10 (decimal n) ≡ n = numeral.1 in
    number-some (decimal n) numeral.0.0 (digits-ascii (decimal n) numeral.0.1) (rw value fits) ∙ ap Some value

pub number_at-decimal : (n : ℕ) → n < 2 ^ 64 → number_at (decimal n) ≡ Ok n
number_at-decimal n fits = ap (λ o. ok_or o kinds.Number) (number-decimal n fits)

-- a number does not begin as a comment does
pub digit-no_comment : (digits : List ℕ) → 0 < length digits → AllDigits 10 digits → starts_with ◌==◌ digits (codes "#") ≡ false
digit-no_comment [] some h = absurd (omega arith)
digit-no_comment (d ∷ digits) some h =
    let range = digit_from_value d h.0 in
    let low : 48 ≤ d = range.0 in
    ap (λ t. t && pointwise eqb [] (take 0 digits)) (ne_eqb 35 d (λ h. omega arith))

-- device arguments
leaf-graphic : (word : Word) → list_all is_leaf_byte word ≡ true → list_all is_graphic word ≡ true
leaf-graphic [] e = refl
leaf-graphic (b ∷ word) e =
    let parts = and_parts (is_leaf_byte b) _ e in
    let first = and_parts (is_graphic b && not (eqb b 44)) _ parts.0 in
    and_from _ _ (and_parts (is_graphic b) _ first.0).0 (leaf-graphic word parts.1)

mapped-leaf : (word : Word) → list_all is_mapped_byte word ≡ true → list_all is_leaf_byte word ≡ true
mapped-leaf [] e = refl
mapped-leaf (b ∷ word) e =
    let parts = and_parts (is_mapped_byte b) _ e in
    and_from _ _ (and_parts (is_leaf_byte b) _ parts.0).0 (mapped-leaf word parts.1)

pointwise-same : (xs ys : List ℕ) → pointwise eqb xs ys ≡ true → xs ≡ ys
pointwise-same [] [] e = refl
pointwise-same [] (y ∷ ys) e = cc
pointwise-same (x ∷ xs) [] e = cc
pointwise-same (x ∷ xs) (y ∷ ys) e =
    let parts = and_parts (eqb x y) _ e in
    let first = eqb-true x y parts.0 in
    let rest = pointwise-same xs ys parts.1 in cc

pub printed-description : (word : Word) → is_key_description word ≡ true → IsPrinted word
printed-description word e =
    let parts = and_parts (leb 1 (length word) && leb (length word) 255) _ e in
    let some = leb-true 1 (length word) (and_parts (leb 1 (length word)) _ parts.0).0 in
    (omega arith, leaf-graphic word parts.1)

pub printed-device : (word : Word) → is_device word ≡ true → IsPrinted word
unfolding is_device is_mapped_name
printed-device word e = elim (cases_Bool (starts_with ◌==◌ word mapper)) [
  | inl path ↦
      let name = sym (cond-true (starts_with ◌==◌ word mapper) (is_name_of 127 is_mapped_byte (drop 12 word)) (is_name_of 255 is_leaf_byte word) path) ∙ e in
      let rest = and_parts (leb 1 (length (drop 12 word)) && leb (length (drop 12 word)) 127) _ name in
      let front : mapper ≡ take 12 word = pointwise-same mapper (take 12 word) path in
      let whole : word ≡ mapper ++ drop 12 word = sym (take-append-drop 12 word) ∙ ap (λ t. t ++ drop 12 word) (sym front) in
      subst IsPrinted (sym whole)
      (omega arith, list_all-append is_graphic mapper (drop 12 word) ∙ leaf-graphic (drop 12 word) (mapped-leaf (drop 12 word) rest.1))
  | inr leaf ↦
      let name = sym (cond-false (starts_with ◌==◌ word mapper) (is_name_of 127 is_mapped_byte (drop 12 word)) (is_name_of 255 is_leaf_byte word) leaf) ∙ e in
      printed-description word name
]

pub base_at-printed : (base : Base) → IsBaseOfGrammar base → base_at base.device (decimal base.offset) ≡ Ok base
unfolding base_at
base_at-printed base h =
    ap (λ r. r >>= (λ device. number_at (decimal base.offset) >>= (λ sector. Ok (record { device = device; offset = sector }))))
    (cond-true (is_device base.device) (Ok base.device) (Err kinds.Name) h.device)
    ∙ ap (λ r. r >>= (λ sector. Ok (record { device = base.device; offset = sector }))) (number_at-decimal base.offset h.offset)
