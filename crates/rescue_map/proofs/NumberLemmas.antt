-- Hexadecimal numbers: when a word is one, and a digit more.
use Rattle.std.proofs.Common.{◌≡◌, ℕ, ◌+◌, ◌*◌, ◌^◌, ◌<◌, ◌≤◌, Bool, true, false, ◌&&◌, ltb, List, [], ◌∷◌, length, drop, get_or, Some, None, refl, ap, ◌∙◌, arith, le_refl, le_trans}
use Rattle.std.specs.List.{list_all}
use Rattle.std.specs.Char.{is_digit, digit_value}
use Rattle.std.specs.Str.Parse.{digits_value, digits_value_after}
use Rattle.std.proofs.lemmas.Bool.{cond-false, le-ltb, lt-ltb}
use Rattle.std.proofs.lemmas.List.{at_drop_more}
use Rattle.rescue_map.specs.Numbers.{hexadecimal}

middle_false : (a c : Bool) → (a && false) && c ≡ false
middle_false true c = refl
middle_false false c = refl

last_false : (a : Bool) → a && false ≡ false
last_false true = refl
last_false false = refl

pub hexadecimal-empty : (word : List ℕ) → length word ≡ 0 → hexadecimal word ≡ None
unfolding hexadecimal
hexadecimal-empty word none = rw none refl

pub hexadecimal-no_digits : (word : List ℕ) → list_all (λ b. is_digit b 16) word ≡ false → hexadecimal word ≡ None
unfolding hexadecimal
hexadecimal-no_digits word other =
    cond-false _ _ _ (ap (λ b. (ltb 0 (length word) && b) && ltb (digits_value 16 word) (2 ^ 64)) other ∙ middle_false _ _)

pub hexadecimal-large : (word : List ℕ) → 2 ^ 64 ≤ digits_value 16 word → hexadecimal word ≡ None
unfolding hexadecimal
hexadecimal-large word large =
    cond-false _ _ _ (ap (λ b. (ltb 0 (length word) && list_all (λ b. is_digit b 16) word) && b) (le-ltb (digits_value 16 word) (2 ^ 64) large) ∙ last_false _)

pub hexadecimal-some : (word : List ℕ) → 0 < length word → list_all (λ b. is_digit b 16) word ≡ true → digits_value 16 word < 2 ^ 64 → hexadecimal word ≡ Some (digits_value 16 word)
unfolding hexadecimal
hexadecimal-some word some digits fits = rw (lt-ltb 0 (length word) some, digits, lt-ltb (digits_value 16 word) (2 ^ 64) fits) refl

-- more digits only make the value larger
le-digits_value_after : (n : ℕ) (digits : List ℕ) → n ≤ digits_value_after 16 n digits
le-digits_value_after n [] = le_refl n
le-digits_value_after n (d ∷ digits) =
    let step : n ≤ n * 16 + digit_value d = omega arith in
    le_trans step (le-digits_value_after (n * 16 + digit_value d) digits)

-- a digit by which the value grows too large
pub digits_value-large : (word : List ℕ) (i value : ℕ) → i < length word → digits_value_after 16 value (drop i word) ≡ digits_value 16 word → 2 ^ 64 ≤ value * 16 + digit_value (get_or word i 0) → 2 ^ 64 ≤ digits_value 16 word
digits_value-large word i value lt e large =
    let turn = at_drop_more (digits_value_after 16 value) word i 0 lt in
    let grown = le-digits_value_after (value * 16 + digit_value (get_or word i 0)) (drop (i + 1) word) in
    omega (arith, e, turn, grown)
