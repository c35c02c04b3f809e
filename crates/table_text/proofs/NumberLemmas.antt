-- Numbers: when a word is one, and a digit more.
use Rattle.std.proofs.Common.{◌≡◌, ℕ, ◌+◌, ◌-◌, ◌*◌, ◌^◌, ◌<◌, ◌≤◌, Bool, true, false, ◌&&◌, ltb, List, [], ◌∷◌, length, drop, get_or, None, refl, ap, ◌∙◌, arith, le_refl, le_trans}
use Rattle.std.specs.List.{list_all}
use Rattle.std.specs.Char.{is_ascii_digit, digit_value}
use Rattle.std.specs.Str.Parse.{digits_value, digits_value_after}
use Rattle.std.proofs.lemmas.Bool.{cond-false, le-ltb}
use Rattle.std.proofs.lemmas.Bool.Decides.{nat_tests}
use Rattle.std.proofs.lemmas.List.{at_drop_more}
use Rattle.std.proofs.lemmas.Grind.{common_steps}
use Rattle.dm_table.specs.Numbers.{number}

middle_false : (a c : Bool) → (a && false) && c ≡ false
middle_false true c = refl
middle_false false c = refl

last_false : (a : Bool) → a && false ≡ false
last_false true = refl
last_false false = refl

pub number-empty : (word : List ℕ) → length word ≡ 0 → number word ≡ None
unfolding number
number-empty word none = rw none refl

pub number-no_digits : (word : List ℕ) → list_all is_ascii_digit word ≡ false → number word ≡ None
unfolding number
number-no_digits word other =
    cond-false _ _ _ (ap (λ b. (ltb 0 (length word) && b) && ltb (digits_value 10 word) (2 ^ 64)) other ∙ middle_false _ _)

pub number-large : (word : List ℕ) → 2 ^ 64 ≤ digits_value 10 word → number word ≡ None
unfolding number
number-large word large =
    cond-false _ _ _ (ap (λ b. (ltb 0 (length word) && list_all is_ascii_digit word) && b) (le-ltb (digits_value 10 word) (2 ^ 64) large) ∙ last_false _)

-- more digits only make the value larger
le-digits_value_after : (n : ℕ) (digits : List ℕ) → n ≤ digits_value_after 10 n digits
le-digits_value_after n [] = le_refl n
le-digits_value_after n (d ∷ digits) =
    let step : n ≤ n * 10 + digit_value d = omega arith in
    le_trans step (le-digits_value_after (n * 10 + digit_value d) digits)

-- a digit by which the value grows too large
pub digits_value-large : (word : List ℕ) (i value : ℕ) → i < length word → digits_value_after 10 value (drop i word) ≡ digits_value 10 word → 2 ^ 64 ≤ value * 10 + digit_value (get_or word i 0) → 2 ^ 64 ≤ digits_value 10 word
digits_value-large word i value lt e large =
    let turn = at_drop_more (digits_value_after 10 value) word i 0 lt in
    let grown = le-digits_value_after (value * 10 + digit_value (get_or word i 0)) (drop (i + 1) word) in
    omega (arith, e, turn, grown)

-- a decimal digit's value
pub digit_value-digit : (b : ℕ) → is_ascii_digit b ≡ true → digit_value b ≡ b - 48
digit_value-digit b digit = grind (arith, nat_tests, common_steps)
