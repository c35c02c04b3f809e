use Rattle.std.proofs.Common.{◌≡◌, ◌^◌, ◌<◌, length, false, get_or, sym, ◌∙◌, ap, subst, arith, eqb-true, inl, inr}
use Rattle.std.proofs.lemmas.Bool.{cases_lt, eqb-false, false≢true, le-ltb}
use Rattle.std.specs.Char.{digit_value, is_digit}
use Rattle.std.specs.List.{list_all}
use Rattle.std.specs.Str.Parse.{digits_value, digits_value_after}
use Rattle.std.proofs.lemmas.List.{at_drop_all}
use Rattle.std.proofs.lemmas.List.Folds.{list_all_at}
use Rattle.rescue_map.proofs.NumberLemmas.{hexadecimal-empty, hexadecimal-large, hexadecimal-no_digits, hexadecimal-some, digits_value-large}
use Rattle.rescue_map.proofs.numbers.hexadecimal.Goals as goal

pub returns-then-is_empty : goal.returns-then-is_empty
returns-then-is_empty c =
    sym (hexadecimal-empty c.args.word.now (eqb-true _ _ (sym c.is_empty.ensures ∙ c.if-is_empty.true)))

pub returns-in_err-digit : goal.returns-in_err-digit
returns-in_err-digit c =
    let word = c.args.word.now in
    let byte = get_or word c.digits.byte-index 0 in
    let other : is_digit byte 16 ≡ false = elim (cases_lt (digit_value byte) 16) [
      | inl lt ↦ absurd (false≢true (c.in_err-digit.ensures.succeeds (subst (λ b. digit_value b < 16) (sym c.from.ensures) lt)))
      | inr le ↦ le-ltb _ _ le
    ] in
    rw c.from_residual.ensures (sym (hexadecimal-no_digits word (list_all_at (λ b. is_digit b 16) word c.digits.byte-index 0 c.digits-test.true other)))

pub returns-in_err-checked_mul : goal.returns-in_err-checked_mul
returns-in_err-checked_mul c =
    let refused = c.in_err-checked_mul.ensures in
    let large = digits_value-large c.args.word.now c.digits.byte-index c.digits.value c.digits-test.true c.digits.invariant.1 (omega (arith, refused)) in
    rw c.from_residual-in_err-checked_mul.ensures (sym (hexadecimal-large c.args.word.now large))

pub returns-in_err-value : goal.returns-in_err-value
returns-in_err-value c =
    let refused = c.in_err-value.ensures in
    let digit = c.in_ok-digit.ensures.value.1 ∙ ap digit_value c.from.ensures in
    let large = digits_value-large c.args.word.now c.digits.byte-index c.digits.value c.digits-test.true c.digits.invariant.1 (omega (arith, refused, digit, c.in_ok-checked_mul.ensures, c.from-in-digits.ensures)) in
    rw c.from_residual-in_err-value.ensures (sym (hexadecimal-large c.args.word.now large))

pub returns : goal.returns
returns c =
    let word = c.args.word.now in
    let value = sym (at_drop_all (digits_value_after 16 c.digits.value) word c.digits.byte-index c.digits-test.false) ∙ c.digits.invariant.1 in
    let digits = sym c.digits.invariant.2 ∙ at_drop_all (list_all (λ b. is_digit b 16)) word c.digits.byte-index c.digits-test.false in
    let other = eqb-false (length word) 0 (sym c.is_empty.ensures ∙ c.if-is_empty.false) in
    let some : 0 < length word = omega arith in
    let fits : digits_value 16 word < 2 ^ 64 = rw (← value) c.digits.invariant.0 in
    rw value (sym (hexadecimal-some word some digits fits))
