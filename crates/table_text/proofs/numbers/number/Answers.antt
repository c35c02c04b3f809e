use Rattle.std.proofs.Common.{◌^◌, ◌<◌, length, get_or, sym, ◌∙◌, arith, eqb-true}
use Rattle.std.proofs.lemmas.Bool.{eqb-false}
use Rattle.std.specs.Char.{is_ascii_digit}
use Rattle.std.specs.List.{list_all}
use Rattle.std.specs.Str.Parse.{digits_value, digits_value_after}
use Rattle.std.proofs.lemmas.List.{at_drop_all}
use Rattle.std.proofs.lemmas.List.Folds.{list_all_at}
use Rattle.table_text.proofs.NumberLemmas.{number-empty, number-large, number-no_digits, digits_value-large, digit_value-digit}
use Rattle.dm_table.proofs.lemmas.ReadLineLemmas.{number-some}
use Rattle.table_text.proofs.numbers.number.Goals as goal

pub returns-then-is_empty : goal.returns-then-is_empty
returns-then-is_empty c =
    sym (number-empty c.args.word.now (eqb-true _ _ (sym c.is_empty.ensures ∙ c.if-is_empty.true)))

pub returns-then-not-is_ascii_digit : goal.returns-then-not-is_ascii_digit
returns-then-not-is_ascii_digit c =
    sym (number-no_digits c.args.word.now (list_all_at is_ascii_digit c.args.word.now c.digits.byte-index 0 c.digits-test.true (sym c.is_ascii_digit.ensures.value ∙ c.if-not-is_ascii_digit.true)))

pub returns-in_err-checked_mul : goal.returns-in_err-checked_mul
returns-in_err-checked_mul c =
    let refused = c.in_err-checked_mul.ensures in
    let large = digits_value-large c.args.word.now c.digits.byte-index c.digits.value c.digits-test.true c.digits.invariant.1 (omega arith) in
    rw c.from_residual.ensures (sym (number-large c.args.word.now large))

pub returns-in_err-value : goal.returns-in_err-value
returns-in_err-value c =
    let refused = c.in_err-value.ensures in
    let digit = digit_value-digit (get_or c.args.word.now c.digits.byte-index 0) (sym c.is_ascii_digit.ensures.value ∙ c.if-not-is_ascii_digit.false) in
    let large = digits_value-large c.args.word.now c.digits.byte-index c.digits.value c.digits-test.true c.digits.invariant.1 (omega (arith, c.in_ok-checked_mul.ensures, c.from.ensures)) in
    rw c.from_residual-in_err-value.ensures (sym (number-large c.args.word.now large))

pub returns : goal.returns
returns c =
    let word = c.args.word.now in
    let value = sym (at_drop_all (digits_value_after 10 c.digits.value) word c.digits.byte-index c.digits-test.false) ∙ c.digits.invariant.1 in
    let digits = sym c.digits.invariant.2 ∙ at_drop_all (list_all is_ascii_digit) word c.digits.byte-index c.digits-test.false in
    let other = eqb-false (length word) 0 (sym c.is_empty.ensures ∙ c.if-is_empty.false) in
    let some : 0 < length word = omega arith in
    let fits : digits_value 10 word < 2 ^ 64 = rw (← value) c.digits.invariant.0 in
    rw value (sym (number-some word some digits fits))
