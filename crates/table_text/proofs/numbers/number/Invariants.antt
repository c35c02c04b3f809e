use Rattle.std.proofs.Common.{◌≡◌, ◌^◌, ◌<◌, drop}
use Rattle.std.specs.List.{list_all}
use Rattle.std.specs.Char.{is_ascii_digit}
use Rattle.std.specs.Str.Parse.{digits_value, digits_value_after}
use Rattle.table_text.proofs.numbers.number.Given as goal

abbrev pub invariant-digits : goal.invariant-digits
invariant-digits l =
    (l.value < 2 ^ 64) × (digits_value_after 10 l.value (drop l.byte-index l.word) ≡ digits_value 10 l.word)
    × (list_all is_ascii_digit (drop l.byte-index l.word) ≡ list_all is_ascii_digit l.word)
