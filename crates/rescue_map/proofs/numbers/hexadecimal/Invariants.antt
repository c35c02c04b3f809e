use Rattle.std.proofs.Common.{◌≡◌, ◌^◌, ◌<◌, drop}
use Rattle.std.specs.List.{list_all}
use Rattle.std.specs.Char.{is_digit}
use Rattle.std.specs.Str.Parse.{digits_value, digits_value_after}
use Rattle.rescue_map.proofs.numbers.hexadecimal.Given as goal

abbrev pub invariant-digits : goal.invariant-digits
invariant-digits l =
    (l.value < 2 ^ 64) × (digits_value_after 16 l.value (drop l.byte-index l.word) ≡ digits_value 16 l.word)
    × (list_all (λ b. is_digit b 16) (drop l.byte-index l.word) ≡ list_all (λ b. is_digit b 16) l.word)
