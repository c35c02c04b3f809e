-- Decimal numbers in a text.
use Rattle.std.specs.Prelude.{ℕ, ◌^◌, Bool, ◌&&◌, nat_lt, length, Option, Some, None, if◌then◌else◌}
use Rattle.std.specs.List.{list_all}
use Rattle.std.specs.Char.{is_ascii_digit}
use Rattle.std.specs.Str.Parse.{digits_value}
use Rattle.dm_table.specs.Words.{Word}

-- one or more decimal digits with a value below 2 ^ 64; leading zeros are allowed
unfoldable pub number : Word → Option ℕ
number word =
    if nat_lt 0 (length word) && list_all is_ascii_digit word && nat_lt (digits_value 10 word) (2 ^ 64)
    then Some (digits_value 10 word) else None

-- the number, if it passes the test
abbrev pub number_if : (ℕ → Bool) → Option ℕ → Option ℕ
number_if test None = None
number_if test (Some n) = if test n then Some n else None
