-- The numbers in a map file.
use Rattle.std.specs.Prelude.{ℕ, ◌^◌, Bool, ◌&&◌, ◌||◌, ◌==◌, nat_lt, length, drop, Option, Some, None, if◌then◌else◌}
use Rattle.std.specs.List.{list_all, slice_index}
use Rattle.std.specs.Char.{is_digit}
use Rattle.std.specs.Str.Parse.{digits_value}
use Rattle.dm_table.specs.Numbers.{number}
use Rattle.dm_table.specs.Words.{Word}

-- one or more hexadecimal digits, in upper or lower case, with a value below 2 ^ 64
unfoldable pub hexadecimal : Word → Option ℕ
hexadecimal word =
    if nat_lt 0 (length word) && list_all (λ b. is_digit b 16) word && nat_lt (digits_value 16 word) (2 ^ 64)
    then Some (digits_value 16 word) else None

-- `0` followed by more characters: the next must be the x of a hexadecimal number, since C reads others as octal
abbrev pub has_base : Word → Bool
has_base word = nat_lt 1 (length word) && (slice_index word 0 == 48)

-- hexadecimal after `0x`, otherwise decimal
abbrev pub map_number : Word → Option ℕ
map_number word =
    if has_base word then (if (slice_index word 1 == 120) || (slice_index word 1 == 88) then hexadecimal (drop 2 word) else None)
    else number word
