-- The label of a partition, as text.
use Rattle.std.specs.Prelude.{ℕ, ◌+◌, ◌*◌, ◌==◌, ◌&&◌, ◌||◌, nat_le, nat_lt, not, Bool, List, map, take_while, slice_range, if◌then◌else◌}
use Rattle.std.specs.Char.Utf16.{utf16_lossy_chars}
use Rattle.std.specs.Int.{w16, from_le_bytes}
use Rattle.std.specs.List.{range_with_len}
use Rattle.std.specs.Str.{bytes_eq, encode_utf8_all}
use Rattle.partition_table.specs.declared.partition.Partition.{Partition}

-- the number in 2 bytes from a place on
abbrev pub number16 : List ℕ → ℕ → ℕ
number16 bytes at = from_le_bytes w16 (slice_range bytes at (at + 2))

-- the first n units of a label, of which there are 36
unfoldable pub units_to : List ℕ → ℕ → List ℕ
units_to label n = map (λ k. number16 label (2 * k)) (range_with_len 0 n)

abbrev pub label_units : List ℕ → List ℕ
label_units label = units_to label 36

-- a control character isn't shown
abbrev pub shown_unit : ℕ → ℕ
shown_unit unit = if nat_lt unit 32 || (nat_le 127 unit && nat_lt unit 160) then 0xfffd else unit

-- the units before the first zero
abbrev pub before_zero : List ℕ → List ℕ
before_zero units = take_while (λ u. not (u == 0)) units

-- the characters up to the first zero, with U+FFFD for control characters and for surrogates that have no partner
abbrev pub label_text : List ℕ → List ℕ
label_text label = encode_utf8_all (utf16_lossy_chars (map shown_unit (before_zero (label_units label))))

-- a partition has that label, as text
abbrev pub has_label : List ℕ → Partition → Bool
has_label text p = bytes_eq (label_text p.label) text

-- no allocation for a label or a name has more elements
abbrev pub name_room : ℕ
name_room = 41
