-- The names of mapped devices, and the device arguments of a table line.
use Rattle.std.specs.Prelude.{ℕ, Bool, not, ◌&&◌, ◌==◌, nat_le, if◌then◌else◌, List, length, drop, codes}
use Rattle.std.specs.List.{list_all, starts_with}
use Rattle.dm_table.specs.Words.{Word, is_graphic}

-- a printing character other than the comma, which separates fields, and the semicolon, which separates entries
abbrev pub is_leaf_byte : ℕ → Bool
is_leaf_byte b = is_graphic b && not (b == 44) && not (b == 59)

-- a character of the name of a mapped device: a leaf byte other than the slash
abbrev pub is_mapped_byte : ℕ → Bool
is_mapped_byte b = is_leaf_byte b && not (b == 47)

-- 1 to `most` bytes that all pass the test
abbrev pub is_name_of : ℕ → (ℕ → Bool) → Word → Bool
is_name_of most test word = nat_le 1 (length word) && nat_le (length word) most && list_all test word

-- the name of a mapped device in the kernel: at most 127 bytes
unfoldable pub is_mapped_name : Word → Bool
is_mapped_name = is_name_of 127 is_mapped_byte

-- the length of the longest name in bytes
abbrev pub most_name : ℕ
most_name = 255

-- the directory of mapped devices
abbrev pub mapper : List ℕ
mapper = codes "/dev/mapper/"

-- the path of a mapped device, or the name of a backing device: at most 255 bytes that don't begin like such a path
unfoldable pub is_device : Word → Bool
is_device word =
    if starts_with ◌==◌ word mapper then is_mapped_name (drop 12 word)
    else is_name_of 255 is_leaf_byte word
