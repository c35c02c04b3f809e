-- The line of a stack text for a segment of a LUKS2 volume, which is the device DISK of the line.
use Rattle.std.specs.Prelude.{ℕ, List, ◌++◌, codes, decimal, Option, Some, None}
use Rattle.find_commands.specs.declared.luks.Extent.{Extent}

-- LENGTH stands for a length that isn't stated
abbrev pub length_text : Option ℕ → List ℕ
length_text (Some length) = decimal length
length_text None = codes "LENGTH"

-- KEY stands for the key
unfoldable pub crypt_line : Extent → List ℕ
crypt_line e =
    codes "0 "
    ++ (length_text e.size ++ (codes " crypt aes-xts-plain64 KEY " ++ (decimal e.iv_tweak ++ (codes " DISK " ++ (decimal e.offset ++ (codes " 1 sector_size:" ++ decimal e.sector_size))))))
