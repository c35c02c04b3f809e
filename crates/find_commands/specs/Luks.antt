-- LUKS2 volumes (LUKS2 On-Disk Format Specification 1.1.4): the JSON area of a header (2.1, 3.1), and the segments that it states (3.3).
use Rattle.std.specs.Prelude.{ℕ, ◌+◌, ◌-◌, ◌/◌, ◌%◌, ◌==◌, ◌&&◌, nat_le, Bool, false, List, codes, Option, Some, None, option_and_then, option_map, if◌then◌else◌}
use Rattle.std.specs.Int.{is_power_of_two}
use Rattle.std.specs.Str.{bytes_eq}
use Rattle.dm_table.specs.Numbers.{number}
use Rattle.serde_json.specs.Data.{Data}
use Rattle.serde_json.specs.Find.{as_number, as_str, as_u64, get}
use Rattle.find_commands.specs.declared.checksum.Checksum.{Checksum}
use Rattle.find_commands.specs.declared.checksum.Checksum.TheVariants.{Valid, Unchecked}
use Rattle.find_commands.specs.declared.finding.Finding.{Finding}
use Rattle.find_commands.specs.declared.luks.Extent.{Extent}

-- ---- the JSON area: what follows the binary header of 4,096 bytes, which are 8 sectors, up to the header's size (hdr_size)

-- from 16 KiB to 4 MiB, a power of two
unfoldable pub is_header_size : ℕ → Bool
is_header_size size = is_power_of_two size && (nat_le 16384 size && nat_le size 4194304)

abbrev pub stated_size : Option ℕ → ℕ
stated_size (Some size) = size
stated_size None = 0

-- the size of a header, of which no other checksum is known
abbrev pub header_size : Option Checksum → Option ℕ → ℕ
header_size (Some Valid) size = stated_size size
header_size (Some Unchecked) size = stated_size size
header_size other size = 0

-- a header of a size that there is ends on a disk of so many sectors
abbrev pub fits_header : ℕ → ℕ → ℕ → Bool
fits_header sectors first size = is_header_size size && (nat_le (size / 512) sectors && nat_le first (sectors - size / 512))

abbrev pub has_area : ℕ → Finding → Bool
has_area sectors f = fits_header sectors f.sector (header_size f.checksum f.size)

-- the first sector of the area, and how many sectors it has
abbrev pub area_first : Finding → ℕ
area_first f = f.sector + 8

abbrev pub area_sectors : Finding → ℕ
area_sectors f = header_size f.checksum f.size / 512 - 8

-- ---- a segment: an object of the object `segments`, whose name is a number

abbrev pub segment_at : List ℕ → Data → Option Data
segment_at name area = option_and_then (get name) (get (codes "segments") area)

-- a member that is a text
abbrev pub text_in : List ℕ → Data → Option (List ℕ)
text_in name d = option_and_then as_str (get name d)

-- numbers of 64 bits are texts of decimal digits
abbrev pub number_in : List ℕ → Data → Option ℕ
number_in name d = option_and_then number (text_in name d)

-- bytes as sectors, if they are whole ones
abbrev pub whole_sectors : ℕ → Option ℕ
whole_sectors bytes = if bytes % 512 == 0 then Some (bytes / 512) else None

abbrev pub sectors_in : List ℕ → Data → Option ℕ
sectors_in name d = option_and_then whole_sectors (number_in name d)

-- a size in bytes, or None for the size of the device from the segment's offset on
abbrev pub stated_length : List ℕ → Option (Option ℕ)
stated_length text = option_and_then (λ bytes. option_map (λ n. Some n) (whole_sectors bytes)) (number text)

abbrev pub length_of : List ℕ → Option (Option ℕ)
length_of text = if bytes_eq text (codes "dynamic") then Some None else stated_length text

abbrev pub length_in : Data → Option (Option ℕ)
length_in d = option_and_then length_of (text_in (codes "size") d)

abbrev pub sector_size_in : Data → Option ℕ
sector_size_in d = option_and_then as_u64 (option_and_then as_number (get (codes "sector_size") d))

abbrev pub extent_from : ℕ → Option ℕ → ℕ → ℕ → Extent
extent_from offset size iv_tweak sector_size = record { offset = offset; size = size; iv_tweak = iv_tweak; sector_size = sector_size }

-- its offset and size in sectors, the tweak of its initialization vectors and the size of an encrypted sector
abbrev pub extent_in : Data → Option Extent
extent_in d =
    option_and_then (λ offset. option_and_then (λ size. option_and_then (λ iv_tweak. option_map (extent_from offset size iv_tweak) (sector_size_in d)) (number_in (codes "iv_tweak") d)) (length_in d)) (sectors_in (codes "offset") d)

abbrev pub is_crypt : Option (List ℕ) → Bool
is_crypt (Some kind) = bytes_eq kind (codes "crypt")
is_crypt None = false

-- the cipher in dm-crypt's notation, and the extent
abbrev pub cipher_in : Data → Option (List ℕ × Extent)
cipher_in d = option_and_then (λ cipher. option_map (λ extent. (cipher, extent)) (extent_in d)) (text_in (codes "encryption") d)

-- a segment of type `crypt` that has all of these members
abbrev pub crypt_in : Data → Option (List ℕ × Extent)
crypt_in d = if is_crypt (text_in (codes "type") d) then cipher_in d else None
