-- What the sectors of a disk show. Offsets within a sector are those of its kind's format (`Signatures` has their sources).
use Rattle.std.specs.Prelude.{ℕ, ◌+◌, ◌-◌, ◌*◌, ◌/◌, ◌%◌, ◌==◌, nat_lt, List, [], ◌∷◌, ◌++◌, slice_range, Option, Some, None, option_and_then, if◌then◌else◌}
use Rattle.uuid.specs.Text.{parsed}
use Rattle.partition_table.specs.Fields.{number32, number64, uuid_at}
use Rattle.find_commands.specs.declared.checksum.Checksum.{Checksum}
use Rattle.find_commands.specs.declared.checksum.Checksum.TheVariants.{Wrong, Unchecked}
use Rattle.find_commands.specs.declared.finding.Finding.{Finding}
use Rattle.find_commands.specs.declared.kind.Kind.{Kind}
use Rattle.find_commands.specs.declared.kind.Kind.TheVariants.{Gpt, GptBackup, Verity, Luks2, Luks2Secondary, Ext4, Erofs, Squashfs, Xfs, Btrfs}
use Rattle.find_commands.specs.Fields.{big_endian32, big_endian64, block_bytes, identifier, blocks_product}
use Rattle.find_commands.specs.Headers.{Header, begun_open, begun_report, grown_open, grown_report, interrupted}
use Rattle.find_commands.specs.Kinds.{is_luks2}
use Rattle.find_commands.specs.Signatures.{kind_at}

-- how many sectors before its signature a thing begins; a secondary LUKS2 header states it in bytes (hdr_offset)
abbrev pub sectors_back : Kind → List ℕ → ℕ
sectors_back Ext4 s = 2
sectors_back Erofs s = 2
sectors_back Btrfs s = 128
sectors_back Luks2Secondary s = big_endian64 s 256 / 512
sectors_back kind s = 0

-- s_blocks_count_lo and, with the feature of 64-bit numbers, s_blocks_count_hi
unfoldable pub ext4_blocks : List ℕ → ℕ
ext4_blocks s = if number32 s 96 / 128 % 2 == 1 then number32 s 4 + number32 s 336 * 4294967296 else number32 s 4

-- a block of 1,024 bytes times 2 to that power (s_log_block_size)
abbrev pub ext4_block : ℕ → ℕ
ext4_block logarithm = if nat_lt 6 logarithm then 0 else block_bytes (10 + logarithm)

-- how many blocks a thing has, if its header states that; of a hash image how many data blocks
abbrev pub blocks_in : Kind → List ℕ → Option ℕ
blocks_in Verity s = Some (number64 s 72)
blocks_in Ext4 s = Some (ext4_blocks s)
blocks_in Erofs s = Some (number32 s 36)
blocks_in Xfs s = Some (big_endian64 s 8)
blocks_in kind s = None

-- its size in bytes: blocks times the size of a block; of LUKS2 the header's size (hdr_size), of SquashFS bytes_used, of Btrfs
-- total_bytes
abbrev pub size_in : Kind → List ℕ → Option ℕ
size_in Gpt s = None
size_in GptBackup s = None
size_in Verity s = blocks_product (number64 s 72) (number32 s 64)
size_in Luks2 s = Some (big_endian64 s 8)
size_in Luks2Secondary s = Some (big_endian64 s 8)
size_in Ext4 s = blocks_product (ext4_blocks s) (ext4_block (number32 s 24))
size_in Erofs s = blocks_product (number32 s 36) (block_bytes (number32 s 12 % 256))
size_in Squashfs s = Some (number64 s 40)
size_in Xfs s = blocks_product (big_endian64 s 8) (big_endian32 s 4)
size_in Btrfs s = Some (number64 s 112)

-- LUKS2 stores its identifier as text
abbrev pub luks2_uuid : List ℕ → Option (List ℕ)
luks2_uuid text = parsed text

abbrev pub uuid_in : Kind → List ℕ → Option (List ℕ)
uuid_in Gpt s = Some (uuid_at s 56)
uuid_in GptBackup s = Some (uuid_at s 56)
uuid_in Verity s = Some (identifier s 16)
uuid_in Luks2 s = luks2_uuid (slice_range s 168 204)
uuid_in Luks2Secondary s = luks2_uuid (slice_range s 168 204)
uuid_in Ext4 s = Some (identifier s 104)
uuid_in Erofs s = Some (identifier s 48)
uuid_in Squashfs s = None
uuid_in Xfs s = Some (identifier s 32)
uuid_in Btrfs s = Some (identifier s 32)

-- the checksum of a LUKS2 header isn't checked by its first sector alone
abbrev pub checksum_in : Kind → Option Checksum
checksum_in kind = if is_luks2 kind then Some Unchecked else None

-- the thing of that kind whose signature is in sector `at`
abbrev pub finding : ℕ → List ℕ → Kind → Finding
finding at s kind = record {
  offset = 512 * (at - sectors_back kind s);
  sector = at;
  kind = kind;
  size = size_in kind s;
  blocks = blocks_in kind s;
  uuid = uuid_in kind s;
  checksum = checksum_in kind;
}

-- it begins at sector 0 or after it
abbrev pub found_as : ℕ → List ℕ → Kind → Option Finding
found_as at s kind = if nat_lt at (sectors_back kind s) then None else Some (finding at s kind)

unfoldable pub found_at : ℕ → List ℕ → Option Finding
found_at at s = option_and_then (found_as at s) (kind_at s)

-- a sector as it was read, or None if it is lost
abbrev pub ReadState : Type 0
ReadState = Option (List ℕ)

-- ---- one sector after another, with the LUKS2 header whose sectors are being read, if any

-- A sector was read that shows this. Another header ends one that is open.
abbrev pub found_report : Option Header → Option Finding → List ℕ → List Finding
found_report current None s = grown_report current s
found_report current (Some f) s = if is_luks2 f.kind then interrupted Wrong current ++ begun_report f s else grown_report current s ++ f ∷ []

abbrev pub found_open : Option Header → Option Finding → List ℕ → Option Header
found_open current None s = grown_open current s
found_open current (Some f) s = if is_luks2 f.kind then begun_open f s else grown_open current s

-- what is reported of sector `at`, and the header that is open after it
abbrev pub sector_report : Option Header → ℕ → ReadState → List Finding
sector_report current at (Some s) = found_report current (found_at at s) s
sector_report current at None = interrupted Unchecked current

abbrev pub sector_open : Option Header → ℕ → ReadState → Option Header
sector_open current at (Some s) = found_open current (found_at at s) s
sector_open current at None = None

-- of such sectors, the first of which is sector `at`
abbrev pub reports_from : Option Header → ℕ → List ReadState → List Finding
reports_from current at [] = []
reports_from current at (s ∷ more) = sector_report current at s ++ reports_from (sector_open current at s) (at + 1) more

abbrev pub open_from : Option Header → ℕ → List ReadState → Option Header
open_from current at [] = current
open_from current at (s ∷ more) = open_from (sector_open current at s) (at + 1) more

-- What all sectors of a disk show: what each shows that was read, in the order of the sectors; but a LUKS2 header after the sector at
-- which its checksum is known. Lost sectors show nothing.
abbrev pub findings_in : List ReadState → List Finding
findings_in states = reports_from None 0 states ++ interrupted Unchecked (open_from None 0 states)
