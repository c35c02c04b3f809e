-- What a sector of 512 bytes shows, by its own bytes alone: the first of these kinds whose signature it has. A signature counts at
-- the beginning of any sector.
use Rattle.std.specs.Prelude.{ℕ, ◌%◌, ◌==◌, ◌&&◌, not, nat_le, nat_lt, Bool, List, [], ◌∷◌, ◌++◌, codes, is_some, slice_range, Option, Some, None, if◌then◌else◌}
use Rattle.std.specs.Int.{is_power_of_two}
use Rattle.std.specs.Str.{bytes_eq}
use Rattle.partition_table.specs.Fields.{number32, number64}
use Rattle.partition_table.specs.Headers.{stated_sector}
use Rattle.verity_format.specs.Superblock.{super_fault}
use Rattle.find_commands.specs.declared.kind.Kind.{Kind}
use Rattle.find_commands.specs.declared.kind.Kind.TheVariants.{Gpt, GptBackup, Verity, Luks2, Luks2Secondary, Ext4, Erofs, Squashfs, Xfs, Btrfs}
use Rattle.find_commands.specs.Fields.{big_endian32}

-- GUID partition tables (UEFI 2.10, 5.3.2): the primary header is the one whose own sector (MyLBA) is sector 1
abbrev pub gpt_kind : ℕ → Kind
gpt_kind sector = if sector == 1 then Gpt else GptBackup

-- LUKS2 (LUKS2 On-Disk Format Specification 1.1.4, 2.1): 6 bytes, and the version as a big-endian number of 2 bytes
abbrev pub luks2_signature : List ℕ
luks2_signature = codes "LUKS" ++ (186 ∷ 190 ∷ 0 ∷ 2 ∷ [])

abbrev pub luks2_secondary_signature : List ℕ
luks2_secondary_signature = codes "SKUL" ++ (186 ∷ 190 ∷ 0 ∷ 2 ∷ [])

-- ext2, ext3 and ext4 (Linux, Documentation/filesystems/ext4/super.rst): s_magic, the sizes of blocks and the revisions that there
-- are, and group 0 (s_block_group_nr), which has the primary superblock
unfoldable pub is_ext4 : List ℕ → Bool
is_ext4 s = (number32 s 56 % 65536 == 0xef53) && (nat_le (number32 s 24) 6 && (nat_le (number32 s 76) 1 && nat_lt (number32 s 88) 65536))

-- EROFS (Linux, fs/erofs/erofs_fs.h): magic, and blkszbits, which is the byte at 12
unfoldable pub is_erofs : List ℕ → Bool
is_erofs s = (number32 s 0 == 0xe0f5e1e2) && (nat_le 9 (number32 s 12 % 256) && nat_le (number32 s 12 % 256) 16)

-- SquashFS 4.0 (Linux, fs/squashfs/squashfs_fs.h): s_magic, s_major and s_minor
unfoldable pub is_squashfs : List ℕ → Bool
is_squashfs s = bytes_eq (slice_range s 0 4) (codes "hsqs") && (number32 s 28 == 4)

-- XFS (XFS Algorithms and Data Structures, 3rd edition, 13.1): sb_magicnum, and sb_blocksize, a power of two
unfoldable pub is_xfs : List ℕ → Bool
is_xfs s = bytes_eq (slice_range s 0 4) (codes "XFSB") && (is_power_of_two (big_endian32 s 4) && (nat_le 512 (big_endian32 s 4) && nat_le (big_endian32 s 4) 65536))

-- Btrfs (Linux, include/uapi/linux/btrfs_tree.h): magic, and bytenr, by which the primary superblock is the one at 64 KiB
unfoldable pub is_btrfs : List ℕ → Bool
is_btrfs s = bytes_eq (slice_range s 64 72) (codes "_BHRfS_M") && (number64 s 48 == 65536)

unfoldable pub file_system : List ℕ → Option Kind
file_system s =
    if is_ext4 s then Some Ext4
    else if is_erofs s then Some Erofs
    else if is_squashfs s then Some Squashfs
    else if is_xfs s then Some Xfs
    else if is_btrfs s then Some Btrfs
    else None

-- a verity superblock of version 1 (cryptsetup, lib/verity/verity.c) that the program reads
abbrev pub is_superblock : List ℕ → Bool
is_superblock s = not (is_some (super_fault s))

unfoldable pub volume_kind : List ℕ → Option Kind
volume_kind s =
    if is_superblock s then Some Verity
    else if bytes_eq (slice_range s 0 8) luks2_signature then Some Luks2
    else if bytes_eq (slice_range s 0 8) luks2_secondary_signature then Some Luks2Secondary
    else file_system s

-- a valid header of a partition table, or one of the others
abbrev pub kind_after : Option ℕ → List ℕ → Option Kind
kind_after (Some sector) s = Some (gpt_kind sector)
kind_after None s = volume_kind s

unfoldable pub kind_at : List ℕ → Option Kind
kind_at s = kind_after (stated_sector s) s
