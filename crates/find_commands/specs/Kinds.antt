-- The names of the kinds of things, of the commands that open them, and of what their checksums show.
use Rattle.std.specs.Prelude.{ℕ, Bool, true, false, List, codes}
use Rattle.find_commands.specs.declared.checksum.Checksum.{Checksum}
use Rattle.find_commands.specs.declared.checksum.Checksum.TheVariants.{Valid, Wrong, Unchecked}
use Rattle.find_commands.specs.declared.kind.Kind.{Kind}
use Rattle.find_commands.specs.declared.kind.Kind.TheVariants.{Gpt, GptBackup, Verity, Luks2, Luks2Secondary, Ext4, Erofs, Squashfs, Xfs, Btrfs}

abbrev pub found_name : Kind → List ℕ
found_name Gpt = codes "gpt"
found_name GptBackup = codes "gpt-backup"
found_name Verity = codes "verity"
found_name Luks2 = codes "luks2"
found_name Luks2Secondary = codes "luks2-secondary"
found_name Ext4 = codes "ext4"
found_name Erofs = codes "erofs"
found_name Squashfs = codes "squashfs"
found_name Xfs = codes "xfs"
found_name Btrfs = codes "btrfs"

-- `partitions` and `verify` are commands of the program
abbrev pub opener_name : Kind → List ℕ
opener_name Gpt = codes "partitions"
opener_name GptBackup = codes "partitions"
opener_name Verity = codes "verify"
opener_name Luks2 = codes "cryptsetup"
opener_name Luks2Secondary = codes "cryptsetup"
opener_name Ext4 = codes "mount"
opener_name Erofs = codes "mount"
opener_name Squashfs = codes "mount"
opener_name Xfs = codes "mount"
opener_name Btrfs = codes "mount"

abbrev pub checksum_name : Checksum → List ℕ
checksum_name Valid = codes "valid"
checksum_name Wrong = codes "wrong"
checksum_name Unchecked = codes "unchecked"

-- the headers of LUKS2
abbrev pub is_luks2 : Kind → Bool
is_luks2 Luks2 = true
is_luks2 Luks2Secondary = true
is_luks2 kind = false
