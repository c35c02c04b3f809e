-- The line of a finding: `OFFSET KIND SIZE BLOCKS UUID OPENER`.
use Rattle.std.specs.Prelude.{ℕ, List, ◌++◌, codes, decimal, flat_map, Option, Some, None}
use Rattle.uuid.specs.Text.{hyphenated_text, lower}
use Rattle.find_commands.specs.declared.checksum.Checksum.{Checksum}
use Rattle.find_commands.specs.declared.checksum.Checksum.TheVariants.{Wrong, Unchecked}
use Rattle.find_commands.specs.declared.finding.Finding.{Finding}
use Rattle.find_commands.specs.declared.kind.Kind.{Kind}
use Rattle.find_commands.specs.declared.kind.Kind.TheVariants.{Gpt, GptBackup, Verity, Luks2, Luks2Secondary, Ext4, Erofs, Squashfs, Xfs, Btrfs}
use Rattle.find_commands.specs.Kinds.{found_name}

-- where it begins, and its kind
unfoldable pub place_text : ℕ → Kind → List ℕ
place_text offset kind = decimal offset ++ (codes " " ++ (found_name kind ++ codes " "))

-- a number that its header states, or `-`
abbrev pub stated_number : Option ℕ → List ℕ
stated_number (Some number) = decimal number ++ codes " "
stated_number None = codes "- "

-- its identifier, or `-`
abbrev pub stated_uuid : Option (List ℕ) → List ℕ
stated_uuid (Some uuid) = hyphenated_text lower uuid ++ codes " "
stated_uuid None = codes "- "

-- nothing opens a LUKS2 header of another checksum; one that isn't checked is marked
abbrev pub volume_opening : Option Checksum → List ℕ
volume_opening (Some Wrong) = codes "damaged"
volume_opening (Some Unchecked) = codes "cryptsetup open unchecked"
volume_opening valid = codes "cryptsetup open"

-- the command that opens it, with the option that has the offset
abbrev pub opening_text : ℕ → Kind → Option Checksum → List ℕ
opening_text offset Gpt checksum = codes "partitions"
opening_text offset GptBackup checksum = codes "partitions"
opening_text offset Verity checksum = codes "verify --hash-offset " ++ decimal offset
opening_text offset Luks2 checksum = volume_opening checksum
opening_text offset Luks2Secondary checksum = volume_opening checksum
opening_text offset Ext4 checksum = codes "mount -o ro,offset=" ++ decimal offset
opening_text offset Erofs checksum = codes "mount -o ro,offset=" ++ decimal offset
opening_text offset Squashfs checksum = codes "mount -o ro,offset=" ++ decimal offset
opening_text offset Xfs checksum = codes "mount -o ro,offset=" ++ decimal offset
opening_text offset Btrfs checksum = codes "mount -o ro,offset=" ++ decimal offset

unfoldable pub finding_line : Finding → List ℕ
finding_line f =
    place_text f.offset f.kind ++ (stated_number f.size ++ (stated_number f.blocks ++ (stated_uuid f.uuid ++ (opening_text f.offset f.kind f.checksum ++ codes "\n"))))

abbrev pub found_lines : List Finding → List ℕ
found_lines found = flat_map finding_line found
