-- Parts of files, as arguments name them.
use Rattle.std.specs.Prelude.{ℕ, ◌^◌, ◌==◌, ◌&&◌, ◌||◌, nat_le, nat_lt, Bool, List, length, Option, None, Some, option_map, if◌then◌else◌}
use Rattle.std.specs.List.{list_any}
use Rattle.std.specs.Option.{option_and_then}
use Rattle.std.specs.Path.{rsplit_once}
use Rattle.uuid.specs.Text.{parsed}
use Rattle.dm_table.specs.Numbers.{number, number_if}
use Rattle.command_line.specs.declared.file_place.FilePlace.{FilePlace}
use Rattle.command_line.specs.declared.file_place.NamedPart.{NamedPart}
use Rattle.command_line.specs.declared.file_place.NamedPart.TheVariants.{Partition, Sectors}
use Rattle.command_line.specs.declared.file_place.NamedPartition.{NamedPartition}
use Rattle.command_line.specs.declared.file_place.NamedPartition.TheVariants.{Label, Number, Uuid}
use Rattle.command_line.specs.PartBindings.{PartRecord, part_record, said_part}

-- a partition by its number, by its UUID in the byte order of its text form, or by its label
pub data NamedPartitionRecord : Type 0 where
  of_number : ℕ → NamedPartitionRecord
  of_uuid : List ℕ → NamedPartitionRecord
  of_label : List ℕ → NamedPartitionRecord

-- some sectors of a file, or a partition in its partition table
pub data NamedPartRecord : Type 0 where
  of_sectors : PartRecord → NamedPartRecord
  of_partition : NamedPartitionRecord → NamedPartRecord

-- a part of the file under a path
pub record FilePlaceRecord : Type 0 where
  pub path : List ℕ
  pub part : NamedPartRecord

abbrev pub place_at : List ℕ → NamedPartRecord → FilePlaceRecord
place_at path part = record { path = path; part = part }

-- `FILE@FIRST+COUNT`, split at the last `@` (64)
unfoldable pub sectors_place : List ℕ → Option FilePlaceRecord
sectors_place text =
    option_and_then (λ halves. option_map (λ part. place_at halves.0 (of_sectors part)) (said_part halves.1)) (rsplit_once 64 text)

-- from 1 to 2^32 - 1
abbrev pub partition_number : List ℕ → Option ℕ
partition_number word = number_if (λ n. nat_le 1 n && nat_lt n (2 ^ 32)) (number word)

-- 8-4-4-4-12 hexadecimal digits in either case: the one form of a UUID that has 36 characters
abbrev pub partition_uuid : List ℕ → Option (List ℕ)
partition_uuid word = if length word == 36 then parsed word else None

-- a text with a `/` (47) isn't taken for a label: it is rather a path of a file, whose folder has a `#` in its name
abbrev pub has_slash : List ℕ → Bool
has_slash word = list_any (λ c. c == 47) word

-- any other text, unless it is empty
abbrev pub partition_label : List ℕ → Option NamedPartitionRecord
partition_label word = if (length word == 0) || has_slash word then None else Some (of_label word)

-- the UUID, or else the label
abbrev pub or_label : Option (List ℕ) → List ℕ → Option NamedPartitionRecord
or_label (Some uuid) word = Some (of_uuid uuid)
or_label None word = partition_label word

unfoldable pub uuid_or_label : List ℕ → Option NamedPartitionRecord
uuid_or_label word = or_label (partition_uuid word) word

-- the number, or else one of the two
abbrev pub or_uuid : Option ℕ → List ℕ → Option NamedPartitionRecord
or_uuid (Some n) word = Some (of_number n)
or_uuid None word = uuid_or_label word

-- the partition that a word names
unfoldable pub named_partition : List ℕ → Option NamedPartitionRecord
named_partition word = or_uuid (partition_number word) word

-- `FILE#PARTITION`, split at the last `#` (35)
unfoldable pub partition_place : List ℕ → Option FilePlaceRecord
partition_place text =
    option_and_then (λ halves. option_map (λ partition. place_at halves.0 (of_partition partition)) (named_partition halves.1)) (rsplit_once 35 text)

-- that of sectors, or else that of a partition
abbrev pub or_partition : Option FilePlaceRecord → List ℕ → Option FilePlaceRecord
or_partition (Some place) text = Some place
or_partition None text = partition_place text

-- the part that an argument names; what is after the last of both signs decides which one it is
unfoldable pub file_place_of : List ℕ → Option FilePlaceRecord
file_place_of text = or_partition (sectors_place text) text

-- what the program's own values say
abbrev pub named_partition_record : NamedPartition → NamedPartitionRecord
named_partition_record (Number n) = of_number n
named_partition_record (Uuid bytes) = of_uuid bytes
named_partition_record (Label text) = of_label text.now

abbrev pub named_part_record : NamedPart → NamedPartRecord
named_part_record (Sectors part) = of_sectors (part_record part)
named_part_record (Partition partition) = of_partition (named_partition_record partition)

abbrev pub file_place_record : FilePlace → FilePlaceRecord
file_place_record place = record { path = place.path.now; part = named_part_record place.part }
