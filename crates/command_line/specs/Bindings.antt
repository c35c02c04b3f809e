-- The names that a command line binds to devices.
use Rattle.std.specs.Prelude.{ℕ, ◌&&◌, nat_le, Bool, true, false, List, codes, Option, None, Some, option_map, if◌then◌else◌}
use Rattle.std.specs.Option.{option_and_then}
use Rattle.std.specs.Str.{bytes_eq}
use Rattle.dm_table.specs.Numbers.{number, number_if}
use Rattle.command_line.specs.declared.bindings.Backing.{Backing}
use Rattle.command_line.specs.declared.bindings.Backing.TheVariants.{File, Part, Partition, Mapped, Zeros, Ramp}
use Rattle.command_line.specs.declared.bindings.Binding.{Binding}
use Rattle.command_line.specs.Cuts.{cut_first}
use Rattle.command_line.specs.FilePlaces.{NamedPartitionRecord, named_partition_record}
use Rattle.command_line.specs.MapBindings.{kind_map}
use Rattle.command_line.specs.PartBindings.{PartRecord, kind_part, part_record}
use Rattle.command_line.specs.PartitionBindings.{kind_partition}

-- what a name is bound to
pub data BackingRecord : Type 0 where
  -- a file, which may be written or not
  file : List ℕ → Bool → BackingRecord
  -- a part of one
  part : List ℕ → Bool → PartRecord → BackingRecord
  -- a partition in the partition table of one
  partition : List ℕ → Bool → NamedPartitionRecord → BackingRecord
  -- a file that is only read, the file of its map, and the part that is meant, if it isn't all
  mapped : List ℕ → List ℕ → Option PartRecord → BackingRecord
  -- so many zero sectors
  zeros : ℕ → BackingRecord
  -- so many sectors, of which sector k is filled with the byte k
  ramp : ℕ → BackingRecord

pub record BindingRecord : Type 0 where
  pub name : List ℕ
  pub backing : BackingRecord

-- from 1 to 65,536 sectors
abbrev pub sectors_at : List ℕ → Option ℕ
sectors_at word = number_if (λ n. nat_le 1 n && nat_le n 65536) (number word)

-- `rw@FIRST+COUNT:FILE` or `ro@FIRST+COUNT:FILE`
abbrev pub part_backing : List ℕ → List ℕ → Option BackingRecord
part_backing kind rest = option_map (λ found. part rest found.0 found.1) (kind_part kind)

-- `rw#PARTITION:FILE` or `ro#PARTITION:FILE`
abbrev pub partition_backing : List ℕ → List ℕ → Option BackingRecord
partition_backing kind rest = option_map (λ found. partition rest found.0 found.1) (kind_partition kind)

-- `ro%MAP:FILE` or `ro@FIRST+COUNT%MAP:FILE`
abbrev pub mapped_backing : List ℕ → List ℕ → Option BackingRecord
mapped_backing kind rest = option_map (λ found. mapped rest found.1 found.0) (kind_map kind)

-- the partition, or else the file with a map
abbrev pub or_mapped : Option BackingRecord → List ℕ → List ℕ → Option BackingRecord
or_mapped (Some backing) kind rest = Some backing
or_mapped None kind rest = mapped_backing kind rest

unfoldable pub named_backing : List ℕ → List ℕ → Option BackingRecord
named_backing kind rest = or_mapped (partition_backing kind rest) kind rest

-- the part, or else one of these
abbrev pub or_named : Option BackingRecord → List ℕ → List ℕ → Option BackingRecord
or_named (Some backing) kind rest = Some backing
or_named None kind rest = named_backing kind rest

-- a part of a file, a partition of it, or a file with a map
unfoldable pub placed_backing : List ℕ → List ℕ → Option BackingRecord
placed_backing kind rest = or_named (part_backing kind rest) kind rest

-- `rw:FILE`, `ro:FILE`, `zero:N` or `ramp:N`, of which the kind is before the colon, or what names more of a file
abbrev pub backing_by : List ℕ → List ℕ → Option BackingRecord
backing_by kind rest =
    if bytes_eq kind (codes "rw") then Some (file rest true)
    else if bytes_eq kind (codes "ro") then Some (file rest false)
    else if bytes_eq kind (codes "zero") then option_map zeros (sectors_at rest)
    else if bytes_eq kind (codes "ramp") then option_map ramp (sectors_at rest)
    else placed_backing kind rest

-- `KIND:REST`, cut at the first colon (58)
abbrev pub backing_of : List ℕ → Option BackingRecord
backing_of text = option_and_then (λ parts. backing_by parts.0 parts.1) (cut_first 58 text)

abbrev pub bind : List ℕ → BackingRecord → BindingRecord
bind name backing = record { name = name; backing = backing }

-- `NAME=KIND:REST`, cut at the first `=` (61)
abbrev pub binding_of : List ℕ → Option BindingRecord
binding_of word = option_and_then (λ parts. option_map (bind parts.0) (backing_of parts.1)) (cut_first 61 word)

-- what a backing and a binding of the program say
abbrev pub backing_record : Backing → BackingRecord
backing_record (File path writable) = file path.now writable
backing_record (Part path writable at) = part path.now writable (part_record at)
backing_record (Partition path writable named) = partition path.now writable (named_partition_record named)
backing_record (Mapped path map_file within) = mapped path.now map_file.now (option_map part_record within)
backing_record (Zeros sectors) = zeros sectors
backing_record (Ramp sectors) = ramp sectors

abbrev pub binding_record : Binding → BindingRecord
binding_record binding = record { name = binding.name.now; backing = backing_record binding.backing }
