-- Partitions of disks, as bindings name them.
use Rattle.std.specs.Prelude.{ℕ, Bool, List, Option, option_map}
use Rattle.std.specs.Option.{option_and_then}
use Rattle.command_line.specs.Cuts.{cut_first}
use Rattle.command_line.specs.FilePlaces.{NamedPartitionRecord, named_partition}
use Rattle.command_line.specs.PartBindings.{access_of}

-- what is before the colon, `rw#PARTITION` or `ro#PARTITION`, split at the first `#` (35)
abbrev pub kind_partition : List ℕ → Option (Bool × NamedPartitionRecord)
kind_partition kind =
    option_and_then (λ parts. option_and_then (λ writable. option_map (λ named. (writable, named)) (named_partition parts.1)) (access_of parts.0)) (cut_first 35 kind)
