-- Maps of files, as bindings name them.
use Rattle.std.specs.Prelude.{ℕ, Bool, List, Option, Some, None, codes, option_map, if◌then◌else◌}
use Rattle.std.specs.Option.{option_and_then}
use Rattle.std.specs.Str.{bytes_eq}
use Rattle.command_line.specs.Cuts.{cut_first}
use Rattle.command_line.specs.PartBindings.{PartRecord, kind_part}

-- a part of a file that is only read
abbrev pub if_only_read : Bool × PartRecord → Option (Option PartRecord)
if_only_read found = if found.0 then None else Some (Some found.1)

-- `ro@FIRST+COUNT`
abbrev pub part_of_read : List ℕ → Option (Option PartRecord)
part_of_read access = option_and_then if_only_read (kind_part access)

-- all of a file that is only read, `ro`, or a part of it
abbrev pub part_read : List ℕ → Option (Option PartRecord)
part_read access = if bytes_eq access (codes "ro") then Some None else part_of_read access

-- what is before the colon, `ro%MAP` or `ro@FIRST+COUNT%MAP`, split at the first `%` (37): the part, and the path of the map of the whole file
abbrev pub kind_map : List ℕ → Option (Option PartRecord × List ℕ)
kind_map kind = option_and_then (λ parts. option_map (λ part. (part, parts.1)) (part_read parts.0)) (cut_first 37 kind)
