-- Parts of files, as bindings name them.
use Rattle.std.specs.Prelude.{ℕ, ◌+◌, ◌^◌, ◌&&◌, nat_le, nat_lt, Bool, true, false, List, codes, Option, Some, None, option_map, if◌then◌else◌}
use Rattle.std.specs.Option.{option_and_then}
use Rattle.std.specs.Str.{bytes_eq}
use Rattle.dm_table.specs.Numbers.{number}
use Rattle.command_line.specs.declared.part_bindings.FilePart.{FilePart}
use Rattle.command_line.specs.Cuts.{cut_first}

-- so many sectors, from the first one on
pub record PartRecord : Type 0 where
  pub first : ℕ
  pub count : ℕ

-- at least one sector, and all bytes before their end have an address of 64 bits
abbrev pub part_at : ℕ → ℕ → Option PartRecord
part_at first count = if nat_le 1 count && nat_lt (first + count) (2 ^ 55) then Some (record { first = first; count = count }) else None

abbrev pub sectors_from : List ℕ → List ℕ → Option PartRecord
sectors_from first count = option_and_then (λ f. option_and_then (λ n. part_at f n) (number count)) (number first)

-- `FIRST+COUNT`, cut at the first `+` (43)
abbrev pub said_part : List ℕ → Option PartRecord
said_part place = option_and_then (λ parts. sectors_from parts.0 parts.1) (cut_first 43 place)

-- `rw` or `ro`
abbrev pub access_of : List ℕ → Option Bool
access_of access = if bytes_eq access (codes "rw") then Some true else if bytes_eq access (codes "ro") then Some false else None

-- what is before the colon, split at the first `@` (64)
abbrev pub kind_part : List ℕ → Option (Bool × PartRecord)
kind_part kind =
    option_and_then (λ parts. option_and_then (λ writable. option_map (λ part. (writable, part)) (said_part parts.1)) (access_of parts.0)) (cut_first 64 kind)

-- what the program's own value says
abbrev pub part_record : FilePart → PartRecord
part_record part = record { first = part.first; count = part.count }
