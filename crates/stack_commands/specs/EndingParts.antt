-- The parts of the line that ends a command early.
use Rattle.std.specs.Prelude.{ℕ, ◌||◌, Bool, List, codes, Option, None, Some, option_map, if◌then◌else◌}
use Rattle.std.specs.Option.{option_and_then}
use Rattle.std.specs.Str.{bytes_eq}
use Rattle.dm_table.specs.Numbers.{number}
use Rattle.command_line.specs.Cuts.{cut_first}
use Rattle.command_line.specs.FormatOptions.{text_of}
use Rattle.stack_commands.specs.declared.ending_parts.EndingParts.{EndingParts}
use Rattle.stack_commands.specs.declared.ending_parts.TextFaultParts.{TextFaultParts}

-- the kind of end, its number and name, and what follows the name
pub record PartsRecord : Type 0 where
  pub kind : List ℕ
  pub number : Option ℕ
  pub name : List ℕ
  pub detail : Option (List ℕ)

-- the name before the first space (32), and what follows the space, if there is one
abbrev pub name_or_all : List ℕ → Option (List ℕ × List ℕ) → List ℕ × Option (List ℕ)
name_or_all text None = (text, None)
name_or_all text (Some parts) = (parts.0, Some parts.1)

abbrev pub name_and_detail : List ℕ → List ℕ × Option (List ℕ)
name_and_detail text = name_or_all text (cut_first 32 text)

-- the number before the first space, and what follows the space
abbrev pub number_first : List ℕ → Option (ℕ × List ℕ)
number_first text = option_and_then (λ parts. option_map (λ n. (n, parts.1)) (number parts.0)) (cut_first 32 text)

abbrev pub parts_from : List ℕ → Option ℕ → List ℕ → PartsRecord
parts_from kind n text = record { kind = kind; number = n; name = (name_and_detail text).0; detail = (name_and_detail text).1 }

-- a name follows the kind if no number does
abbrev pub is_refusal : List ℕ → Bool
is_refusal kind = bytes_eq kind (codes "refused") || bytes_eq kind (codes "fault")

abbrev pub parts_after : List ℕ → List ℕ → Option (ℕ × List ℕ) → Option PartsRecord
parts_after kind rest (Some found) = Some (parts_from kind (Some found.0) found.1)
parts_after kind rest None = if is_refusal kind then Some (parts_from kind None rest) else None

abbrev pub parts_in : List ℕ → List ℕ → Option PartsRecord
parts_in kind rest = parts_after kind rest (number_first rest)

-- `KIND NUMBER NAME` or `KIND NAME`, and what follows the name
abbrev pub parts_of : List ℕ → Option PartsRecord
parts_of line = option_and_then (λ parts. parts_in parts.0 parts.1) (cut_first 32 line)

-- the entry and the line of a stack text, the number and the name of its fault
pub record TextFaultRecord : Type 0 where
  pub entry : ℕ
  pub line : ℕ
  pub number : ℕ
  pub name : List ℕ

abbrev pub fault_from : ℕ → ℕ → ℕ × List ℕ → TextFaultRecord
fault_from entry line found = record { entry = entry; line = line; number = found.0; name = found.1 }

-- `ENTRY LINE NUMBER NAME`
abbrev pub fault_in : List ℕ → Option TextFaultRecord
fault_in text =
    option_and_then (λ entry. option_and_then (λ line. option_map (fault_from entry.0 line.0) (number_first line.1)) (number_first entry.1)) (number_first text)

-- what follows that word and a space
abbrev pub after_word : List ℕ → List ℕ → Option (List ℕ)
after_word word line = option_and_then (λ parts. if bytes_eq parts.0 word then Some parts.1 else None) (cut_first 32 line)

-- `text fault ENTRY LINE NUMBER NAME`
abbrev pub fault_parts : List ℕ → Option TextFaultRecord
fault_parts line = option_and_then (λ rest. option_and_then fault_in (after_word (codes "fault") rest)) (after_word (codes "text") line)

-- what the program's own values say
abbrev pub parts_record : EndingParts → PartsRecord
parts_record parts = record { kind = parts.kind.now; number = parts.number; name = parts.name.now; detail = text_of parts.detail }

abbrev pub fault_record : TextFaultParts → TextFaultRecord
fault_record parts = record { entry = parts.entry; line = parts.line; number = parts.number; name = parts.name.now }
