-- The line that ends a command early, as a JSON object.
use Rattle.std.specs.Prelude.{ℕ, List, codes, None, Option, Some, option_map}
use Rattle.serde_json.specs.Data.{Data, Members, member, no_members, number, object, string, unsigned}
use Rattle.program_io.specs.JsonLines.{json_line}
use Rattle.command_line.specs.Cuts.{cut_first}
use Rattle.stack_commands.specs.EndingParts.{PartsRecord, TextFaultRecord, fault_parts, parts_of}

-- there only if the line has a number
abbrev pub number_member : Option ℕ → Members
number_member None = no_members
number_member (Some n) = member (codes "number") (number (unsigned n)) no_members

-- there only if something follows the name
abbrev pub detail_member : Option (List ℕ) → Members → Members
detail_member None more = more
detail_member (Some detail) more = member (codes "detail") (string detail) more

abbrev pub parts_members : PartsRecord → Members
parts_members parts = detail_member parts.detail (member (codes "kind") (string parts.kind) (member (codes "name") (string parts.name) (number_member parts.number)))

abbrev pub fault_json : TextFaultRecord → Data
fault_json fault =
    object
    (member (codes "entry") (number (unsigned fault.entry))
    (member (codes "kind") (string (codes "text fault"))
    (member (codes "line") (number (unsigned fault.line))
    (member (codes "name") (string fault.name)
    (member (codes "number") (number (unsigned fault.number))
    no_members)))))

-- any other line is a kind alone
abbrev pub kind_json : List ℕ → Data
kind_json line = object (member (codes "kind") (string line) no_members)

abbrev pub parts_json : List ℕ → Option PartsRecord → Data
parts_json line (Some parts) = object (parts_members parts)
parts_json line None = kind_json line

abbrev pub ending_json : List ℕ → Option TextFaultRecord → Data
ending_json line (Some fault) = fault_json fault
ending_json line None = parts_json line (parts_of line)

-- the object of a line
abbrev pub object_line : List ℕ → List ℕ
object_line line = json_line (ending_json line (fault_parts line))

-- what is before the first newline (10), if there is one
abbrev pub first_line : List ℕ → Option (List ℕ)
first_line text = option_map (λ parts. parts.0) (cut_first 10 text)

-- the object of the first line of a text, if it has one
abbrev pub ending_object : List ℕ → Option (List ℕ)
ending_object text = option_map object_line (first_line text)
