-- The entries of stack texts over the leaf DISK, each of one line.
use Rattle.std.specs.Prelude.{ℕ, Bool, true, false, List, ◌++◌, codes, decimal}
use Rattle.device_adapters.specs.declared.part.Part.{Part}

-- no allocation for an entry has more elements
abbrev pub entry_room : ℕ
entry_room = 511

-- what stands between a device's name and its line: it is writable, or read-only
abbrev pub flags_text : Bool → List ℕ
flags_text true = codes ",,,rw,"
flags_text false = codes ",,,ro,"

-- a device of that name with one line: `NAME,,,ro,LINE;`, or `rw` in place of `ro`
unfoldable pub entry_text : Bool → List ℕ → List ℕ → List ℕ
entry_text writable name line = name ++ (flags_text writable ++ (line ++ codes ";\n"))

-- as many sectors as the part has, from its first one on
unfoldable pub linear_line : Part → List ℕ
linear_line part = codes "0 " ++ (decimal part.count ++ (codes " linear DISK " ++ decimal part.first))
