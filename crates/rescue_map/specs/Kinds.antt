-- The kind of a map. In the map of a copy, `+` marks the sectors in the copy; in the map of a scan, it marks the
-- readable sectors.
use Rattle.std.specs.Prelude.{ℕ, Bool, false, ◌&&◌, List, [], ◌∷◌, ◌++◌, codes, if◌then◌else◌}
use Rattle.std.specs.Str.{bytes_eq}
use Rattle.dm_table.specs.Words.{Word, text_lines, words}
use Rattle.rescue_map.specs.declared.kind.MapKind.{MapKind}
use Rattle.rescue_map.specs.declared.kind.MapKind.TheVariants.{Copy, Scan}

-- the line that marks the map of a scan
abbrev pub scan_mark : List ℕ
scan_mark = codes "# dmstack scan"

-- the words of the mark, with any white space around them
abbrev pub is_mark : List Word → Bool
is_mark (sign ∷ program ∷ command ∷ []) = bytes_eq sign (codes "#") && bytes_eq program (codes "dmstack") && bytes_eq command (codes "scan")
is_mark other = false

-- one of the lines is the mark
abbrev pub kind_in : List (List ℕ) → MapKind
kind_in [] = Copy
kind_in (line ∷ more) = if is_mark (words line) then Scan else kind_in more

unfoldable pub kind_of : List ℕ → MapKind
kind_of text = kind_in (text_lines text)

-- the text at the beginning of a map of this kind
abbrev pub mark_text : MapKind → List ℕ
mark_text Copy = []
mark_text Scan = scan_mark ++ 10 ∷ []
