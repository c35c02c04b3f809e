-- Table texts: their value, or their first fault in reading order.
use Rattle.std.specs.Prelude.{ℕ, ◌+◌, Bool, true, not, ◌==◌, if◌then◌else◌, List, [], ◌∷◌, codes, Result, Ok, Err}
use Rattle.std.specs.List.{starts_with}
use Rattle.dm_table.specs.declared.table.Line.{Line}
use Rattle.dm_table.specs.declared.fault.TextFault.{TextFault}
use Rattle.dm_table.specs.declared.fault.TextKind.TheVariants as kinds
use Rattle.dm_table.specs.Words.{Word, is_text, words, text_lines}
use Rattle.dm_table.specs.Reading.{◌>>=◌, at_place}
use Rattle.dm_table.specs.Lines.{line_of}

-- a blank line, or a comment
abbrev pub is_skipped : List Word → Bool
is_skipped [] = true
is_skipped (word ∷ more) = starts_with ◌==◌ word (codes "#")

-- the lines that are neither blank nor comments; all are numbered, from n on
abbrev pub table_lines : ℕ → List (List ℕ) → Result (List Line) TextFault
table_lines n [] = Ok []
table_lines n (text ∷ more) =
    if is_skipped (words text) then table_lines (n + 1) more
    else do
      line ← at_place 0 n (line_of (words text))
      lines ← table_lines (n + 1) more
      Ok (line ∷ lines)

-- a table has at least one line
abbrev pub some_lines : List Line → Result (List Line) TextFault
some_lines [] = at_place 0 0 (Err kinds.Fields)
some_lines (line ∷ more) = Ok (line ∷ more)

-- the value of a table text
unfoldable pub table_of : List ℕ → Result (List Line) TextFault
table_of text =
    if not (is_text text) then at_place 0 0 (Err kinds.NotText)
    else do
      lines ← table_lines 1 (text_lines text)
      some_lines lines
