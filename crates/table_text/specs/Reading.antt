-- Results of reading a part of a line.
use Rattle.std.specs.Prelude.{◌≡◌, ℕ, List, map, Result, Ok, Err}
use Rattle.std.specs.Borrow.{Bor}
use Rattle.allocation.specs.Refusal.{IsOutOfMemory}
use Rattle.dm_table.specs.Words.{Word}
use Rattle.dm_table.specs.Names.{most_name}
use Rattle.dm_table.specs.Reading.{Read}
use Rattle.table_text.specs.declared.line_fault.LineFault.{LineFault}
use Rattle.table_text.specs.declared.line_fault.LineFault.TheVariants as line_fault

-- the result is the grammar's answer for the part, without a position, unless an allocation failed that asked for at
-- most `most_name` elements
abbrev pub IsReading : {A : Type 0} → Result A LineFault → Read A → Type 0
IsReading (Ok value) answer = answer ≡ Ok value
IsReading (Err (line_fault.Kind kind)) answer = answer ≡ Err kind
IsReading (Err line_fault.NoMemory) answer = IsOutOfMemory most_name

-- the words of a list of texts
abbrev pub words_of : List (Bor (List ℕ)) → List Word
words_of texts = map (λ text. text.now) texts
