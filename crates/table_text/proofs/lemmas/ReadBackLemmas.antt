-- A printed line, read back.
use Rattle.std.proofs.Common.{◌≡◌, true, [], ◌∷◌, Ok}
use Rattle.dm_table.specs.declared.table.Line.{Line}
use Rattle.dm_table.specs.Grammar.{IsLineOfGrammar}
use Rattle.dm_table.specs.TableText.{table_of}
use Rattle.table_text.specs.Print.{line_text}
use Rattle.table_text.proofs.RoundTripLemmas.{line-shown}

-- the text of a line with its key reads as a table of that line alone
pub line-reads-back : (line : Line) → IsLineOfGrammar line → table_of (line_text true line) ≡ Ok (line ∷ [])
line-reads-back = line-shown
