-- Tables without keys.
use Rattle.std.proofs.Common.{◌≡◌, Bool, true, false, List, [], ◌∷◌, All, refl}
use Rattle.std.proofs.lemmas.List.Elements.{All-head, All-tail}
use Rattle.dm_table.specs.declared.table.Line.{Line}
use Rattle.table_text.specs.Keys.{HasNoKey, printed_lines}

-- a table without keys is printed as it is, whether keys are shown or not
pub printed_lines-no_key : (show : Bool) (lines : List Line) → All HasNoKey lines → printed_lines show lines ≡ lines
printed_lines-no_key true lines h = refl
printed_lines-no_key false [] h = refl
printed_lines-no_key false (line ∷ lines) h =
    rw (All-head HasNoKey line lines h, printed_lines-no_key false lines (All-tail HasNoKey line lines h)) refl
