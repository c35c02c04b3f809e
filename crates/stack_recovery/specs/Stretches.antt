-- The next sectors of a map that have one mark.
use Rattle.std.specs.Prelude.{◌≡◌, Bool, false, not, ◌||◌, ◌==◌, List, [], ◌∷◌, if◌then◌else◌}
use Rattle.rescue_map.specs.declared.map.Run.{Run}

-- whether two marks are the same
abbrev pub is_same_mark : Bool → Bool → Bool
is_same_mark a b = if a then b else not b

-- whether the first of the runs after a run has the same mark, or no sector
abbrev pub extends : Run → List Run → Bool
extends run [] = false
extends run (next ∷ more) = (next.count == 0) || is_same_mark next.had run.had

-- no mark is left, or the next one is another
abbrev pub BeginsOtherwise : Bool → List Bool → Type 0
BeginsOtherwise had [] = Unit {0}
BeginsOtherwise had (mark ∷ more) = mark ≡ not had
