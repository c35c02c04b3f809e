-- Lines that are kept in memory.
use Rattle.std.proofs.Common.{◌≡◌, ◌++◌, ◌∙◌, ℕ, List, [], ◌∷◌, ap}
use Rattle.std.proofs.lemmas.List.{append-nil}
use Rattle.std.proofs.lemmas.List.Concat.{flat_map-append}
use Rattle.runs.specs.declared.line.Line.{Line}
use Rattle.runs.specs.Lines.{listing_line, lines_text}

-- the text of one line more
pub lines_text_last : (lines : List Line) (line : Line) → lines_text (lines ++ line ∷ []) ≡ lines_text lines ++ listing_line line
lines_text_last lines line = flat_map-append listing_line lines (line ∷ []) ∙ ap (λ (l : List ℕ). lines_text lines ++ l) (append-nil (listing_line line))
