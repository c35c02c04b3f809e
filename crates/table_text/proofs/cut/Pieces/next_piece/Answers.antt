use Rattle.std.proofs.Common.{◌+◌, sym, ◌∙◌, ap}
use Rattle.std.proofs.lemmas.List.{take_rest}
use Rattle.dm_table.specs.Words.{pieces_left}
use Rattle.table_text.proofs.CutLemmas.{pieces-more, pieces-last}
use Rattle.table_text.proofs.cut.Pieces.next_piece.Goals.{then-end-rest, else-end-rest}
use Rattle.table_text.proofs.cut.Pieces.next_piece.Goals as goal

pub returns-in_err-rest : goal.returns-in_err-rest
unfolding pieces_left
returns-in_err-rest c =
    let none = sym c.self.view_is ∙ ap (pieces_left c.self.inside.separator) c.in_err-rest.was in
    rw c.from_residual.ensures (none, none)

pub returns : goal.returns
returns c =
    let s = c.self.inside.separator in
    let whole = sym c.self.view_is ∙ ap (pieces_left s) c.in_ok-rest.was in
    elim c.if-end-rest.branch [
      | then-end-rest w ↦ rw w.self-is (whole ∙ pieces-more s c.in_ok-rest.rest _ _ c.piece_len-end.ensures.value w.if-end-rest.true (take_rest c.in_ok-rest.rest.now (c.piece_len-end.result + 1)))
      | else-end-rest w ↦ rw w.self-is (whole ∙ pieces-last s c.in_ok-rest.rest _ c.piece_len-end.ensures.value w.if-end-rest.false)
    ]
