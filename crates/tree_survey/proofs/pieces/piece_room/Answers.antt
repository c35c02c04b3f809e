use Rattle.std.proofs.Common.{ℕ, length, ap, ◌∙◌}
use Rattle.std.proofs.lemmas.List.{length-replicate}
use Rattle.tree_survey.proofs.pieces.piece_room.Goals as goal

pub returns-clause-ok : goal.returns-clause-ok
returns-clause-ok c = ap length c.in_ok-room.ensures.ok ∙ length-replicate {A = ℕ} 65536 0
