use Rattle.std.proofs.Common.{◌≡◌, List, ℕ, length, replicate, ap, ◌∙◌}
use Rattle.std.proofs.lemmas.List.{length-replicate}
use Rattle.tree_survey.proofs.pieces.digest_room.Goals as goal

long : (digests : List (List ℕ)) (digest : List ℕ) → digests ≡ replicate 128 digest → length digests ≡ 128
long digests digest are = ap length are ∙ length-replicate {A = List ℕ} 128 digest

pub returns-clause-ok : goal.returns-clause-ok
returns-clause-ok c = long _ _ c.in_ok-room.ensures.ok
