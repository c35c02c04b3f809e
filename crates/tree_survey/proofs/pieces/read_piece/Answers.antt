use Rattle.std.proofs.Common.{◌≡◌, ◌∙◌, ℕ, List, sym, subst, length, drop}
use Rattle.std.proofs.lemmas.List.{length-take-le, take_at}
use Rattle.tree_survey.specs.Pieces.{IsRunTried}
use Rattle.tree_survey.proofs.pieces.read_piece.Goals as goal

pub returns-clause-ends : goal.returns-clause-ends
returns-clause-ends g c =
    let put : List (List ℕ) = c.read_run.new.digests in
    let ds : List (List ℕ) = c.args.digests.now in
    let kept : length put ≡ c.args.count = c.read_run.auto.digests ∙ length-take-le c.args.count ds c.requires.few in
    subst (λ (xs : List (List ℕ)). IsRunTried (g.D.BlockDev.state c.args.device.now) c.args.salt.now c.args.size c.args.first xs c.read_run.result (g.D.BlockDev.state c.read_run.new.device))
    (sym (take_at put (drop c.args.count ds) c.args.count kept)) c.read_run.ensures.ends
