use Rattle.std.proofs.Common.{◌++◌, ◌∙◌, List, ℕ, ap₂, append_assoc, codes, decimal}
use Rattle.image_files.proofs.draft.numbered_name.Goals as goal

pub returns-clause-ok : goal.returns-clause-ok
returns-clause-ok c =
    c.in_ok-push_text.ensures.ok
    ∙ ap₂ (λ (a b : List ℕ). a ++ b) c.in_ok-name.ensures.ok c.format.ensures.text
    ∙ append_assoc c.args.target.now (codes ".dmstack-new-") (decimal c.args.number)
