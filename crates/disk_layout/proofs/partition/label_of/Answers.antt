use Rattle.std.proofs.Common.{◌++◌, ◌∙◌, ℕ, List, ap, drop, length, replicate}
use Rattle.std.proofs.lemmas.List.{drop-replicate}
use Rattle.disk_layout.proofs.partition.label_of.Goals as goal

pub returns : goal.returns
returns c =
    let text = c.args.text.now in
    ap (λ (l : List ℕ). l ++ drop (length text) (replicate {A = ℕ} 72 0)) c.copy_from_slice.ensures.after ∙ ap (λ (l : List ℕ). text ++ l) (drop-replicate {X = ℕ} (length text) 72 0)
