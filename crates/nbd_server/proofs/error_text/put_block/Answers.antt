use Rattle.std.proofs.Common.{◌≡◌, ◌++◌, ◌∙◌, List, ℕ, ap, append_assoc, take}
use Rattle.std.specs.Prelude.{codes, decimal}
use Rattle.nbd_server.specs.Failures.{block_text}
use Rattle.nbd_server.proofs.error_text.put_block.Goals as goal

pub returns-clause-text : goal.returns-clause-text
unfolding block_text
returns-clause-text c =
    let word : take c.append-word.result c.append-word.new.room ≡ codes "data block " = c.append-word.ensures.text in
    let number : c.as_bytes.result.now ≡ decimal c.args.block = c.as_bytes.ensures.value ∙ c.format.ensures.text in
    c.append.ensures.text
    ∙ ap (λ (l : List ℕ). l ++ codes " fails verification") (c.append-end.ensures.text ∙ ap (λ (l : List ℕ). l ++ c.as_bytes.result.now) word ∙ ap (λ (l : List ℕ). codes "data block " ++ l) number)
    ∙ append_assoc (codes "data block ") (decimal c.args.block) (codes " fails verification")
