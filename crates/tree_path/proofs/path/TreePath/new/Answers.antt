use Rattle.std.proofs.Common.{◌≡◌, ℕ, All, ◌∙◌, length, arith, subst}
use Rattle.std.proofs.lemmas.List.{length-map}
use Rattle.std.proofs.lemmas.List.Elements.{All-map}
use Rattle.std.proofs.lemmas.Result.{err_from_is_err_and}
use Rattle.verity_format.proofs.lemmas.SizeLemmas.{block-size}
use Rattle.tree_path.proofs.path.TreePath.new.Goals as goal

pub invariant_of-result : goal.invariant_of-result
invariant_of-result c = record {
  valid = c.hash_block.ensures.valid;
  count = length-map c.in_ok-blocks.blocks.items (λ b. b.items) ∙ c.in_ok-blocks.ensures.count ∙ c.levels.ensures.value;
  sized = All-map (λ b. length b ≡ c.args.shape.hash_block) (λ b. b.items) c.in_ok-blocks.blocks.items
      (subst (λ (n : ℕ). All (λ b. length b.items ≡ n) c.in_ok-blocks.blocks.items) c.hash_block.ensures.value c.in_ok-blocks.ensures.sized);
}

pub returns-in_err-blocks-clause-err : goal.returns-in_err-blocks-clause-err
returns-in_err-blocks-clause-err c =
    let few = (block-size c.args.shape.hash_block c.hash_block.ensures.valid.hash_size).most_bytes in
    let h = c.in_err-blocks.ensures.err in
    rw (err_from_is_err_and c.from_residual.result c.from_residual.ensures.1).1 (h.0, omega (arith, h.1, few, c.hash_block.ensures.value), h.2)
