use Rattle.std.proofs.Common.{Bool, ◌||◌, ◌==◌, sym, ap, ◌∙◌, subst}
use Rattle.stack_lines.specs.Clear.{IsClear}
use Rattle.stack_lines.specs.Standing.{stands_on}
use Rattle.stack_lines.proofs.ClearLemmas.{leaf-clear}
use Rattle.stack_lines.proofs.lemmas.StandingLemmas.{stands-leaf}
use Rattle.stack_lines.proofs.leaf_sets.lower_leaves.Goals as goal

pub returns-in-Leaf : goal.returns-in-Leaf
returns-in-Leaf c = λ k loaded known. record {
  leaves = λ i. c.with.ensures.leaves i ∙ ap (λ (b : Bool). b || (i == c.in-Leaf.leaf)) (c.empty.ensures.leaves i) ∙ sym (stands-leaf k i c.in-Leaf.leaf) ∙ ap (stands_on k i) (sym c.in-Leaf.is);
  clear = λ sure. subst (IsClear k) (sym c.in-Leaf.is) (leaf-clear k c.in-Leaf.leaf);
}
