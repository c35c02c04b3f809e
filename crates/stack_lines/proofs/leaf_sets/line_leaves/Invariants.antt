use Rattle.std.proofs.Common.{◌≡◌, ℕ, IsTrue, take}
use Rattle.std.specs.List.{list_any}
use Rattle.stack_rules.specs.Lines.{names_at}
use Rattle.stack_lines.specs.Standing.{has_leaf, name_stands_on}
use Rattle.stack_lines.proofs.ClearLemmas.{NamesClear}
use Rattle.stack_lines.proofs.leaf_sets.line_leaves.Given as goal

abbrev pub invariant-loop-i : goal.invariant-loop-i
invariant-loop-i l = record {
  leaves : (k : ℕ) → has_leaf l.leaves k ≡ list_any (name_stands_on l.config k) (take l.i (names_at l.config l.d.0 l.line));
  clear : IsTrue l.leaves.clear → NamesClear l.config l.d.0 l.line l.target l.i;
}
