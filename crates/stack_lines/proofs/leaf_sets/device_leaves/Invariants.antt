use Rattle.std.proofs.Common.{◌≡◌, ℕ, IsTrue, take}
use Rattle.std.specs.List.{list_any}
use Rattle.stack_rules.specs.Names.{names, lines_of}
use Rattle.stack_lines.specs.Standing.{has_leaf, name_stands_on}
use Rattle.stack_lines.proofs.ClearLemmas.{LinesClear}
use Rattle.stack_lines.proofs.leaf_sets.device_leaves.Given as goal

abbrev pub invariant-loop-line : goal.invariant-loop-line
invariant-loop-line l = record {
  number : l.number ≡ l.line-index;
  so_far : (k : ℕ) → has_leaf l.leaves k ≡ list_any (λ line. list_any (name_stands_on l.config k) (names line.target)) (take l.line-index (lines_of l.config l.d.0));
  clear : IsTrue l.leaves.clear → LinesClear l.config l.d.0 l.line-index;
}
