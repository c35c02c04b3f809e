use Rattle.std.proofs.Common.{◌≡◌, ◌+◌, ◌<◌, ◌≤◌, ℕ, true}
use Rattle.tree_shape.specs.Shape.{ancestor}
use Rattle.tree_path.specs.Path.{block_of}
use Rattle.tree_path.specs.Unused.{is_unused_zero}
use Rattle.tree_survey.proofs.unused.are_zero_from.Given as goal

abbrev pub invariant-levels : goal.invariant-levels
invariant-levels l = (n : ℕ) → l.good ≤ n → n < l.level → is_unused_zero l.path.shape n (ancestor l.path.shape (n + 1) l.index) (block_of l.path n) ≡ true
