use Rattle.std.proofs.Common.{◌≡◌, ◌^◌}
use Rattle.tree_path.proofs.spans.span.Given as goal

abbrev pub invariant-levels : goal.invariant-levels
invariant-levels l = l.width ≡ l.per_block ^ l.counter
