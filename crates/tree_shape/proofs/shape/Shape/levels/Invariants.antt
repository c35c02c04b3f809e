use Rattle.std.proofs.Common.{◌≡◌, ◌≤◌, ℕ, ◌+◌, ◌^◌}
use Rattle.tree_shape.specs.Shape.{levels, divisions, per_block}
use Rattle.tree_shape.proofs.shape.Shape.levels.Given as goal

-- the divisions made and those that are left, with whatever steps are enough
abbrev pub invariant-loop-rest : goal.invariant-loop-rest
invariant-loop-rest l = record {
  digests : 2 ^ l.bits ≡ per_block l.self;
  left : (steps : ℕ) → l.rest ≤ steps → l.count + divisions steps (per_block l.self) l.rest ≡ levels l.self;
}

abbrev pub decreases-loop-rest : goal.decreases-loop-rest
decreases-loop-rest l = l.rest
