use Rattle.std.proofs.Common.{◌≡◌, ℕ, List, drop}
use Rattle.std.specs.Str.{bytes_eq}
use Rattle.std.specs.List.{position_from}
use Rattle.std.specs.HashMap.{get_by}
use Rattle.stack_loader.proofs.index.leaf_places.Given as goal

abbrev pub invariant-loop-i : goal.invariant-loop-i
invariant-loop-i l = (q : List ℕ) → get_by (λ k. bytes_eq q k.now) l.places ≡ position_from (λ x. bytes_eq x.name q) l.i (drop l.i l.leaves)
