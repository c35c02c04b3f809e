-- Which words name an algorithm.
use Rattle.std.proofs.Common.{◌≡◌, ℕ, List, Bool, true, false, cond, Some, None, refl}
use Rattle.std.specs.Prelude.{is_some}
use Rattle.std.specs.Str.{bytes_eq}
use Rattle.tree_shape.specs.declared.algorithm.Algorithm.TheVariants.{Sha256}
use Rattle.tree_shape.specs.Algorithms.{algorithm_name, algorithm_named}

some-if : (b : Bool) → is_some (cond b (Some Sha256) None) ≡ b
some-if true = refl
some-if false = refl

pub is_named : (name : List ℕ) → is_some (algorithm_named name) ≡ bytes_eq name (algorithm_name Sha256)
is_named name = some-if (bytes_eq name (algorithm_name Sha256))
