-- The names of digest algorithms in tables and superblocks.
use Rattle.std.specs.Prelude.{ℕ, List, codes, Option, Some, None, if◌then◌else◌}
use Rattle.std.specs.Str.{bytes_eq}
use Rattle.tree_shape.specs.declared.algorithm.Algorithm.{Algorithm}
use Rattle.tree_shape.specs.declared.algorithm.Algorithm.TheVariants.{Sha256}

abbrev pub algorithm_name : Algorithm → List ℕ
algorithm_name Sha256 = codes "sha256"

-- the algorithm with that name, if there is one
abbrev pub algorithm_named : List ℕ → Option Algorithm
algorithm_named name = if bytes_eq name (algorithm_name Sha256) then Some Sha256 else None
