-- Where the blocks that parity covers are stored, and the parity of their rounds.
use Rattle.std.specs.Prelude.{◌≡◌, ℕ, ◌<◌, nat_lt, Some, if◌then◌else◌}
use Rattle.dm_table.specs.declared.parity.Parity.{Parity}
use Rattle.dm_table.specs.declared.verity.Verity.{Verity}
use Rattle.stack_rules.specs.declared.lower.Lower.{Lower}
use Rattle.stack_rules.specs.Records.{Configuration}
use Rattle.stack_rules.specs.Trees.{round_count}
use Rattle.stack_lines.specs.declared.tree.Tree.{Tree}
use Rattle.stack_lines.specs.Walks.{IsTreeOf}

-- the device of covered block j
abbrev pub covered_lower : Verity → Tree → ℕ → Lower
covered_lower v tree j = if nat_lt j v.blocks then tree.data else tree.hash

-- the line has this parity
pub record HasParity (c : Configuration) (v : Verity) (p : Parity) (tree : Tree) : Type 0 where
  pub lies : IsTreeOf c v tree
  pub has : v.parity ≡ Some p

-- the parity covers a block of that number
pub record HasCoveredBlock (c : Configuration) (v : Verity) (p : Parity) (tree : Tree) (j : ℕ) : Type 0 where
  pub line : HasParity c v p tree
  pub there : j < p.blocks

-- the parity has a round of that number
pub record HasRound (c : Configuration) (v : Verity) (p : Parity) (tree : Tree) (n : ℕ) : Type 0 where
  pub line : HasParity c v p tree
  pub there : n < round_count p
