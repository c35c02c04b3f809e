-- `verity`: data blocks of one device, verified with a hash tree on another; lost blocks are restored by parity.
use Rattle.std.specs.Prelude.{ℕ, List, [], ◌∷◌, ◌++◌, ◌+◌, ◌*◌, Bool, true, false, not, ◌||◌, ◌==◌, nat_lt, Option, Some, None, if◌then◌else◌}
use Rattle.tree_shape.specs.Shape.{area_blocks}
use Rattle.tree_shape.specs.Digests.{digest}
use Rattle.dm_table.specs.declared.table.Base.{Base}
use Rattle.dm_table.specs.declared.verity.Verity.{Verity}
use Rattle.dm_table.specs.declared.parity.Parity.{Parity}
use Rattle.stack_rules.specs.declared.refusal.LoadKind.TheVariants.{LineBeyondTree, NeedsReadOnly, ParityDoesntCover}
use Rattle.stack_rules.specs.TargetRules.{TargetRules, Range, bare, cost_at, greatest}
use Rattle.stack_rules.specs.Trees.{tree_of, line_data_sectors, line_tree_sectors, covered_sectors, parity_sectors, block_sectors, path_blocks, path_sectors, mend_sectors, zero_block}

-- the device of the parity, after the other two
abbrev pub parity_bases : Option Parity → List Base
parity_bases None = []
parity_bases (Some parity) = record { device = parity.device; offset = 0 } ∷ []

-- the range of the covered hash blocks, and that of the parity
abbrev pub parity_ranges : Verity → Option Parity → List Range
parity_ranges line None = []
parity_ranges line (Some parity) = (line.hash, covered_sectors line parity) ∷ (parity.device, parity_sectors line parity) ∷ []

-- data and hash blocks differ in size, or some of them aren't covered
abbrev pub is_unprotected_by : Verity → Option Parity → Bool
is_unprotected_by line None = false
is_unprotected_by line (Some parity) = not (line.data_block == line.hash_block) || nat_lt parity.blocks (line.blocks + area_blocks (tree_of line))

-- the most leaf sectors read to restore one block, given the read cost of each base
abbrev pub mend_cost : Verity → Option Parity → List ℕ → ℕ
mend_cost line None costs = 0
mend_cost line (Some parity) costs = mend_sectors line * greatest costs

abbrev pub verity : Verity → TargetRules
verity line = record bare {
  bases = record { device = line.data; offset = 0 } ∷ record { device = line.hash; offset = 0 } ∷ parity_bases line.parity;
  ranges = λ len. (line.data, line_data_sectors line) ∷ parity_ranges line line.parity;
  tree = Some (line.hash, line_tree_sectors line);
  faults = λ len. (ParityDoesntCover, is_unprotected_by line line.parity) ∷ (LineBeyondTree, nat_lt (line_data_sectors line) len) ∷ (NeedsReadOnly, true) ∷ [];
  read_cost = λ costs. block_sectors line * cost_at costs 0 + path_sectors line * cost_at costs 1 + path_blocks line * mend_cost line line.parity costs;
  write_cost = λ reads costs. 0;
  zero_digest = if line.ignore_zero_blocks then Some (digest line.salt (zero_block line)) else None;
}
