-- Costs of devices, computed from the lowest depth up.
use Rattle.std.specs.Prelude.{◌≡◌, ◌<◌, ◌+◌, ◌^◌, ℕ, min, List, map, length, slice_index, None}
use Rattle.dm_table.specs.declared.table.Line.{Line}
use Rattle.dm_table.specs.declared.table.Target.{Target}
use Rattle.stack_loader.specs.declared.cost.Direction.{Direction}
use Rattle.stack_loader.specs.declared.cost.Direction.TheVariants.{Read, Write}
use Rattle.stack_rules.specs.declared.lower.Lower.{Lower}
use Rattle.stack_rules.specs.declared.lower.Lower.TheVariants.{Leaf as leaf, Device as device}
use Rattle.stack_rules.specs.Records.{Configuration, DeviceRecord}
use Rattle.stack_rules.specs.Names.{mapped}
use Rattle.stack_rules.specs.Descend.{greatest, descend, by_name, cost_rule, line_read_cost, line_write_cost, depth}
use Rattle.stack_rules.specs.Kept.{AreLowers, each_mapped}
use Rattle.stack_rules.specs.Rules.{first, depth_rules, most_cost}

-- the cost of a leaf is 1; those of the devices are given
abbrev pub cost_in : List ℕ → Lower → ℕ
cost_in costs (leaf i) = 1
cost_in costs (device d) = slice_index costs d.0

-- the cost of reading a sector, or of writing one given the costs of reading
abbrev pub line_cost : Configuration → Direction → (List ℕ → ℕ) → Target → ℕ
line_cost c Read = line_read_cost
line_cost c (Write reads) = line_write_cost (by_name c 0 (cost_in reads.now))

-- read_cost, or write_cost for the given costs of reading
abbrev pub cost : Configuration → Direction → Lower → ℕ
cost c direction = descend 0 (cost_rule c (line_cost c direction))

-- the cost of the most expensive line, given the costs of lower devices
abbrev pub dearest : Configuration → Direction → (Lower → ℕ) → List Line → ℕ
dearest c direction below lines = greatest (map (λ line. line_cost c direction (by_name c 0 below) line.target) lines)

-- there is a row for each line of each device
abbrev pub AreLineRows : List (List (List Lower)) → List DeviceRecord → Type 0
AreLineRows rows devices = map length rows ≡ map (λ d. length d.table) devices

-- what is known of a configuration before its costs: the lower devices and the depths, none of which is above the
-- limit
pub record AreMeasured (c : Configuration) (rows : List (List (List Lower))) (values : List ℕ) : Type 0 where
  pub lowers : AreLowers c rows
  pub depths : values ≡ each_mapped (depth c) (length c.devices)
  pub low : first (depth_rules c) ≡ None

-- the largest cost that is stored: for reads the smallest that a rule refuses, for writes more than any possible cost
abbrev pub ceiling : Direction → ℕ
ceiling Read = most_cost + 1
ceiling (Write reads) = 2 ^ 60

-- a cost, limited to the ceiling
abbrev pub capped_cost : Direction → ℕ → ℕ
capped_cost direction cost = min (ceiling direction) cost

-- the capped costs of all devices with a depth below k
pub record AreCosts (c : Configuration) (direction : Direction) (k : ℕ) (costs : List ℕ) : Type 0 where
  pub each : (d : ℕ) → d < length costs → depth c (mapped d) < k → slice_index costs d ≡ capped_cost direction (cost c direction (mapped d))
