-- Values of devices that are computed from the values of the devices below them: depths and costs.
use Rattle.std.specs.Prelude.{ℕ, zero, suc, ◌+◌, List, map, Option, Some, None}
use Rattle.dm_table.specs.declared.table.Target.{Target}
use Rattle.stack_rules.specs.declared.lower.Lower.{Lower}
use Rattle.stack_rules.specs.declared.lower.Lower.TheVariants.{Leaf as leaf, Device as device}
use Rattle.stack_rules.specs.Records.{Configuration}
use Rattle.stack_rules.specs.Names.{named, names, lowers, lines_of}
pub use Rattle.stack_rules.specs.TargetRules.{greatest}
use Rattle.stack_rules.specs.RulesOf.{rules_of}

-- the largest number of mapped devices in a configuration
abbrev pub most_devices : ℕ
most_devices = 64

-- the value of a rule for a leaf or device, given its values for the devices below; a chain of lower devices without
-- repetition is no longer than the number of devices
abbrev pub after_steps {ℓ} : {A : Type ℓ} → A → ((Lower → A) → Lower → A) → ℕ → Lower → A
after_steps none rule zero lower = none
after_steps none rule (suc n) lower = rule (after_steps none rule n) lower

unfoldable pub descend {ℓ} : {A : Type ℓ} → A → ((Lower → A) → Lower → A) → Lower → A
descend none rule lower = after_steps none rule (suc most_devices) lower

-- the value of the leaf or device with that name; in a valid configuration every name is known
abbrev pub known {ℓ} : {A : Type ℓ} → A → (Lower → A) → Option Lower → A
known none below None = none
known none below (Some lower) = below lower

abbrev pub by_name {ℓ} : {A : Type ℓ} → Configuration → A → (Lower → A) → List ℕ → A
by_name c none below name = known none below (named c name)

-- a leaf has depth 0, a mapped device one more than the deepest device that it names
abbrev pub depth_rule : Configuration → (Lower → ℕ) → Lower → ℕ
depth_rule c below (leaf i) = 0
depth_rule c below (device d) = 1 + greatest (map below (lowers c d.0))

abbrev pub depth : Configuration → Lower → ℕ
depth c = descend 0 (depth_rule c)

-- the most leaf sectors read to read a sector of such a line, where `cost` is the read cost of the devices that it
-- names
abbrev pub line_read_cost : (List ℕ → ℕ) → Target → ℕ
line_read_cost cost target = (rules_of target).read_cost (map cost (names target))

-- the most leaf sectors read and written to write a sector of such a line, where `read` and `cost` are the read and
-- write costs of the devices that it names
abbrev pub line_write_cost : (List ℕ → ℕ) → (List ℕ → ℕ) → Target → ℕ
line_write_cost read cost target = (rules_of target).write_cost (map read (names target)) (map cost (names target))

-- the cost of a leaf is 1, that of a device is that of its most expensive line
abbrev pub cost_rule : Configuration → ((List ℕ → ℕ) → Target → ℕ) → (Lower → ℕ) → Lower → ℕ
cost_rule c line_cost below (leaf i) = 1
cost_rule c line_cost below (device d) = greatest (map (λ line. line_cost (by_name c 0 below) line.target) (lines_of c d.0))

abbrev pub read_cost : Configuration → Lower → ℕ
read_cost c = descend 0 (cost_rule c line_read_cost)

abbrev pub write_cost : Configuration → Lower → ℕ
write_cost c = descend 0 (cost_rule c (line_write_cost (by_name c 0 (read_cost c))))
