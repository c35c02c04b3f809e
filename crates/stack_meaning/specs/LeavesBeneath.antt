-- The leaves below a device.
use Rattle.std.specs.Prelude.{ℕ, ◌==◌, Bool, false, List, [], ◌∷◌, flat_map}
use Rattle.std.specs.List.{list_any}
use Rattle.dm_table.specs.declared.table.Target.{Target}
use Rattle.stack_rules.specs.declared.lower.Lower.{Lower}
use Rattle.stack_rules.specs.declared.lower.Lower.TheVariants.{Leaf as leaf, Device as device}
use Rattle.stack_rules.specs.Descend.{by_name, descend}
use Rattle.stack_rules.specs.Names.{lowers, names}
use Rattle.stack_rules.specs.Records.{Configuration}

abbrev pub leaves_rule : Configuration → (Lower → List ℕ) → Lower → List ℕ
leaves_rule c below (leaf i) = i ∷ []
leaves_rule c below (device d) = flat_map below (lowers c d.0)

-- the indices of the leaves below; for a leaf, its own index
abbrev pub leaves_beneath : Configuration → Lower → List ℕ
leaves_beneath c = descend [] (leaves_rule c)

-- whether leaf i is this leaf, or is below this device
abbrev pub stands_on : Configuration → ℕ → Lower → Bool
stands_on c i lower = list_any (λ j. i == j) (leaves_beneath c lower)

-- whether leaf i is the leaf with this name, or is below the device with this name
abbrev pub name_stands_on : Configuration → ℕ → List ℕ → Bool
name_stands_on c i = by_name c false (stands_on c i)

-- whether leaf i is below a device that a line with this target names
abbrev pub target_leaves : Configuration → Target → ℕ → Bool
target_leaves c target i = list_any (name_stands_on c i) (names target)
