-- Values of a configuration that are computed once, when it is loaded.
use Rattle.std.specs.Prelude.{◌≡◌, ℕ, List, map, Option, Some}
use Rattle.std.specs.List.{range_with_len}
use Rattle.stack_rules.specs.declared.lower.Lower.{Lower}
use Rattle.stack_rules.specs.Records.{Configuration, DeviceRecord}
use Rattle.stack_rules.specs.Names.{mapped, named, names}

-- the values of f for the first n mapped devices
abbrev pub each_mapped : (Lower → ℕ) → ℕ → List ℕ
each_mapped f n = map (λ d. f (mapped d)) (range_with_len 0 n)

-- the leaves and devices that the names in each line of a device refer to
abbrev pub meanings : Configuration → DeviceRecord → List (List (Option Lower))
meanings c d = map (λ line. map (named c) (names line.target)) d.table

-- the stored leaves and devices are those that the names refer to
abbrev pub AreLowers : Configuration → List (List (List Lower)) → Type 0
AreLowers c lowers = map (map (map (λ lower. Some lower))) lowers ≡ map (meanings c) c.devices
