-- Values that are computed once for a configuration, and those that remain after a removal.
use Rattle.std.specs.Prelude.{◌≡◌, ◌<◌, ◌≤◌, ◌==◌, ℕ, [], length, map, get_or, slice_get, find, Some, option_and_then, vec_len}
use Rattle.std.specs.List.{remove}
use Rattle.std.specs.Option.{option_map}
use Rattle.stack_config.specs.declared.facts.DeviceFacts.{DeviceFacts}
use Rattle.stack_config.specs.declared.facts.Facts.{Facts}
use Rattle.stack_rules.specs.declared.lower.Lower.{Lower}
use Rattle.stack_rules.specs.Rules.{IsLoaded, most_depth}
use Rattle.stack_rules.specs.Names.{mapped}
use Rattle.stack_rules.specs.Lines.{names_at, lower_at, key_of_line, zero_digest_at}
use Rattle.stack_rules.specs.Records.{Configuration}
use Rattle.stack_rules.specs.Descend.{depth, read_cost, write_cost}
use Rattle.stack_rules.specs.Kept.{AreLowers, each_mapped}
use Rattle.stack_config.specs.Keys.{AreKeys, AreZeroDigests}
use Rattle.stack_rules.specs.Removal.{lower_after}

pub record AreFacts (c : Configuration) (facts : Facts) : Type 0 where
  pub depths : map (λ (f : DeviceFacts). f.depth) facts.devices.items ≡ each_mapped (depth c) (length c.devices)
  pub reads : map (λ (f : DeviceFacts). f.read_cost) facts.devices.items ≡ each_mapped (read_cost c) (length c.devices)
  pub writes : map (λ (f : DeviceFacts). f.write_cost) facts.devices.items ≡ each_mapped (write_cost c) (length c.devices)
  pub lowers : AreLowers c (map (λ (f : DeviceFacts). f.lowers) facts.devices.items)
  pub keys : AreKeys c.devices (map (λ (f : DeviceFacts). f.keys) facts.devices.items)
  pub zero_digests : AreZeroDigests c.devices (map (λ (f : DeviceFacts). f.zero_digests) facts.devices.items)

-- a loaded configuration with the values computed for it
pub record IsLoadedWith (c : Configuration) (made : Facts) : Type 0 where
  pub loaded : IsLoaded c
  pub facts : AreFacts c made

-- the values of device d; lines are numbered from 0
pub record IsOfDevice (c : Configuration) (d : ℕ) (facts : DeviceFacts) : Type 0 where
  pub depth : (facts.depth ≡ depth c (mapped d)) × (facts.depth ≤ most_depth)
  pub read : facts.read_cost ≡ read_cost c (mapped d)
  pub write : facts.write_cost ≡ write_cost c (mapped d)
  pub names : (l : ℕ) → length (get_or facts.lowers l []) ≡ length (names_at c d l)
  pub lower : (l i : ℕ) (x : Lower) → slice_get (get_or facts.lowers l []) i ≡ Some x → lower_at c d l i ≡ Some x
  pub key : (l : ℕ) → option_map (λ k. k.key) (find (λ k. k.line == l) facts.keys) ≡ key_of_line c d l
  pub zero_digest : (l : ℕ) → option_and_then (λ digest. digest) (slice_get facts.zero_digests l) ≡ zero_digest_at c d l

-- there are values of device d
abbrev pub HaveDevice : Facts → ℕ → Type 0
HaveDevice facts d = d < vec_len facts.devices

-- the values of another device after device d is removed: the indices of later devices decrease by one
abbrev pub fact_after : ℕ → DeviceFacts → DeviceFacts
fact_after d f = record f { lowers = map (map (lower_after d)) f.lowers }

-- the values of the other devices after device d is removed
abbrev pub AreWithout : ℕ → Facts → Facts → Type 0
AreWithout d old new = new.devices.items ≡ map (fact_after d) (remove old.devices.items d)
