-- Collection of the values computed for each device.
use Rattle.std.specs.Prelude.{ℕ, List, [], map, get_or}
use Rattle.stack_config.specs.declared.facts.DeviceFacts.{DeviceFacts}
use Rattle.stack_config.specs.Keys.{keys_from, zero_digests_of}
use Rattle.stack_rules.specs.Records.{DeviceRecord}
use Rattle.stack_rules.specs.declared.lower.Lower.{Lower}

-- the values of device i, given the values computed for all devices
abbrev pub facts_at : List DeviceRecord → (depths reads writes : List ℕ) → List (List (List Lower)) → ℕ → DeviceFacts
facts_at devices depths reads writes lowers i = record {
  depth = get_or depths i 0;
  read_cost = get_or reads i 0;
  write_cost = get_or writes i 0;
  lowers = get_or lowers i [];
  keys = get_or (map (λ d. keys_from 0 d.table) devices) i [];
  zero_digests = get_or (map (λ d. zero_digests_of d.table) devices) i [];
}
