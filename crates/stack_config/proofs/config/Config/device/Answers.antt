use Rattle.std.proofs.Common.{◌≡◌, ◌<◌, ℕ, List, Some, length, arith, ◌∙◌, sym, position}
use Rattle.std.proofs.lemmas.List.Quantifiers.{position-Some}
use Rattle.std.specs.Str.{bytes_eq}
use Rattle.stack_rules.specs.Records.{Configuration, DeviceRecord}
use Rattle.stack_rules.proofs.lemmas.ValidLineLemmas.{few}
use Rattle.stack_config.proofs.config.Config.device.Goals as goal

inside : (devices : List DeviceRecord) (name : List ℕ) (place : ℕ) → position (λ d. bytes_eq d.name name) devices ≡ Some place → place < length devices
inside devices name place found = (position-Some (λ d. bytes_eq d.name name) devices place (record { name = name; writable = Rattle.std.proofs.Common.true; table = Rattle.std.proofs.Common.[] }) found).0

pub overflow_cast-result : goal.overflow_cast-result
overflow_cast-result c =
    let now : Configuration = record { leaves = c.self.inside.leaves.items; devices = c.self.inside.devices.items } in
    let found : position (λ d. bytes_eq d.name c.args.name.now) now.devices ≡ Some c.in_ok-place.place = rw c.as_slice.ensures.value at (sym c.place_of.ensures ∙ c.in_ok-place.was) in
    record { fits = omega (arith, inside now.devices c.args.name.now c.in_ok-place.place found, few now c.self.invariant.loaded.valid) }
