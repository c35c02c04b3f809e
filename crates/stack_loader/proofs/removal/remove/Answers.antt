use Rattle.std.proofs.Common.{◌≡◌, ◌<◌, ℕ, List, [], true, false, Some, None, length, sym, ap, ◌∙◌, position}
use Rattle.std.specs.List.{remove}
use Rattle.std.specs.Str.{bytes_eq}
use Rattle.std.proofs.lemmas.List.Quantifiers.{position-Some}
use Rattle.stack_rules.specs.Records.{Configuration, DeviceRecord, LeafRecord, configuration}
use Rattle.stack_rules.specs.Names.{device_named}
use Rattle.stack_rules.specs.Removal.{is_in_use}
use Rattle.stack_config.proofs.lemmas.FactLemmas.{have-device}
use Rattle.stack_loader.proofs.RemovalFactLemmas.{in_use-facts, unused-of, fault-none, fault-some, after_removal-without, kept-after}
use Rattle.stack_loader.proofs.removal.remove.Goals as goal

inside : (devices : List DeviceRecord) (name : List ℕ) (place : ℕ) → position (λ d. bytes_eq d.name name) devices ≡ Some place → place < length devices
inside devices name place found = (position-Some (λ d. bytes_eq d.name name) devices place (record { name = name; writable = true; table = [] }) found).0

pub returns-in-None-clause-err : goal.returns-in-None-clause-err
returns-in-None-clause-err c =
    let old : Configuration = c.args.config.now in
    let none : device_named old c.args.name.now ≡ None = rw c.devices.ensures.value at (sym c.in-None.ensures) in
    fault-none old c.args.name.now none

pub returns-then-is_in_use-clause-err : goal.returns-then-is_in_use-clause-err
returns-then-is_in_use-clause-err c =
    let old : Configuration = c.args.config.now in
    let found : device_named old c.args.name.now ≡ Some c.in-Some.place = rw c.devices.ensures.value at (sym c.in-Some.ensures) in
    let used : is_in_use old c.in-Some.place ≡ true = sym (in_use-facts old c.facts.result.now c.facts.ensures.facts c.in-Some.place) ∙ rw c.as_slice.ensures.value at (sym c.if-is_in_use.ensures) in
    fault-some old c.args.name.now c.in-Some.place true found used

pub remove-requires-in-Some : goal.remove-requires-in-Some
remove-requires-in-Some c =
    let old : Configuration = c.args.config.now in
    let found : device_named old c.args.name.now ≡ Some c.in-Some.place = rw c.devices.ensures.value at (sym c.in-Some.ensures) in
    have-device c.in-Some.place c.take-devices.ensures.facts.facts (inside old.devices c.args.name.now c.in-Some.place found)

pub put-requires : goal.put-requires
put-requires c =
    let old : Configuration = c.args.config.now in
    let found : device_named old c.args.name.now ≡ Some c.in-Some.place = rw c.devices.ensures.value at (sym c.in-Some.ensures) in
    let unused : is_in_use old c.in-Some.place ≡ false = sym (in_use-facts old c.facts.result.now c.facts.ensures.facts c.in-Some.place) ∙ rw c.as_slice.ensures.value at (sym c.if-is_in_use.ensures) in
    let leaves : c.take-devices.new.self.leaves ≡ old.leaves = ap (λ (c0 : Configuration). c0.leaves) c.take-devices.ensures.left in
    rw (leaves, c.remove.ensures.items, c.take-devices.ensures.devices)
    (kept-after old c.in-Some.place (unused-of old c.in-Some.place (inside old.devices c.args.name.now c.in-Some.place found) unused) c.take-devices.result.1 c.remove-in-Some.new.self c.take-devices.ensures.facts c.remove-in-Some.ensures)

pub returns-else-is_in_use-clause-ok : goal.returns-else-is_in_use-clause-ok
returns-else-is_in_use-clause-ok c =
    let old : Configuration = c.args.config.now in
    let found : device_named old c.args.name.now ≡ Some c.in-Some.place = rw c.devices.ensures.value at (sym c.in-Some.ensures) in
    let unused : is_in_use old c.in-Some.place ≡ false = sym (in_use-facts old c.facts.result.now c.facts.ensures.facts c.in-Some.place) ∙ rw c.as_slice.ensures.value at (sym c.if-is_in_use.ensures) in
    fault-some old c.args.name.now c.in-Some.place false found unused

pub returns-else-is_in_use-clause-after : goal.returns-else-is_in_use-clause-after
returns-else-is_in_use-clause-after c =
    let old : Configuration = c.args.config.now in
    let found : device_named old c.args.name.now ≡ Some c.in-Some.place = rw c.devices.ensures.value at (sym c.in-Some.ensures) in
    let leaves : c.take-devices.new.self.leaves ≡ old.leaves = ap (λ (c0 : Configuration). c0.leaves) c.take-devices.ensures.left in
    let devices : c.remove.new.self.items ≡ remove old.devices c.in-Some.place = c.remove.ensures.items ∙ ap (λ (ds : List DeviceRecord). remove ds c.in-Some.place) c.take-devices.ensures.devices in
    c.put.ensures
    ∙ ap (λ (ls : List LeafRecord). configuration ls c.remove.new.self.items) leaves
    ∙ ap (configuration old.leaves) devices
    ∙ sym (after_removal-without old c.args.name.now c.in-Some.place c.devices.ensures.loaded found)
