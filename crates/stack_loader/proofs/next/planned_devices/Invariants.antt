use Rattle.std.proofs.Common.{◌≡◌, ◌++◌, map, filter, take, position}
use Rattle.std.specs.Prelude.{is_none}
use Rattle.std.specs.Str.{bytes_eq}
use Rattle.stack_rules.specs.Rules.{replacement, new_device}
use Rattle.stack_loader.proofs.next.planned_devices.Given as goal

abbrev pub invariant-loop-device : goal.invariant-loop-device
invariant-loop-device l = l.next.items ≡ map (replacement l.entries) (take l.device-index l.devices)

abbrev pub invariant-loop-entry : goal.invariant-loop-entry
invariant-loop-entry l = l.next.items ≡ map (replacement l.entries) l.devices ++ map new_device (filter (λ e. is_none (position (λ d. bytes_eq d.name e.name) l.devices)) (take l.entry-index l.entries))
