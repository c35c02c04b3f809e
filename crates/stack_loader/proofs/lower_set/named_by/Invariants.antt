use Rattle.std.proofs.Common.{◌≡◌, ◌<◌, ℕ, take}
use Rattle.std.specs.List.{list_any}
use Rattle.stack_rules.specs.Descend.{most_devices}
use Rattle.stack_rules.specs.Cycles.{is_mapped}
use Rattle.stack_loader.specs.DeviceSet.{contains}
use Rattle.stack_loader.proofs.lower_set.named_by.Given as goal

abbrev pub invariant-loop-line : goal.invariant-loop-line
invariant-loop-line l = (e : ℕ) → e < most_devices → contains l.named e ≡ list_any (list_any (is_mapped e)) (take l.line-index l.lines)
