use Rattle.std.proofs.Common.{◌≡◌, ◌<◌, ◌||◌, ℕ, take}
use Rattle.std.specs.List.{list_any}
use Rattle.stack_rules.specs.Descend.{most_devices}
use Rattle.stack_rules.specs.Cycles.{is_mapped}
use Rattle.stack_loader.specs.DeviceSet.{contains}
use Rattle.stack_loader.proofs.lower_set.with_line.Given as goal

abbrev pub invariant-loop-lower : goal.invariant-loop-lower
invariant-loop-lower l = (e : ℕ) → e < most_devices → contains l.named e ≡ (contains l.fn.set e || list_any (is_mapped e) (take l.lower-index l.lowers))
