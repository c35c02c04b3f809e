use Rattle.std.proofs.Common.{◌≡◌, false, take}
use Rattle.std.specs.List.{list_any}
use Rattle.stack_rules.specs.Records.{configuration}
use Rattle.stack_rules.specs.Rules.{ends_beyond}
use Rattle.stack_loader.proofs.ranges.are_beyond.Given as goal

abbrev pub invariant-loop-i : goal.invariant-loop-i
invariant-loop-i l = list_any (ends_beyond (configuration l.leaves l.devices) l.sectors) (take l.i l.bases) ≡ false
