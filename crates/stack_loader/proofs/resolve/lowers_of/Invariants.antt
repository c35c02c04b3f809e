use Rattle.std.proofs.Common.{◌≡◌, ◌+◌, Some, map, drop, take}
use Rattle.stack_rules.specs.Records.{configuration}
use Rattle.stack_rules.specs.Kept.{meanings}
use Rattle.stack_rules.specs.Rules.{first, unknown_in, unknown_names}
use Rattle.stack_rules.proofs.lemmas.FirstRefusalLemmas.{scan}
use Rattle.stack_loader.proofs.resolve.lowers_of.Given as goal

abbrev pub invariant-loop-i : goal.invariant-loop-i
invariant-loop-i l =
    let c = configuration l.fn.leaves l.devices in
    (map (map (map (λ lower. Some lower))) l.lowers.items ≡ map (meanings c) (take l.i l.devices)) × (scan (λ d x. unknown_in c d x.table) (l.i + 1) (drop l.i l.devices) ≡ first (unknown_names c))
