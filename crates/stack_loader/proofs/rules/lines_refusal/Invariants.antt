use Rattle.std.proofs.Common.{◌≡◌, ◌+◌, drop}
use Rattle.stack_rules.specs.Records.{configuration}
use Rattle.stack_rules.specs.Rules.{first, table_rules, each_device}
use Rattle.stack_rules.proofs.lemmas.FirstRefusalLemmas.{scan}
use Rattle.stack_loader.proofs.rules.lines_refusal.Given as goal

abbrev pub invariant-loop-i : goal.invariant-loop-i
invariant-loop-i l =
    let c = configuration l.leaves l.devices in
    scan (table_rules c) (l.i + 1) (drop l.i l.devices) ≡ first (each_device c (table_rules c))
