use Rattle.std.proofs.Common.{◌≡◌, ◌≤◌, ◌*◌, ◌^◌, ◌+◌, drop, take}
use Rattle.stack_rules.specs.Records.{configuration}
use Rattle.stack_rules.specs.Names.{table_sectors}
use Rattle.stack_rules.proofs.lemmas.FirstRefusalLemmas.{scan}
use Rattle.stack_loader.proofs.TableLemmas.{line_of_table}
use Rattle.stack_loader.proofs.rules.table_refusal.Given as goal

abbrev pub invariant-loop-i : goal.invariant-loop-i
invariant-loop-i l =
    let c = configuration l.leaves l.devices in
    (l.before ≡ table_sectors (take l.i l.lines)) × (l.before ≤ l.i * 2 ^ 64)
    × (scan (line_of_table c l.writable l.lines l.d) (l.i + 1) (drop l.i l.lines) ≡ scan (line_of_table c l.writable l.lines l.d) 1 l.lines)
