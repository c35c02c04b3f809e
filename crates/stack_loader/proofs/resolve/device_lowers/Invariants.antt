use Rattle.std.proofs.Common.{◌≡◌, ◌+◌, drop, take}
use Rattle.stack_rules.specs.Records.{Configuration}
use Rattle.stack_loader.specs.Index.{IsIndex}
use Rattle.stack_rules.specs.Passing.{RowsMean}
use Rattle.stack_rules.specs.Rules.{first, unknown_in}
use Rattle.stack_rules.proofs.lemmas.FirstRefusalLemmas.{scan}
use Rattle.stack_rules.proofs.lemmas.UnknownNameLemmas.{unknown_line}
use Rattle.stack_loader.proofs.resolve.device_lowers.Given as goal

abbrev pub invariant-loop-i : goal.invariant-loop-i
invariant-loop-i l = (c : Configuration) → IsIndex c l.index → RowsMean c l.rows.items (take l.i l.lines) × (scan (unknown_line c l.d) (l.i + 1) (drop l.i l.lines) ≡ first (unknown_in c l.d l.lines))
