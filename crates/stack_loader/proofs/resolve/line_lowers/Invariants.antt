use Rattle.std.proofs.Common.{take}
use Rattle.stack_rules.specs.Records.{Configuration}
use Rattle.stack_loader.specs.Index.{IsIndex}
use Rattle.stack_rules.specs.Names.{names}
use Rattle.stack_rules.specs.Passing.{Mean}
use Rattle.stack_loader.proofs.resolve.line_lowers.Given as goal

abbrev pub invariant-loop-i : goal.invariant-loop-i
invariant-loop-i l = (c : Configuration) → IsIndex c l.index → Mean c l.list.items (take l.i (names l.target))
