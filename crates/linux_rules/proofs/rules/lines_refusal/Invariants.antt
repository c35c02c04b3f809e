use Rattle.std.proofs.Common.{◌≡◌, ◌+◌, drop}
use Rattle.stack_rules.specs.Descend.{by_name}
use Rattle.linux_rules.specs.Blocks.{block_in}
use Rattle.linux_rules.specs.Rules.{first_from, line_refusal}
use Rattle.linux_rules.proofs.rules.lines_refusal.Given as goal

abbrev pub invariant-loop-i : goal.invariant-loop-i
invariant-loop-i l =
    let f = line_refusal l.config (by_name l.config 0 (block_in l.blocks)) l.block l.lines l.d in
    first_from f (l.i + 1) (drop l.i l.lines) ≡ first_from f 1 l.lines
