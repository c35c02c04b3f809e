use Rattle.std.proofs.Common.{◌+◌, arith}
use Rattle.stack_rules.specs.declared.lower.Lower.TheVariants.{Leaf as leaf}
use Rattle.stack_rules.specs.Records.{configuration}
use Rattle.stack_loader.proofs.LineRuleLemmas.{length-bases, beyond-here, beyond-step, beyond-none}
use Rattle.stack_loader.proofs.ranges.are_beyond.Goals as goal

pub bounds-lowers-i : goal.bounds-lowers-i
bounds-lowers-i c = omega (arith, c.loop-i-test.true, length-bases (configuration c.args.leaves.now c.args.devices.now) c.args.lowers.now c.args.bases.now c.requires)

pub returns-then-size_of-end : goal.returns-then-size_of-end
returns-then-size_of-end c =
    beyond-here (configuration c.args.leaves.now c.args.devices.now) c.args.lowers.now c.args.bases.now c.loop-i.i c.index-bases-i.result (leaf 0) c.args.sectors c.size_of.result (c.from.result + c.from-in-loop-i.result)
    (record { means = c.requires; inside = c.loop-i-test.true; is_base = c.index-bases-i.is })
    c.size_of.ensures (omega (arith, c.from.ensures, c.from-in-loop-i.ensures)) c.if-size_of-end.true

pub loop-i-preserved : goal.loop-i-preserved
loop-i-preserved c =
    beyond-step (configuration c.args.leaves.now c.args.devices.now) c.args.lowers.now c.args.bases.now c.loop-i.i c.index-bases-i.result (leaf 0) c.args.sectors c.size_of.result (c.from.result + c.from-in-loop-i.result)
    (record { means = c.requires; inside = c.loop-i-test.true; is_base = c.index-bases-i.is })
    c.size_of.ensures (omega (arith, c.from.ensures, c.from-in-loop-i.ensures)) c.if-size_of-end.false c.loop-i.invariant

pub returns : goal.returns
returns c = beyond-none (configuration c.args.leaves.now c.args.devices.now) c.args.bases.now c.loop-i.i c.args.sectors c.loop-i-test.false c.loop-i.invariant
