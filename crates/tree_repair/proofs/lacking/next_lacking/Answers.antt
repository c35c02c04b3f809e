use Rattle.std.proofs.Common.{refl, ◌∙◌}
use Rattle.block_device.specs.Call.{DeviceDoes}
use Rattle.tree_repair.specs.Jobs.{job}
use Rattle.tree_repair.proofs.FetchLemmas.{lacking-before}
use Rattle.tree_repair.proofs.RepairCallLemmas.{both-more, both-nothing}
use Rattle.tree_repair.proofs.RunLemmas.{can-read, world-none, world-then}
use Rattle.tree_repair.proofs.lacking.next_lacking.Goals as goal

pub each-init : goal.each-init
each-init g c = record {
  tree = c.requires.tree;
  read = world-none c.args.image.now.world;
  called = both-nothing (DeviceDoes g.D.BlockDev.state g.D.BlockDev.does) (DeviceDoes g.H.BlockDev.state g.H.BlockDev.does) c.args.image.now;
  kept = refl;
}

pub is_lacking-requires-clause-can : goal.is_lacking-requires-clause-can
is_lacking-requires-clause-can g c = can-read c.each.invariant.read c.requires.can

pub is_lacking-requires-clause-size : goal.is_lacking-requires-clause-size
is_lacking-requires-clause-size g c = c.each.auto.block ∙ c.requires.size

pub each-preserved : goal.each-preserved
each-preserved g c = record {
  tree = c.is_lacking.ensures.tree;
  read = world-then c.args.image.now.world c.each.image.world c.is_lacking.new.image.world c.each.invariant.read c.is_lacking.ensures.read;
  called = both-more (DeviceDoes g.D.BlockDev.state g.D.BlockDev.does) (DeviceDoes g.H.BlockDev.state g.H.BlockDev.does) c.args.image.now c.each.image c.is_lacking.new.image c.each.invariant.called c.is_lacking.ensures.called;
  kept = c.is_lacking.ensures.kept ∙ c.each.invariant.kept;
}

pub returns-then-is_lacking-clause-read : goal.returns-then-is_lacking-clause-read
returns-then-is_lacking-clause-read g c = world-then c.args.image.now.world c.each.image.world c.is_lacking.new.image.world c.each.invariant.read c.is_lacking.ensures.read

pub returns-then-is_lacking-clause-lacking : goal.returns-then-is_lacking-clause-lacking
returns-then-is_lacking-clause-lacking g c =
    lacking-before (job c.args.repair.now) c.each.index c.args.image.now.world c.each.image.world c.is_lacking.new.image.world c.each.invariant.read (c.is_lacking.ensures.lacking c.if-is_lacking.true)

pub returns-then-is_lacking-clause-called : goal.returns-then-is_lacking-clause-called
returns-then-is_lacking-clause-called g c =
    both-more (DeviceDoes g.D.BlockDev.state g.D.BlockDev.does) (DeviceDoes g.H.BlockDev.state g.H.BlockDev.does) c.args.image.now c.each.image c.is_lacking.new.image c.each.invariant.called c.is_lacking.ensures.called

pub returns-clause-read : goal.returns-clause-read
returns-clause-read g c = c.each.invariant.read

pub returns-clause-called : goal.returns-clause-called
returns-clause-called g c = c.each.invariant.called

pub returns-then-is_lacking-clause-kept : goal.returns-then-is_lacking-clause-kept
returns-then-is_lacking-clause-kept g c = c.is_lacking.ensures.kept ∙ c.each.invariant.kept

pub returns-clause-kept : goal.returns-clause-kept
returns-clause-kept g c = c.each.invariant.kept
