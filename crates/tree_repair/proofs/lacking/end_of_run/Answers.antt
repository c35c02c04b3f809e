use Rattle.std.proofs.Common.{◌+◌, ◌<◌, ◌≤◌, ℕ, arith, inl, inr, length, refl, subst, ◌∙◌}
use Rattle.block_device.specs.Call.{DeviceDoes}
use Rattle.block_device.specs.Device.{capped}
use Rattle.tree_repair.specs.Jobs.{job}
use Rattle.tree_repair.proofs.FetchLemmas.{not_lacking-before, run-behind, run-next}
use Rattle.tree_repair.proofs.ParityLemmas.{size-block}
use Rattle.tree_repair.proofs.RepairCallLemmas.{both-more, both-nothing}
use Rattle.tree_repair.proofs.RunLemmas.{can-read, world-none, world-then}
use Rattle.tree_repair.proofs.lacking.end_of_run.Goals as goal

pub each-init : goal.each-init
each-init g c = record {
  tree = c.requires.tree;
  read = world-none c.args.image.now.world;
  at = omega (arith, c.saturating_add-end.ensures);
  lacking = λ i low high. absurd (omega (arith, low, high, c.saturating_add-end.ensures));
  called = both-nothing (DeviceDoes g.D.BlockDev.state g.D.BlockDev.does) (DeviceDoes g.H.BlockDev.state g.H.BlockDev.does) c.args.image.now;
  kept = refl;
}

pub is_lacking-requires-clause-can : goal.is_lacking-requires-clause-can
is_lacking-requires-clause-can g c = can-read c.each.invariant.read c.requires.can

pub is_lacking-requires-clause-size : goal.is_lacking-requires-clause-size
is_lacking-requires-clause-size g c = c.each.auto.block ∙ c.requires.size

pub each-preserved : goal.each-preserved
each-preserved g c = record {
  tree = c.is_lacking.ensures.tree;
  read = world-then c.args.image.now.world c.each.image.world c.is_lacking.new.image.world c.each.invariant.read c.is_lacking.ensures.read;
  at = omega (arith, c.each.invariant.at, c.saturating_add-following.ensures);
  lacking = run-next (job c.args.repair.now) c.args.first c.each.end c.saturating_add-following.result c.args.image.now.world c.each.image.world c.is_lacking.new.image.world (omega (arith, c.saturating_add-following.ensures))
      c.each.invariant.lacking c.each.invariant.read c.is_lacking.ensures.read (c.is_lacking.ensures.lacking c.if-not-is_lacking.false);
  called = both-more (DeviceDoes g.D.BlockDev.state g.D.BlockDev.does) (DeviceDoes g.H.BlockDev.state g.H.BlockDev.does) c.args.image.now c.each.image c.is_lacking.new.image c.each.invariant.called c.is_lacking.ensures.called;
  kept = c.is_lacking.ensures.kept ∙ c.each.invariant.kept;
}

pub returns-then-not-is_lacking-clause-read : goal.returns-then-not-is_lacking-clause-read
returns-then-not-is_lacking-clause-read g c = world-then c.args.image.now.world c.each.image.world c.is_lacking.new.image.world c.each.invariant.read c.is_lacking.ensures.read

pub returns-then-not-is_lacking-clause-lacking : goal.returns-then-not-is_lacking-clause-lacking
returns-then-not-is_lacking-clause-lacking g c =
    run-behind (job c.args.repair.now) c.args.first c.each.end c.args.image.now.world c.each.image.world c.is_lacking.new.image.world c.each.invariant.lacking c.is_lacking.ensures.read

pub returns-then-not-is_lacking-clause-called : goal.returns-then-not-is_lacking-clause-called
returns-then-not-is_lacking-clause-called g c =
    both-more (DeviceDoes g.D.BlockDev.state g.D.BlockDev.does) (DeviceDoes g.H.BlockDev.state g.H.BlockDev.does) c.args.image.now c.each.image c.is_lacking.new.image c.each.invariant.called c.is_lacking.ensures.called

pub returns-clause-read : goal.returns-clause-read
returns-clause-read g c = c.each.invariant.read

pub returns-clause-lacking : goal.returns-clause-lacking
returns-clause-lacking g c = c.each.invariant.lacking

pub returns-clause-called : goal.returns-clause-called
returns-clause-called g c = c.each.invariant.called

pub returns-then-not-is_lacking-clause-full : goal.returns-then-not-is_lacking-clause-full
returns-then-not-is_lacking-clause-full g c =
    inr (not_lacking-before (job c.args.repair.now) c.each.end c.args.image.now.world c.each.image.world c.each.invariant.read (c.is_lacking.ensures.other c.if-not-is_lacking.true))

pub returns-clause-full : goal.returns-clause-full
returns-clause-full g c =
    let some : 0 < length c.args.block.now = rw c.requires.size (size-block c.args.repair.now.shape 0 c.requires.can.valid).some in
    inl (subst (λ (n : ℕ). capped (c.args.first + n) ≤ c.each.end) (c.most_blocks-most.ensures some) (omega (arith, c.each.invariant.at, c.each-test.false)))

pub returns-then-not-is_lacking-clause-kept : goal.returns-then-not-is_lacking-clause-kept
returns-then-not-is_lacking-clause-kept g c = c.is_lacking.ensures.kept ∙ c.each.invariant.kept

pub returns-clause-kept : goal.returns-clause-kept
returns-clause-kept g c = c.each.invariant.kept

pub returns-then-not-is_lacking-clause-after : goal.returns-then-not-is_lacking-clause-after
returns-then-not-is_lacking-clause-after g c = omega (arith, c.each.invariant.at)

pub returns-clause-after : goal.returns-clause-after
returns-clause-after g c = omega (arith, c.each.invariant.at)
