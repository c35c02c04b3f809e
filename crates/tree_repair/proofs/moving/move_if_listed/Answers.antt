use Rattle.std.proofs.Common.{refl}
use Rattle.block_device.specs.Call.{DeviceDoes}
use Rattle.tree_repair.specs.Jobs.{job}
use Rattle.tree_repair.proofs.MoveLemmas.{copies-read}
use Rattle.tree_repair.proofs.RunCallLemmas.{hands-none}
use Rattle.tree_repair.proofs.RunLemmas.{has-none, world-none}
use Rattle.tree_repair.proofs.moving.move_if_listed.Goals as goal

pub returns-in-None-clause-run : goal.returns-in-None-clause-run
returns-in-None-clause-run g c = has-none

pub returns-in-None-clause-said : goal.returns-in-None-clause-said
returns-in-None-clause-said g c = copies-read (world-none c.args.image.now.world)

pub returns-in-None-clause-handed : goal.returns-in-None-clause-handed
returns-in-None-clause-handed g c =
    let asks = DeviceDoes g.D.BlockDev.state g.D.BlockDev.does in
    let does = DeviceDoes g.H.BlockDev.state g.H.BlockDev.does in
    hands-none asks does (job c.args.repair.now) c.args.image.now

pub returns-in-Some-clause-run : goal.returns-in-Some-clause-run
returns-in-Some-clause-run g c = c.move_both.ensures.run

pub returns-in-Some-clause-said : goal.returns-in-Some-clause-said
returns-in-Some-clause-said g c = c.move_both.ensures.said

pub returns-in-Some-clause-handed : goal.returns-in-Some-clause-handed
returns-in-Some-clause-handed g c = c.move_both.ensures.handed

pub returns-in-None-clause-kept : goal.returns-in-None-clause-kept
returns-in-None-clause-kept g c = refl

pub returns-in-Some-clause-kept : goal.returns-in-Some-clause-kept
returns-in-Some-clause-kept g c = c.move_both.ensures.kept
