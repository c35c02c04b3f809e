use Rattle.std.proofs.Common.{◌+◌, arith, inl}
use Rattle.block_device.specs.Call.{DeviceDoes}
use Rattle.tree_repair.specs.CopyReads.{copy_block}
use Rattle.tree_repair.specs.Jobs.{job}
use Rattle.tree_repair.proofs.CopyReadLemmas.{leaves-none, reads-leave}
use Rattle.tree_repair.proofs.MoveLemmas.{copies-read}
use Rattle.tree_repair.proofs.RunCallLemmas.{hands-none}
use Rattle.tree_repair.proofs.RunLemmas.{has-none, world-none}
use Rattle.tree_repair.proofs.seeds.copy_if_listed.Goals as goal

pub returns-in-None-clause-run : goal.returns-in-None-clause-run
returns-in-None-clause-run g c = has-none

pub returns-in-None-clause-said : goal.returns-in-None-clause-said
returns-in-None-clause-said g c = copies-read (world-none c.args.image.now.world)

pub returns-in-None-clause-handed : goal.returns-in-None-clause-handed
returns-in-None-clause-handed g c =
    let asks = DeviceDoes g.D.BlockDev.state g.D.BlockDev.does in
    let does = DeviceDoes g.H.BlockDev.state g.H.BlockDev.does in
    hands-none asks does (job c.args.repair.now) c.args.image.now

pub returns-in-Some-clause-run : goal.returns-in-Some-clause-run
returns-in-Some-clause-run g c = c.copy_from_seed.ensures.run

pub returns-in-Some-clause-said : goal.returns-in-Some-clause-said
returns-in-Some-clause-said g c = c.copy_from_seed.ensures.said

pub returns-in-Some-clause-handed : goal.returns-in-Some-clause-handed
returns-in-Some-clause-handed g c = c.copy_from_seed.ensures.handed

pub returns-in-None-clause-reads : goal.returns-in-None-clause-reads
returns-in-None-clause-reads g c = reads-leave (job c.args.repair.now) (copy_block c.args.copy 0) (copy_block (c.args.copy + 1) 0) c.args.image.now.world c.args.image.now.world (inl (omega arith)) (leaves-none (job c.args.repair.now) c.args.image.now.world)

pub returns-in-Some-clause-reads : goal.returns-in-Some-clause-reads
returns-in-Some-clause-reads g c = c.copy_from_seed.ensures.reads
