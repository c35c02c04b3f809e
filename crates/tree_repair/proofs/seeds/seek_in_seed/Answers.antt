use Rattle.std.proofs.Common.{◌+◌, ap, arith, inr, refl}
use Rattle.tree_shape.specs.Shape.{levels}
use Rattle.std.proofs.lemmas.Result.{IfOk-weaker}
use Rattle.tree_repair.proofs.MoveLemmas.{copies-behind, copies-read}
use Rattle.tree_repair.proofs.RunLemmas.{can-read, has-behind, has-none, has-read, world-none}
use Rattle.block_device.specs.Call.{DeviceDoes}
use Rattle.tree_repair.specs.CopyReads.{copy_block}
use Rattle.tree_repair.specs.Jobs.{job}
use Rattle.tree_repair.proofs.CopyReadLemmas.{leaves-none, leaves-read, reads-leave, seeds-ok}
use Rattle.tree_repair.proofs.RepairCallLemmas.{hash-both}
use Rattle.tree_repair.proofs.RunCallLemmas.{hands-behind, hands-none, hands-read}
use Rattle.tree_repair.proofs.seeds.seek_in_seed.Goals as goal

pub returns-then-not-is_place-clause-run : goal.returns-then-not-is_place-clause-run
returns-then-not-is_place-clause-run g c = has-none

pub returns-then-not-is_place-clause-said : goal.returns-then-not-is_place-clause-said
returns-then-not-is_place-clause-said g c = copies-read (world-none c.args.image.now.world)

pub reach-requires-clause-place : goal.reach-requires-clause-place
reach-requires-clause-place g c = c.is_place.ensures.some c.if-not-is_place.false

pub returns-then-not-reach-clause-run : goal.returns-then-not-reach-clause-run
returns-then-not-reach-clause-run g c = has-read c.reach.ensures.read

pub returns-then-not-reach-clause-said : goal.returns-then-not-reach-clause-said
returns-then-not-reach-clause-said g c = copies-read c.reach.ensures.read

pub digest_at-digest-requires : goal.digest_at-digest-requires
digest_at-digest-requires g c = let way = rw c.if-not-reach.false at c.reach.ensures.way in omega (arith, way.few, ap levels way.is.shape_is)

pub returns-in-None-clause-run : goal.returns-in-None-clause-run
returns-in-None-clause-run g c = has-read c.reach.ensures.read

pub returns-in-None-clause-said : goal.returns-in-None-clause-said
returns-in-None-clause-said g c = copies-read c.reach.ensures.read

pub copy_seed_block-requires-clause-can : goal.copy_seed_block-requires-clause-can
copy_seed_block-requires-clause-can g c = can-read c.reach.ensures.read c.requires.can

pub returns-clause-run : goal.returns-clause-run
returns-clause-run g c = has-behind c.reach.ensures.read c.copy_seed_block.ensures.run

pub returns-clause-said : goal.returns-clause-said
returns-clause-said g c = IfOk-weaker c.copy_seed_block.result _ _ (λ count copies. copies-behind c.reach.ensures.read copies) c.copy_seed_block.ensures.said

pub returns-then-not-is_place-clause-handed : goal.returns-then-not-is_place-clause-handed
returns-then-not-is_place-clause-handed g c =
    let asks = DeviceDoes g.D.BlockDev.state g.D.BlockDev.does in
    let does = DeviceDoes g.H.BlockDev.state g.H.BlockDev.does in
    hands-none asks does (job c.args.repair.now) c.args.image.now

pub returns-then-not-reach-clause-handed : goal.returns-then-not-reach-clause-handed
returns-then-not-reach-clause-handed g c =
    let asks = DeviceDoes g.D.BlockDev.state g.D.BlockDev.does in
    let does = DeviceDoes g.H.BlockDev.state g.H.BlockDev.does in
    hands-read asks does (job c.args.repair.now) c.args.image.now c.reach.new.image (hash-both asks does c.args.image.now c.reach.new.image c.reach.ensures.called)

pub returns-in-None-clause-handed : goal.returns-in-None-clause-handed
returns-in-None-clause-handed g c =
    let asks = DeviceDoes g.D.BlockDev.state g.D.BlockDev.does in
    let does = DeviceDoes g.H.BlockDev.state g.H.BlockDev.does in
    hands-read asks does (job c.args.repair.now) c.args.image.now c.reach.new.image (hash-both asks does c.args.image.now c.reach.new.image c.reach.ensures.called)

pub returns-clause-handed : goal.returns-clause-handed
returns-clause-handed g c =
    let asks = DeviceDoes g.D.BlockDev.state g.D.BlockDev.does in
    let does = DeviceDoes g.H.BlockDev.state g.H.BlockDev.does in
    hands-behind asks does (job c.args.repair.now) _ c.args.image.now c.reach.new.image c.copy_seed_block.new.image (hash-both asks does c.args.image.now c.reach.new.image c.reach.ensures.called) c.copy_seed_block.ensures.handed

pub returns-then-not-is_place-clause-reads : goal.returns-then-not-is_place-clause-reads
returns-then-not-is_place-clause-reads g c = reads-leave (job c.args.repair.now) (copy_block c.args.seed.now.copy c.args.index) (copy_block c.args.seed.now.copy (c.args.index + 1)) c.args.image.now.world c.args.image.now.world (inr (refl, omega arith)) (leaves-none (job c.args.repair.now) c.args.image.now.world)

pub returns-then-not-reach-clause-reads : goal.returns-then-not-reach-clause-reads
returns-then-not-reach-clause-reads g c = reads-leave (job c.args.repair.now) (copy_block c.args.seed.now.copy c.args.index) (copy_block c.args.seed.now.copy (c.args.index + 1)) c.args.image.now.world c.reach.new.image.world (inr (refl, omega arith)) (leaves-read (job c.args.repair.now) c.args.image.now.world c.reach.new.image.world c.reach.ensures.read c.reach.ensures.kept)

pub returns-in-None-clause-reads : goal.returns-in-None-clause-reads
returns-in-None-clause-reads g c = reads-leave (job c.args.repair.now) (copy_block c.args.seed.now.copy c.args.index) (copy_block c.args.seed.now.copy (c.args.index + 1)) c.args.image.now.world c.reach.new.image.world (inr (refl, omega arith)) (leaves-read (job c.args.repair.now) c.args.image.now.world c.reach.new.image.world c.reach.ensures.read c.reach.ensures.kept)

pub returns-clause-reads : goal.returns-clause-reads
returns-clause-reads g c = seeds-ok c.copy_seed_block.result (job c.args.repair.now) (copy_block c.args.seed.now.copy c.args.index) (copy_block c.args.seed.now.copy (c.args.index + 1)) c.args.image.now.world c.reach.new.image.world c.copy_seed_block.new.image.world (leaves-read (job c.args.repair.now) c.args.image.now.world c.reach.new.image.world c.reach.ensures.read c.reach.ensures.kept) c.copy_seed_block.ensures.reads
