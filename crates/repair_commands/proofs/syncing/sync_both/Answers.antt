use Rattle.std.proofs.Common.{ap, inl, inr, map, refl, subst}
use Rattle.tree_repair.specs.declared.fault.RepairFault.TheVariants.{Image}
use Rattle.tree_repair.specs.Worlds.{RepairWorld, repair_world, world_of}
use Rattle.verity_format.specs.declared.verifying.VerifyFault.TheVariants.{Device as DeviceFailed}
use Rattle.repair_commands.specs.Mends.{IsUnsyncedCause}
use Rattle.repair_commands.proofs.EndingLemmas.{err-from}
use Rattle.repair_commands.proofs.MendLemmas.{sync-tried}
use Rattle.repair_commands.proofs.syncing.sync_both.Goals as goal

pub returns-in_err-data_synced-clause-err : goal.returns-in_err-data_synced-clause-err
returns-in_err-data_synced-clause-err g c =
    let i = c.image.inside in
    let b = repair_world (g.D.BlockDev.state c.sync_one-data_synced.new.device) (g.H.BlockDev.state c.sync_one-hash_synced.new.device) (map g.C.BlockDev.state i.data_copies.items) (map g.C.BlockDev.state i.hash_copies.items) in
    let fails = c.in_err-data_synced.ensures.err in
    err-from c.from_residual.result _ (Image DeviceFailed) c.from_residual.ensures.1
    (subst (λ (w : RepairWorld). IsUnsyncedCause c.args.write w b (Image DeviceFailed)) (ap (λ i. world_of i) c.image.view_is) (
      refl,
      record {
        may_write = fails.0;
        failed = inl fails.1.failed;
        data_tried = inr fails.1;
        hash_tried = sync-tried c.args.write _ _ c.sync_one-hash_synced.result fails.0 c.sync_one-hash_synced.ensures.ok c.sync_one-hash_synced.ensures.err;
      },
    ))

pub returns-in_err-hash_synced-clause-err : goal.returns-in_err-hash_synced-clause-err
returns-in_err-hash_synced-clause-err g c =
    let i = c.image.inside in
    let b = repair_world (g.D.BlockDev.state c.sync_one-data_synced.new.device) (g.H.BlockDev.state c.sync_one-hash_synced.new.device) (map g.C.BlockDev.state i.data_copies.items) (map g.C.BlockDev.state i.hash_copies.items) in
    let fails = c.in_err-hash_synced.ensures.err in
    err-from c.from_residual-in_err-hash_synced.result _ (Image DeviceFailed) c.from_residual-in_err-hash_synced.ensures.1
    (subst (λ (w : RepairWorld). IsUnsyncedCause c.args.write w b (Image DeviceFailed)) (ap (λ i. world_of i) c.image.view_is) (
      refl,
      record {
        may_write = fails.0;
        failed = inr fails.1.failed;
        data_tried = inl (c.in_ok-data_synced.ensures.ok fails.0);
        hash_tried = inr fails.1;
      },
    ))
