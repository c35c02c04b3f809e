use Rattle.std.proofs.Common.{None, ap, arith, inl, inr, refl, subst, true}
use Rattle.tree_repair.specs.declared.repair.Plan.{Plan}
use Rattle.verity_commands.specs.Surveyed.{surveyed_devices}
use Rattle.repair_commands.proofs.lemmas.CountedLemmas.{counted-ends}
use Rattle.update_commands.specs.Repaired.{EndsSilently, RepairsSilently}
use Rattle.update_commands.proofs.unheard.repair_unheard.Goals as goal

pub repair_silently-data_dev-requires-clause-first : goal.repair_silently-data_dev-requires-clause-first
repair_silently-data_dev-requires-clause-first g c = omega (arith, ap (λ (p : Plan). p.copy_first) c.plan_of-plan.ensures)

pub repair_silently-data_dev-requires-clause-allowed : goal.repair_silently-data_dev-requires-clause-allowed
repair_silently-data_dev-requires-clause-allowed g c = record { data_writable = λ write. c.requires.data_writable refl; hash_writable = λ write. c.requires.hash_writable refl }

pub returns-in-Ok : goal.returns-in-Ok
returns-in-Ok g c =
    let w = c.args.image.world in
    let mended = surveyed_devices (g.D.BlockDev.state c.repair_silently-data_dev.result.0) (g.H.BlockDev.state c.repair_silently-data_dev.result.1) in
    inr (record {
      mended = mended;
      repairs = subst (λ (p : Plan). RepairsSilently p w mended) c.plan_of-plan.ensures (rw c.in-Ok.is at c.repair_silently-data_dev.ensures.ok).0;
      seals = c.seal_unheard-ended.ensures;
      data_is = refl;
    })

pub returns-in-Err : goal.returns-in-Err
returns-in-Err g c =
    let w = c.args.image.world in
    let mended = surveyed_devices (g.D.BlockDev.state c.repair_silently-data_dev.result.0) (g.H.BlockDev.state c.repair_silently-data_dev.result.1) in
    let ends = rw c.in-Err.is at c.repair_silently-data_dev.ensures.err in
    inl (record {
      cause = c.in-Err.fault;
      ends = subst (λ (p : Plan). EndsSilently p w mended c.in-Err.fault) c.plan_of-plan.ensures (ends.0, counted-ends c.plan_of-plan.result true w mended None None ends.0 c.repair_silently-data_dev.result.2 c.in-Err.fault ends.1);
      is = c.unsealed_fault.ensures;
    })
