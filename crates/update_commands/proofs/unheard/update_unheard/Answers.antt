use Rattle.std.proofs.Common.{◌≡◌, None, ap, arith, inl, inr, refl, subst, sym, true, ◌∙◌}
use Rattle.block_device.specs.Device.{Device}
use Rattle.tree_repair.specs.declared.fault.RepairFault.{RepairFault}
use Rattle.tree_repair.specs.declared.repair.Plan.{Plan}
use Rattle.verity_commands.specs.Surveyed.{surveyed_devices}
use Rattle.tree_repair.specs.Moves.{MovesBlocks}
use Rattle.update_commands.specs.Moving.{FailsToMove}
use Rattle.update_commands.specs.Releases.{plan_of}
use Rattle.update_commands.proofs.UpdateLemmas.{allowed-blocks, allowed-unmoved, unprinted-is}
use Rattle.update_commands.proofs.unheard.update_unheard.Goals as goal

pub move_silently-requires-clause-first : goal.move_silently-requires-clause-first
move_silently-requires-clause-first g c = omega (arith, ap (λ (p : Plan). p.copy_first) c.plan_of-plan.ensures)

pub move_silently-requires-clause-allowed : goal.move_silently-requires-clause-allowed
move_silently-requires-clause-allowed g c = record { data_writable = λ write. c.requires.data_writable refl; hash_writable = λ write. c.requires.hash_writable refl }

pub repair_unheard-requires : goal.repair_unheard-requires
repair_unheard-requires g c = allowed-blocks c.plan_of-plan.result c.args.image.world c.move_silently.new.image.world None None c.in-Ok._copied c.in-Ok.ensures.ok c.requires

pub returns-in-Ok : goal.returns-in-Ok
returns-in-Ok g c =
    let w = c.args.image.world in
    let moved = c.move_silently.new.image.world in
    inr (record {
      moved = moved;
      moves = inl (c.in-Ok._copied, subst (λ (p : Plan). MovesBlocks p w moved None None c.in-Ok._copied) c.plan_of-plan.ensures c.in-Ok.ensures.ok);
      ends = c.repair_unheard.ensures;
    })

pub returns-else-is_unprinted : goal.returns-else-is_unprinted
returns-else-is_unprinted g c =
    let w = c.args.image.world in
    let behind = c.move_silently.new.image.world in
    inl (record {
      behind = behind;
      cause = c.in-Err.fault;
      heard = sym c.is_unprinted.ensures ∙ c.if-is_unprinted.false;
      fails = subst (λ (p : Plan). FailsToMove p w behind c.in-Err.fault) c.plan_of-plan.ensures c.in-Err.ensures.err;
      is = c.fault_of.ensures;
      same = ap (λ (d : Device). surveyed_devices d (g.H.BlockDev.state c.devices_of-data_dev.result.1)) c.devices_of-data_dev.ensures.data ∙ ap (λ (h : Device). surveyed_devices behind.data_dev h) c.devices_of-data_dev.ensures.hash;
    })

pub repair_unheard-requires-then-is_unprinted : goal.repair_unheard-requires-then-is_unprinted
repair_unheard-requires-then-is_unprinted g c = allowed-unmoved c.plan_of-plan.result c.args.image.world c.move_silently.new.image.world c.in-Err.fault c.in-Err.ensures.err c.requires

pub returns-then-is_unprinted : goal.returns-then-is_unprinted
returns-then-is_unprinted g c =
    let w = c.args.image.world in
    let moved = c.move_silently.new.image.world in
    inr (record {
      moved = moved;
      moves = inr (subst (λ (fault : RepairFault). FailsToMove (plan_of c.args.release.now) w moved fault) (unprinted-is c.in-Err.fault (sym c.is_unprinted.ensures ∙ c.if-is_unprinted.true))
          (subst (λ (p : Plan). FailsToMove p w moved c.in-Err.fault) c.plan_of-plan.ensures c.in-Err.ensures.err));
      ends = c.repair_unheard-then-is_unprinted.ensures;
    })
