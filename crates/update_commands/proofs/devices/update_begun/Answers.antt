use Rattle.std.proofs.Common.{IsTrue, ap, arith, inl, inr, refl, subst, sym, ◌∙◌}
use Rattle.std.proofs.Math.Path.{subst₂}
use Rattle.std.proofs.lemmas.Result.{IfErr-weaker, on_ok_weaker}
use Rattle.image_commands.specs.Places.{IsStateOf}
use Rattle.repair_commands.specs.declared.counters.Counters.{Counters}
use Rattle.repair_commands.specs.Counters.{counters_of}
use Rattle.tree_repair.specs.declared.repair.Plan.{Plan}
use Rattle.tree_repair.specs.Worlds.{RepairWorld}
use Rattle.verity_commands.specs.Surveyed.{surveyed_devices}
use Rattle.update_commands.specs.Moving.{FailsToMove, MovesListed}
use Rattle.update_commands.specs.Updates.{EndsMoved, UpdatesMoved}
use Rattle.update_commands.proofs.UpdateLemmas.{allowed-moved, allowed-unmoved, cut-told}
use Rattle.update_commands.proofs.devices.update_begun.Goals as goal

pub move_listed-requires-clause-first : goal.move_listed-requires-clause-first
move_listed-requires-clause-first g c = omega (arith, ap (λ (p : Plan). p.copy_first) c.plan_of-plan.ensures)

pub move_listed-requires-clause-allowed : goal.move_listed-requires-clause-allowed
move_listed-requires-clause-allowed g c =
    let world = c.image_of-image.ensures in
    record {
      data_writable = λ write. subst IsTrue (sym (ap (λ (w : RepairWorld). w.data_dev.may_write) world)) (c.requires.data_writable refl);
      hash_writable = λ write. subst IsTrue (sym (ap (λ (w : RepairWorld). w.hash_dev.may_write) world)) (c.requires.hash_writable refl);
    }

pub update_moved-requires : goal.update_moved-requires
update_moved-requires g c =
    let world = c.image_of-image.ensures in
    allowed-moved c.args.json c.plan_of-plan.result c.image_of-image.result.world c.move_listed.new.image.world _ _ c.in-Ok.copied c.in-Ok.ensures.ok (record {
      data_writable = λ write. subst IsTrue (sym (ap (λ (w : RepairWorld). w.data_dev.may_write) world)) (c.requires.data_writable refl);
      hash_writable = λ write. subst IsTrue (sym (ap (λ (w : RepairWorld). w.hash_dev.may_write) world)) (c.requires.hash_writable refl);
    })

pub returns-in-Ok-clause-ok : goal.returns-in-Ok-clause-ok
returns-in-Ok-clause-ok g c =
    let json = c.args.json in
    let r = c.args.release.now in
    let old = g.W.Write.contents c.args.writer.now.inner in
    let between = g.W.Write.contents c.move_listed.new.writer.inner in
    let new = g.W.Write.contents c.update_moved.new.writer.inner in
    let moved = c.move_listed.new.image.world in
    let count = c.in-Ok.copied in
    let after = surveyed_devices (g.D.BlockDev.state c.update_moved.result.0) (g.H.BlockDev.state c.update_moved.result.1) in
    on_ok_weaker c.update_moved.result.2
    (λ updates. record {
      moved = moved;
      count = count;
      between = between;
      moves = subst₂ (λ (p : Plan) (w : RepairWorld). MovesListed json p w moved old between count) c.plan_of-plan.ensures c.image_of-image.ensures c.in-Ok.ensures.ok;
      updates = subst (λ (b : Counters). UpdatesMoved (IsStateOf g.H.BlockDev.state) r json (record { before = b; copied = count }) moved after between new) (c.counters_of-before.ensures ∙ ap counters_of c.image_of-image.ensures) updates;
    })
    c.update_moved.ensures.ok

pub returns-in-Ok-clause-err : goal.returns-in-Ok-clause-err
returns-in-Ok-clause-err g c =
    let json = c.args.json in
    let r = c.args.release.now in
    let old = g.W.Write.contents c.args.writer.now.inner in
    let between = g.W.Write.contents c.move_listed.new.writer.inner in
    let new = g.W.Write.contents c.update_moved.new.writer.inner in
    let failed = c.update_moved.new.writer.failed in
    let moved = c.move_listed.new.image.world in
    let count = c.in-Ok.copied in
    let after = surveyed_devices (g.D.BlockDev.state c.update_moved.result.0) (g.H.BlockDev.state c.update_moved.result.1) in
    IfErr-weaker c.update_moved.result.2 _ _
    (λ fault ends. inr (inl (record {
      moved = moved;
      count = count;
      between = between;
      moves = subst₂ (λ (p : Plan) (w : RepairWorld). MovesListed json p w moved old between count) c.plan_of-plan.ensures c.image_of-image.ensures c.in-Ok.ensures.ok;
      ends = subst (λ (b : Counters). EndsMoved (IsStateOf g.H.BlockDev.state) r json (record { before = b; copied = count }) moved after between new failed fault) (c.counters_of-before.ensures ∙ ap counters_of c.image_of-image.ensures) ends;
    })))
    c.update_moved.ensures.err

pub end_moving-data_dev-requires : goal.end_moving-data_dev-requires
end_moving-data_dev-requires g c =
    let world = c.image_of-image.ensures in
    allowed-unmoved c.plan_of-plan.result c.image_of-image.result.world c.move_listed.new.image.world c.in-Err.fault c.in-Err.ensures.err (record {
      data_writable = λ write. subst IsTrue (sym (ap (λ (w : RepairWorld). w.data_dev.may_write) world)) (c.requires.data_writable refl);
      hash_writable = λ write. subst IsTrue (sym (ap (λ (w : RepairWorld). w.hash_dev.may_write) world)) (c.requires.hash_writable refl);
    })

pub returns-in-Err-clause-err : goal.returns-in-Err-clause-err
returns-in-Err-clause-err g c =
    let behind = c.move_listed.new.image.world in
    let fails = subst₂ (λ (p : Plan) (w : RepairWorld). FailsToMove p w behind c.in-Err.fault) c.plan_of-plan.ensures c.image_of-image.ensures c.in-Err.ensures.err in
    elim c.end_moving-data_dev.ensures [
      | inl done ↦ inl (record { behind = behind; cause = c.in-Err.fault; fails = fails; heard = done.0; is = done.1.0; same = done.1.1 })
      | inr unheard ↦ inr (inr (record { between = behind; cause = c.in-Err.fault; cut = fails; unprinted = unheard.0; told = λ aloud. cut-told c.move_listed.new.writer c.in-Err.fault unheard.0 (c.in-Err.ensures.told aloud); ends = unheard.1 }))
    ]
