use Rattle.std.proofs.Common.{◌≡◌, ◌+◌, ◌-◌, ℕ, suc, ap, subst, sym, arith}
use Rattle.std.specs.Prelude.{IfOk, OnErr, is_ok}
use Rattle.tree_shape.proofs.lemmas.ShapeFactLemmas.{levels-few}
use Rattle.tree_survey.specs.Surveys.{IsWay}
use Rattle.block_device.specs.Call.{DeviceDoes}
use Rattle.tree_repair.specs.AccessBudgets.{LeavesVisit}
use Rattle.tree_repair.specs.Jobs.{job}
use Rattle.tree_repair.specs.RepairCalls.{VisitCalls}
use Rattle.tree_repair.specs.Runs.{size_at}
use Rattle.tree_repair.specs.Visits.{FailsToStoreBlock, IsBlockMade}
use Rattle.tree_repair.proofs.ParityLemmas.{size-block}
use Rattle.tree_repair.proofs.VisitLemmas.{hash-fails, hash-made}
use Rattle.tree_repair.proofs.visiting.visit.Goals as goal

pub split_at_mut-block-requires : goal.split_at_mut-block-requires
split_at_mut-block-requires g c = omega (arith, c.block_size-size.ensures, (size-block c.args.repair.now.shape c.args.place.height c.requires.can.valid).most, c.requires.room)

pub visit_data-requires-clause-way : goal.visit_data-requires-clause-way
visit_data-requires-clause-way g c = subst (λ (n : ℕ). IsWay (job c.args.repair.now).tree c.args.place.index n c.args.path.now) c.if-height-eq0.true c.requires.way

pub visit_data-requires-clause-size : goal.visit_data-requires-clause-size
visit_data-requires-clause-size g c = omega (arith, c.split_at_mut-block.ensures.front_len, c.block_size-size.ensures, ap (size_at c.args.repair.now.shape) c.if-height-eq0.true)

pub visit_hash-requires-clause-level : goal.visit_hash-requires-clause-level
visit_hash-requires-clause-level g c = omega (arith, c.requires.way.few, c.if-height-eq0.false)

pub visit_hash-requires-clause-way : goal.visit_hash-requires-clause-way
visit_hash-requires-clause-way g c =
    let same : c.args.place.height ≡ c.args.place.height - 1 + 1 = omega (arith, c.if-height-eq0.false) in
    subst (λ (n : ℕ). IsWay (job c.args.repair.now).tree c.args.place.index n c.args.path.now) same c.requires.way

pub visit_hash-requires-clause-size : goal.visit_hash-requires-clause-size
visit_hash-requires-clause-size g c =
    let some : c.args.place.height ≡ suc (c.args.place.height - 1) = omega (arith, c.if-height-eq0.false) in
    omega (arith, c.split_at_mut-block.ensures.front_len, c.block_size-size.ensures, ap (size_at c.args.repair.now.shape) some)

pub visit_hash-requires-clause-room : goal.visit_hash-requires-clause-room
visit_hash-requires-clause-room g c =
    let s = c.args.repair.now.shape in
    omega (arith, c.split_at_mut-block.ensures.back_len, c.block_size-size.ensures, (size-block s c.args.place.height c.requires.can.valid).most, c.requires.room, c.requires.way.few, levels-few s c.requires.can.valid)

pub returns-then-height-eq0-clause-ok : goal.returns-then-height-eq0-clause-ok
returns-then-height-eq0-clause-ok g c =
    subst (λ (n : ℕ). IfOk c.visit_data.result (IsBlockMade (job c.args.repair.now) n c.args.place.index c.args.image.now.world c.visit_data.new.image.world)) (sym c.if-height-eq0.true) c.visit_data.ensures.ok

pub returns-then-height-eq0-clause-err : goal.returns-then-height-eq0-clause-err
returns-then-height-eq0-clause-err g c =
    subst (λ (n : ℕ). OnErr c.visit_data.result (FailsToStoreBlock (job c.args.repair.now) n c.args.place.index c.args.image.now.world c.visit_data.new.image.world)) (sym c.if-height-eq0.true) c.visit_data.ensures.err

pub returns-clause-ok : goal.returns-clause-ok
returns-clause-ok g c =
    let some : c.args.place.height ≡ suc (c.args.place.height - 1) = omega (arith, c.if-height-eq0.false) in
    hash-made (job c.args.repair.now) c.args.path.now c.args.place.height c.args.place.index c.requires.inside c.requires.way (c.args.place.height - 1) some
    c.args.image.now.world c.visit_hash.new.image.world c.visit_hash.result c.visit_hash.ensures.ok

pub returns-clause-err : goal.returns-clause-err
returns-clause-err g c =
    let some : c.args.place.height ≡ suc (c.args.place.height - 1) = omega (arith, c.if-height-eq0.false) in
    hash-fails (job c.args.repair.now) c.args.path.now c.args.place.height c.args.place.index c.requires.inside c.requires.way (c.args.place.height - 1) some
    c.args.image.now.world c.visit_hash.new.image.world c.visit_hash.result c.visit_hash.ensures.err

pub returns-then-height-eq0-clause-asked : goal.returns-then-height-eq0-clause-asked
returns-then-height-eq0-clause-asked g c =
    subst (λ (n : ℕ). LeavesVisit c.args.repair.now.shape n c.args.place.index c.args.image.now.world c.visit_data.new.image.world) (sym c.if-height-eq0.true) c.visit_data.ensures.asked

pub returns-clause-asked : goal.returns-clause-asked
returns-clause-asked g c =
    let some : c.args.place.height ≡ suc (c.args.place.height - 1) = omega (arith, c.if-height-eq0.false) in
    subst (λ (n : ℕ). LeavesVisit c.args.repair.now.shape n c.args.place.index c.args.image.now.world c.visit_hash.new.image.world) (sym some) c.visit_hash.ensures.asked

pub returns-then-height-eq0-clause-handed : goal.returns-then-height-eq0-clause-handed
returns-then-height-eq0-clause-handed g c =
    subst (λ (n : ℕ). VisitCalls (DeviceDoes g.D.BlockDev.state g.D.BlockDev.does) (DeviceDoes g.H.BlockDev.state g.H.BlockDev.does) (job c.args.repair.now) c.args.path.now n c.args.place.index (is_ok c.visit_data.result) c.args.image.now c.visit_data.new.image) (sym c.if-height-eq0.true) c.visit_data.ensures.handed

pub returns-clause-handed : goal.returns-clause-handed
returns-clause-handed g c =
    let some : c.args.place.height ≡ suc (c.args.place.height - 1) = omega (arith, c.if-height-eq0.false) in
    subst (λ (n : ℕ). VisitCalls (DeviceDoes g.D.BlockDev.state g.D.BlockDev.does) (DeviceDoes g.H.BlockDev.state g.H.BlockDev.does) (job c.args.repair.now) c.args.path.now n c.args.place.index (is_ok c.visit_hash.result) c.args.image.now c.visit_hash.new.image) (sym some) c.visit_hash.ensures.handed
