use Rattle.std.proofs.Common.{◌≡◌, ◌≤◌, ◌-◌, ℕ, suc, length, map, take, true, refl, sym, ap, ◌∙◌, subst, arith}
use Rattle.std.proofs.lemmas.List.{length-take-le}
use Rattle.block_device.specs.Call.{DeviceDoes}
use Rattle.tree_shape.specs.Shape.{levels}
use Rattle.tree_repair.specs.AccessBudgets.{LeavesWorld, block_read, nothing_due}
use Rattle.tree_repair.specs.Flaws.{IsNotRead}
use Rattle.tree_repair.specs.Jobs.{job}
use Rattle.tree_repair.specs.Parity.{IsGoodNow, end_at}
use Rattle.tree_repair.specs.RepairCalls.{IsNoWrite, ReadsAt}
use Rattle.tree_repair.specs.Runs.{CanRun, size_at}
use Rattle.tree_repair.specs.Worlds.{IsWorldRead, RepairWorld, image_record, repair_world, world_of}
use Rattle.tree_repair.proofs.KeepLemmas.{data-back, hash-back, lost-data, lost-hash, read-by}
use Rattle.tree_repair.proofs.ParityLemmas.{good-data, good-hash, inside-place}
use Rattle.tree_repair.proofs.RepairCallLemmas.{calls-read, data-handed, hash-handed}
use Rattle.tree_repair.proofs.RunLemmas.{data-read, tree-read}
use Rattle.tree_repair.proofs.keeping.is_read_back.Goals as goal

pub digest_at-digest-requires : goal.digest_at-digest-requires
digest_at-digest-requires g c = omega (arith, c.requires.way.few, ap levels c.requires.way.is.shape_is)

pub first_sector-first-requires : goal.first_sector-first-requires
first_sector-first-requires g c = record { valid = c.requires.can.valid; inside = c.requires.inside; high = c.requires.way.few }

pub is_there-requires : goal.is_there-requires
is_there-requires g c =
    let s = c.args.repair.now.shape in
    let long : length (take c.block_size-size.result c.args.memory.now) ≡ size_at s c.args.place.height =
    length-take-le c.block_size-size.result c.args.memory.now (omega (arith, c.block_size-size.ensures, c.requires.room)) ∙ c.block_size-size.ensures in
    let can = subst (λ (w : RepairWorld). CanRun (job c.args.repair.now) w) (sym (ap (λ i. world_of i) c.image.view_is)) c.requires.can in
    let room : end_at s c.args.place.height ≤ (g.D.BlockDev.state c.image.inside.data).size = rw c.if-height-eq0.true can.data_fits in
    inside-place s c.args.place.height c.first_sector-first.result _ (g.D.BlockDev.state c.image.inside.data) can.valid long c.first_sector-first.ensures.inside room

pub is_there-requires-2 : goal.is_there-requires-2
is_there-requires-2 g c =
    let s = c.args.repair.now.shape in
    let long : length (take c.block_size-size.result c.args.memory.now) ≡ size_at s c.args.place.height =
    length-take-le c.block_size-size.result c.args.memory.now (omega (arith, c.block_size-size.ensures, c.requires.room)) ∙ c.block_size-size.ensures in
    let can = subst (λ (w : RepairWorld). CanRun (job c.args.repair.now) w) (sym (ap (λ i. world_of i) c.image.view_is)) c.requires.can in
    let some : c.args.place.height ≡ suc (c.args.place.height - 1) = omega (arith, c.if-height-eq0.false) in
    let h = g.H.BlockDev.state c.image.inside.hash in
    let room : end_at s c.args.place.height ≤ h.size = subst (λ (n : ℕ). end_at s n ≤ h.size) (sym some) can.tree_fits in
    inside-place s c.args.place.height c.first_sector-first.result _ h can.valid long c.first_sector-first.ensures.inside room

pub returns-then-height-eq0-clause-read : goal.returns-then-height-eq0-clause-read
returns-then-height-eq0-clause-read g c =
    let s = c.args.repair.now.shape in
    let long : length (take c.block_size-size.result c.args.memory.now) ≡ size_at s c.args.place.height =
    length-take-le c.block_size-size.result c.args.memory.now (omega (arith, c.block_size-size.ensures, c.requires.room)) ∙ c.block_size-size.ensures in
    let i = c.image.inside in
    let a = repair_world (g.D.BlockDev.state i.data) (g.H.BlockDev.state i.hash) (map g.C.BlockDev.state i.data_copies.items) (map g.C.BlockDev.state i.hash_copies.items) in
    let d' = g.D.BlockDev.state c.is_there.new.device in
    subst (λ (w : RepairWorld). IsWorldRead w (repair_world d' a.hash_dev a.data_copies a.hash_copies)) (ap (λ i. world_of i) c.image.view_is) (data-read a d' c.is_there.ensures.read c.is_there.ensures.counted)

pub returns-clause-read : goal.returns-clause-read
returns-clause-read g c =
    let s = c.args.repair.now.shape in
    let long : length (take c.block_size-size.result c.args.memory.now) ≡ size_at s c.args.place.height =
    length-take-le c.block_size-size.result c.args.memory.now (omega (arith, c.block_size-size.ensures, c.requires.room)) ∙ c.block_size-size.ensures in
    let i = c.image.inside in
    let a = repair_world (g.D.BlockDev.state i.data) (g.H.BlockDev.state i.hash) (map g.C.BlockDev.state i.data_copies.items) (map g.C.BlockDev.state i.hash_copies.items) in
    let d' = g.H.BlockDev.state c.is_there-2.new.device in
    subst (λ (w : RepairWorld). IsWorldRead w (repair_world a.data_dev d' a.data_copies a.hash_copies)) (ap (λ i. world_of i) c.image.view_is) (tree-read a d' c.is_there-2.ensures.read c.is_there-2.ensures.counted)

pub returns-then-height-eq0-clause-asked : goal.returns-then-height-eq0-clause-asked
returns-then-height-eq0-clause-asked g c =
    let s = c.args.repair.now.shape in
    let long : length (take c.block_size-size.result c.args.memory.now) ≡ size_at s c.args.place.height =
    length-take-le c.block_size-size.result c.args.memory.now (omega (arith, c.block_size-size.ensures, c.requires.room)) ∙ c.block_size-size.ensures in
    let i = c.image.inside in
    let a = repair_world (g.D.BlockDev.state i.data) (g.H.BlockDev.state i.hash) (map g.C.BlockDev.state i.data_copies.items) (map g.C.BlockDev.state i.hash_copies.items) in
    let d' = g.D.BlockDev.state c.is_there.new.device in
    subst (λ (w : RepairWorld). LeavesWorld (block_read s c.args.place.height) nothing_due w (repair_world d' a.hash_dev a.data_copies a.hash_copies)) (ap (λ i. world_of i) c.image.view_is)
    (data-back s c.args.place.height c.if-height-eq0.true a d' c.is_there.ensures.read (rw long at c.is_there.ensures.asked))

pub returns-clause-asked : goal.returns-clause-asked
returns-clause-asked g c =
    let s = c.args.repair.now.shape in
    let long : length (take c.block_size-size.result c.args.memory.now) ≡ size_at s c.args.place.height =
    length-take-le c.block_size-size.result c.args.memory.now (omega (arith, c.block_size-size.ensures, c.requires.room)) ∙ c.block_size-size.ensures in
    let i = c.image.inside in
    let a = repair_world (g.D.BlockDev.state i.data) (g.H.BlockDev.state i.hash) (map g.C.BlockDev.state i.data_copies.items) (map g.C.BlockDev.state i.hash_copies.items) in
    let d' = g.H.BlockDev.state c.is_there-2.new.device in
    let some : c.args.place.height ≡ suc (c.args.place.height - 1) = omega (arith, c.if-height-eq0.false) in
    subst (λ (w : RepairWorld). LeavesWorld (block_read s c.args.place.height) nothing_due w (repair_world a.data_dev d' a.data_copies a.hash_copies)) (ap (λ i. world_of i) c.image.view_is)
    (hash-back s c.args.place.height (c.args.place.height - 1) some a d' c.is_there-2.ensures.read (rw long at c.is_there-2.ensures.asked))

pub returns-then-height-eq0-clause-kept : goal.returns-then-height-eq0-clause-kept
returns-then-height-eq0-clause-kept g c =
    let s = c.args.repair.now.shape in
    let long : length (take c.block_size-size.result c.args.memory.now) ≡ size_at s c.args.place.height =
    length-take-le c.block_size-size.result c.args.memory.now (omega (arith, c.block_size-size.ensures, c.requires.room)) ∙ c.block_size-size.ensures in
    let i = c.image.inside in
    let a = repair_world (g.D.BlockDev.state i.data) (g.H.BlockDev.state i.hash) (map g.C.BlockDev.state i.data_copies.items) (map g.C.BlockDev.state i.hash_copies.items) in
    let d' = g.D.BlockDev.state c.is_there.new.device in
    read-by (job c.args.repair.now) c.args.place.height c.args.place.index c.args.image.now.world (repair_world d' a.hash_dev a.data_copies a.hash_copies) c.is_there.result
    (λ good. subst (λ (w : RepairWorld). IsGoodNow (job c.args.repair.now) c.args.place.height c.args.place.index w) (ap (λ i. world_of i) c.image.view_is)
    (good-data (job c.args.repair.now) c.args.path.now c.args.place.height c.args.place.index a.data_dev a.hash_dev a.data_copies a.hash_copies c.requires.way c.if-height-eq0.true
    (_, (rw (c.digest_at-digest.ensures, c.first_sector-first.ensures.value, long) at (c.is_there.ensures.good good)))))
    (λ no. subst (λ (w : RepairWorld). IsNotRead (job c.args.repair.now) c.args.place.height c.args.place.index w (repair_world d' a.hash_dev a.data_copies a.hash_copies)) (ap (λ i. world_of i) c.image.view_is)
    (lost-data (job c.args.repair.now) c.args.path.now c.args.place.height c.args.place.index a.data_dev d' a.hash_dev a.data_copies a.hash_copies c.requires.inside c.requires.way c.if-height-eq0.true
    (rw (c.digest_at-digest.ensures, c.first_sector-first.ensures.value, long) at (c.is_there.ensures.bad no)) (data-read a d' c.is_there.ensures.read c.is_there.ensures.counted)))

pub returns-clause-kept : goal.returns-clause-kept
returns-clause-kept g c =
    let s = c.args.repair.now.shape in
    let long : length (take c.block_size-size.result c.args.memory.now) ≡ size_at s c.args.place.height =
    length-take-le c.block_size-size.result c.args.memory.now (omega (arith, c.block_size-size.ensures, c.requires.room)) ∙ c.block_size-size.ensures in
    let i = c.image.inside in
    let a = repair_world (g.D.BlockDev.state i.data) (g.H.BlockDev.state i.hash) (map g.C.BlockDev.state i.data_copies.items) (map g.C.BlockDev.state i.hash_copies.items) in
    let d' = g.H.BlockDev.state c.is_there-2.new.device in
    let some : c.args.place.height ≡ suc (c.args.place.height - 1) = omega (arith, c.if-height-eq0.false) in
    read-by (job c.args.repair.now) c.args.place.height c.args.place.index c.args.image.now.world (repair_world a.data_dev d' a.data_copies a.hash_copies) c.is_there-2.result
    (λ good. subst (λ (w : RepairWorld). IsGoodNow (job c.args.repair.now) c.args.place.height c.args.place.index w) (ap (λ i. world_of i) c.image.view_is)
    (good-hash (job c.args.repair.now) c.args.path.now c.args.place.height c.args.place.index a.hash_dev a.data_dev a.hash_copies a.data_copies c.requires.way (c.args.place.height - 1) some
    (_, (rw (c.digest_at-digest.ensures, c.first_sector-first.ensures.value, long) at (c.is_there-2.ensures.good good)))))
    (λ no. subst (λ (w : RepairWorld). IsNotRead (job c.args.repair.now) c.args.place.height c.args.place.index w (repair_world a.data_dev d' a.data_copies a.hash_copies)) (ap (λ i. world_of i) c.image.view_is)
    (lost-hash (job c.args.repair.now) c.args.path.now c.args.place.height c.args.place.index (c.args.place.height - 1) a.hash_dev d' a.data_dev a.hash_copies a.data_copies c.requires.inside c.requires.way some
    (rw (c.digest_at-digest.ensures, c.first_sector-first.ensures.value, long) at (c.is_there-2.ensures.bad no)) (tree-read a d' c.is_there-2.ensures.read c.is_there-2.ensures.counted)))

pub returns-then-height-eq0-clause-called : goal.returns-then-height-eq0-clause-called
returns-then-height-eq0-clause-called g c =
    let asks = DeviceDoes g.D.BlockDev.state g.D.BlockDev.does in
    let does = DeviceDoes g.H.BlockDev.state g.H.BlockDev.does in
    let height = c.args.place.height in
    let i = c.image.inside in
    let w = repair_world (g.D.BlockDev.state i.data) (g.H.BlockDev.state i.hash) (map g.C.BlockDev.state i.data_copies.items) (map g.C.BlockDev.state i.hash_copies.items) in
    let a = image_record w i.data i.hash in
    let b = image_record (repair_world (g.D.BlockDev.state c.is_there.new.device) w.hash_dev w.data_copies w.hash_copies) c.is_there.new.device i.hash in
    subst (λ x. ReadsAt asks does height x b) c.image.view_is
    (data-handed asks does height IsNoWrite true a b c.if-height-eq0.true (calls-read asks IsNoWrite c.first_sector-first.result c.is_there.new.block i.data c.is_there.new.device c.is_there.ensures.called, refl))

pub returns-clause-called : goal.returns-clause-called
returns-clause-called g c =
    let some : c.args.place.height ≡ suc (c.args.place.height - 1) = omega (arith, c.if-height-eq0.false) in
    let asks = DeviceDoes g.D.BlockDev.state g.D.BlockDev.does in
    let does = DeviceDoes g.H.BlockDev.state g.H.BlockDev.does in
    let height = c.args.place.height in
    let i = c.image.inside in
    let w = repair_world (g.D.BlockDev.state i.data) (g.H.BlockDev.state i.hash) (map g.C.BlockDev.state i.data_copies.items) (map g.C.BlockDev.state i.hash_copies.items) in
    let a = image_record w i.data i.hash in
    let b = image_record (repair_world w.data_dev (g.H.BlockDev.state c.is_there-2.new.device) w.data_copies w.hash_copies) i.data c.is_there-2.new.device in
    subst (λ x. ReadsAt asks does height x b) c.image.view_is
    (hash-handed asks does height IsNoWrite true a b (height - 1) some (calls-read does IsNoWrite c.first_sector-first.result c.is_there-2.new.block i.hash c.is_there-2.new.device c.is_there-2.ensures.called, refl))
