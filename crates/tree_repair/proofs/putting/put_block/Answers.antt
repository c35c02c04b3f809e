use Rattle.std.proofs.Common.{◌≡◌, ◌≤◌, ◌-◌, ℕ, suc, length, map, refl, sym, ap, ◌∙◌, subst, arith, ◌/◌}
use Rattle.std.specs.Prelude.{IfOk, OnErr, is_ok}
use Rattle.block_device.specs.Call.{DeviceDoes}
use Rattle.tree_shape.specs.Shape.{levels}
use Rattle.tree_repair.specs.Jobs.{job}
use Rattle.tree_repair.specs.Parity.{FailsToPlace, IsPlaced, end_at}
use Rattle.tree_repair.specs.RepairCalls.{IsPlaceWrite}
use Rattle.tree_repair.specs.Runs.{CanRun, size_at}
use Rattle.tree_repair.specs.Searching.{HandsMissing}
use Rattle.tree_repair.specs.Worlds.{RepairWorld, image_record, repair_world, world_of}
use Rattle.tree_repair.proofs.ParityLemmas.{data-placed, data-unplaced, hash-placed, hash-unplaced, inside-place}
use Rattle.tree_repair.specs.ParityBounds.{IsAskedAlone, put_bill}
use Rattle.tree_repair.proofs.ParityBillLemmas.{asked-data, asked-hash}
use Rattle.tree_repair.proofs.RepairCallLemmas.{data-handed, hash-handed}
use Rattle.tree_repair.proofs.putting.put_block.Goals as goal

pub digest_at-digest-requires : goal.digest_at-digest-requires
digest_at-digest-requires g c = omega (arith, c.requires.way.few, ap levels c.requires.way.is.shape_is)

pub replace-requires-clause-inside : goal.replace-requires-clause-inside
replace-requires-clause-inside g c =
    let s = c.args.missing.now.repair.now.shape in
    let can = subst (λ (w : RepairWorld). CanRun (job c.args.missing.now.repair.now) w) (sym (ap (λ i. world_of i) c.image.view_is)) c.requires.can in
    let room : end_at s c.args.missing.now.place.height ≤ (g.D.BlockDev.state c.image.inside.data).size = rw c.if-height-eq0.true can.data_fits in
    inside-place s c.args.missing.now.place.height c.first_sector-first.result (length c.args.bytes.now) (g.D.BlockDev.state c.image.inside.data) c.requires.place.valid c.requires.bytes c.first_sector-first.ensures.inside room

pub replace-requires-clause-size : goal.replace-requires-clause-size
replace-requires-clause-size g c = c.requires.size ∙ sym c.requires.bytes

pub replace-requires-clause-good : goal.replace-requires-clause-good
replace-requires-clause-good g c = c.requires.good ∙ sym c.digest_at-digest.ensures

pub replace-requires-clause-allowed : goal.replace-requires-clause-allowed
replace-requires-clause-allowed g c = (subst (λ (w : RepairWorld). CanRun (job c.args.missing.now.repair.now) w) (sym (ap (λ i. world_of i) c.image.view_is)) c.requires.can).data_writable

pub returns-then-height-eq0-clause-ok : goal.returns-then-height-eq0-clause-ok
returns-then-height-eq0-clause-ok g c =
    let i = c.image.inside in
    let a = repair_world (g.D.BlockDev.state i.data) (g.H.BlockDev.state i.hash) (map g.C.BlockDev.state i.data_copies.items) (map g.C.BlockDev.state i.hash_copies.items) in
    let d' = g.D.BlockDev.state c.replace.new.device in
    subst (λ (w : RepairWorld). IfOk c.replace.result (IsPlaced (job c.args.missing.now.repair.now) c.args.missing.now.place.height c.args.missing.now.place.index c.args.bytes.now w (repair_world d' a.hash_dev a.data_copies a.hash_copies))) (ap (λ i. world_of i) c.image.view_is)
    (data-placed (job c.args.missing.now.repair.now) c.args.missing.now.path.now c.args.missing.now.place.height c.args.missing.now.place.index c.args.bytes.now a.data_dev d' a.hash_dev a.data_copies a.hash_copies
    c.requires.asked c.requires.place.inside c.requires.way c.replace.result c.if-height-eq0.true (rw (c.digest_at-digest.ensures, c.first_sector-first.ensures.value, c.requires.bytes) at c.replace.ensures.ok))

pub returns-then-height-eq0-clause-err : goal.returns-then-height-eq0-clause-err
returns-then-height-eq0-clause-err g c =
    let i = c.image.inside in
    let a = repair_world (g.D.BlockDev.state i.data) (g.H.BlockDev.state i.hash) (map g.C.BlockDev.state i.data_copies.items) (map g.C.BlockDev.state i.hash_copies.items) in
    let d' = g.D.BlockDev.state c.replace.new.device in
    subst (λ (w : RepairWorld). OnErr c.replace.result (FailsToPlace (job c.args.missing.now.repair.now) c.args.missing.now.place.height c.args.missing.now.place.index c.args.bytes.now w (repair_world d' a.hash_dev a.data_copies a.hash_copies))) (ap (λ i. world_of i) c.image.view_is)
    (data-unplaced (job c.args.missing.now.repair.now) c.args.missing.now.path.now c.args.missing.now.place.height c.args.missing.now.place.index c.args.bytes.now a.data_dev d' a.hash_dev a.data_copies a.hash_copies
    c.requires.asked c.requires.place.inside c.requires.way c.replace.result c.if-height-eq0.true (rw (c.digest_at-digest.ensures, c.first_sector-first.ensures.value, c.requires.bytes) at c.replace.ensures.err))

pub replace-requires-2-clause-inside : goal.replace-requires-2-clause-inside
replace-requires-2-clause-inside g c =
    let s = c.args.missing.now.repair.now.shape in
    let can = subst (λ (w : RepairWorld). CanRun (job c.args.missing.now.repair.now) w) (sym (ap (λ i. world_of i) c.image.view_is)) c.requires.can in
    let some : c.args.missing.now.place.height ≡ suc (c.args.missing.now.place.height - 1) = omega (arith, c.if-height-eq0.false) in
    let h = g.H.BlockDev.state c.image.inside.hash in
    let room : end_at s c.args.missing.now.place.height ≤ h.size = subst (λ (n : ℕ). end_at s n ≤ h.size) (sym some) can.tree_fits in
    inside-place s c.args.missing.now.place.height c.first_sector-first.result (length c.args.bytes.now) h c.requires.place.valid c.requires.bytes c.first_sector-first.ensures.inside room

pub replace-requires-2-clause-size : goal.replace-requires-2-clause-size
replace-requires-2-clause-size g c = c.requires.size ∙ sym c.requires.bytes

pub replace-requires-2-clause-good : goal.replace-requires-2-clause-good
replace-requires-2-clause-good g c = c.requires.good ∙ sym c.digest_at-digest.ensures

pub replace-requires-2-clause-allowed : goal.replace-requires-2-clause-allowed
replace-requires-2-clause-allowed g c = (subst (λ (w : RepairWorld). CanRun (job c.args.missing.now.repair.now) w) (sym (ap (λ i. world_of i) c.image.view_is)) c.requires.can).hash_writable

pub returns-clause-ok : goal.returns-clause-ok
returns-clause-ok g c =
    let some : c.args.missing.now.place.height ≡ suc (c.args.missing.now.place.height - 1) = omega (arith, c.if-height-eq0.false) in
    let i = c.image.inside in
    let a = repair_world (g.D.BlockDev.state i.data) (g.H.BlockDev.state i.hash) (map g.C.BlockDev.state i.data_copies.items) (map g.C.BlockDev.state i.hash_copies.items) in
    let h' = g.H.BlockDev.state c.replace-2.new.device in
    subst (λ (w : RepairWorld). IfOk c.replace-2.result (IsPlaced (job c.args.missing.now.repair.now) c.args.missing.now.place.height c.args.missing.now.place.index c.args.bytes.now w (repair_world a.data_dev h' a.data_copies a.hash_copies))) (ap (λ i. world_of i) c.image.view_is)
    (hash-placed (job c.args.missing.now.repair.now) c.args.missing.now.path.now c.args.missing.now.place.height c.args.missing.now.place.index c.args.bytes.now a.hash_dev h' a.data_dev a.hash_copies a.data_copies
    c.requires.asked c.requires.place.inside c.requires.way (c.args.missing.now.place.height - 1) c.replace-2.result some (rw (c.digest_at-digest.ensures, c.first_sector-first.ensures.value, c.requires.bytes) at c.replace-2.ensures.ok))

pub returns-clause-err : goal.returns-clause-err
returns-clause-err g c =
    let some : c.args.missing.now.place.height ≡ suc (c.args.missing.now.place.height - 1) = omega (arith, c.if-height-eq0.false) in
    let i = c.image.inside in
    let a = repair_world (g.D.BlockDev.state i.data) (g.H.BlockDev.state i.hash) (map g.C.BlockDev.state i.data_copies.items) (map g.C.BlockDev.state i.hash_copies.items) in
    let h' = g.H.BlockDev.state c.replace-2.new.device in
    subst (λ (w : RepairWorld). OnErr c.replace-2.result (FailsToPlace (job c.args.missing.now.repair.now) c.args.missing.now.place.height c.args.missing.now.place.index c.args.bytes.now w (repair_world a.data_dev h' a.data_copies a.hash_copies))) (ap (λ i. world_of i) c.image.view_is)
    (hash-unplaced (job c.args.missing.now.repair.now) c.args.missing.now.path.now c.args.missing.now.place.height c.args.missing.now.place.index c.args.bytes.now a.hash_dev h' a.data_dev a.hash_copies a.data_copies
    c.requires.asked c.requires.place.inside c.requires.way (c.args.missing.now.place.height - 1) c.replace-2.result some (rw (c.digest_at-digest.ensures, c.first_sector-first.ensures.value, c.requires.bytes) at c.replace-2.ensures.err))

pub returns-then-height-eq0-clause-within : goal.returns-then-height-eq0-clause-within
returns-then-height-eq0-clause-within g c =
    let n : ℕ = size_at c.args.missing.now.repair.now.shape c.args.missing.now.place.height / 512 in
    let i = c.image.inside in
    let a = repair_world (g.D.BlockDev.state i.data) (g.H.BlockDev.state i.hash) (map g.C.BlockDev.state i.data_copies.items) (map g.C.BlockDev.state i.hash_copies.items) in
    let d' = g.D.BlockDev.state c.replace.new.device in
    subst (λ (w : RepairWorld). IsAskedAlone (put_bill n) w (repair_world d' a.hash_dev a.data_copies a.hash_copies)) (ap (λ i. world_of i) c.image.view_is)
    (λ p. asked-data n a.data_dev d' a.hash_dev a.data_copies a.hash_copies p (rw c.requires.bytes at c.replace.ensures.within))

pub returns-clause-within : goal.returns-clause-within
returns-clause-within g c =
    let n : ℕ = size_at c.args.missing.now.repair.now.shape c.args.missing.now.place.height / 512 in
    let i = c.image.inside in
    let a = repair_world (g.D.BlockDev.state i.data) (g.H.BlockDev.state i.hash) (map g.C.BlockDev.state i.data_copies.items) (map g.C.BlockDev.state i.hash_copies.items) in
    let h' = g.H.BlockDev.state c.replace-2.new.device in
    subst (λ (w : RepairWorld). IsAskedAlone (put_bill n) w (repair_world a.data_dev h' a.data_copies a.hash_copies)) (ap (λ i. world_of i) c.image.view_is)
    (λ p. asked-hash n a.hash_dev h' a.data_dev a.data_copies a.hash_copies p (rw c.requires.bytes at c.replace-2.ensures.within))

pub returns-then-height-eq0-clause-handed : goal.returns-then-height-eq0-clause-handed
returns-then-height-eq0-clause-handed g c =
    let m = c.args.missing.now in
    let asks = DeviceDoes g.D.BlockDev.state g.D.BlockDev.does in
    let does = DeviceDoes g.H.BlockDev.state g.H.BlockDev.does in
    let Allowed = IsPlaceWrite (job m.repair.now) m.path.now m.place.height m.place.index in
    let i = c.image.inside in
    let w = repair_world (g.D.BlockDev.state i.data) (g.H.BlockDev.state i.hash) (map g.C.BlockDev.state i.data_copies.items) (map g.C.BlockDev.state i.hash_copies.items) in
    let a = image_record w i.data i.hash in
    let b = image_record (repair_world (g.D.BlockDev.state c.replace.new.device) w.hash_dev w.data_copies w.hash_copies) c.replace.new.device i.hash in
    subst (λ x. HandsMissing asks does m (is_ok c.replace.result) x b) c.image.view_is
    (data-handed asks does m.place.height Allowed (is_ok c.replace.result) a b c.if-height-eq0.true ((rw (c.digest_at-digest.ensures, c.first_sector-first.ensures.value, c.requires.bytes) at c.replace.ensures.handed), refl))

pub returns-clause-handed : goal.returns-clause-handed
returns-clause-handed g c =
    let some : c.args.missing.now.place.height ≡ suc (c.args.missing.now.place.height - 1) = omega (arith, c.if-height-eq0.false) in
    let m = c.args.missing.now in
    let asks = DeviceDoes g.D.BlockDev.state g.D.BlockDev.does in
    let does = DeviceDoes g.H.BlockDev.state g.H.BlockDev.does in
    let Allowed = IsPlaceWrite (job m.repair.now) m.path.now m.place.height m.place.index in
    let i = c.image.inside in
    let w = repair_world (g.D.BlockDev.state i.data) (g.H.BlockDev.state i.hash) (map g.C.BlockDev.state i.data_copies.items) (map g.C.BlockDev.state i.hash_copies.items) in
    let a = image_record w i.data i.hash in
    let b = image_record (repair_world w.data_dev (g.H.BlockDev.state c.replace-2.new.device) w.data_copies w.hash_copies) i.data c.replace-2.new.device in
    subst (λ x. HandsMissing asks does m (is_ok c.replace-2.result) x b) c.image.view_is
    (hash-handed asks does m.place.height Allowed (is_ok c.replace-2.result) a b (m.place.height - 1) some ((rw (c.digest_at-digest.ensures, c.first_sector-first.ensures.value, c.requires.bytes) at c.replace-2.ensures.handed), refl))

pub returns-then-height-eq0-clause-kept : goal.returns-then-height-eq0-clause-kept
returns-then-height-eq0-clause-kept g c = ap (λ i. (world_of i).data_copies) c.image.view_is

pub returns-clause-kept : goal.returns-clause-kept
returns-clause-kept g c = ap (λ i. (world_of i).data_copies) c.image.view_is
