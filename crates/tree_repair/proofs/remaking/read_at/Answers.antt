use Rattle.std.proofs.Common.{◌≡◌, ◌≤◌, ◌-◌, IsTrue, false, true, inl, inr, map, suc, ap, refl, subst, sym, ◌∙◌, arith}
use Rattle.block_device.specs.Call.{DeviceDoes}
use Rattle.verity_format.specs.Image.{data_sectors, tree_sectors}
use Rattle.verity_format.proofs.lemmas.DeviceLemmas.{only_read-none}
use Rattle.tree_repair.specs.AccessBudgets.{LeavesBlock, made_over}
use Rattle.tree_repair.proofs.AskedLemmas.{made-data, made-hash}
use Rattle.tree_repair.proofs.RepairCallLemmas.{data-handed, hash-handed}
use Rattle.tree_repair.specs.StoredTrees.{HasOneFailedIn, IsOverIn, stands_in}
use Rattle.tree_path.specs.Unused.{digests_in}
use Rattle.tree_repair.specs.RepairCalls.{IsNoWrite, ReadsAt}
use Rattle.tree_repair.specs.Runs.{size_at}
use Rattle.tree_repair.specs.Worlds.{AreBothRead, RepairWorld, image_record, repair_world, world_of}
use Rattle.tree_repair.proofs.remaking.read_at.Goals as goal

pub read_data-requires-clause-fits : goal.read_data-requires-clause-fits
read_data-requires-clause-fits g c = subst (λ (w : RepairWorld). data_sectors c.args.shape.now ≤ w.data_dev.size) (sym (ap (λ i. world_of i) c.image.view_is)) c.requires.have.data_fits

pub read_data-requires-clause-inside : goal.read_data-requires-clause-inside
read_data-requires-clause-inside g c = omega (arith, c.requires.inside, ap (digests_in c.args.shape.now) c.if-height-eq0.true)

pub read_data-requires-clause-size : goal.read_data-requires-clause-size
read_data-requires-clause-size g c = c.requires.size ∙ ap (size_at c.args.shape.now) c.if-height-eq0.true

pub read_hash-requires-clause-fits : goal.read_hash-requires-clause-fits
read_hash-requires-clause-fits g c = subst (λ (w : RepairWorld). tree_sectors c.args.shape.now ≤ w.hash_dev.size) (sym (ap (λ i. world_of i) c.image.view_is)) c.requires.have.tree_fits

pub read_hash-requires-clause-inside : goal.read_hash-requires-clause-inside
read_hash-requires-clause-inside g c =
    let some : c.args.height ≡ suc (c.args.height - 1) = omega (arith, c.if-height-eq0.false) in
    omega (arith, c.requires.inside, ap (digests_in c.args.shape.now) some)

pub read_hash-requires-clause-size : goal.read_hash-requires-clause-size
read_hash-requires-clause-size g c =
    let some : c.args.height ≡ suc (c.args.height - 1) = omega (arith, c.if-height-eq0.false) in
    c.requires.size ∙ ap (size_at c.args.shape.now) some

pub returns-then-height-eq0-clause-read : goal.returns-then-height-eq0-clause-read
returns-then-height-eq0-clause-read g c =
    let i = c.image.inside in
    let a = repair_world (g.D.BlockDev.state i.data) (g.H.BlockDev.state i.hash) (map g.C.BlockDev.state i.data_copies.items) (map g.C.BlockDev.state i.hash_copies.items) in
    let b = repair_world (g.D.BlockDev.state c.read_data.new.data_dev) a.hash_dev a.data_copies a.hash_copies in
    subst (λ (w : RepairWorld). AreBothRead w b) (ap (λ i. world_of i) c.image.view_is)
    (record { devices = record { data_read = c.read_data.ensures.read; hash_read = only_read-none a.hash_dev }; data_more = c.read_data.ensures.counted; hash_more = omega arith; data_copies_are = refl; hash_copies_are = refl })

pub returns-then-height-eq0-clause-stands : goal.returns-then-height-eq0-clause-stands
returns-then-height-eq0-clause-stands g c =
    subst (λ (w : RepairWorld). IsTrue c.read_data.result → IsOverIn w (stands_in c.args.shape.now w c.args.height c.args.number) c.read_data.new.block) (ap (λ i. world_of i) c.image.view_is)
    (rw c.if-height-eq0.true (λ ok steady steadily. c.read_data.ensures.stands ok steady))

pub returns-then-height-eq0-clause-fails : goal.returns-then-height-eq0-clause-fails
returns-then-height-eq0-clause-fails g c =
    let i = c.image.inside in
    let a = repair_world (g.D.BlockDev.state i.data) (g.H.BlockDev.state i.hash) (map g.C.BlockDev.state i.data_copies.items) (map g.C.BlockDev.state i.hash_copies.items) in
    let b = repair_world (g.D.BlockDev.state c.read_data.new.data_dev) a.hash_dev a.data_copies a.hash_copies in
    subst (λ (w : RepairWorld). c.read_data.result ≡ false → HasOneFailedIn w b) (ap (λ i. world_of i) c.image.view_is) (λ no. inl (c.read_data.ensures.fails no))

pub returns-clause-read : goal.returns-clause-read
returns-clause-read g c =
    let i = c.image.inside in
    let a = repair_world (g.D.BlockDev.state i.data) (g.H.BlockDev.state i.hash) (map g.C.BlockDev.state i.data_copies.items) (map g.C.BlockDev.state i.hash_copies.items) in
    let b = repair_world a.data_dev (g.H.BlockDev.state c.read_hash.new.hash_dev) a.data_copies a.hash_copies in
    subst (λ (w : RepairWorld). AreBothRead w b) (ap (λ i. world_of i) c.image.view_is)
    (record { devices = record { data_read = only_read-none a.data_dev; hash_read = c.read_hash.ensures.read }; data_more = omega arith; hash_more = c.read_hash.ensures.counted; data_copies_are = refl; hash_copies_are = refl })

pub returns-clause-stands : goal.returns-clause-stands
returns-clause-stands g c =
    let some : c.args.height ≡ suc (c.args.height - 1) = omega (arith, c.if-height-eq0.false) in
    subst (λ (w : RepairWorld). IsTrue c.read_hash.result → IsOverIn w (stands_in c.args.shape.now w c.args.height c.args.number) c.read_hash.new.block) (ap (λ i. world_of i) c.image.view_is)
    (rw some (λ ok steady steadily. c.read_hash.ensures.stands ok steadily))

pub returns-clause-fails : goal.returns-clause-fails
returns-clause-fails g c =
    let i = c.image.inside in
    let a = repair_world (g.D.BlockDev.state i.data) (g.H.BlockDev.state i.hash) (map g.C.BlockDev.state i.data_copies.items) (map g.C.BlockDev.state i.hash_copies.items) in
    let b = repair_world a.data_dev (g.H.BlockDev.state c.read_hash.new.hash_dev) a.data_copies a.hash_copies in
    subst (λ (w : RepairWorld). c.read_hash.result ≡ false → HasOneFailedIn w b) (ap (λ i. world_of i) c.image.view_is) (λ no. inr (c.read_hash.ensures.fails no))

pub returns-then-height-eq0-clause-asked : goal.returns-then-height-eq0-clause-asked
returns-then-height-eq0-clause-asked g c =
    let s = c.args.shape.now in
    let i = c.image.inside in
    let a = repair_world (g.D.BlockDev.state i.data) (g.H.BlockDev.state i.hash) (map g.C.BlockDev.state i.data_copies.items) (map g.C.BlockDev.state i.hash_copies.items) in
    let d' = g.D.BlockDev.state c.read_data.new.data_dev in
    subst (λ (w : RepairWorld). LeavesBlock (made_over s c.args.height) s c.args.height c.args.number w (repair_world d' a.hash_dev a.data_copies a.hash_copies)) (ap (λ i. world_of i) c.image.view_is)
    (made-data s c.requires.have.valid c.args.height c.args.number c.if-height-eq0.true c.requires.inside a d' c.read_data.ensures.read c.read_data.ensures.asked)

pub returns-clause-asked : goal.returns-clause-asked
returns-clause-asked g c =
    let s = c.args.shape.now in
    let some : c.args.height ≡ suc (c.args.height - 1) = omega (arith, c.if-height-eq0.false) in
    let i = c.image.inside in
    let a = repair_world (g.D.BlockDev.state i.data) (g.H.BlockDev.state i.hash) (map g.C.BlockDev.state i.data_copies.items) (map g.C.BlockDev.state i.hash_copies.items) in
    let d' = g.H.BlockDev.state c.read_hash.new.hash_dev in
    subst (λ (w : RepairWorld). LeavesBlock (made_over s c.args.height) s c.args.height c.args.number w (repair_world a.data_dev d' a.data_copies a.hash_copies)) (ap (λ i. world_of i) c.image.view_is)
    (made-hash s c.requires.have.valid c.args.height (c.args.height - 1) c.args.number some c.requires.inside a d' c.read_hash.ensures.read c.read_hash.ensures.asked)

pub returns-then-height-eq0-clause-called : goal.returns-then-height-eq0-clause-called
returns-then-height-eq0-clause-called g c =
    let asks = DeviceDoes g.D.BlockDev.state g.D.BlockDev.does in
    let does = DeviceDoes g.H.BlockDev.state g.H.BlockDev.does in
    let i = c.image.inside in
    let w = repair_world (g.D.BlockDev.state i.data) (g.H.BlockDev.state i.hash) (map g.C.BlockDev.state i.data_copies.items) (map g.C.BlockDev.state i.hash_copies.items) in
    let a = image_record w i.data i.hash in
    let b = image_record (repair_world (g.D.BlockDev.state c.read_data.new.data_dev) w.hash_dev w.data_copies w.hash_copies) c.read_data.new.data_dev i.hash in
    subst (λ x. ReadsAt asks does c.args.height x b) c.image.view_is
    (data-handed asks does c.args.height IsNoWrite true a b c.if-height-eq0.true (c.read_data.ensures.called, refl))

pub returns-clause-called : goal.returns-clause-called
returns-clause-called g c =
    let some : c.args.height ≡ suc (c.args.height - 1) = omega (arith, c.if-height-eq0.false) in
    let asks = DeviceDoes g.D.BlockDev.state g.D.BlockDev.does in
    let does = DeviceDoes g.H.BlockDev.state g.H.BlockDev.does in
    let i = c.image.inside in
    let w = repair_world (g.D.BlockDev.state i.data) (g.H.BlockDev.state i.hash) (map g.C.BlockDev.state i.data_copies.items) (map g.C.BlockDev.state i.hash_copies.items) in
    let a = image_record w i.data i.hash in
    let b = image_record (repair_world w.data_dev (g.H.BlockDev.state c.read_hash.new.hash_dev) w.data_copies w.hash_copies) i.data c.read_hash.new.hash_dev in
    subst (λ x. ReadsAt asks does c.args.height x b) c.image.view_is
    (hash-handed asks does c.args.height IsNoWrite true a b (c.args.height - 1) some (c.read_hash.ensures.called, refl))
