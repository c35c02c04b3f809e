use Rattle.std.proofs.Common.{◌≡◌, ◌/◌, Bool, false, true, [], length, IsTrue, ◌∙◌, subst, sym, arith}
use Rattle.block_device.specs.Call.{DeviceDoes}
use Rattle.tree_shape.proofs.lemmas.ShapeFactLemmas.{levels-few}
use Rattle.verity_format.proofs.lemmas.SizeLemmas.{block-size}
use Rattle.tree_repair.specs.declared.mending.Mended.TheVariants as mended
use Rattle.tree_repair.specs.Jobs.{job}
use Rattle.tree_repair.proofs.SourceLemmas.{on_err-from}
use Rattle.tree_repair.specs.RepairCalls.{IsHashWrite, VisitsHash}
use Rattle.tree_repair.specs.Visits.{hash_look}
use Rattle.tree_repair.proofs.AskedLemmas.{nowhere-unwritten, visit-found, visit-lost, visit-made}
use Rattle.tree_repair.proofs.VisitLemmas.{hash-same, lost-seen, remade-seen}
use Rattle.tree_repair.proofs.RepairCallLemmas.{unfinished, visit-put, visit-read, visit-sought}
use Rattle.tree_repair.proofs.visiting.visit_hash.Goals as goal

pub hash_sought-sought-requires-clause-few : goal.hash_sought-sought-requires-clause-few
hash_sought-sought-requires-clause-few g c = omega (arith, c.requires.level, levels-few c.args.repair.now.shape c.requires.can.valid)

pub mend_hash-requires-clause-inside : goal.mend_hash-requires-clause-inside
mend_hash-requires-clause-inside g c =
    let block = block-size c.args.repair.now.shape.hash_block c.requires.can.valid.hash_size in
    rw c.requires.size (record { some = block.some; whole = block.whole; inside = omega (arith, c.hash_sought-sought.ensures.inside, c.requires.can.tree_fits) })

pub mend_hash-requires-clause-small : goal.mend_hash-requires-clause-small
mend_hash-requires-clause-small g c =
    let s = c.hash_sought-sought.ensures in
    rw c.requires.size (omega (arith, s.inside, s.copy, c.requires.can.valid.tree_fits, c.requires.can.copy_small))

pub mend_hash-requires-clause-allowed : goal.mend_hash-requires-clause-allowed
mend_hash-requires-clause-allowed g c = rw c.hash_sought-sought.ensures.repair c.requires.can.hash_writable

pub returns-in_err-mend_hash-clause-err : goal.returns-in_err-mend_hash-clause-err
returns-in_err-mend_hash-clause-err g c =
    let s = c.hash_sought-sought.ensures in
    let kept = c.mend_hash.ensures.kept in
    let u = rw (s.repair, s.copy, s.first, s.digest, c.requires.size) at c.in_err-mend_hash.ensures.err in
    on_err-from c.from_residual.result _ _ c.from_residual.ensures.1
    (mended.Copy u.0, (u.1.0, (tt, record { looked = u.1.1; made_of = tt; data_stays = kept.device_is; copies_are = kept.copies_are })))

pub returns-then-not-remake-clause-ok : goal.returns-then-not-remake-clause-ok
returns-then-not-remake-clause-ok g c =
    let s = c.hash_sought-sought.ensures in
    let f = rw (c.in-Lost.is, s.repair, s.copy, s.first, s.digest, c.requires.size) at c.in_ok-mend_hash.ensures.ok in (
      [],
      lost-seen (job c.args.repair.now) c.args.path.now c.args.level c.args.index c.args.image.now.world c.mend_hash.new.image.world c.remake.new.image.world c.mend_hash.ensures.kept f.1 c.remake.ensures.read
          (rw (s.repair, s.digest) at (c.remake.ensures.none c.if-not-remake.true)),
    )

pub put_hash-requires-clause-inside : goal.put_hash-requires-clause-inside
put_hash-requires-clause-inside g c =
    let s = c.hash_sought-sought.ensures in
    let f = rw (c.in-Lost.is, s.repair, s.copy, s.first, s.digest, c.requires.size) at c.in_ok-mend_hash.ensures.ok in
    let long : length c.remake.new.block ≡ c.args.repair.now.shape.hash_block = c.remake.auto.block ∙ c.mend_hash.auto.block ∙ c.requires.size in
    let block = block-size c.args.repair.now.shape.hash_block c.requires.can.valid.hash_size in
    let same = hash-same (job c.args.repair.now) c.args.path.now c.args.level c.args.index c.args.image.now.world c.mend_hash.new.image.world c.remake.new.image.world f.1 c.remake.ensures.read in
    rw long (record { some = block.some; whole = block.whole; inside = omega (arith, s.inside, c.requires.can.tree_fits, same.size) })

pub put_hash-requires-clause-allowed : goal.put_hash-requires-clause-allowed
put_hash-requires-clause-allowed g c =
    let s = c.hash_sought-sought.ensures in
    let f = rw (c.in-Lost.is, s.repair, s.copy, s.first, s.digest, c.requires.size) at c.in_ok-mend_hash.ensures.ok in
    let same = hash-same (job c.args.repair.now) c.args.path.now c.args.level c.args.index c.args.image.now.world c.mend_hash.new.image.world c.remake.new.image.world f.1 c.remake.ensures.read in
    λ write. subst IsTrue (sym same.may_write) (c.requires.can.hash_writable write)

pub returns-in_err-put_hash-in-Lost-clause-err : goal.returns-in_err-put_hash-in-Lost-clause-err
returns-in_err-put_hash-in-Lost-clause-err g c =
    let s = c.hash_sought-sought.ensures in
    let f = rw (c.in-Lost.is, s.repair, s.copy, s.first, s.digest, c.requires.size) at c.in_ok-mend_hash.ensures.ok in
    let long : length c.remake.new.block ≡ c.args.repair.now.shape.hash_block = c.remake.auto.block ∙ c.mend_hash.auto.block ∙ c.requires.size in
    on_err-from c.from_residual-in_err-put_hash-in-Lost.result _ _ c.from_residual-in_err-put_hash-in-Lost.ensures.1 (
      mended.Remade,
      (
        c.remake.new.block,
        (
          tt,
          remade-seen (job c.args.repair.now) c.args.path.now c.args.level c.args.index c.args.image.now.world c.mend_hash.new.image.world c.remake.new.image.world c.mend_hash.ensures.kept f.1 c.remake.ensures.read
              c.remake.new.block false c.put_hash.new.image.world (rw (s.repair, s.digest) at (c.remake.ensures.good c.if-not-remake.false)) (rw s.repair at (c.remake.ensures.made c.if-not-remake.false)) long (rw s.first at c.in_err-put_hash-in-Lost.ensures.put),
        ),
      ),
    )

pub returns-in_ok-put_hash-in-Lost-clause-ok : goal.returns-in_ok-put_hash-in-Lost-clause-ok
returns-in_ok-put_hash-in-Lost-clause-ok g c =
    let s = c.hash_sought-sought.ensures in
    let f = rw (c.in-Lost.is, s.repair, s.copy, s.first, s.digest, c.requires.size) at c.in_ok-mend_hash.ensures.ok in
    let long : length c.remake.new.block ≡ c.args.repair.now.shape.hash_block = c.remake.auto.block ∙ c.mend_hash.auto.block ∙ c.requires.size in (
      c.remake.new.block,
      remade-seen (job c.args.repair.now) c.args.path.now c.args.level c.args.index c.args.image.now.world c.mend_hash.new.image.world c.remake.new.image.world c.mend_hash.ensures.kept f.1 c.remake.ensures.read
          c.remake.new.block true c.put_hash.new.image.world (rw (s.repair, s.digest) at (c.remake.ensures.good c.if-not-remake.false)) (rw s.repair at (c.remake.ensures.made c.if-not-remake.false)) long (rw s.first at c.in_ok-put_hash-in-Lost.ensures.put),
    )

pub returns-in_err-mend_hash-clause-asked : goal.returns-in_err-mend_hash-clause-asked
returns-in_err-mend_hash-clause-asked g c =
    visit-found c.args.repair.now.shape c.requires.can.valid c.args.level c.args.index c.requires.inside c.args.image.now.world c.mend_hash.new.image.world c.mend_hash.ensures.kept (rw c.requires.size at c.mend_hash.ensures.asked)

pub returns-in-Good-clause-asked : goal.returns-in-Good-clause-asked
returns-in-Good-clause-asked g c =
    visit-found c.args.repair.now.shape c.requires.can.valid c.args.level c.args.index c.requires.inside c.args.image.now.world c.mend_hash.new.image.world c.mend_hash.ensures.kept (rw c.requires.size at c.mend_hash.ensures.asked)

pub returns-in-Copy-clause-asked : goal.returns-in-Copy-clause-asked
returns-in-Copy-clause-asked g c =
    visit-found c.args.repair.now.shape c.requires.can.valid c.args.level c.args.index c.requires.inside c.args.image.now.world c.mend_hash.new.image.world c.mend_hash.ensures.kept (rw c.requires.size at c.mend_hash.ensures.asked)

pub returns-in-Remade-clause-asked : goal.returns-in-Remade-clause-asked
returns-in-Remade-clause-asked g c =
    visit-found c.args.repair.now.shape c.requires.can.valid c.args.level c.args.index c.requires.inside c.args.image.now.world c.mend_hash.new.image.world c.mend_hash.ensures.kept (rw c.requires.size at c.mend_hash.ensures.asked)

pub returns-in-Parity-clause-asked : goal.returns-in-Parity-clause-asked
returns-in-Parity-clause-asked g c =
    visit-found c.args.repair.now.shape c.requires.can.valid c.args.level c.args.index c.requires.inside c.args.image.now.world c.mend_hash.new.image.world c.mend_hash.ensures.kept (rw c.requires.size at c.mend_hash.ensures.asked)

pub returns-then-not-remake-clause-asked : goal.returns-then-not-remake-clause-asked
returns-then-not-remake-clause-asked g c =
    let s = c.hash_sought-sought.ensures in
    let shape = c.args.repair.now.shape in
    let f = rw (c.in-Lost.is, s.repair, s.copy, s.first, s.digest, c.requires.size) at c.in_ok-mend_hash.ensures.ok in
    let a = c.args.image.now.world in
    let m = c.mend_hash.new.image.world in
    let unwritten = nowhere-unwritten (hash_look (job c.args.repair.now) c.args.path.now c.args.level c.args.index a.hash_dev m.hash_dev a.hash_copies m.hash_copies) f.1 in
    visit-lost shape c.requires.can.valid c.args.level c.args.index c.requires.inside a m c.remake.new.image.world c.mend_hash.ensures.kept (rw c.requires.size at c.mend_hash.ensures.asked) unwritten c.remake.ensures.read (rw s.repair at c.remake.ensures.asked)

pub returns-in_err-put_hash-in-Lost-clause-asked : goal.returns-in_err-put_hash-in-Lost-clause-asked
returns-in_err-put_hash-in-Lost-clause-asked g c =
    let s = c.hash_sought-sought.ensures in
    let shape = c.args.repair.now.shape in
    let f = rw (c.in-Lost.is, s.repair, s.copy, s.first, s.digest, c.requires.size) at c.in_ok-mend_hash.ensures.ok in
    let a = c.args.image.now.world in
    let m = c.mend_hash.new.image.world in
    let unwritten = nowhere-unwritten (hash_look (job c.args.repair.now) c.args.path.now c.args.level c.args.index a.hash_dev m.hash_dev a.hash_copies m.hash_copies) f.1 in
    let long : length c.remake.new.block ≡ c.args.repair.now.shape.hash_block = c.remake.auto.block ∙ c.mend_hash.auto.block ∙ c.requires.size in
    visit-made shape c.requires.can.valid c.args.level c.args.index c.requires.inside a m c.remake.new.image.world c.mend_hash.ensures.kept (rw c.requires.size at c.mend_hash.ensures.asked) unwritten c.remake.ensures.read (rw s.repair at c.remake.ensures.asked)
    c.args.repair.now.write false _ c.remake.new.block c.put_hash.new.image.world long c.in_err-put_hash-in-Lost.ensures.put

pub returns-in_ok-put_hash-in-Lost-clause-asked : goal.returns-in_ok-put_hash-in-Lost-clause-asked
returns-in_ok-put_hash-in-Lost-clause-asked g c =
    let s = c.hash_sought-sought.ensures in
    let shape = c.args.repair.now.shape in
    let f = rw (c.in-Lost.is, s.repair, s.copy, s.first, s.digest, c.requires.size) at c.in_ok-mend_hash.ensures.ok in
    let a = c.args.image.now.world in
    let m = c.mend_hash.new.image.world in
    let unwritten = nowhere-unwritten (hash_look (job c.args.repair.now) c.args.path.now c.args.level c.args.index a.hash_dev m.hash_dev a.hash_copies m.hash_copies) f.1 in
    let long : length c.remake.new.block ≡ c.args.repair.now.shape.hash_block = c.remake.auto.block ∙ c.mend_hash.auto.block ∙ c.requires.size in
    visit-made shape c.requires.can.valid c.args.level c.args.index c.requires.inside a m c.remake.new.image.world c.mend_hash.ensures.kept (rw c.requires.size at c.mend_hash.ensures.asked) unwritten c.remake.ensures.read (rw s.repair at c.remake.ensures.asked)
    c.args.repair.now.write true _ c.remake.new.block c.put_hash.new.image.world long c.in_ok-put_hash-in-Lost.ensures.put

pub returns-in_err-mend_hash-clause-handed : goal.returns-in_err-mend_hash-clause-handed
returns-in_err-mend_hash-clause-handed g c =
    let asks = DeviceDoes g.D.BlockDev.state g.D.BlockDev.does in
    let does = DeviceDoes g.H.BlockDev.state g.H.BlockDev.does in
    let Allowed = IsHashWrite (job c.args.repair.now) c.args.path.now c.args.level c.args.index in
    let s = c.hash_sought-sought.ensures in
    subst (λ (done : Bool). VisitsHash asks does Allowed done c.args.image.now c.mend_hash.new.image) (unfinished c.from_residual.result _ c.from_residual.ensures.1)
    (visit-sought asks does Allowed false c.args.image.now c.mend_hash.new.image (rw (s.repair, s.first, s.digest, c.requires.size) at c.in_err-mend_hash.ensures.handed))

pub returns-in-Good-clause-handed : goal.returns-in-Good-clause-handed
returns-in-Good-clause-handed g c =
    let asks = DeviceDoes g.D.BlockDev.state g.D.BlockDev.does in
    let does = DeviceDoes g.H.BlockDev.state g.H.BlockDev.does in
    let Allowed = IsHashWrite (job c.args.repair.now) c.args.path.now c.args.level c.args.index in
    let s = c.hash_sought-sought.ensures in
    visit-sought asks does Allowed true c.args.image.now c.mend_hash.new.image (rw (s.repair, s.first, s.digest, c.requires.size) at c.in_ok-mend_hash.ensures.handed)

pub returns-in-Copy-clause-handed : goal.returns-in-Copy-clause-handed
returns-in-Copy-clause-handed g c =
    let asks = DeviceDoes g.D.BlockDev.state g.D.BlockDev.does in
    let does = DeviceDoes g.H.BlockDev.state g.H.BlockDev.does in
    let Allowed = IsHashWrite (job c.args.repair.now) c.args.path.now c.args.level c.args.index in
    let s = c.hash_sought-sought.ensures in
    visit-sought asks does Allowed true c.args.image.now c.mend_hash.new.image (rw (s.repair, s.first, s.digest, c.requires.size) at c.in_ok-mend_hash.ensures.handed)

pub returns-in-Remade-clause-handed : goal.returns-in-Remade-clause-handed
returns-in-Remade-clause-handed g c =
    let asks = DeviceDoes g.D.BlockDev.state g.D.BlockDev.does in
    let does = DeviceDoes g.H.BlockDev.state g.H.BlockDev.does in
    let Allowed = IsHashWrite (job c.args.repair.now) c.args.path.now c.args.level c.args.index in
    let s = c.hash_sought-sought.ensures in
    visit-sought asks does Allowed true c.args.image.now c.mend_hash.new.image (rw (s.repair, s.first, s.digest, c.requires.size) at c.in_ok-mend_hash.ensures.handed)

pub returns-in-Parity-clause-handed : goal.returns-in-Parity-clause-handed
returns-in-Parity-clause-handed g c =
    let asks = DeviceDoes g.D.BlockDev.state g.D.BlockDev.does in
    let does = DeviceDoes g.H.BlockDev.state g.H.BlockDev.does in
    let Allowed = IsHashWrite (job c.args.repair.now) c.args.path.now c.args.level c.args.index in
    let s = c.hash_sought-sought.ensures in
    visit-sought asks does Allowed true c.args.image.now c.mend_hash.new.image (rw (s.repair, s.first, s.digest, c.requires.size) at c.in_ok-mend_hash.ensures.handed)

pub returns-then-not-remake-clause-handed : goal.returns-then-not-remake-clause-handed
returns-then-not-remake-clause-handed g c =
    let asks = DeviceDoes g.D.BlockDev.state g.D.BlockDev.does in
    let does = DeviceDoes g.H.BlockDev.state g.H.BlockDev.does in
    let Allowed = IsHashWrite (job c.args.repair.now) c.args.path.now c.args.level c.args.index in
    let s = c.hash_sought-sought.ensures in
    visit-read asks does Allowed c.args.image.now c.mend_hash.new.image c.remake.new.image (rw (s.repair, s.first, s.digest, c.requires.size) at c.in_ok-mend_hash.ensures.handed) c.remake.ensures.called

pub returns-in_ok-put_hash-in-Lost-clause-handed : goal.returns-in_ok-put_hash-in-Lost-clause-handed
returns-in_ok-put_hash-in-Lost-clause-handed g c =
    let asks = DeviceDoes g.D.BlockDev.state g.D.BlockDev.does in
    let does = DeviceDoes g.H.BlockDev.state g.H.BlockDev.does in
    let Allowed = IsHashWrite (job c.args.repair.now) c.args.path.now c.args.level c.args.index in
    let s = c.hash_sought-sought.ensures in
    let long : length c.remake.new.block ≡ c.args.repair.now.shape.hash_block = c.remake.auto.block ∙ c.mend_hash.auto.block ∙ c.requires.size in
    let block = block-size c.args.repair.now.shape.hash_block c.requires.can.valid.hash_size in
    visit-put asks does Allowed c.args.repair.now.write c.remake.new.image.world.hash_dev c.hash_sought-sought.result.first (length c.remake.new.block / 512) c.remake.new.block true c.put_hash.new.image.world.hash_dev
    c.args.image.now c.remake.new.image c.put_hash.new.image c.in_ok-put_hash-in-Lost.ensures.put.put
    (record { here = s.first; whole = omega (arith, long, block.whole); good = rw (s.repair, s.digest) at (c.remake.ensures.good c.if-not-remake.false) })
    (visit-read asks does Allowed c.args.image.now c.mend_hash.new.image c.remake.new.image (rw (s.repair, s.first, s.digest, c.requires.size) at c.in_ok-mend_hash.ensures.handed) c.remake.ensures.called) c.in_ok-put_hash-in-Lost.ensures.handed

pub returns-in_err-put_hash-in-Lost-clause-handed : goal.returns-in_err-put_hash-in-Lost-clause-handed
returns-in_err-put_hash-in-Lost-clause-handed g c =
    let asks = DeviceDoes g.D.BlockDev.state g.D.BlockDev.does in
    let does = DeviceDoes g.H.BlockDev.state g.H.BlockDev.does in
    let Allowed = IsHashWrite (job c.args.repair.now) c.args.path.now c.args.level c.args.index in
    let s = c.hash_sought-sought.ensures in
    let long : length c.remake.new.block ≡ c.args.repair.now.shape.hash_block = c.remake.auto.block ∙ c.mend_hash.auto.block ∙ c.requires.size in
    let block = block-size c.args.repair.now.shape.hash_block c.requires.can.valid.hash_size in
    subst (λ (done : Bool). VisitsHash asks does Allowed done c.args.image.now c.put_hash.new.image) (unfinished c.from_residual-in_err-put_hash-in-Lost.result _ c.from_residual-in_err-put_hash-in-Lost.ensures.1)
    (visit-put asks does Allowed c.args.repair.now.write c.remake.new.image.world.hash_dev c.hash_sought-sought.result.first (length c.remake.new.block / 512) c.remake.new.block false c.put_hash.new.image.world.hash_dev
    c.args.image.now c.remake.new.image c.put_hash.new.image c.in_err-put_hash-in-Lost.ensures.put.put
    (record { here = s.first; whole = omega (arith, long, block.whole); good = rw (s.repair, s.digest) at (c.remake.ensures.good c.if-not-remake.false) })
    (visit-read asks does Allowed c.args.image.now c.mend_hash.new.image c.remake.new.image (rw (s.repair, s.first, s.digest, c.requires.size) at c.in_ok-mend_hash.ensures.handed) c.remake.ensures.called) c.in_err-put_hash-in-Lost.ensures.handed)
