use Rattle.std.proofs.Common.{inr, refl, subst}
use Rattle.std.proofs.lemmas.Result.{IfErr-weaker, IfOk-weaker, err_from_is_err_and}
use Rattle.block_device.specs.Call.{DeviceDoes}
use Rattle.verity_format.specs.declared.tree.VerityTree.{VerityTree}
use Rattle.verity_format.specs.Verifying.{IsTreeFound, IsTreeVerifyCause}
use Rattle.verity_format.specs.VerifyCalls.{JudgesTreeOver}
use Rattle.verity_format.proofs.RefusalLemmas.{read-cause}
use Rattle.verity_format.proofs.VerifyingLemmas.{cause-after, found-after, judged-after}
use Rattle.verity_format.proofs.verifying.verify.Goals as goal

pub returns-in_err-superblock-clause-err : goal.returns-in_err-superblock-clause-err
returns-in_err-superblock-clause-err g c =
    let p = err_from_is_err_and c.from_residual.result c.from_residual.ensures.1 in
    rw (p.1, p.2) (read-cause (g.D.BlockDev.state c.args.data_dev.now) (g.H.BlockDev.state c.args.hash_dev.now) (g.H.BlockDev.state c.read_superblock.new.hash_dev) _ c.in_err-superblock.ensures.err)

-- the verdict is that of the record in the sector that was read
pub returns-clause-ok : goal.returns-clause-ok
returns-clause-ok g c =
    let a = g.D.BlockDev.state c.args.data_dev.now in
    let b = g.H.BlockDev.state c.args.hash_dev.now in
    let mid = g.H.BlockDev.state c.read_superblock.new.hash_dev in
    let a' = g.D.BlockDev.state c.verify_tree.new.data_dev in
    let b' = g.H.BlockDev.state c.verify_tree.new.hash_dev in
    let read = c.in_ok-superblock.ensures.found in
    IfOk-weaker c.verify_tree.result _ _
    (λ verdict found. found-after c.in_ok-superblock.superblock read.0 a b mid a' b' c.args.root.now verdict read.1 c.in_ok-superblock.ensures.full
    (subst (λ (t : VerityTree). IsTreeFound t.shape t.salt a mid a' b' c.args.root.now verdict) c.tree.ensures.value found))
    c.verify_tree.ensures.ok

pub returns-clause-err : goal.returns-clause-err
returns-clause-err g c =
    let a = g.D.BlockDev.state c.args.data_dev.now in
    let b = g.H.BlockDev.state c.args.hash_dev.now in
    let mid = g.H.BlockDev.state c.read_superblock.new.hash_dev in
    let a' = g.D.BlockDev.state c.verify_tree.new.data_dev in
    let b' = g.H.BlockDev.state c.verify_tree.new.hash_dev in
    let read = c.in_ok-superblock.ensures.found in
    IfErr-weaker c.verify_tree.result _ _
    (λ fault cause. cause-after c.in_ok-superblock.superblock read.0 a b mid a' b' fault read.1 c.in_ok-superblock.ensures.full
    (subst (λ (t : VerityTree). IsTreeVerifyCause t.shape a mid a' b' fault) c.tree.ensures.value cause))
    c.verify_tree.ensures.err

-- no superblock was read
pub returns-in_err-superblock-clause-calls : goal.returns-in_err-superblock-clause-calls
returns-in_err-superblock-clause-calls g c =
    let p = err_from_is_err_and c.from_residual.result c.from_residual.ensures.1 in
    rw (p.1, p.2) (inr (refl, c.in_err-superblock.ensures.calls))

pub returns-clause-calls : goal.returns-clause-calls
returns-clause-calls g c =
    let asks = DeviceDoes g.D.BlockDev.state g.D.BlockDev.does in
    let does = DeviceDoes g.H.BlockDev.state g.H.BlockDev.does in
    judged-after asks does c.args.data_dev.now c.args.hash_dev.now c.verify_tree.new.data_dev c.verify_tree.new.hash_dev c.args.root.now c.verify_tree.result
    (record {
      superblock = c.in_ok-superblock.superblock;
      between = c.read_superblock.new.hash_dev;
      first = c.in_ok-superblock.ensures.calls;
      tree =
          subst (λ (t : VerityTree). JudgesTreeOver asks does t.shape t.salt c.args.data_dev.now c.read_superblock.new.hash_dev c.verify_tree.new.data_dev c.verify_tree.new.hash_dev c.args.root.now c.verify_tree.result)
          c.tree.ensures.value c.verify_tree.ensures.calls;
    })
