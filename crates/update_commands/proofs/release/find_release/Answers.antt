use Rattle.std.proofs.Common.{inl, inr, refl, subst}
use Rattle.verity_commands.specs.declared.tree_fault.TreeFault.TheVariants.{Open}
use Rattle.verity_commands.specs.Surveys.{no_tree_fault}
use Rattle.verity_format.specs.declared.tree.VerityTree.{VerityTree}
use Rattle.update_commands.specs.Releases.{HasRoot, LacksRoot}
use Rattle.update_commands.proofs.EndingLemmas.{err-from}
use Rattle.update_commands.proofs.release.find_release.Goals as goal

pub returns-in_err-image-clause-err : goal.returns-in_err-image-clause-err
returns-in_err-image-clause-err g c =
    let file = c.in_err-image.field-0.0 in
    err-from c.from_residual.result _ (Open file) c.from_residual.ensures.1 (inl (record { file = file; refused = c.in_err-image.ensures.err; is = refl }))

pub returns-in_err-superblock-clause-err : goal.returns-in_err-superblock-clause-err
returns-in_err-superblock-clause-err g c =
    let cause = c.in_err-superblock.field-0.0 in
    err-from c.from_residual-in_err-superblock.result _ (no_tree_fault cause) c.from_residual-in_err-superblock.ensures.1
    (inr (inl (record {
      image = c.in_ok-image.image;
      after = c.find_tree.new.hash_dev;
      cause = cause;
      opened = c.in_ok-image.ensures.ok;
      none = c.in_err-superblock.ensures.err;
      is = refl;
    })))

pub returns-in_err-check_root-clause-err : goal.returns-in_err-check_root-clause-err
returns-in_err-check_root-clause-err g c =
    let fault = c.in_err-check_root.field-0.0 in
    let root = c.args.pin.now.root in
    let looked = g.I.Dev.BlockDev.state c.find_tree.new.hash_dev in
    let after = g.I.Dev.BlockDev.state c.check_root.new.hash_dev in
    err-from c.from_residual-in_err-check_root.result _ fault c.from_residual-in_err-check_root.ensures.1
    (inr (inr (record {
      image = c.in_ok-image.image;
      looked = c.find_tree.new.hash_dev;
      after = c.check_root.new.hash_dev;
      super = c.in_ok-superblock.superblock;
      opened = c.in_ok-image.ensures.ok;
      reads = c.in_ok-superblock.ensures.ok;
      read = c.find_tree.ensures.read;
      lacks = subst (λ (t : VerityTree). LacksRoot t root looked after fault) c.tree-tree.ensures.value c.in_err-check_root.ensures.err;
    })))

pub returns-clause-ok : goal.returns-clause-ok
returns-clause-ok g c =
    let root = c.args.pin.now.root in
    let looked = g.I.Dev.BlockDev.state c.find_tree.new.hash_dev in
    record {
      image = c.in_ok-image.image;
      looked = c.find_tree.new.hash_dev;
      opened = c.in_ok-image.ensures.ok;
      reads = c.in_ok-superblock.ensures.ok;
      read = c.find_tree.ensures.read;
      rooted = subst (λ (t : VerityTree). HasRoot t root looked) c.tree-tree.ensures.value c.in_ok-check_root.ensures.ok;
      root_is = refl;
    }
