use Rattle.image_commands.specs.declared.tree_source.NoSource.TheVariants.{Stored}
use Rattle.image_commands.proofs.OpeningLemmas.{err-from}
use Rattle.image_commands.proofs.tree_source.stored_tree.Goals as goal

pub returns-in_err-superblock-clause-err : goal.returns-in_err-superblock-clause-err
returns-in_err-superblock-clause-err g c =
    err-from c.from_residual.result _ (Stored c.in_err-superblock.field-0.0) c.from_residual.ensures.1 c.in_err-superblock.ensures.err

pub returns-clause-ok : goal.returns-clause-ok
returns-clause-ok g c = record {
  super = c.in_ok-superblock.superblock;
  super_read = c.in_ok-superblock.ensures.ok;
  one = c.in_ok-superblock.ensures.full;
  is = c.tree.ensures.value;
}
