use Rattle.std.proofs.Common.{inl, inr, refl}
use Rattle.verity_format.proofs.lemmas.DeviceLemmas.{only_read-then}
use Rattle.verity_commands.specs.Surveys.{no_source_fault}
use Rattle.repair_commands.proofs.EndingLemmas.{err-from}
use Rattle.repair_commands.proofs.found_tree.find_repaired_tree.Goals as goal

pub returns-in_err-tree-clause-err : goal.returns-in_err-tree-clause-err
returns-in_err-tree-clause-err g c =
    let cause = c.in_err-tree.field-0.0 in
    err-from c.from_residual.result _ (no_source_fault cause) c.from_residual.ensures.1 (inl (cause, c.in_err-tree.ensures.err, refl))

pub returns-in_err-whole-clause-read : goal.returns-in_err-whole-clause-read
returns-in_err-whole-clause-read g c = only_read-then c.seek_tree.ensures.read c.check_unused.ensures.read

pub returns-in_err-whole-clause-err : goal.returns-in_err-whole-clause-err
returns-in_err-whole-clause-err g c =
    err-from c.from_residual-in_err-whole.result _ c.in_err-whole.field-0.0 c.from_residual-in_err-whole.ensures.1
    (inr (record {
      tree = c.in_ok-tree.tree;
      read_dev = g.H.BlockDev.state c.seek_tree.new.hash_dev;
      tree_of = c.in_ok-tree.ensures.ok;
      cause = c.in_err-whole.ensures.err;
    }))

pub returns-clause-read : goal.returns-clause-read
returns-clause-read g c = only_read-then c.seek_tree.ensures.read c.check_unused.ensures.read

pub returns-clause-ok : goal.returns-clause-ok
returns-clause-ok g c = record {
  read_dev = g.H.BlockDev.state c.seek_tree.new.hash_dev;
  tree_of = c.in_ok-tree.ensures.ok;
  passed = c.in_ok-whole.ensures.ok;
  root_is = refl;
}
