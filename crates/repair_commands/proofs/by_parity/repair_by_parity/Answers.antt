use Rattle.std.proofs.Common.{IsTrue, inl, inr, refl, subst, sym, ◌∙◌}
use Rattle.verity_commands.specs.declared.tree_fault.TreeFault.TheVariants.{Unaligned}
use Rattle.repair_commands.specs.declared.fault.ParityRepairFault.TheVariants.{Tree}
use Rattle.repair_commands.specs.Commands.{with_hash}
use Rattle.repair_commands.proofs.EndingLemmas.{err-from}
use Rattle.repair_commands.proofs.by_parity.repair_by_parity.Goals as goal

pub mend_opened-requires-clause-allowed : goal.mend_opened-requires-clause-allowed
mend_opened-requires-clause-allowed g c = record {
  data_writable = λ write. subst IsTrue (sym c.in_ok-opened.ensures.data_fresh.may_write) write;
  hash_writable = λ write. subst IsTrue (sym (c.find_repaired_tree.ensures.read.same.may_write ∙ c.in_ok-opened.ensures.hash_fresh.may_write)) write;
}

pub mend_opened-requires-clause-laid : goal.mend_opened-requires-clause-laid
mend_opened-requires-clause-laid g c = c.in_ok-laid.ensures.ok.0.lies.laid

pub returns-then-not-may_seek-clause-err : goal.returns-then-not-may_seek-clause-err
returns-then-not-may_seek-clause-err g c =
    inl (record { cause = Unaligned; unplaced = (record { unaligned = cc (c.if-not-may_seek.ensures); is = refl; same = refl }, refl); is = refl })

pub returns-in_err-opened-clause-err : goal.returns-in_err-opened-clause-err
returns-in_err-opened-clause-err g c =
    err-from c.from_residual.result _ (Tree c.in_err-opened.field-0.0) c.from_residual.ensures.1
    (inr (inl (record { cause = c.in_err-opened.field-0.0; fails = c.in_err-opened.ensures.err; quiet = refl; is = refl })))

pub returns-in-Err-clause-err : goal.returns-in-Err-clause-err
returns-in-Err-clause-err g c =
    inr (inr (inl (record {
      between = c.open_all.new.images;
      opened = c.in_ok-opened.opened;
      file = c.in-Err.file;
      opens = c.in_ok-opened.ensures.ok;
      fails = c.in-Err.ensures.err;
      quiet = refl;
      is = refl;
    })))

pub returns-in_err-found-clause-err : goal.returns-in_err-found-clause-err
returns-in_err-found-clause-err g c =
    err-from c.from_residual-in_err-found.result _ (Tree c.in_err-found.field-0.0) c.from_residual-in_err-found.ensures.1
    (inr (inr (inr (inl (record {
      between = c.open_all.new.images;
      before = c.in_ok-opened.opened;
      opened = with_hash c.in_ok-opened.opened c.find_repaired_tree.new.hash_dev;
      parity = c.in-Ok.parity;
      opens = c.in_ok-opened.ensures.ok;
      parity_opens = c.in-Ok.ensures.ok;
      cause = c.in_err-found.field-0.0;
      refuses = record { rest_is = refl; read = c.find_repaired_tree.ensures.read; none = rw c.sectors-sectors.ensures.size at c.in_err-found.ensures.err };
      quiet = refl;
      is = refl;
    })))))

pub returns-in_err-laid-clause-err : goal.returns-in_err-laid-clause-err
returns-in_err-laid-clause-err g c =
    err-from c.from_residual-in_err-laid.result _ c.in_err-laid.field-0.0 c.from_residual-in_err-laid.ensures.1
    (inr (inr (inr (inr (inl (record {
      opened = with_hash c.in_ok-opened.opened c.find_repaired_tree.new.hash_dev;
      parity = c.in-Ok.parity;
      found = c.in_ok-found.found;
      ready = record { between = c.open_all.new.images; before = c.in_ok-opened.opened; opens = c.in_ok-opened.ensures.ok; parity_opens = c.in-Ok.ensures.ok; passes = record { rest_is = refl; read = c.find_repaired_tree.ensures.read; finds = rw c.sectors-sectors.ensures.size at c.in_ok-found.ensures.ok } };
      unlaid = c.in_err-laid.ensures.err;
      quiet = refl;
    }))))))

pub returns-in_err-mend_opened-clause-err : goal.returns-in_err-mend_opened-clause-err
returns-in_err-mend_opened-clause-err g c =
    err-from c.from_residual-in_err-mend_opened.result _ (Tree c.in_err-mend_opened.field-0.0) c.from_residual-in_err-mend_opened.ensures.1
    (inr (inr (inr (inr (inr (record {
      between = c.open_parity.new.images;
      opened = with_hash c.in_ok-opened.opened c.find_repaired_tree.new.hash_dev;
      parity = c.in-Ok.parity;
      found = c.in_ok-found.found;
      laid = c.in_ok-laid.laid;
      ready = record { between = c.open_all.new.images; before = c.in_ok-opened.opened; opens = c.in_ok-opened.ensures.ok; parity_opens = c.in-Ok.ensures.ok; passes = record { rest_is = refl; read = c.find_repaired_tree.ensures.read; finds = rw c.sectors-sectors.ensures.size at c.in_ok-found.ensures.ok } };
      lays = c.in_ok-laid.ensures.ok;
      cause = c.in_err-mend_opened.field-0.0;
      ends = c.in_err-mend_opened.ensures.err;
      is = refl;
    }))))))

pub returns-clause-ok : goal.returns-clause-ok
returns-clause-ok g c = record {
  between = c.open_parity.new.images;
  opened = with_hash c.in_ok-opened.opened c.find_repaired_tree.new.hash_dev;
  parity = c.in-Ok.parity;
  found = c.in_ok-found.found;
  laid = c.in_ok-laid.laid;
  ready = record { between = c.open_all.new.images; before = c.in_ok-opened.opened; opens = c.in_ok-opened.ensures.ok; parity_opens = c.in-Ok.ensures.ok; passes = record { rest_is = refl; read = c.find_repaired_tree.ensures.read; finds = rw c.sectors-sectors.ensures.size at c.in_ok-found.ensures.ok } };
  lays = c.in_ok-laid.ensures.ok;
  mends = c.in_ok-mend_opened.ensures.ok;
  aligned = cc (c.if-not-may_seek.ensures);
}
