use Rattle.std.proofs.Common.{IsTrue, inl, inr, refl, subst, sym, ◌∙◌}
use Rattle.std.proofs.lemmas.Result.{IfErr-weaker, on_ok_weaker}
use Rattle.repair_commands.specs.Commands.{with_hash}
use Rattle.repair_commands.proofs.EndingLemmas.{err-from}
use Rattle.repair_commands.proofs.repair.repair_images.Goals as goal

pub mend_opened-requires-clause-allowed : goal.mend_opened-requires-clause-allowed
mend_opened-requires-clause-allowed g c = record {
  data_writable = λ write. subst IsTrue (sym c.in_ok-opened.ensures.data_fresh.may_write) write;
  hash_writable = λ write. subst IsTrue (sym (c.find_repaired_tree.ensures.read.same.may_write ∙ c.in_ok-opened.ensures.hash_fresh.may_write)) write;
}

pub returns-then-not-may_seek-clause-err : goal.returns-then-not-may_seek-clause-err
returns-then-not-may_seek-clause-err g c = inl (record { unaligned = cc (c.if-not-may_seek.ensures); is = refl; same = refl }, refl)

pub returns-in_err-opened-clause-err : goal.returns-in_err-opened-clause-err
returns-in_err-opened-clause-err g c =
    err-from c.from_residual.result _ c.in_err-opened.field-0.0 c.from_residual.ensures.1 (inr (inl (record { fails = c.in_err-opened.ensures.err; quiet = refl })))

pub returns-in_err-found-clause-err : goal.returns-in_err-found-clause-err
returns-in_err-found-clause-err g c =
    err-from c.from_residual-in_err-found.result _ c.in_err-found.field-0.0 c.from_residual-in_err-found.ensures.1
    (inr (inr (inl (record {
      before = c.in_ok-opened.opened;
      opened = with_hash c.in_ok-opened.opened c.find_repaired_tree.new.hash_dev;
      opens = c.in_ok-opened.ensures.ok;
      refuses = record { rest_is = refl; read = c.find_repaired_tree.ensures.read; none = rw c.sectors-sectors.ensures.size at c.in_err-found.ensures.err };
      quiet = refl;
    }))))

pub returns-clause-ok : goal.returns-clause-ok
returns-clause-ok g c =
    on_ok_weaker c.mend_opened.result
    (λ mends. record {
      ready = c.open_all.new.images;
      before = c.in_ok-opened.opened;
      opened = with_hash c.in_ok-opened.opened c.find_repaired_tree.new.hash_dev;
      found = c.in_ok-found.found;
      opens = c.in_ok-opened.ensures.ok;
      passes = record { rest_is = refl; read = c.find_repaired_tree.ensures.read; finds = rw c.sectors-sectors.ensures.size at c.in_ok-found.ensures.ok };
      mends = mends;
      aligned = cc (c.if-not-may_seek.ensures);
    })
    c.mend_opened.ensures.ok

pub returns-clause-err : goal.returns-clause-err
returns-clause-err g c =
    IfErr-weaker c.mend_opened.result _ _
    (λ fault ends. inr (inr (inr (record {
      ready = c.open_all.new.images;
      before = c.in_ok-opened.opened;
      opened = with_hash c.in_ok-opened.opened c.find_repaired_tree.new.hash_dev;
      found = c.in_ok-found.found;
      opens = c.in_ok-opened.ensures.ok;
      passes = record { rest_is = refl; read = c.find_repaired_tree.ensures.read; finds = rw c.sectors-sectors.ensures.size at c.in_ok-found.ensures.ok };
      ends = ends;
    }))))
    c.mend_opened.ensures.err
