use Rattle.std.proofs.Common.{inl, inr, refl}
use Rattle.std.proofs.lemmas.Bool.{false≢true}
use Rattle.scan_commands.proofs.copy.copy_synced.Goals as goal

pub returns-in-Err-clause-err : goal.returns-in-Err-clause-err
returns-in-Err-clause-err g c = inl (rw c.in-Err.is at c.copy_to-left.ensures.err)

pub returns-in-Ok-sync-clause-ok : goal.returns-in-Ok-sync-clause-ok
returns-in-Ok-sync-clause-ok g c = record {
  unsynced = g.O.BlockDev.state c.copy_to-left.result.0.out;
  passed = rw c.in-Ok.is at c.copy_to-left.ensures.ok;
  durable = c.in-Ok-sync.ensures.ok;
}

pub returns-in-Err-sync-clause-err : goal.returns-in-Err-sync-clause-err
returns-in-Err-sync-clause-err g c = inr (record {
  counts = c.in-Ok.counts;
  unsynced = g.O.BlockDev.state c.copy_to-left.result.0.out;
  passed = rw c.in-Ok.is at c.copy_to-left.ensures.ok;
  failed = c.in-Err-sync.ensures.err;
  sure = λ h. false≢true (c.in-Err-sync.ensures.sure h);
  is = refl;
})
