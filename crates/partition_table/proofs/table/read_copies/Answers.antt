use Rattle.std.proofs.Common.{inl, inr}
use Rattle.block_device.specs.Call.{DeviceDoes}
use Rattle.partition_table.proofs.ReadLemmas.{both-sourced, sourced}
use Rattle.partition_table.proofs.table.read_copies.Goals as goal

pub returns-in-Ok-backup-clause-ok : goal.returns-in-Ok-backup-clause-ok
returns-in-Ok-backup-clause-ok g c = record {
  mid = g.D.BlockDev.state c.read_copy-primary.new.device;
  first = c.read_copy-primary.ensures.read;
  second = c.read_copy-backup.ensures.read;
  copies = inl (record {
    primary = c.in-Ok.primary;
    backup = c.in-Ok-backup.backup;
    first = c.in-Ok.ensures.ok;
    second = c.in-Ok-backup.ensures.ok;
    source = c.found_both.ensures.source;
    partitions = c.found_both.ensures.partitions;
    of_primary = c.found_both.ensures.warnings.0;
    of_backup = c.found_both.ensures.warnings.1;
  });
}

pub returns-in-Err-backup-clause-ok : goal.returns-in-Err-backup-clause-ok
returns-in-Err-backup-clause-ok g c = record {
  mid = g.D.BlockDev.state c.read_copy-primary.new.device;
  first = c.read_copy-primary.ensures.read;
  second = c.read_copy-backup.ensures.read;
  copies = inr (inl (record {
    primary = c.in-Ok.primary;
    fault = c.in-Err-backup.fault;
    good = c.in-Ok.ensures.ok;
    bad = c.in-Err-backup.ensures.err;
    source = c.found_primary.ensures.source;
    partitions = c.found_primary.ensures.partitions;
    of_primary = c.found_primary.ensures.warnings.0;
    of_backup = c.found_primary.ensures.warnings.1;
  }));
}

pub returns-in-Ok-backup-2-clause-ok : goal.returns-in-Ok-backup-2-clause-ok
returns-in-Ok-backup-2-clause-ok g c = record {
  mid = g.D.BlockDev.state c.read_copy-primary.new.device;
  first = c.read_copy-primary.ensures.read;
  second = c.read_copy-backup.ensures.read;
  copies = inr (inr (record {
    backup = c.in-Ok-backup-2.backup;
    fault = c.in-Err.fault;
    bad = c.in-Err.ensures.err;
    good = c.in-Ok-backup-2.ensures.ok;
    source = c.found_backup.ensures.source;
    partitions = c.found_backup.ensures.partitions;
    of_primary = c.found_backup.ensures.warnings.0;
    of_backup = c.found_backup.ensures.warnings.1;
  }));
}

pub returns-in-Ok-backup-clause-calls : goal.returns-in-Ok-backup-clause-calls
returns-in-Ok-backup-clause-calls g c = both-sourced (DeviceDoes g.D.BlockDev.state g.D.BlockDev.does) c.args.disk c.args.device.now c.read_copy-backup.new.device c.found_both.result.source _ c.found_both.ensures.source (record {
  mid = c.read_copy-primary.new.device;
  first = (c.in-Ok.primary, c.in-Ok.ensures.calls);
  second = (c.in-Ok-backup.backup, c.in-Ok-backup.ensures.calls);
})

pub returns-in-Err-backup-clause-calls : goal.returns-in-Err-backup-clause-calls
returns-in-Err-backup-clause-calls g c = sourced (DeviceDoes g.D.BlockDev.state g.D.BlockDev.does) c.args.disk c.args.device.now c.read_copy-backup.new.device c.found_primary.result.source _ c.found_primary.ensures.source (record {
  mid = c.read_copy-primary.new.device;
  first = (c.in-Ok.primary, c.in-Ok.ensures.calls);
  second = c.in-Err-backup.ensures.calls;
})

pub returns-in-Ok-backup-2-clause-calls : goal.returns-in-Ok-backup-2-clause-calls
returns-in-Ok-backup-2-clause-calls g c = sourced (DeviceDoes g.D.BlockDev.state g.D.BlockDev.does) c.args.disk c.args.device.now c.read_copy-backup.new.device c.found_backup.result.source _ c.found_backup.ensures.source (record {
  mid = c.read_copy-primary.new.device;
  first = c.in-Err.ensures.calls;
  second = (c.in-Ok-backup-2.backup, c.in-Ok-backup-2.ensures.calls);
})

pub returns-in-Err-backup-2-clause-calls : goal.returns-in-Err-backup-2-clause-calls
returns-in-Err-backup-2-clause-calls g c = record {
  mid = c.read_copy-primary.new.device;
  first = c.in-Err.ensures.calls;
  second = c.in-Err-backup-2.ensures.calls;
}
