use Rattle.partition_table.proofs.table.read_table.Goals as goal

pub returns-in-Ok-clause-ok : goal.returns-in-Ok-clause-ok
returns-in-Ok-clause-ok g c = record {
  last = g.D.BlockDev.state c.read_copies.new.device;
  found = c.in-Ok.found;
  copies = rw c.of-disk.ensures.value at c.in-Ok.ensures.ok;
  mbr_read = c.read_mbr-mbr.ensures.read;
  mbr = rw c.with_mbr.ensures.warnings.0 (rw c.of-disk.ensures.value at c.read_mbr-mbr.ensures.value);
  partitions = c.with_mbr.ensures.partitions.0;
  source = c.with_mbr.ensures.partitions.1;
  size_is = c.with_mbr.ensures.size;
  of_primary = c.with_mbr.ensures.warnings.1;
  of_backup = c.with_mbr.ensures.warnings.2;
}

pub returns-in-Ok-clause-calls : goal.returns-in-Ok-clause-calls
returns-in-Ok-clause-calls g c = record {
  last = c.read_copies.new.device;
  copies = rw c.with_mbr.ensures.partitions.1 (rw c.of-disk.ensures.value at c.in-Ok.ensures.calls);
  mbr = rw c.with_mbr.ensures.warnings.0 (rw c.of-disk.ensures.value at c.read_mbr-mbr.ensures.calls);
}

pub returns-in-Err-clause-calls : goal.returns-in-Err-clause-calls
returns-in-Err-clause-calls g c = rw c.of-disk.ensures.value at c.in-Err.ensures.calls

pub returns-in-Err-clause-err : goal.returns-in-Err-clause-err
returns-in-Err-clause-err g c = rw c.of-disk.ensures.value at c.in-Err.ensures.err
