use Rattle.std.proofs.Common.{ℕ, ap, arith, inl, inr, take, ◌∙◌}
use Rattle.std.proofs.lemmas.Result.{err_from_is_err_and}
use Rattle.block_device.specs.Call.{DeviceDoes}
use Rattle.partition_table.proofs.ReadLemmas.{on_disk, only_read-then, unread-cause, unread-entries, unused-entries}
use Rattle.partition_table.proofs.copy.read_copy.Goals as goal

pub read_sectors-requires-clause-range : goal.read_sectors-requires-clause-range
read_sectors-requires-clause-range g c =
    let on = on_disk _ c.args.disk c.args.sector c.in_ok-header.header c.in_ok-header.ensures.ok in
    rw c.array_sectors-count.ensures (on.some, on.inside)

pub good_partitions-requires-clause-size : goal.good_partitions-requires-clause-size
good_partitions-requires-clause-size g c = (on_disk _ c.args.disk c.args.sector c.in_ok-header.header c.in_ok-header.ensures.ok).size

pub returns-in_err-array-clause-read : goal.returns-in_err-array-clause-read
returns-in_err-array-clause-read g c =
    let on = on_disk _ c.args.disk c.args.sector c.in_ok-header.header c.in_ok-header.ensures.ok in
    only_read-then 8 _ _ c.in_ok-header.ensures.read c.read_sectors.ensures.read (rw c.array_sectors-count.ensures (omega (arith, on.few)))

pub returns-in-Ok-clause-read : goal.returns-in-Ok-clause-read
returns-in-Ok-clause-read g c =
    let on = on_disk _ c.args.disk c.args.sector c.in_ok-header.header c.in_ok-header.ensures.ok in
    only_read-then 8 _ _ c.in_ok-header.ensures.read c.read_sectors.ensures.read (rw c.array_sectors-count.ensures (omega (arith, on.few)))

pub returns-in-Err-clause-read : goal.returns-in-Err-clause-read
returns-in-Err-clause-read g c =
    let on = on_disk _ c.args.disk c.args.sector c.in_ok-header.header c.in_ok-header.ensures.ok in
    only_read-then 8 _ _ c.in_ok-header.ensures.read c.read_sectors.ensures.read (rw c.array_sectors-count.ensures (omega (arith, on.few)))

pub returns-in_err-array-clause-err : goal.returns-in_err-array-clause-err
returns-in_err-array-clause-err g c =
    let on = on_disk _ c.args.disk c.args.sector c.in_ok-header.header c.in_ok-header.ensures.ok in
    let was = err_from_is_err_and c.from_residual-in_err-array.result c.from_residual-in_err-array.ensures.1 in
    rw (was.1, was.2)
    (unread-cause (g.D.BlockDev.state c.args.device.now) (g.D.BlockDev.state c.read_header.new.device) (g.D.BlockDev.state c.read_sectors.new.device) c.args.disk c.args.sector _ c.in_err-array.field-0.0 c.in_ok-header.ensures.read.same c.in_ok-header.ensures.calls.made.0.moved.failures
    (rw c.array_sectors-count.ensures on.few) c.in_err-array.ensures.err)

pub returns-in_err-header-clause-calls : goal.returns-in_err-header-clause-calls
returns-in_err-header-clause-calls g c =
    let was = err_from_is_err_and c.from_residual.result c.from_residual.ensures.1 in
    rw (was.1, was.2) (inl c.in_err-header.ensures.calls)

pub returns-in_err-array-clause-calls : goal.returns-in_err-array-clause-calls
returns-in_err-array-clause-calls g c =
    let was = err_from_is_err_and c.from_residual-in_err-array.result c.from_residual-in_err-array.ensures.1 in
    rw (was.1, was.2)
    (inr (record {
      mid = c.read_header.new.device;
      header = c.in_ok-header.header;
      first = c.in_ok-header.ensures.calls;
      rest = unread-entries (DeviceDoes g.D.BlockDev.state g.D.BlockDev.does) c.args.disk c.read_header.new.device c.read_sectors.new.device c.in_ok-header.header c.in_err-array.field-0.0 c.in_err-array.ensures.calls.1;
    }))

pub returns-in-Ok-clause-calls : goal.returns-in-Ok-clause-calls
returns-in-Ok-clause-calls g c =
    let part = c.deref.ensures.value ∙ c.truncate.ensures.items ∙ ap (λ (n : ℕ). take n c.in_ok-array.array.items) c.array_bytes.ensures in
    record {
      mid = c.read_header.new.device;
      array = c.in_ok-array.array.items;
      first = c.in_ok-header.ensures.calls;
      rest = c.in_ok-array.ensures.calls.0;
      good = rw part at c.in-Ok.ensures.ok.0;
      partitions = rw part at c.in-Ok.ensures.ok.1;
    }

pub returns-in-Err-clause-calls : goal.returns-in-Err-clause-calls
returns-in-Err-clause-calls g c =
    let part = c.deref.ensures.value ∙ c.truncate.ensures.items ∙ ap (λ (n : ℕ). take n c.in_ok-array.array.items) c.array_bytes.ensures in
    inr (record {
      mid = c.read_header.new.device;
      header = c.in_ok-header.header;
      first = c.in_ok-header.ensures.calls;
      rest = unused-entries (DeviceDoes g.D.BlockDev.state g.D.BlockDev.does) c.args.disk c.read_header.new.device c.read_sectors.new.device c.in_ok-header.header c.in_ok-array.array.items _ c.in-Err.fault part c.in_ok-array.ensures.calls.0 c.in-Err.ensures.err;
    })
