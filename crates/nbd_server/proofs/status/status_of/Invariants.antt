use Rattle.std.proofs.Common.{◌<◌, ◌≤◌, ◌+◌, ◌/◌}
use Rattle.nbd_protocol.specs.Exports.{export_record}
use Rattle.nbd_server.specs.Extents.{most_runs}
use Rattle.nbd_server.specs.Status.{IsLineStatus}
use Rattle.nbd_server.proofs.StatusLemmas.{Underway}
use Rattle.nbd_server.proofs.status.status_of.Given as goal

-- the extents so far, and how many more runs may be joined
abbrev pub invariant-loop-extent : goal.invariant-loop-extent
invariant-loop-extent l = record {
  told : Underway (IsLineStatus l.config (export_record l.export) l.offset) l.offset l.len l._extent l.done l.told.items;
  left : l.done < l.len → l.offset / 512 + most_runs ≤ (l.offset + l.done) / 512 + l.runs;
}
