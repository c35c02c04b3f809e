use Rattle.std.proofs.Common.{length, Ok}
use Rattle.nbd_server.specs.Status.{IsReadStatus}
use Rattle.nbd_server.proofs.StatusLemmas.{Underway}
use Rattle.nbd_server.proofs.read_status.tell_runs.Given as goal

-- the runs so far
abbrev pub invariant-loop-extent : goal.invariant-loop-extent
invariant-loop-extent l = record { told : Underway (IsReadStatus l.at (Ok l.bytes)) l.at (length l.bytes) l._extent l.done l.told.items }
