use Rattle.std.proofs.Common.{◌≡◌}
use Rattle.nbd_protocol.specs.Exports.{export_record}
use Rattle.nbd_server.proofs.DeliveryLemmas.{IsUnderway}
use Rattle.nbd_server.proofs.ProgressLemmas.{left_of}
use Rattle.nbd_server.proofs.delivery.deliver.Given as goal

-- the pieces so far were answered
abbrev pub invariant-pieces : goal.invariant-pieces
invariant-pieces g l = record {
  underway : IsUnderway (export_record l.export) l.delivery l.fn.queue l.progress l.queue (g.W.Write.contents l.fn.writer.inner) (g.W.Write.contents l.writer.inner);
  kept : l.writer.failed ≡ l.fn.writer.failed;
}

-- a piece is answered, or read again by smaller ones
abbrev pub decreases-pieces : goal.decreases-pieces
decreases-pieces g l = left_of l.delivery.count l.progress
