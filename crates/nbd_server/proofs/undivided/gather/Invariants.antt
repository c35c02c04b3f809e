use Rattle.nbd_protocol.specs.Exports.{export_record}
use Rattle.nbd_server.proofs.ProgressLemmas.{left_of}
use Rattle.nbd_server.proofs.UndividedLemmas.{IsPartGathered}
use Rattle.nbd_server.proofs.undivided.gather.Given as goal

-- the pieces so far were read
abbrev pub invariant-pieces : goal.invariant-pieces
invariant-pieces g l = IsPartGathered (export_record l.export) l.read l.fn.queue l.progress l.queue l.out

-- a piece is read, or read again by smaller ones
abbrev pub decreases-pieces : goal.decreases-pieces
decreases-pieces g l = left_of l.read.count l.progress
