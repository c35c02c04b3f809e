use Rattle.std.proofs.Common.{◌≡◌, ◌≤◌, ◌-◌, ◌/◌, ◌%◌, Ok, length, take}
use Rattle.stack_engine.specs.WritePieces.{WritesInPieces}
use Rattle.request_queue.specs.AtOnce.{CanBeWritten, WritesBeside}
use Rattle.request_queue.specs.PieceCalls.{HandsInTurn}
use Rattle.request_queue.specs.Ranges.{range_at}
use Rattle.request_queue.proofs.at_once.write_pieces.Given as goal

-- the first sectors were written
abbrev pub invariant-pieces : goal.invariant-pieces
invariant-pieces g l = record {
  put : WritesInPieces l.fn.stack l.device.0 l.first (take l.done l.bytes) (Ok tt) l.stack;
  steps : WritesBeside (range_at l.device.0 l.first (length l.bytes / 512)) l.fn.stack (take l.done l.bytes) (Ok tt) l.stack;
  handed : HandsInTurn g.D.BlockDev.state g.D.BlockDev.does (range_at l.device.0 l.first (length l.bytes / 512)) l.fn.stack (take l.done l.bytes) (Ok tt) l.stack;
  can : CanBeWritten l.stack.config l.device.0 l.first l.bytes;
  whole : l.done % 512 ≡ 0;
  within : l.done ≤ length l.bytes;
}

abbrev pub decreases-pieces : goal.decreases-pieces
decreases-pieces g l = length l.bytes - l.done
