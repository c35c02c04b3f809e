use Rattle.std.proofs.Common.{◌≡◌, ◌≤◌, ◌-◌, ◌/◌, ◌%◌, Ok, length, take}
use Rattle.stack_engine.specs.Bytes.{EachBytes}
use Rattle.stack_engine.specs.KeptBlocks.{ReadKeeps}
use Rattle.request_queue.specs.AtOnce.{ReadsInTurn}
use Rattle.request_queue.specs.PieceCalls.{GivesInTurn}
use Rattle.request_queue.specs.Ranges.{HaveSectors, range_at}
use Rattle.request_queue.proofs.at_once.read_pieces.Given as goal

-- the first sectors were read
abbrev pub invariant-pieces : goal.invariant-pieces
invariant-pieces g l = record {
  sectors : HaveSectors l.stack.config l.device.0 l.first (length l.fn.out);
  turns : ReadsInTurn (range_at l.device.0 l.first (length l.fn.out / 512)) l.fn.stack (Ok (take l.done l.out)) l.stack;
  given : GivesInTurn g.D.BlockDev.state g.D.BlockDev.does (range_at l.device.0 l.first (length l.fn.out / 512)) l.fn.stack (Ok (take l.done l.out)) l.stack;
  had : EachBytes l.fn.stack l.device.0 l.first (l.done / 512) (Ok (take l.done l.out)) l.stack;
  kept : ReadKeeps l.fn.stack l.device.0 l.first (l.done / 512) l.stack;
  whole : l.done % 512 ≡ 0;
  within : l.done ≤ length l.out;
  size : length l.out ≡ length l.fn.out;
}

abbrev pub decreases-pieces : goal.decreases-pieces
decreases-pieces g l = length l.out - l.done
