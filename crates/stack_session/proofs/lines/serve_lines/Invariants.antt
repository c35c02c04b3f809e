use Rattle.std.proofs.Common.{◌≡◌, ◌+◌, ◌≤◌, false, length}
use Rattle.block_device.specs.Device.{capped}
use Rattle.stack_session.specs.Session.{ServesWhole}
use Rattle.program_io.specs.Streams.{streams}
use Rattle.stack_session.proofs.IntakeLemmas.{Intake}
use Rattle.stack_session.proofs.lines.serve_lines.Given as goal

-- what was taken is served, no call failed, and each turn called once
abbrev pub invariant-loop-turn : goal.invariant-loop-turn
invariant-loop-turn g l = record {
  intake : Intake (streams (g.R.Read.remaining l.initial.reader.inner) (g.W.Write.contents l.initial.writer.inner)) (streams (g.R.Read.remaining l.reader.inner) (g.W.Write.contents l.writer.inner)) l.left
      (λ taken. ServesWhole g.S.LineServer.replies l.fn.server taken l.server l.rest.items);
  small : length l.rest.items + l.left ≤ 16777216;
  calls : l.reader.calls ≤ l.initial.reader.calls + l._turn;
  turns : capped (l.initial.reader.calls + l._turn) ≤ l.reader.calls;
  reader : l.reader.failed ≡ false;
  writer : l.writer.failed ≡ false;
  room : length l.piece ≡ 4096;
}
