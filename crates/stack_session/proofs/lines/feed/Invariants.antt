use Rattle.std.proofs.Common.{◌≡◌, ◌+◌, ◌≤◌, ◌++◌, length}
use Rattle.program_io.specs.Counted.{Grows}
use Rattle.stack_session.specs.Session.{ServesWhole}
use Rattle.stack_session.proofs.SessionLemmas.{Feeding}
use Rattle.stack_session.proofs.lines.feed.Given as goal

-- the lines of the piece so far were served
abbrev pub invariant-lines : goal.invariant-lines
invariant-lines g l = record {
  feeding : Feeding l.piece l.left (λ done. Grows (g.W.Write.contents l.initial.writer.inner) (g.W.Write.contents l.writer.inner)
      (ServesWhole g.S.LineServer.replies l.fn.server (l.initial.rest.items ++ done) l.server l.rest.items));
  room : length l.rest.items + length l.left ≤ length l.initial.rest.items + length l.piece;
  kept : l.writer.failed ≡ l.initial.writer.failed;
}

abbrev pub decreases-lines : goal.decreases-lines
decreases-lines g l = length l.left
