use Rattle.std.proofs.Common.{◌≡◌, length}
use Rattle.stack_session.proofs.SectorTextLemmas.{Saying}
use Rattle.stack_session.proofs.reply.say_sectors.Given as goal

-- the sectors so far were written
abbrev pub invariant-sectors : goal.invariant-sectors
invariant-sectors g l = record {
  saying : Saying l.fn.first l.bytes l.number l.rest (g.W.Write.contents l.initial.writer.inner) (g.W.Write.contents l.writer.inner);
  kept : l.writer.failed ≡ l.initial.writer.failed;
}

abbrev pub decreases-sectors : goal.decreases-sectors
decreases-sectors g l = length l.rest
