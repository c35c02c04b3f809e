use Rattle.std.proofs.Common.{refl, ◌∙◌, arith}
use Rattle.stack_session.proofs.SectorTextLemmas.{saying_starts, saying_more}
use Rattle.stack_session.proofs.reply.say_sectors.Goals as goal

pub sectors-init : goal.sectors-init
sectors-init g c = record {
  saying = rw c.from-number.ensures (saying_starts c.args.first c.args.bytes.now (g.W.Write.contents c.args.writer.now.inner));
  kept = refl;
}

pub sectors-preserved : goal.sectors-preserved
sectors-preserved g c = record {
  saying = rw c.split_at.ensures.back (saying_more (g.W.Write.contents c.say_sector.new.writer.inner) c.sectors.invariant.saying (grind (arith, c.sectors-test.true))
      (rw c.split_at.ensures.front at c.in_ok-say_sector.ensures.ok));
  kept = c.in_ok-say_sector.ensures.kept ∙ c.sectors.invariant.kept;
}
