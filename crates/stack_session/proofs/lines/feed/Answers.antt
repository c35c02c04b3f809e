use Rattle.std.proofs.Common.{◌+◌, refl, ap, ◌∙◌, ◌∷◌, arith, length, length-append}
use Rattle.std.proofs.lemmas.Result.{err_from_is_err_and}
use Rattle.stack_session.proofs.FrontLemmas.{feeding_stops, feeding_full, stopped-keep}
use Rattle.stack_session.proofs.SessionLemmas.{feeding_starts, feeding_line, feeding_ends}
use Rattle.stack_session.proofs.lines.feed.Goals as goal

pub lines-init : goal.lines-init
lines-init g c = record {
  feeding = feeding_starts g.S.LineServer.replies c.args.server.now c.args.rest.now.items c.args.piece.now (g.W.Write.contents c.args.writer.now.inner) c.requires.line;
  room = omega arith;
  kept = refl;
}

pub lines-preserved : goal.lines-preserved
lines-preserved g c =
    let done = c.in_ok-end_line.ensures.ok in
    record {
      feeding = rw done.0 (feeding_line c.args.rest.now.items c.in-Some.line.now c.in-Some.after.now c.end_line.new.server (g.W.Write.contents c.end_line.new.writer.inner)
          c.in-Some.ensures.1 c.in-Some.ensures.0 done.1 c.lines.invariant.feeding);
      room = rw done.0 (omega (arith, length-append c.in-Some.line.now (10 ∷ c.in-Some.after.now), ap length c.in-Some.ensures.1, c.lines.invariant.room));
      kept = c.in_ok-end_line.ensures.writer.kept ∙ c.lines.invariant.kept;
    }

pub returns-clause-ok : goal.returns-clause-ok
returns-clause-ok g c =
    feeding_ends c.args.rest.now.items c.keep.new.rest.items (length c.args.rest.now.items + length c.args.piece.now) c.keep.result
    c.in_default.ensures c.lines.invariant.room c.lines.invariant.feeding c.keep.ensures.ok

pub returns-clause-stopped : goal.returns-clause-stopped
returns-clause-stopped g c = feeding_full c.args.rest.now.items c.keep.result c.keep.ensures.kind c.lines.invariant.feeding

pub returns-in_err-end_line-clause-stopped : goal.returns-in_err-end_line-clause-stopped
returns-in_err-end_line-clause-stopped g c =
    let p = err_from_is_err_and c.from_residual.result c.from_residual.ensures.1 in
    rw (p.1, p.2) (feeding_stops c.args.rest.now.items c.in-Some.line.now c.in-Some.after.now c.in_err-end_line.field-0.0 c.in-Some.ensures.1 refl c.lines.invariant.feeding c.in_err-end_line.ensures.stopped)

pub returns-clause-kinds : goal.returns-clause-kinds
returns-clause-kinds g c = stopped-keep (length c.lines.left.now) c.keep.result (omega (arith, c.lines.invariant.room, c.requires.room)) c.keep.ensures.kind c.keep.ensures.err
