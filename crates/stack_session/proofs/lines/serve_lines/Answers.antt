use Rattle.std.proofs.Common.{rules, ◌≡◌, ◌<◌, length, take, arith, ◌∙◌, subst}
use Rattle.std.specs.Io.KnownBytes.{Consumes}
use Rattle.std.proofs.KnownBytes.{Consumes-nil}
use Rattle.std.proofs.lemmas.Grind.{common_steps}
use Rattle.std.proofs.lemmas.Result.{err_from_is_err_and}
use Rattle.stack_session.specs.declared.fault.SessionFault.TheVariants.{TooLong, ReadFault, WriteFault, NoMemory}
use Rattle.program_io.specs.Streams.{streams}
use Rattle.program_io.proofs.lemmas.CountedLemmas.{Grows-kept, Keeps-refl}
use Rattle.stack_session.proofs.SessionLemmas.{same_error}
use Rattle.stack_session.proofs.IntakeLemmas.{intake_starts, intake_more, intake_kept, intake_ends, intake_too_long, intake_write_fault, intake_no_memory, intake_stuck, intake_unwritten, session-stuck, reply-grows}
use Rattle.stack_session.proofs.lines.serve_lines.Goals as goal
use Rattle.stack_session.proofs.lines.serve_lines.Goals.{in-Ok+in-Ok-absorb, in-Err+else-ne}

pub loop-turn-init : goal.loop-turn-init
loop-turn-init g c = record {
  intake = rw c.new-rest.ensures.items (intake_starts g.S.LineServer.replies c.args.server.now (streams (g.R.Read.remaining c.args.reader.now.inner) (g.W.Write.contents c.args.writer.now.inner)));
  small = rw c.new-rest.ensures.items (omega arith);
  calls = omega arith;
  turns = omega arith;
  reader = c.requires.reader;
  writer = c.requires.writer;
  room = search rules;
}

pub returns-in-Ok-eq0-clause-session : goal.returns-in-Ok-eq0-clause-session
returns-in-Ok-eq0-clause-session g c =
    let bytes = c.in-Ok-eq0.ensures.bytes in
    let zero : c.in-Ok-eq0.field-0 ≡ 0 = search rules in
    let none = subst (λ n. Consumes (g.R.Read.remaining c.loop-turn.reader.inner) (g.R.Read.remaining c.read.new.self.inner) (take n c.read.new.buffer)) zero bytes.0 in
    let room : 0 < length c.read.new.buffer = omega (arith, c.loop-turn.invariant.room, c.read.auto.buffer) in
    let flushed = intake_kept (streams (g.R.Read.remaining c.loop-turn.reader.inner) (g.W.Write.contents c.flush.new.self.inner))
    c.loop-turn.invariant.intake (Keeps-refl (g.R.Read.remaining c.loop-turn.reader.inner)) c.in_ok-flush.ensures.ok.0 in
    let replied = rw c.as_slice.ensures.value at (reply-grows c.in_ok-serve_line-in-Ok-eq0.ensures) in
    record {
      ok = intake_ends (streams (g.R.Read.remaining c.read.new.self.inner) (g.W.Write.contents c.flush-in-Ok-eq0.new.self.inner)) c.serve_line.new.self
          flushed none (bytes.1 zero room) (Grows-kept (g.W.Write.contents c.flush-in-Ok-eq0.new.self.inner) replied c.in_ok-flush-in-Ok-eq0.ensures.ok.0);
      too_long = λ is. (cc);
      read_fault = λ is. (cc);
      write_fault = λ is. (cc);
      no_memory = λ is. (cc);
    }

pub returns-in-Err-absorb-clause-session : goal.returns-in-Err-absorb-clause-session
returns-in-Err-absorb-clause-session g c =
    let new = streams (g.R.Read.remaining c.read.new.self.inner) (g.W.Write.contents c.absorb.new.writer.inner) in
    let flushed = intake_kept (streams (g.R.Read.remaining c.loop-turn.reader.inner) (g.W.Write.contents c.flush.new.self.inner))
    c.loop-turn.invariant.intake (Keeps-refl (g.R.Read.remaining c.loop-turn.reader.inner)) c.in_ok-flush.ensures.ok.0 in
    record {
      ok = tt;
      too_long = λ is.
          let seen = c.in-Err-absorb.ensures.too_long (same_error c.in-Err-absorb.fault TooLong is) in
          intake_too_long new c.absorb.new.server c.absorb.new.rest.items (take c.in-Ok.n c.read.new.buffer)
          flushed c.in-Ok.ensures.bytes.0 seen.0 seen.1.1;
      read_fault = λ is. absurd (c.in-Err-absorb.ensures.writer.1 (same_error c.in-Err-absorb.fault ReadFault is));
      write_fault = λ is.
          intake_write_fault new c.absorb.new.server (take c.in-Ok.n c.read.new.buffer) flushed c.in-Ok.ensures.bytes.0 c.in-Err-absorb.ensures.stopped (same_error c.in-Err-absorb.fault WriteFault is);
      no_memory = λ is.
          intake_no_memory new c.absorb.new.server (take c.in-Ok.n c.read.new.buffer) flushed c.in-Ok.ensures.bytes.0 c.in-Err-absorb.ensures.stopped (same_error c.in-Err-absorb.fault NoMemory is);
    }

-- ---- the writer failed

pub returns-in_err-flush-clause-session : goal.returns-in_err-flush-clause-session
returns-in_err-flush-clause-session g c =
    let input = g.R.Read.remaining c.loop-turn.reader.inner in
    let p = err_from_is_err_and c.from_residual.result c.from_residual.ensures.1 in
    rw (p.1, p.2) (session-stuck (intake_stuck (streams input (g.W.Write.contents c.flush.new.self.inner)) c.loop-turn.invariant.intake (Consumes-nil input)))

pub returns-in_err-flush-2-clause-session : goal.returns-in_err-flush-2-clause-session
returns-in_err-flush-2-clause-session g c =
    let input = g.R.Read.remaining c.loop-turn.reader.inner in
    let p = err_from_is_err_and c.from_residual-in_err-flush-2.result c.from_residual-in_err-flush-2.ensures.1 in
    rw (p.1, p.2) (session-stuck (intake_stuck (streams input (g.W.Write.contents c.flush-2.new.self.inner)) c.loop-turn.invariant.intake (Consumes-nil input)))

pub returns-in_err-serve_line-in-Ok-eq0-clause-session : goal.returns-in_err-serve_line-in-Ok-eq0-clause-session
returns-in_err-serve_line-in-Ok-eq0-clause-session g c =
    let zero : c.in-Ok-eq0.field-0 ≡ 0 = search rules in
    let none = subst (λ n. Consumes (g.R.Read.remaining c.loop-turn.reader.inner) (g.R.Read.remaining c.read.new.self.inner) (take n c.read.new.buffer)) zero c.in-Ok-eq0.ensures.bytes.0 in
    let p = err_from_is_err_and c.from_residual-in_err-serve_line-in-Ok-eq0.result c.from_residual-in_err-serve_line-in-Ok-eq0.ensures.1 in
    rw (p.1, p.2) (session-stuck (intake_unwritten (streams (g.R.Read.remaining c.read.new.self.inner) (g.W.Write.contents c.serve_line.new.writer.inner)) c.serve_line.new.self c.serve_line.ensures.reply
    c.loop-turn.invariant.intake none (rw c.as_slice.ensures.value at c.serve_line.ensures.holds)))

pub returns-in_err-flush-in-Ok-eq0-clause-session : goal.returns-in_err-flush-in-Ok-eq0-clause-session
returns-in_err-flush-in-Ok-eq0-clause-session g c =
    let zero : c.in-Ok-eq0.field-0 ≡ 0 = search rules in
    let none = subst (λ n. Consumes (g.R.Read.remaining c.loop-turn.reader.inner) (g.R.Read.remaining c.read.new.self.inner) (take n c.read.new.buffer)) zero c.in-Ok-eq0.ensures.bytes.0 in
    let p = err_from_is_err_and c.from_residual-in_err-flush-in-Ok-eq0.result c.from_residual-in_err-flush-in-Ok-eq0.ensures.1 in
    rw (p.1, p.2) (session-stuck (intake_unwritten (streams (g.R.Read.remaining c.read.new.self.inner) (g.W.Write.contents c.flush-in-Ok-eq0.new.self.inner)) c.serve_line.new.self c.serve_line.ensures.reply
    c.loop-turn.invariant.intake none (rw c.as_slice.ensures.value at c.serve_line.ensures.holds)))

-- ---- the next turn

pub loop-turn-preserved : goal.loop-turn-preserved
loop-turn-preserved g c =
    let flushed = intake_kept (streams (g.R.Read.remaining c.loop-turn.reader.inner) (g.W.Write.contents c.flush.new.self.inner))
    c.loop-turn.invariant.intake (Keeps-refl (g.R.Read.remaining c.loop-turn.reader.inner)) c.in_ok-flush.ensures.ok.0 in
    elim c.match-read.branch [
      | in-Ok+in-Ok-absorb w ↦ (let seen = w.in-Ok-absorb.ensures in let e = w.in-Ok.ensures in
          record {
            intake = rw (w.writer-is, w.server-is, w.rest-is, w.left-is) (intake_more (streams (g.R.Read.remaining c.read.new.self.inner) (g.W.Write.contents w.absorb.new.writer.inner)) w.in-Ok-absorb.after w.absorb.new.server w.absorb.new.rest.items (take w.in-Ok.n c.read.new.buffer)
                flushed e.bytes.0 seen.ok.0.0 seen.ok.1);
            small = rw (w.rest-is, w.left-is) seen.ok.0.1;
            calls = omega (arith, c.loop-turn.invariant.calls, c.read.ensures.calls);
            turns = omega (arith, c.loop-turn.invariant.turns, c.read.ensures.calls);
            reader = e.failed.ok ∙ c.loop-turn.invariant.reader;
            writer = rw w.writer-is (seen.writer.0.kept ∙ c.in_ok-flush.ensures.kept ∙ c.loop-turn.invariant.writer);
            room = omega (arith, c.loop-turn.invariant.room, c.read.auto.buffer);
          })
      | in-Err+else-ne w ↦ (let e = w.in-Err.ensures in record {
        intake = rw (w.writer-is, w.server-is, w.rest-is, w.left-is) (intake_kept (streams (g.R.Read.remaining c.read.new.self.inner) (g.W.Write.contents c.flush.new.self.inner))
            c.loop-turn.invariant.intake e.bytes c.in_ok-flush.ensures.ok.0);
        small = rw (w.rest-is, w.left-is) c.loop-turn.invariant.small;
        calls = omega (arith, c.loop-turn.invariant.calls, c.read.ensures.calls);
        turns = omega (arith, c.loop-turn.invariant.turns, c.read.ensures.calls);
        reader = e.failed.interrupted (grind (arith, common_steps)) ∙ c.loop-turn.invariant.reader;
        writer = rw w.writer-is (c.in_ok-flush.ensures.kept ∙ c.loop-turn.invariant.writer);
        room = omega (arith, c.loop-turn.invariant.room, c.read.auto.buffer);
      })
    ]
