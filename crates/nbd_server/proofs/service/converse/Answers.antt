use Rattle.std.proofs.Common.{◌∙◌, arith, refl, subst, sym}
use Rattle.std.specs.Borrow.{Bor}
use Rattle.std.proofs.lemmas.Result.{err_from_is_err_and}
use Rattle.program_io.specs.Streams.{streams}
use Rattle.nbd_protocol.specs.declared.fault.ServiceFault.TheVariants as fault
use Rattle.nbd_protocol.specs.declared.phase.Phase.{Phase}
use Rattle.nbd_protocol.specs.Exports.{export_records}
use Rattle.nbd_protocol.proofs.lemmas.CountedLemmas.{read-none, read-then, read-fewer, read-over, read-other, written-ok, written-other, written-then, written-failed}
use Rattle.nbd_server.specs.FaultLines.{IsReporting, TellsMet, served_fault}
use Rattle.nbd_server.specs.Premises.{IsExportPlaced}
use Rattle.nbd_server.specs.declared.fault_log.FaultLog.{FaultLog}
use Rattle.program_io.specs.Counted.{CountedRecord}
use Rattle.nbd_server.proofs.ReportLemmas.{reporting-more, reporting-none, reporting-same}
use Rattle.nbd_server.proofs.ServiceLemmas.{BusyOr, held-as, held-starts, held-kept, held-more, held-none, held-ends, held-over, held-stops, held-unsaid, exports-kept, placed-next}
use Rattle.nbd_server.proofs.service.converse.Goals as goal

-- ---- the greeting

pub loop-turn-init : goal.loop-turn-init
loop-turn-init g c =
    let es = export_records c.args.exports.now in
    let input = g.R.Read.remaining c.args.reader.now.inner in
    let old = streams input (g.W.Write.contents c.args.writer.now.inner) in
    let new = streams input (g.W.Write.contents c.flush.new.self.inner) in
    let Reports = IsReporting g.E.Write.contents (g.J.Journal.shows c.args.session.now.journal.now) es c.args.session.now.faults c.args.session.now.faults c.args.errors.now c.args.errors.now in
    let first = held-starts es c.args.queue.now c.args.session.now.state.log Reports input (g.W.Write.contents c.args.writer.now.inner) (g.W.Write.contents c.put.new.self.inner) c.requires.log
    (reporting-none g.E.Write.contents (g.J.Journal.shows c.args.session.now.journal.now) es c.args.session.now.faults c.args.errors.now) c.in_ok-put.ensures.writes.ok in
    record {
      held = subst (λ (p : Phase). BusyOr es c.args.queue.now p c.args.queue.now c.args.session.now.state.log Reports old new) (sym c.requires.phase)
          (held-kept {old = old} Reports input (g.W.Write.contents c.put.new.self.inner) (g.W.Write.contents c.flush.new.self.inner) first c.in_ok-flush.ensures.ok.0);
      exports_are = c.requires.exports;
      placed = subst (IsExportPlaced es) (sym c.requires.phase) tt;
      read = read-none c.args.reader.now;
      written = written-ok (c.in_ok-flush.ensures.kept ∙ c.in_ok-put.ensures.writes.kept);
      flushed = c.in_ok-flush.ensures.ok.1;
      journal_is = refl;
    }

pub returns-in_err-put-clause-service : goal.returns-in_err-put-clause-service
returns-in_err-put-clause-service g c =
    let p = err_from_is_err_and c.from_residual.result c.from_residual.ensures.1 in
    rw (p.1, p.2) (held-unsaid (export_records c.args.exports.now) c.args.queue.now c.args.session.now.state.log
    (IsReporting g.E.Write.contents (g.J.Journal.shows c.args.session.now.journal.now) (export_records c.args.exports.now) c.args.session.now.faults c.args.session.now.faults c.args.errors.now c.args.errors.now)
    (g.R.Read.remaining c.args.reader.now.inner) (g.W.Write.contents c.args.writer.now.inner) (g.W.Write.contents c.put.new.self.inner) c.requires.log
    (reporting-none g.E.Write.contents (g.J.Journal.shows c.args.session.now.journal.now) (export_records c.args.exports.now) c.args.session.now.faults c.args.errors.now))

pub returns-in_err-put-clause-reader : goal.returns-in_err-put-clause-reader
returns-in_err-put-clause-reader g c =
    let p = err_from_is_err_and c.from_residual.result c.from_residual.ensures.1 in
    rw (p.1, p.2) (read-other fault.WriteFault (read-none c.args.reader.now) (λ is. (cc)))

pub returns-in_err-put-clause-writer : goal.returns-in_err-put-clause-writer
returns-in_err-put-clause-writer g c =
    let p = err_from_is_err_and c.from_residual.result c.from_residual.ensures.1 in
    rw (p.1, p.2) (written-failed c.in_err-put.ensures.writes.failed)

pub returns-in_err-flush-clause-service : goal.returns-in_err-flush-clause-service
returns-in_err-flush-clause-service g c =
    let p = err_from_is_err_and c.from_residual-in_err-flush.result c.from_residual-in_err-flush.ensures.1 in
    rw (p.1, p.2) (held-unsaid (export_records c.args.exports.now) c.args.queue.now c.args.session.now.state.log
    (IsReporting g.E.Write.contents (g.J.Journal.shows c.args.session.now.journal.now) (export_records c.args.exports.now) c.args.session.now.faults c.args.session.now.faults c.args.errors.now c.args.errors.now)
    (g.R.Read.remaining c.args.reader.now.inner) (g.W.Write.contents c.args.writer.now.inner) (g.W.Write.contents c.flush.new.self.inner) c.requires.log
    (reporting-none g.E.Write.contents (g.J.Journal.shows c.args.session.now.journal.now) (export_records c.args.exports.now) c.args.session.now.faults c.args.errors.now))

pub returns-in_err-flush-clause-reader : goal.returns-in_err-flush-clause-reader
returns-in_err-flush-clause-reader g c =
    let p = err_from_is_err_and c.from_residual-in_err-flush.result c.from_residual-in_err-flush.ensures.1 in
    rw (p.1, p.2) (read-other fault.WriteFault (read-none c.args.reader.now) (λ is. (cc)))

pub returns-in_err-flush-clause-writer : goal.returns-in_err-flush-clause-writer
returns-in_err-flush-clause-writer g c =
    let p = err_from_is_err_and c.from_residual-in_err-flush.result c.from_residual-in_err-flush.ensures.1 in
    rw (p.1, p.2) (written-failed c.in_err-flush.ensures.failed)

-- ---- a message

pub loop-turn-preserved : goal.loop-turn-preserved
loop-turn-preserved g c =
    let es = export_records c.args.exports.now in
    let old = streams (g.R.Read.remaining c.loop-turn.reader.inner) (g.W.Write.contents c.loop-turn.writer.inner) in
    let new = streams (g.R.Read.remaining c.take_turn.new.reader.inner) (g.W.Write.contents c.take_turn.new.writer.inner) in
    let taken = rw c.in-Some.is at c.in_ok-next-in_default.ensures.turn in
    let begin = c.args.session.now in
    let mid = c.loop-turn.session in
    let last = c.take_turn.new.session in
    let printed = rw c.in-Some.is at c.in_ok-next-in_default.ensures.printed in
    let told = subst (λ (j : Bor _). TellsMet g.E.Write.contents (g.J.Journal.shows j.now) es mid.faults last.faults c.loop-turn.errors c.take_turn.new.errors (served_fault mid.state.phase c.in-Some.next last.state.log)) c.loop-turn.invariant.journal_is printed.0 in
    let reports = reporting-more g.E.Write.contents (g.J.Journal.shows begin.journal.now) es begin.faults mid.faults last.faults c.args.errors.now c.loop-turn.errors c.take_turn.new.errors
    mid.state.phase c.in-Some.next c.loop-turn.queue c.take_turn.new.queue mid.state.log last.state.log old new taken told in
    let Reporting = λ (l : FaultLog) (at : CountedRecord g.row.E.Denot). IsReporting g.E.Write.contents (g.J.Journal.shows begin.journal.now) es begin.faults l c.args.errors.now at in
    record {
      held = held-more (Reporting mid.faults c.loop-turn.errors) (Reporting last.faults c.take_turn.new.errors) c.in-Some.next c.take_turn.new.queue last.state.log new c.loop-turn.invariant.held taken reports;
      exports_are = exports-kept c.args.exports.now c.loop-turn.session.state.phase c.loop-turn.queue c.take_turn.new.queue c.loop-turn.session.state.log c.take_turn.new.session.state.log old new c.in-Some.next c.loop-turn.invariant.exports_are taken;
      placed = placed-next es c.loop-turn.session.state.phase c.loop-turn.queue c.take_turn.new.queue c.loop-turn.session.state.log c.take_turn.new.session.state.log old new c.in-Some.next c.loop-turn.invariant.placed taken;
      read = read-then c.loop-turn.invariant.read c.in_ok-next-in_default.ensures.reader;
      written = written-then c.loop-turn.invariant.written c.in_ok-next-in_default.ensures.writer;
      flushed = c.in_ok-next-in_default.ensures.flushed;
      journal_is = printed.1 ∙ c.loop-turn.invariant.journal_is;
    }

pub returns-in_err-next-in_default-clause-service : goal.returns-in_err-next-in_default-clause-service
returns-in_err-next-in_default-clause-service g c =
    let p = err_from_is_err_and c.from_residual-in_err-next-in_default.result c.from_residual-in_err-next-in_default.ensures.1 in
    let begin = c.args.session.now in
    let same = reporting-same g.E.Write.contents (g.J.Journal.shows begin.journal.now) (export_records c.args.exports.now) begin.faults c.loop-turn.session.faults c.take_turn.new.session.faults c.args.errors.now c.loop-turn.errors c.take_turn.new.errors in
    let Reporting = λ (l : FaultLog) (at : CountedRecord g.row.E.Denot). IsReporting g.E.Write.contents (g.J.Journal.shows begin.journal.now) (export_records c.args.exports.now) begin.faults l c.args.errors.now at in
    let held = held-as (Reporting c.loop-turn.session.faults c.loop-turn.errors) (Reporting c.take_turn.new.session.faults c.take_turn.new.errors) c.loop-turn.invariant.held (λ faults reported. same faults reported c.in_err-next-in_default.ensures.printed.0) in
    rw (p.1, p.2) (held-ends c.take_turn.new.queue c.take_turn.new.session.state.log (streams (g.R.Read.remaining c.take_turn.new.reader.inner) (g.W.Write.contents c.take_turn.new.writer.inner)) c.in_err-next-in_default.field-0.0 held
    c.in_err-next-in_default.ensures.turn)

pub returns-in_err-next-in_default-clause-reader : goal.returns-in_err-next-in_default-clause-reader
returns-in_err-next-in_default-clause-reader g c =
    let p = err_from_is_err_and c.from_residual-in_err-next-in_default.result c.from_residual-in_err-next-in_default.ensures.1 in
    rw (p.1, p.2) (read-fewer 0 (read-then c.loop-turn.invariant.read c.in_err-next-in_default.ensures.reader) (omega arith))

pub returns-in_err-next-in_default-clause-writer : goal.returns-in_err-next-in_default-clause-writer
returns-in_err-next-in_default-clause-writer g c =
    let p = err_from_is_err_and c.from_residual-in_err-next-in_default.result c.from_residual-in_err-next-in_default.ensures.1 in
    rw (p.1, p.2) (written-then c.loop-turn.invariant.written c.in_err-next-in_default.ensures.writer)

-- ---- no further message

pub returns-in-None-clause-service : goal.returns-in-None-clause-service
returns-in-None-clause-service g c =
    let begin = c.args.session.now in
    let same = reporting-same g.E.Write.contents (g.J.Journal.shows begin.journal.now) (export_records c.args.exports.now) begin.faults c.loop-turn.session.faults c.take_turn.new.session.faults c.args.errors.now c.loop-turn.errors c.take_turn.new.errors in
    let printed = rw c.in-None.is at c.in_ok-next-in_default.ensures.printed in
    let Reporting = λ (l : FaultLog) (at : CountedRecord g.row.E.Denot). IsReporting g.E.Write.contents (g.J.Journal.shows begin.journal.now) (export_records c.args.exports.now) begin.faults l c.args.errors.now at in
    let held = held-as (Reporting c.loop-turn.session.faults c.loop-turn.errors) (Reporting c.take_turn.new.session.faults c.take_turn.new.errors) c.loop-turn.invariant.held (λ faults reported. same faults reported printed.0) in
    held-none c.take_turn.new.queue c.take_turn.new.session.state.log (streams (g.R.Read.remaining c.take_turn.new.reader.inner) (g.W.Write.contents c.take_turn.new.writer.inner)) c.in_default.not-Over held
    (rw c.in-None.is at c.in_ok-next-in_default.ensures.turn)

pub returns-in-None-clause-reader : goal.returns-in-None-clause-reader
returns-in-None-clause-reader g c = read-fewer 0 (read-then c.loop-turn.invariant.read c.in_ok-next-in_default.ensures.reader) (omega arith)

pub returns-in-None-clause-writer : goal.returns-in-None-clause-writer
returns-in-None-clause-writer g c = written-then c.loop-turn.invariant.written c.in_ok-next-in_default.ensures.writer

-- ---- the end

pub returns-in-Over-clause-service : goal.returns-in-Over-clause-service
returns-in-Over-clause-service g c = held-over c.loop-turn.invariant.held c.in-Over.is

pub returns-in-Over-clause-reader : goal.returns-in-Over-clause-reader
returns-in-Over-clause-reader g c = read-fewer 0 c.loop-turn.invariant.read (omega arith)

pub returns-in-Over-clause-writer : goal.returns-in-Over-clause-writer
returns-in-Over-clause-writer g c = c.loop-turn.invariant.written

pub returns-clause-service : goal.returns-clause-service
returns-clause-service g c = held-stops (streams (g.R.Read.remaining c.loop-turn.reader.inner) (g.W.Write.contents c.loop-turn.writer.inner)) c.loop-turn.invariant.held

pub returns-clause-reader : goal.returns-clause-reader
returns-clause-reader g c = read-fewer 0 (read-over c.loop-turn.invariant.read (omega arith)) (omega arith)

pub returns-clause-writer : goal.returns-clause-writer
returns-clause-writer g c = written-other fault.ReadFault c.loop-turn.invariant.written (λ is. (cc))
