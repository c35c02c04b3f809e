use Rattle.std.proofs.Common.{◌∙◌, None, Ok, Err, ap, subst, sym}
use Rattle.std.proofs.lemmas.Result.{err_from_is_err_and}
use Rattle.nbd_protocol.specs.Exports.{IsExport, export_records}
use Rattle.nbd_protocol.proofs.lemmas.ExportLemmas.{exports-short, placed-export, placed-inside}
use Rattle.nbd_protocol.specs.declared.fault.ServiceFault.TheVariants as fault
use Rattle.program_io.specs.Counted.{CountedRecord}
use Rattle.program_io.specs.Streams.{streams}
use Rattle.nbd_server.specs.Premises.{IsExportPlaced}
use Rattle.nbd_protocol.specs.Streaming.{result_fault}
use Rattle.nbd_protocol.proofs.lemmas.CountedLemmas.{of-fault, read-other, written-failed, written-ok, written-same, written-then}
use Rattle.nbd_server.proofs.FlushLemmas.{option-flushed, option-unflushed}
use Rattle.nbd_server.proofs.MessageLemmas.{flags-uncounted, option-uncounted}
use Rattle.nbd_server.proofs.service.take_message.Goals as goal

pub returns-in-Greeted-clause-turn : goal.returns-in-Greeted-clause-turn
returns-in-Greeted-clause-turn g c =
    let es = export_records c.args.exports.now in
    let output = g.W.Write.contents c.args.writer.now.inner in
    rw c.in-Greeted.is (flags-uncounted es c.args.queue.now c.args.queue.now c.args.state.now.log (streams (g.R.Read.remaining c.args.reader.now.inner) output) (streams (g.R.Read.remaining c.take_flags.new.reader.inner) output) c.take_flags.result
    (c.take_flags.ensures.turn es c.args.queue.now output))

pub returns-in-Greeted-clause-writer : goal.returns-in-Greeted-clause-writer
returns-in-Greeted-clause-writer g c = written-same c.args.writer.now (result_fault c.take_flags.result) (λ is. c.take_flags.ensures.other (of-fault c.take_flags.result _ is))

-- ---- an option

pub returns-in_err-next-in-Haggling-clause-turn : goal.returns-in_err-next-in-Haggling-clause-turn
returns-in_err-next-in-Haggling-clause-turn g c =
    let old = streams (g.R.Read.remaining c.args.reader.now.inner) (g.W.Write.contents c.args.writer.now.inner) in
    let new = streams (g.R.Read.remaining c.take_option.new.reader.inner) (g.W.Write.contents c.take_option.new.writer.inner) in
    let p = err_from_is_err_and c.from_residual.result c.from_residual.ensures.1 in
    rw (c.in-Haggling.is, p.1, p.2) (option-uncounted (export_records c.args.exports.now) c.in-Haggling.terms c.args.queue.now c.args.queue.now c.args.state.now.log old new (Err c.in_err-next-in-Haggling.field-0.0) (c.in_err-next-in-Haggling.ensures.turn c.args.queue.now))

pub returns-in-None-clause-turn : goal.returns-in-None-clause-turn
returns-in-None-clause-turn g c =
    let old = streams (g.R.Read.remaining c.args.reader.now.inner) (g.W.Write.contents c.args.writer.now.inner) in
    let new = streams (g.R.Read.remaining c.take_option.new.reader.inner) (g.W.Write.contents c.take_option.new.writer.inner) in
    option-uncounted (export_records c.args.exports.now) c.in-Haggling.terms c.args.queue.now c.args.queue.now c.args.state.now.log old new (Ok None) (rw c.in-None.is at (c.in_ok-next-in-Haggling.ensures.turn c.args.queue.now))

pub returns-in_ok-flush-in-Some-clause-turn : goal.returns-in_ok-flush-in-Some-clause-turn
returns-in_ok-flush-in-Some-clause-turn g c =
    let old = streams (g.R.Read.remaining c.args.reader.now.inner) (g.W.Write.contents c.args.writer.now.inner) in
    rw c.in-Haggling.is (option-flushed (export_records c.args.exports.now) c.in-Haggling.terms c.args.queue.now c.args.state.now.log old (g.R.Read.remaining c.take_option.new.reader.inner) (g.W.Write.contents c.take_option.new.writer.inner) (g.W.Write.contents c.flush.new.self.inner) c.in-Some.next
    (rw c.in-Some.is at (c.in_ok-next-in-Haggling.ensures.turn c.args.queue.now)) c.in_ok-flush-in-Some.ensures.ok.0)

pub returns-in_err-flush-in-Some-clause-turn : goal.returns-in_err-flush-in-Some-clause-turn
returns-in_err-flush-in-Some-clause-turn g c =
    let old = streams (g.R.Read.remaining c.args.reader.now.inner) (g.W.Write.contents c.args.writer.now.inner) in
    let p = err_from_is_err_and c.from_residual-in_err-flush-in-Some.result c.from_residual-in_err-flush-in-Some.ensures.1 in
    rw (c.in-Haggling.is, p.1, p.2) (option-unflushed (export_records c.args.exports.now) c.in-Haggling.terms c.args.queue.now c.args.state.now.log old (g.R.Read.remaining c.take_option.new.reader.inner) (g.W.Write.contents c.take_option.new.writer.inner) (g.W.Write.contents c.flush.new.self.inner) c.in-Some.next
    (rw c.in-Some.is at (c.in_ok-next-in-Haggling.ensures.turn c.args.queue.now)))

pub returns-in_err-next-in-Haggling-clause-reader : goal.returns-in_err-next-in-Haggling-clause-reader
returns-in_err-next-in-Haggling-clause-reader g c =
    let p = err_from_is_err_and c.from_residual.result c.from_residual.ensures.1 in
    rw (p.1, p.2) c.in_err-next-in-Haggling.ensures.reader

pub returns-in_err-next-in-Haggling-clause-writer : goal.returns-in_err-next-in-Haggling-clause-writer
returns-in_err-next-in-Haggling-clause-writer g c =
    let p = err_from_is_err_and c.from_residual.result c.from_residual.ensures.1 in
    rw (p.1, p.2) c.in_err-next-in-Haggling.ensures.writer

pub returns-in_err-flush-in-Some-clause-reader : goal.returns-in_err-flush-in-Some-clause-reader
returns-in_err-flush-in-Some-clause-reader g c =
    let p = err_from_is_err_and c.from_residual-in_err-flush-in-Some.result c.from_residual-in_err-flush-in-Some.ensures.1 in
    rw (p.1, p.2) (read-other fault.WriteFault c.in_ok-next-in-Haggling.ensures.reader (λ is. (cc)))

pub returns-in_err-flush-in-Some-clause-writer : goal.returns-in_err-flush-in-Some-clause-writer
returns-in_err-flush-in-Some-clause-writer g c =
    let p = err_from_is_err_and c.from_residual-in_err-flush-in-Some.result c.from_residual-in_err-flush-in-Some.ensures.1 in
    rw (p.1, p.2) (written-failed c.in_err-flush-in-Some.ensures.failed)

pub returns-in_ok-flush-in-Some-clause-writer : goal.returns-in_ok-flush-in-Some-clause-writer
returns-in_ok-flush-in-Some-clause-writer g c = written-then c.in_ok-next-in-Haggling.ensures.writer (written-ok c.in_ok-flush-in-Some.ensures.kept)

pub returns-in_ok-flush-in-Some-clause-flushed : goal.returns-in_ok-flush-in-Some-clause-flushed
returns-in_ok-flush-in-Some-clause-flushed g c = c.in_ok-flush-in-Some.ensures.ok.1

pub returns-in-None-clause-flushed : goal.returns-in-None-clause-flushed
returns-in-None-clause-flushed g c =
    let same = rw c.in-None.is at c.in_ok-next-in-Haggling.ensures.silent in
    ap (λ (w : CountedRecord _). w.pending) same ∙ c.requires.flushed

pub take_option-requires : goal.take_option-requires
take_option-requires g c = exports-short c.args.queue.now.stack.config c.args.exports.now c.requires.going.exports_are

pub export_at-export-requires : goal.export_at-export-requires
export_at-export-requires g c = placed-inside c.args.exports.now c.in-Serving.agreed.place (subst (IsExportPlaced (export_records c.args.exports.now)) c.in-Serving.is c.requires.going.placed)

pub take_request-requires-clause-export : goal.take_request-requires-clause-export
take_request-requires-clause-export g c =
    let config = c.args.queue.now.stack.config in
    let exports = c.args.exports.now in
    subst (IsExport config) (sym c.export_at-export.ensures) (placed-export config exports c.in-Serving.agreed.place c.requires.going.exports_are (subst (IsExportPlaced (export_records exports)) c.in-Serving.is c.requires.going.placed))

pub returns-in-Serving-clause-turn : goal.returns-in-Serving-clause-turn
returns-in-Serving-clause-turn g c = rw c.in-Serving.is (c.take_request.ensures.turn (export_records c.args.exports.now) (sym c.export_at-export.ensures))
