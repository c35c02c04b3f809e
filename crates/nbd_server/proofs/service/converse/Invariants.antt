use Rattle.std.proofs.Common.{◌≡◌, None, false}
use Rattle.program_io.specs.Streams.{streams}
use Rattle.nbd_protocol.specs.Exports.{AreExports, export_records}
use Rattle.nbd_protocol.specs.Streaming.{HasRead, HasWritten}
use Rattle.nbd_server.specs.FaultLines.{IsReporting}
use Rattle.nbd_server.specs.Premises.{IsExportPlaced}
use Rattle.nbd_server.proofs.ServiceLemmas.{BusyOr}
use Rattle.nbd_server.proofs.service.converse.Given as goal

-- each message so far was taken and replied to, no call failed, each reply was flushed, and each fault was reported
abbrev pub invariant-loop-turn : goal.invariant-loop-turn
invariant-loop-turn g l = record {
  held : BusyOr (export_records l.exports) l.fn.queue l.session.state.phase l.queue l.session.state.log
      (IsReporting g.E.Write.contents (g.J.Journal.shows l.fn.session.journal.now) (export_records l.exports) l.fn.session.faults l.session.faults l.fn.errors l.errors)
      (streams (g.R.Read.remaining l.fn.reader.inner) (g.W.Write.contents l.fn.writer.inner)) (streams (g.R.Read.remaining l.reader.inner) (g.W.Write.contents l.writer.inner));
  exports_are : AreExports l.queue.stack.config l.exports;
  placed : IsExportPlaced (export_records l.exports) l.session.state.phase;
  read : HasRead l._turn l.fn.reader l.reader None;
  written : HasWritten l.fn.writer l.writer None;
  flushed : l.writer.pending ≡ false;
  journal_is : l.session.journal ≡ l.fn.session.journal;
}
