use Rattle.nbd_protocol.specs.Exports.{export_records}
use Rattle.program_io.specs.Streams.{streams}
use Rattle.nbd_server.proofs.ReportLemmas.{reported-all}
use Rattle.nbd_server.proofs.lemmas.ServiceReportLemmas.{service-as}
use Rattle.nbd_server.proofs.service.serve_logged.Goals as goal

pub returns-clause-service : goal.returns-clause-service
returns-clause-service g c =
    let es = export_records c.args.exports.now in
    let old = streams (g.R.Read.remaining c.args.reader.now.inner) (g.W.Write.contents c.args.writer.now.inner) in
    let new = streams (g.R.Read.remaining c.converse-outcome.new.reader.inner) (g.W.Write.contents c.converse-outcome.new.writer.inner) in
    let journal = c.args.output.journal.now in
    let faults = c.converse-outcome.new.session.faults in
    let served = rw (c.new-session.ensures.faults, c.new-session.ensures.journal) at c.converse-outcome.ensures.service in
    let all = reported-all g.E.Write.contents (g.J.Journal.shows journal) es (g.J.Journal.priorities journal) faults c.args.output.errors.now c.converse-outcome.new.errors c.tell_more.new.errors in
    rw c.swap.ensures.x_after
    (service-as es c.args.queue.now c.converse-outcome.new.queue old new c.converse-outcome.new.session.state.log _ _ c.converse-outcome.result (λ met reported. all met reported c.tell_more.ensures) served)
