use Rattle.nbd_protocol.specs.Exports.{export_records}
use Rattle.program_io.specs.Streams.{streams}
use Rattle.nbd_server.specs.FaultLines.{AnyFaults}
use Rattle.nbd_server.proofs.lemmas.ServiceReportLemmas.{service-as}
use Rattle.nbd_server.proofs.service.serve.Goals as goal

pub returns-clause-service : goal.returns-clause-service
returns-clause-service g c =
    let old = streams (g.R.Read.remaining c.args.reader.now.inner) (g.W.Write.contents c.args.writer.now.inner) in
    let new = streams (g.R.Read.remaining c.converse-outcome.new.reader.inner) (g.W.Write.contents c.converse-outcome.new.writer.inner) in
    rw c.swap.ensures.x_after
    (service-as (export_records c.args.exports.now) c.args.queue.now c.converse-outcome.new.queue old new c.converse-outcome.new.session.state.log _ AnyFaults c.converse-outcome.result (λ faults reported. tt) c.converse-outcome.ensures.service)
