use Rattle.std.proofs.Common.{◌≡◌, ◌-◌, arith}
use Rattle.nbd_protocol.specs.Exports.{export_records}
use Rattle.nbd_server.proofs.lemmas.ServiceReportLemmas.{service-as}
use Rattle.program_io.specs.Streams.{streams}
use Rattle.stack_commands.specs.ServiceLog.{end_text, session_text, start_text}
use Rattle.stack_commands.proofs.ServiceLogLemmas.{noted-all, unnoted}
use Rattle.stack_commands.proofs.nbd.serve_noted.Goals as goal

pub returns-then-quiet-clause-served : goal.returns-then-quiet-clause-served
returns-then-quiet-clause-served g c =
    let es = export_records c.args.exports.now in
    let old = streams (g.R.Read.remaining c.args.client.reader.now.inner) (g.W.Write.contents c.args.client.writer.now.inner) in
    let new = streams (g.R.Read.remaining c.serve.new.reader.inner) (g.W.Write.contents c.serve.new.writer.inner) in
    let journal = c.args.client.journal.now in
    let shows = g.J.Journal.shows journal in
    let text = session_text (g.J.Journal.priorities journal) es c.args.queue.now c.serve.new.queue c.serve.new.log c.serve.result in
    let warned = rw (c.config.ensures.value, c.stack.ensures) at c.note_unsigned.ensures in
    let noted = unnoted g.E.Write.contents c.args.queue.now.stack.config c.args.client.errors.now c.note_unsigned.new.errors c.args.client.quiet shows text in
    record { service = service-as es c.args.queue.now c.serve.new.queue old new c.serve.new.log _ _ c.serve.result (λ faults any. noted faults c.if-quiet.true warned) c.serve.ensures.service }

pub returns-clause-served : goal.returns-clause-served
returns-clause-served g c =
    let es = export_records c.args.exports.now in
    let begin = c.args.queue.now in
    let last = c.serve_logged-outcome.new.queue in
    let restored : c.restored_since-restored.result ≡ last.stack.restored - begin.stack.restored = omega (arith, c.restored_since-before.ensures, c.restored_since-restored.ensures) in
    let old = streams (g.R.Read.remaining c.args.client.reader.now.inner) (g.W.Write.contents c.args.client.writer.now.inner) in
    let new = streams (g.R.Read.remaining c.serve_logged-outcome.new.reader.inner) (g.W.Write.contents c.serve_logged-outcome.new.writer.inner) in
    let journal = c.args.client.journal.now in
    let priorities = g.J.Journal.priorities journal in
    let log = c.serve_logged-outcome.new.log in
    let result = c.serve_logged-outcome.result in
    let start = rw (c.config-2.ensures.value, c.stack-2.ensures) at c.note_start.ensures in
    let noted = noted-all
    g.E.Write.contents
    begin.stack.config
    (g.J.Journal.shows journal)
    priorities
    es
    c.args.client.errors.now
    c.note_start.new.errors
    c.serve_logged-outcome.new.output.0
    c.note_end.new.errors
    c.args.client.quiet
    (start_text begin.stack.config es)
    (end_text log.tally (last.stack.restored - begin.stack.restored) result) in
    record {
      service = service-as es begin last old new log _ _ result (λ faults reported. noted faults c.if-quiet.false start (rw restored at c.note_end.ensures) reported) c.serve_logged-outcome.ensures.service;
    }
