use Rattle.program_io.specs.Streams.{streams}
use Rattle.stack_session.proofs.SteppingLemmas.{queue-session}
use Rattle.stack_session.proofs.server.session.Goals as goal

pub returns-clause-session : goal.returns-clause-session
returns-clause-session g c =
    queue-session c.args.queue.now c.serve_lines.new.server
    (streams (g.R.Read.remaining c.args.reader.now.inner) (g.W.Write.contents c.args.writer.now.inner))
    (streams (g.R.Read.remaining c.serve_lines.new.reader.inner) (g.W.Write.contents c.serve_lines.new.writer.inner)) c.serve_lines.result c.serve_lines.ensures.session
