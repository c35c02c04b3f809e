use Rattle.std.proofs.lemmas.Result.{err_from_is_err_and}
use Rattle.stack_session.proofs.FrontLemmas.{stopped-whole}
use Rattle.stack_session.proofs.lines.absorb.Goals as goal

pub returns-in_err-flush-clause-stopped : goal.returns-in_err-flush-clause-stopped
returns-in_err-flush-clause-stopped g c =
    let p = err_from_is_err_and c.from_residual-in_err-flush.result c.from_residual-in_err-flush.ensures.1 in
    rw (p.1, p.2) (stopped-whole (g.W.Write.contents c.flush.new.self.inner) c.in_ok-feed.ensures.ok.1)
