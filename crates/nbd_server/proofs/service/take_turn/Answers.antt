use Rattle.std.proofs.Common.{refl}
use Rattle.std.proofs.lemmas.Result.{err_from_is_err_and}
use Rattle.nbd_server.proofs.service.take_turn.Goals as goal

pub returns-clause-printed : goal.returns-clause-printed
returns-clause-printed g c = (rw c.turn_fault-met.ensures at c.tell_met.ensures, refl)

-- ---- the message isn't handled

pub returns-in_err-next-clause-turn : goal.returns-in_err-next-clause-turn
returns-in_err-next-clause-turn g c =
    let p = err_from_is_err_and c.from_residual.result c.from_residual.ensures.1 in
    rw (p.1, p.2) c.in_err-next.ensures.turn

pub returns-in_err-next-clause-reader : goal.returns-in_err-next-clause-reader
returns-in_err-next-clause-reader g c =
    let p = err_from_is_err_and c.from_residual.result c.from_residual.ensures.1 in
    rw (p.1, p.2) c.in_err-next.ensures.reader

pub returns-in_err-next-clause-writer : goal.returns-in_err-next-clause-writer
returns-in_err-next-clause-writer g c =
    let p = err_from_is_err_and c.from_residual.result c.from_residual.ensures.1 in
    rw (p.1, p.2) c.in_err-next.ensures.writer

pub returns-in_err-next-clause-printed : goal.returns-in_err-next-clause-printed
returns-in_err-next-clause-printed g c =
    let p = err_from_is_err_and c.from_residual.result c.from_residual.ensures.1 in
    rw p.1 ((refl, refl), refl)
