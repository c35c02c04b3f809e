use Rattle.std.proofs.Common.{Ok, arith, length, subst}
use Rattle.std.proofs.lemmas.Result.{err_from_is_err_and}
use Rattle.nbd_protocol.specs.declared.fault.ServiceFault.TheVariants as fault
use Rattle.nbd_protocol.specs.declared.phase.Phase.TheVariants.{Greeted}
use Rattle.nbd_protocol.specs.Streaming.{Fills}
use Rattle.nbd_protocol.proofs.lemmas.CountedLemmas.{read-other, stops-reading}
use Rattle.nbd_server.proofs.MessageLemmas.{header-cut, flags-unlike}
use Rattle.nbd_server.proofs.haggling.take_flags.Goals as goal

pub returns-in_err-fill-clause-turn : goal.returns-in_err-fill-clause-turn
returns-in_err-fill-clause-turn g c = λ e w written.
    let p = err_from_is_err_and c.from_residual.result c.from_residual.ensures.1 in
    rw (p.1, p.2) (header-cut e Greeted 4 (λ rest cut. cut) w (g.R.Read.remaining c.args.reader.now.inner) (g.R.Read.remaining c.fill.new.reader.inner) written c.in_err-fill.field-0.0 (length c.fill.new.buffer)
    (omega (arith, c.fill.auto.buffer)) c.in_err-fill.ensures.filled)

pub returns-in_err-fill-clause-reader : goal.returns-in_err-fill-clause-reader
returns-in_err-fill-clause-reader g c =
    let p = err_from_is_err_and c.from_residual.result c.from_residual.ensures.1 in
    rw (p.1, p.2) c.in_err-fill.ensures.reader

pub returns-in_err-fill-clause-other : goal.returns-in_err-fill-clause-other
returns-in_err-fill-clause-other g c = λ is.
    let p = err_from_is_err_and c.from_residual.result c.from_residual.ensures.1 in
    stops-reading (g.R.Read.remaining c.fill.new.reader.inner) c.in_err-fill.field-0.0 c.in_err-fill.ensures.filled.0.cause (cc (p.1, p.2))

pub returns-then-flags-gt3-clause-turn : goal.returns-then-flags-gt3-clause-turn
returns-then-flags-gt3-clause-turn g c = λ e w written.
    let input = g.R.Read.remaining c.args.reader.now.inner in
    let mid = g.R.Read.remaining c.fill.new.reader.inner in
    let bytes = c.fill.new.buffer in
    let first = subst (λ b. Fills input mid bytes (Ok b)) c.if-not-branch.false c.in_ok-fill.ensures.filled in
    flags-unlike e w input mid written bytes first (omega (arith, c.fill.auto.buffer)) (omega (arith, c.number32-flags.ensures, c.if-flags-gt3.true))

pub returns-then-flags-gt3-clause-reader : goal.returns-then-flags-gt3-clause-reader
returns-then-flags-gt3-clause-reader g c = read-other fault.Flags c.in_ok-fill.ensures.reader (λ is. (cc))
