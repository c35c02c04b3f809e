use Rattle.std.proofs.Common.{Some}
use Rattle.std.proofs.lemmas.Result.{err_from_is_err_and}
use Rattle.nbd_protocol.specs.declared.fault.ServiceFault.TheVariants as fault
use Rattle.nbd_protocol.proofs.lemmas.CountedLemmas.{written-same, written-ok, written-failed}
use Rattle.nbd_server.proofs.MessageLemmas.{too-long}
use Rattle.nbd_server.proofs.haggling.refuse_content.Goals as goal

pub returns-then-option-eq-EXPORT_NAME-clause-writer : goal.returns-then-option-eq-EXPORT_NAME-clause-writer
returns-then-option-eq-EXPORT_NAME-clause-writer g c = written-same c.args.writer.now (Some fault.NoSuchExport) (λ is. (cc))

pub returns-in_err-acknowledge-clause-writer : goal.returns-in_err-acknowledge-clause-writer
returns-in_err-acknowledge-clause-writer g c =
    let p = err_from_is_err_and c.from_residual.result c.from_residual.ensures.1 in
    rw (p.1, p.2) (written-failed c.in_err-acknowledge.ensures.failed)

pub returns-then-option-eq-ABORT-clause-writer : goal.returns-then-option-eq-ABORT-clause-writer
returns-then-option-eq-ABORT-clause-writer g c = written-ok c.in_ok-acknowledge.ensures.kept

pub returns-in_err-refuse-clause-writer : goal.returns-in_err-refuse-clause-writer
returns-in_err-refuse-clause-writer g c =
    let p = err_from_is_err_and c.from_residual-in_err-refuse.result c.from_residual-in_err-refuse.ensures.1 in
    rw (p.1, p.2) (written-failed c.in_err-refuse.ensures.failed)

pub returns-clause-writer : goal.returns-clause-writer
returns-clause-writer g c = written-ok c.in_ok-refuse.ensures.kept

pub returns-in_err-acknowledge-clause-answer : goal.returns-in_err-acknowledge-clause-answer
returns-in_err-acknowledge-clause-answer g c =
    let p = err_from_is_err_and c.from_residual.result c.from_residual.ensures.1 in
    rw (p.1, p.2) (_, _, too-long c.args.terms c.args.option c.args.count c.requires c.if-option-eq-EXPORT_NAME.false)

pub returns-in_err-refuse-clause-answer : goal.returns-in_err-refuse-clause-answer
returns-in_err-refuse-clause-answer g c =
    let p = err_from_is_err_and c.from_residual-in_err-refuse.result c.from_residual-in_err-refuse.ensures.1 in
    rw (p.1, p.2) (_, _, too-long c.args.terms c.args.option c.args.count c.requires c.if-option-eq-EXPORT_NAME.false)
