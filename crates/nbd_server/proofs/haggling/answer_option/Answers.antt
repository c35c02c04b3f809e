use Rattle.std.proofs.Common.{◌∙◌, Some, refl, sym}
use Rattle.std.proofs.KnownBytes.{Keeps-refl}
use Rattle.std.proofs.lemmas.Result.{err_from_is_err_and}
use Rattle.nbd_protocol.specs.declared.fault.ServiceFault.TheVariants as fault
use Rattle.nbd_protocol.specs.Exports.{export_records}
use Rattle.nbd_protocol.proofs.lemmas.CountedLemmas.{written-same, written-ok, written-failed}
use Rattle.nbd_server.proofs.MessageLemmas.{names-other, is-answered}
use Rattle.nbd_server.proofs.haggling.answer_option.Goals as goal

pub returns-then-not-names_export-clause-answer : goal.returns-then-not-names_export-clause-answer
returns-then-not-names_export-clause-answer g c =
    let p = names-other (export_records c.args.exports.now) c.args.option c.args.content.now (sym c.names_export.ensures ∙ c.if-not-names_export.true) in
    (Keeps-refl (g.W.Write.contents c.args.writer.now.inner), (refl, p.0, p.1))

pub returns-then-not-names_export-clause-writer : goal.returns-then-not-names_export-clause-writer
returns-then-not-names_export-clause-writer g c = written-same c.args.writer.now (Some fault.NoSuchExport) (λ is. (cc))

pub returns-in_err-say_answer-clause-writer : goal.returns-in_err-say_answer-clause-writer
returns-in_err-say_answer-clause-writer g c =
    let p = err_from_is_err_and c.from_residual.result c.from_residual.ensures.1 in
    rw (p.1, p.2) (written-failed c.in_err-say_answer.ensures.failed)

pub returns-clause-writer : goal.returns-clause-writer
returns-clause-writer g c = written-ok c.in_ok-say_answer.ensures.kept

pub returns-in_err-say_answer-clause-answer : goal.returns-in_err-say_answer-clause-answer
returns-in_err-say_answer-clause-answer g c =
    let p = err_from_is_err_and c.from_residual.result c.from_residual.ensures.1 in
    rw (p.1, p.2) (_, _, is-answered (export_records c.args.exports.now) c.args.terms c.args.option c.args.content.now c.requires.short (sym c.names_export.ensures ∙ c.if-not-names_export.false))
