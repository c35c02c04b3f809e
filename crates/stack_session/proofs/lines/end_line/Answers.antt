use Rattle.std.proofs.Common.{◌≡◌, [], ◌++◌, ◌∙◌, Err, ap, length, sym, arith}
use Rattle.std.proofs.lemmas.Bool.{eqb-true}
use Rattle.std.proofs.lemmas.List.{nil_from_length}
use Rattle.std.proofs.lemmas.Result.{err_from_is_err_and}
use Rattle.stack_session.proofs.FrontLemmas.{stopped-keep, stopped-line, stopped-none}
use Rattle.stack_session.proofs.lines.end_line.Goals as goal

pub returns-in_err-serve_line-clause-stopped : goal.returns-in_err-serve_line-clause-stopped
returns-in_err-serve_line-clause-stopped g c =
    let zero = eqb-true c.args.rest.now.len 0 (sym c.is_empty.ensures ∙ c.if-is_empty.true) in
    let none : c.args.rest.now.items ≡ [] = nil_from_length c.args.rest.now.items (omega (arith, c.args.rest.now.ok.0, zero)) in
    let p = err_from_is_err_and c.from_residual.result c.from_residual.ensures.1 in
    rw (p.1, p.2) (stopped-line g.S.LineServer.replies c.args.server.now c.serve_line.new.self (c.args.rest.now.items ++ c.args.end.now) c.args.end.now c.serve_line.ensures.reply
    (g.W.Write.contents c.args.writer.now.inner) (g.W.Write.contents c.serve_line.new.writer.inner) (sym (ap (λ l. l ++ c.args.end.now) none)) c.requires.line c.serve_line.ensures.holds)

pub returns-in_err-keep-clause-stopped : goal.returns-in_err-keep-clause-stopped
returns-in_err-keep-clause-stopped g c =
    let p = err_from_is_err_and c.from_residual-in_err-keep.result c.from_residual-in_err-keep.ensures.1 in
    rw (p.1, p.2) (stopped-none g.S.LineServer.replies c.args.server.now (c.args.rest.now.items ++ c.args.end.now) (g.W.Write.contents c.args.writer.now.inner) c.in_err-keep.field-0.0 c.in_err-keep.ensures.kind)

pub returns-in_err-serve_line-2-clause-stopped : goal.returns-in_err-serve_line-2-clause-stopped
returns-in_err-serve_line-2-clause-stopped g c =
    let p = err_from_is_err_and c.from_residual-in_err-serve_line-2.result c.from_residual-in_err-serve_line-2.ensures.1 in
    rw (p.1, p.2) (stopped-line g.S.LineServer.replies c.args.server.now c.serve_line-2.new.self (c.args.rest.now.items ++ c.args.end.now) c.as_slice.result.now c.serve_line-2.ensures.reply
    (g.W.Write.contents c.args.writer.now.inner) (g.W.Write.contents c.serve_line-2.new.writer.inner) (c.as_slice.ensures.value ∙ c.in_ok-keep.ensures.ok) c.requires.line c.serve_line-2.ensures.holds)

pub returns-in_err-keep-clause-kinds : goal.returns-in_err-keep-clause-kinds
returns-in_err-keep-clause-kinds g c =
    let p = err_from_is_err_and c.from_residual-in_err-keep.result c.from_residual-in_err-keep.ensures.1 in
    rw (p.1, p.2) (stopped-keep (length c.args.end.now) (Err c.in_err-keep.field-0.0) (omega (arith, c.requires.room)) c.in_err-keep.ensures.kind c.in_err-keep.ensures.err)
