use Rattle.std.proofs.Common.{ℕ, List, [], ◌∷◌, ◌++◌, length, ap, ◌∙◌, take_all, arith, length-append}
use Rattle.dm_table.specs.declared.table.Line.{Line}
use Rattle.table_text.specs.Print.{line_text, printed_table}
use Rattle.dm_table.specs.TableText.{table_of}
use Rattle.table_text.proofs.HiddenKeyLemmas.{table-printed}
use Rattle.table_text.proofs.PrintLemmas.{exit_room, length-one}
use Rattle.table_text.proofs.print.print_table.Goals as goal

pub returns-clause-reads_back : goal.returns-clause-reads_back
returns-clause-reads_back c =
    let lines = c.lines-line-items.ensures in
    let show = c.args.show_keys in
    ap table_of (c.loop-line.invariant ∙ ap (printed_table show) (take_all _ _ c.loop-line-test.false ∙ lines.value)) ∙ table-printed show c.args.table.now lines.grammar

pub returns-in_err-push_line-clause-err : goal.returns-in_err-push_line-clause-err
returns-in_err-push_line-clause-err c =
    let show = c.args.show_keys in
    let line : Line = c.line-item.result in
    let text : Line → List ℕ = λ l. line_text show l ++ 10 ∷ [] in
    let longest = length-one text _ c.loop-line.line-index line c.loop-line-test.true in
    let here = ap (λ (l : Line). length (text l)) c.line-item.is in
    let ended = length-append (line_text show line) (10 ∷ []) in
    let whole = ap (λ (ls : List Line). length (printed_table show ls)) c.lines-line-items.ensures.value in
    exit_room c.from_residual.result _ c.in_err-push_line.field-0.0 (omega (arith, c.in_err-push_line.ensures.err, longest, here, ended, whole))

pub returns-in_err-push-clause-err : goal.returns-in_err-push-clause-err
returns-in_err-push-clause-err c =
    let show = c.args.show_keys in
    let line : Line = c.line-item.result in
    let text : Line → List ℕ = λ l. line_text show l ++ 10 ∷ [] in
    let longest = length-one text _ c.loop-line.line-index line c.loop-line-test.true in
    let here = ap (λ (l : Line). length (text l)) c.line-item.is in
    let ended = length-append (line_text show line) (10 ∷ []) in
    let whole = ap (λ (ls : List Line). length (printed_table show ls)) c.lines-line-items.ensures.value in
    exit_room c.from_residual-in_err-push.result _ c.in_err-push.field-0.0 (omega (arith, c.in_err-push.ensures.err.0, longest, here, ended, whole))
