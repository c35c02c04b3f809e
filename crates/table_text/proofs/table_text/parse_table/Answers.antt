use Rattle.std.proofs.Common.{◌+◌, ◌∷◌, ◌==◌, length, Ok, ap, sym, ◌∙◌, eqb-true, arith}
use Rattle.std.proofs.lemmas.Bool.{eqb-false}
use Rattle.dm_table.specs.Words.{text_lines}
use Rattle.dm_table.specs.Reading.{◌>>=◌, at_place}
use Rattle.dm_table.specs.Lines.{line_of}
use Rattle.dm_table.specs.TableText.{table_lines, some_lines}
use Rattle.table_text.proofs.ReadLemmas.{after, after-nil, after_end, exit_text}
use Rattle.table_text.proofs.GrammarLemmas.{table-grammar}
use Rattle.table_text.proofs.StackLemmas.{table-not_text, length-pieces, some_lines-none}
use Rattle.dm_table.proofs.lemmas.ReadLineLemmas.{table-lines, table_lines-full, some_lines-some}
use Rattle.table_text.proofs.table_text.parse_table.Goals as goal

pub returns-then-not-is_text : goal.returns-then-not-is_text
returns-then-not-is_text c =
    rw c.fault.ensures (table-not_text c.args.text.now (sym c.is_text.ensures ∙ c.if-not-is_text.true))

pub lines-init : goal.lines-init
unfolding text_lines
lines-init c =
    let texts = c.new-texts.ensures in
    let pieces = length-pieces (λ b. b == 10) c.args.text.now in
    let few = ap length texts in
    (omega arith, rw (c.new-lines.ensures.items, texts) (sym (after-nil _)))

pub returns-in_err-read_line_at : goal.returns-in_err-read_line_at
returns-in_err-read_line_at c =
    let full = sym c.is_skipped.ensures ∙ c.if-not-is_skipped.true in
    let whole = table-lines c.args.text.now (sym c.is_text.ensures ∙ c.if-not-is_text.false) in
    exit_text _ _ _ _ c.from_residual.ensures.1 c.in_err-read_line_at.ensures
    (λ f e. whole ∙ ap (λ r. r >>= some_lines)
    (c.lines.invariant.1 ∙ ap (after c.lines.lines.items) (ap (table_lines (c.lines.number + 1)) c.in-Some.ensures ∙ table_lines-full (c.lines.number + 1) c.in-Some.line.now c.next_piece.new.self full
    ∙ ap (λ r. r >>= (λ line. table_lines (c.lines.number + 1 + 1) c.next_piece.new.self >>= (λ lines. Ok (line ∷ lines)))) (ap (λ ws. at_place 0 (c.lines.number + 1) (line_of ws)) (sym c.new.ensures) ∙ e))))

pub returns-then-is_empty : goal.returns-then-is_empty
returns-then-is_empty c =
    let lines = c.lines.lines.items in
    let whole = table-lines c.args.text.now (sym c.is_text.ensures ∙ c.if-not-is_text.false) in
    let read = c.lines.invariant.1 ∙ ap (λ texts. after lines (table_lines (c.lines.number + 1) texts)) c.in_default.ensures.0 ∙ after_end lines in
    rw c.fault-then-is_empty.ensures (whole ∙ ap (λ r. r >>= some_lines) read ∙ some_lines-none lines (let none = eqb-true _ 0 (sym c.is_empty.ensures ∙ c.if-is_empty.true) in omega (arith, c.lines.lines.ok.0)))

pub new-requires-2 : goal.new-requires-2
new-requires-2 c =
    let lines = c.lines.lines.items in
    let whole = table-lines c.args.text.now (sym c.is_text.ensures ∙ c.if-not-is_text.false) in
    let read = c.lines.invariant.1 ∙ ap (λ texts. after lines (table_lines (c.lines.number + 1) texts)) c.in_default.ensures.0 ∙ after_end lines in
    table-grammar c.args.text.now lines (whole ∙ ap (λ r. r >>= some_lines) read ∙ some_lines-some lines (λ none. let some = eqb-false _ 0 (sym c.is_empty.ensures ∙ c.if-is_empty.false) in omega (arith, c.lines.lines.ok.0)))

pub returns : goal.returns
returns c =
    let lines = c.lines.lines.items in
    let whole = table-lines c.args.text.now (sym c.is_text.ensures ∙ c.if-not-is_text.false) in
    let read = c.lines.invariant.1 ∙ ap (λ texts. after lines (table_lines (c.lines.number + 1) texts)) c.in_default.ensures.0 ∙ after_end lines in
    rw c.new-2.ensures (whole ∙ ap (λ r. r >>= some_lines) read ∙ some_lines-some lines (λ none. let some = eqb-false _ 0 (sym c.is_empty.ensures ∙ c.if-is_empty.false) in omega (arith, c.lines.lines.ok.0)))
