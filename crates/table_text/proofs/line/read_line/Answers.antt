use Rattle.std.proofs.Common.{◌∷◌, Ok, Err, ok_or, ap, sym, ◌∙◌}
use Rattle.dm_table.specs.declared.fault.TextKind.TheVariants as kinds
use Rattle.dm_table.specs.Reading.{◌>>=◌}
use Rattle.dm_table.specs.Lines.{line_of}
use Rattle.table_text.proofs.ReadLemmas.{exit_kind, exit_part}
use Rattle.table_text.proofs.LineLemmas.{line-start, line-length}
use Rattle.dm_table.proofs.lemmas.ReadLineLemmas.{line-target}
use Rattle.table_text.proofs.line.read_line.Goals as goal

pub returns-in_err-first : goal.returns-in_err-first
unfolding line_of
returns-in_err-first c =
    let few = c.in_err-first.ensures in
    exit_kind _ _ _ c.from_residual.ensures.1 (ap line_of few.1 ∙ ap Err (sym few.0))

pub returns-in_err-count : goal.returns-in_err-count
unfolding line_of
returns-in_err-count c =
    let few = c.in_err-count.ensures in
    exit_kind _ _ _ c.from_residual-in_err-count.ensures.1
    (ap line_of (c.in_ok-first.ensures ∙ ap (λ ws. c.in_ok-first.first.now ∷ ws) few.1) ∙ ap Err (sym few.0))

pub returns-in_err-kind : goal.returns-in_err-kind
unfolding line_of
returns-in_err-kind c =
    let few = c.in_err-kind.ensures in
    exit_kind _ _ _ c.from_residual-in_err-kind.ensures.1
    (ap line_of (c.in_ok-first.ensures ∙ ap (λ ws. c.in_ok-first.first.now ∷ ws) (c.in_ok-count.ensures ∙ ap (λ ws. c.in_ok-count.count.now ∷ ws) few.1)) ∙ ap Err (sym few.0))

pub returns-in_err-start : goal.returns-in_err-start
returns-in_err-start c =
    let words = c.in_ok-first.ensures ∙ ap (λ ws. c.in_ok-first.first.now ∷ ws) (c.in_ok-count.ensures ∙ ap (λ ws. c.in_ok-count.count.now ∷ ws) c.in_ok-kind.ensures) in
    exit_kind _ _ _ c.from_residual-in_err-start.ensures.1
    (ap line_of words ∙ line-start _ _ _ _ _ (ap (λ o. ok_or o kinds.Number) (sym c.number.ensures) ∙ sym c.in_err-start.ensures.value))

pub returns-in_err-length : goal.returns-in_err-length
returns-in_err-length c =
    let words = c.in_ok-first.ensures ∙ ap (λ ws. c.in_ok-first.first.now ∷ ws) (c.in_ok-count.ensures ∙ ap (λ ws. c.in_ok-count.count.now ∷ ws) c.in_ok-kind.ensures) in
    exit_kind _ _ _ c.from_residual-in_err-length.ensures.1
    (ap line_of words ∙ line-length _ _ _ _ c.in_ok-start.start _ (ap (λ o. ok_or o kinds.Number) (sym c.number.ensures) ∙ sym c.in_ok-start.ensures.value) (ap (λ o. ok_or o kinds.Number) (sym c.number-2.ensures) ∙ sym c.in_err-length.ensures.value))

pub returns-in_err-target : goal.returns-in_err-target
returns-in_err-target c =
    let words = c.in_ok-first.ensures ∙ ap (λ ws. c.in_ok-first.first.now ∷ ws) (c.in_ok-count.ensures ∙ ap (λ ws. c.in_ok-count.count.now ∷ ws) c.in_ok-kind.ensures) in
    exit_part _ _ _ _ c.from_residual-in_err-target.ensures.1 c.in_err-target.ensures
    (λ kind e. ap line_of words ∙ line-target _ _ _ _ c.in_ok-start.start c.in_ok-length.length (ap (λ o. ok_or o kinds.Number) (sym c.number.ensures) ∙ sym c.in_ok-start.ensures.value) (ap (λ o. ok_or o kinds.Number) (sym c.number-2.ensures) ∙ sym c.in_ok-length.ensures.value)
    ∙ ap (λ r. r >>= (λ target. Ok (record { start = c.in_ok-start.start; length = c.in_ok-length.length; target = target }))) e)

pub returns : goal.returns
returns c =
    let words = c.in_ok-first.ensures ∙ ap (λ ws. c.in_ok-first.first.now ∷ ws) (c.in_ok-count.ensures ∙ ap (λ ws. c.in_ok-count.count.now ∷ ws) c.in_ok-kind.ensures) in
    ap line_of words ∙ line-target _ _ _ _ c.in_ok-start.start c.in_ok-length.length (ap (λ o. ok_or o kinds.Number) (sym c.number.ensures) ∙ sym c.in_ok-start.ensures.value) (ap (λ o. ok_or o kinds.Number) (sym c.number-2.ensures) ∙ sym c.in_ok-length.ensures.value)
    ∙ ap (λ r. r >>= (λ target. Ok (record { start = c.in_ok-start.start; length = c.in_ok-length.length; target = target }))) c.in_ok-target.ensures
