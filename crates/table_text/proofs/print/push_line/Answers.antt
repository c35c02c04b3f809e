use Rattle.std.proofs.Common.{◌≡◌, ℕ, List, ◌∷◌, ◌++◌, length, decimal, flat_map, ap, arith, length-append, sym, ◌∙◌, rules, append_assoc}
use Rattle.dm_table.specs.Words.{Word}
use Rattle.table_text.specs.Print.{spaced_word, target_words, line_text}
use Rattle.table_text.proofs.PrintLemmas.{exit_memory, join-spaced}
use Rattle.table_text.proofs.print.push_line.Goals as goal

pub returns-clause-ok : goal.returns-clause-ok
unfolding line_text
returns-clause-ok c =
    let line = c.args.line.now in
    let text = c.args.text.now.items in
    let words = join-spaced (decimal line.start) (decimal line.length ∷ target_words c.args.show_keys line.target) in
    let pushed : c.print_target.new.text.items ≡ text ++ (decimal line.start ++ (spaced_word (decimal line.length) ++ flat_map spaced_word (target_words c.args.show_keys line.target))) =
    search (rules, append_assoc) in
    pushed ∙ ap (λ t. text ++ t) (sym words)

pub returns-in_err-push_number-clause-err : goal.returns-in_err-push_number-clause-err
unfolding line_text
returns-in_err-push_number-clause-err c =
    let line = c.args.line.now in
    let target : List Word = target_words c.args.show_keys line.target in
    let more : List Word = decimal line.length ∷ target in
    let whole = ap (length {A = ℕ}) (join-spaced (decimal line.start) more) in
    let front = length-append (decimal line.start) (flat_map spaced_word more) in
    exit_memory c.from_residual.result _ c.in_err-push_number.field-0.0 c.from_residual.ensures.1 (omega (arith, c.in_err-push_number.ensures.err, whole, front))

pub returns-in_err-push_spaced_number-clause-err : goal.returns-in_err-push_spaced_number-clause-err
unfolding line_text
returns-in_err-push_spaced_number-clause-err c =
    let line = c.args.line.now in
    let target : List Word = target_words c.args.show_keys line.target in
    let more : List Word = decimal line.length ∷ target in
    let whole = ap (length {A = ℕ}) (join-spaced (decimal line.start) more) in
    let front = length-append (decimal line.start) (flat_map spaced_word more) in
    exit_memory c.from_residual-in_err-push_spaced_number.result _ c.in_err-push_spaced_number.field-0.0 c.from_residual-in_err-push_spaced_number.ensures.1 (omega (arith, c.in_err-push_spaced_number.ensures.err, whole, front, length-append (decimal line.length) (flat_map spaced_word target)))

pub returns-in_err-print_target-clause-err : goal.returns-in_err-print_target-clause-err
unfolding line_text
returns-in_err-print_target-clause-err c =
    let line = c.args.line.now in
    let target : List Word = target_words c.args.show_keys line.target in
    let more : List Word = decimal line.length ∷ target in
    let whole = ap (length {A = ℕ}) (join-spaced (decimal line.start) more) in
    let front = length-append (decimal line.start) (flat_map spaced_word more) in
    exit_memory c.from_residual-in_err-print_target.result _ c.in_err-print_target.field-0.0 c.from_residual-in_err-print_target.ensures.1 (omega (arith, c.in_err-print_target.ensures.err, whole, front, length-append (decimal line.length) (flat_map spaced_word target)))
