use Rattle.std.proofs.Common.{List, [], ◌∷◌, codes, decimal, refl, ap}
use Rattle.dm_table.specs.Words.{Word}
use Rattle.table_text.specs.Unstriped.{unstriped_words}
use Rattle.table_text.proofs.PrintLemmas.{exit_rest, exit_word, then_word}
use Rattle.table_text.proofs.print_unstriped.print_unstriped.Goals as goal

pub returns-clause-ok : goal.returns-clause-ok
unfolding unstriped_words
returns-clause-ok c =
    let line = c.args.line.now in
    let last = c.print_base.new.text.items in
    let w4 : List Word = line.base.device ∷ decimal line.base.offset ∷ [] in
    let w3 = decimal line.stripe ∷ w4 in
    let w2 = decimal line.chunk ∷ w3 in
    let w1 = decimal line.stripes ∷ w2 in
    then_word c.args.text.now.items c.push_spaced.new.text.items last (codes "unstriped") (codes "unstriped") w1 refl c.in_ok-push_spaced.ensures.ok (
    then_word c.push_spaced.new.text.items c.push_spaced_number.new.text.items last (decimal line.stripes) (decimal c.from.result) w2 (ap decimal c.from.ensures) c.in_ok-push_spaced_number.ensures.ok (
    then_word c.push_spaced_number.new.text.items c.push_spaced_number-2.new.text.items last (decimal line.chunk) (decimal c.from-2.result) w3 (ap decimal c.from-2.ensures) c.in_ok-push_spaced_number-2.ensures.ok (
    then_word c.push_spaced_number-2.new.text.items c.push_spaced_number-3.new.text.items last (decimal line.stripe) (decimal c.from-3.result) w4 (ap decimal c.from-3.ensures) c.in_ok-push_spaced_number-3.ensures.ok
    c.in_ok-print_base.ensures.ok)))

pub returns-in_err-push_spaced_number-clause-err : goal.returns-in_err-push_spaced_number-clause-err
unfolding unstriped_words
returns-in_err-push_spaced_number-clause-err c =
    let line = c.args.line.now in
    let w4 : List Word = line.base.device ∷ decimal line.base.offset ∷ [] in
    let w3 : List Word = decimal line.stripe ∷ w4 in
    let w2 : List Word = decimal line.chunk ∷ w3 in
    exit_word (codes "unstriped" ∷ []) (decimal line.stripes) w2 c.from_residual-in_err-push_spaced_number.result c.in_err-push_spaced_number.field-0.0 (decimal c.from.result) c.from_residual-in_err-push_spaced_number.ensures.1 (ap decimal c.from.ensures) c.in_err-push_spaced_number.ensures.err

pub returns-in_err-push_spaced_number-2-clause-err : goal.returns-in_err-push_spaced_number-2-clause-err
unfolding unstriped_words
returns-in_err-push_spaced_number-2-clause-err c =
    let line = c.args.line.now in
    let w4 : List Word = line.base.device ∷ decimal line.base.offset ∷ [] in
    let w3 : List Word = decimal line.stripe ∷ w4 in
    let w2 : List Word = decimal line.chunk ∷ w3 in
    exit_word (codes "unstriped" ∷ decimal line.stripes ∷ []) (decimal line.chunk) w3 c.from_residual-in_err-push_spaced_number-2.result c.in_err-push_spaced_number-2.field-0.0 (decimal c.from-2.result) c.from_residual-in_err-push_spaced_number-2.ensures.1 (ap decimal c.from-2.ensures) c.in_err-push_spaced_number-2.ensures.err

pub returns-in_err-push_spaced_number-3-clause-err : goal.returns-in_err-push_spaced_number-3-clause-err
unfolding unstriped_words
returns-in_err-push_spaced_number-3-clause-err c =
    let line = c.args.line.now in
    let w4 : List Word = line.base.device ∷ decimal line.base.offset ∷ [] in
    let w3 : List Word = decimal line.stripe ∷ w4 in
    let w2 : List Word = decimal line.chunk ∷ w3 in
    exit_word (codes "unstriped" ∷ decimal line.stripes ∷ decimal line.chunk ∷ []) (decimal line.stripe) w4 c.from_residual-in_err-push_spaced_number-3.result c.in_err-push_spaced_number-3.field-0.0 (decimal c.from-3.result) c.from_residual-in_err-push_spaced_number-3.ensures.1 (ap decimal c.from-3.ensures) c.in_err-push_spaced_number-3.ensures.err

pub returns-in_err-print_base-clause-err : goal.returns-in_err-print_base-clause-err
unfolding unstriped_words
returns-in_err-print_base-clause-err c =
    let line = c.args.line.now in
    let w4 : List Word = line.base.device ∷ decimal line.base.offset ∷ [] in
    let w3 : List Word = decimal line.stripe ∷ w4 in
    let w2 : List Word = decimal line.chunk ∷ w3 in
    exit_rest (codes "unstriped" ∷ decimal line.stripes ∷ decimal line.chunk ∷ decimal line.stripe ∷ []) w4 c.from_residual-in_err-print_base.result c.in_err-print_base.field-0.0 c.from_residual-in_err-print_base.ensures.1 c.in_err-print_base.ensures.err
