use Rattle.std.proofs.Common.{ℕ, length, ap, arith}
use Rattle.dm_table.specs.Words.{Word}
use Rattle.table_text.specs.Print.{spaced_word}
use Rattle.table_text.proofs.PrintLemmas.{exit_memory, length-one}
use Rattle.table_text.proofs.print_options.print_words.Goals as goal

pub returns-in_err-push_spaced-clause-err : goal.returns-in_err-push_spaced-clause-err
returns-in_err-push_spaced-clause-err c =
    let word : Word = c.word-item.result in
    let longest = length-one spaced_word c.args.words.now c.loop-word.word-index word c.loop-word-test.true in
    exit_memory c.from_residual.result _ c.in_err-push_spaced.field-0.0 c.from_residual.ensures.1
    (omega (arith, c.in_err-push_spaced.ensures.err, ap (length {A = ℕ}) c.as_slice.ensures, ap (λ (w : Word). length (spaced_word w)) c.word-item.is, longest))
