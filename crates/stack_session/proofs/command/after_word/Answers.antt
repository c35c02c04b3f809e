use Rattle.std.proofs.Common.{drop, ◌∙◌, ap}
use Rattle.std.specs.List.{position_or_len}
use Rattle.std.proofs.lemmas.List.{take_rest}
use Rattle.dm_table.specs.Words.{is_white}
use Rattle.stack_session.specs.Commands.{after_word}
use Rattle.stack_session.proofs.command.after_word.Goals as goal

pub returns-clause-value : goal.returns-clause-value
unfolding after_word
returns-clause-value c =
    let line = c.args.line.now in
    let found = simp take_rest at c.word_len.ensures.value in
    simp take_rest
    (ap (λ n. drop n (drop c.white_len.result line)) found
    ∙ ap (λ n. drop (position_or_len is_white (drop n line)) (drop n line)) c.white_len.ensures.value)
