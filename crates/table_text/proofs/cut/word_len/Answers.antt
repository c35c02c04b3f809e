use Rattle.std.proofs.Common.{sym, ◌∙◌, arith}
use Rattle.std.proofs.lemmas.List.Sums.{position_or_len_is}
use Rattle.dm_table.specs.Words.{is_white}
use Rattle.table_text.proofs.cut.word_len.Goals as goal

pub returns-then-is_white-clause-value : goal.returns-then-is_white-clause-value
returns-then-is_white-clause-value c =
    sym (position_or_len_is is_white c.args.text.now c.bytes.at 0 (omega arith) c.bytes.invariant (λ _. sym c.is_white.ensures ∙ c.if-is_white.true))

pub returns-clause-value : goal.returns-clause-value
returns-clause-value c =
    let all = position_or_len_is is_white c.args.text.now c.bytes.at 0 (omega arith) c.bytes.invariant (λ lt. absurd (omega arith)) in omega arith
