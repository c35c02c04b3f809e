use Rattle.std.proofs.Common.{sym, ◌∙◌, arith}
use Rattle.std.proofs.lemmas.List.Sums.{prefix_len_is}
use Rattle.dm_table.specs.Words.{is_white}
use Rattle.table_text.proofs.cut.white_len.Goals as goal

pub returns-then-not-is_white-clause-value : goal.returns-then-not-is_white-clause-value
returns-then-not-is_white-clause-value c =
    sym (prefix_len_is is_white c.args.text.now c.bytes.at 0 (omega arith) c.bytes.invariant (λ _. sym c.is_white.ensures ∙ c.if-not-is_white.true))

pub returns-clause-value : goal.returns-clause-value
returns-clause-value c =
    let all = prefix_len_is is_white c.args.text.now c.bytes.at 0 (omega arith) c.bytes.invariant (λ lt. absurd (omega arith)) in omega arith
