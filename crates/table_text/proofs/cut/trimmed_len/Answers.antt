use Rattle.std.proofs.Common.{sym, ◌∙◌, arith}
use Rattle.std.proofs.lemmas.List.Sums.{suffix_len_is}
use Rattle.dm_table.specs.Words.{is_white}
use Rattle.table_text.proofs.cut.trimmed_len.Goals as goal

pub returns-else-is_white-clause-value : goal.returns-else-is_white-clause-value
returns-else-is_white-clause-value c =
    let found = suffix_len_is is_white c.args.text.now c.bytes.«end» 0 c.bytes.invariant.0 c.bytes.invariant.1 (λ _. sym c.is_white.ensures ∙ c.if-is_white.false) in
    omega arith

pub returns-after-bytes-clause-value : goal.returns-after-bytes-clause-value
returns-after-bytes-clause-value c =
    let found = suffix_len_is is_white c.args.text.now c.bytes.«end» 0 c.bytes.invariant.0 c.bytes.invariant.1 (λ some. absurd (omega arith)) in
    omega arith
