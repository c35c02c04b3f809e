use Rattle.std.proofs.Common.{◌==◌, sym, eq-eqb, arith}
use Rattle.std.proofs.lemmas.List.Sums.{position_or_len_is}
use Rattle.table_text.proofs.cut.piece_len.Goals as goal

pub returns-then-byte-separator-clause-value : goal.returns-then-byte-separator-clause-value
returns-then-byte-separator-clause-value c =
    sym (position_or_len_is (λ b. b == c.args.separator) c.args.text.now c.bytes.at 0 (omega arith) c.bytes.invariant (λ _. eq-eqb _ _ c.if-byte-separator.true))

pub returns-clause-value : goal.returns-clause-value
returns-clause-value c =
    let all = position_or_len_is (λ b. b == c.args.separator) c.args.text.now c.bytes.at 0 (omega arith) c.bytes.invariant (λ lt. absurd (omega arith)) in omega arith
