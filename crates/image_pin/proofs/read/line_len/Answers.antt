use Rattle.std.proofs.Common.{◌==◌, sym, eq-eqb, arith}
use Rattle.std.proofs.lemmas.List.Sums.{position_or_len_is}
use Rattle.image_pin.proofs.read.line_len.Goals as goal

pub returns-then-byte-eq10-clause-value : goal.returns-then-byte-eq10-clause-value
returns-then-byte-eq10-clause-value c =
    sym (position_or_len_is (λ b. b == 10) c.args.text.now c.bytes.at 0 (omega arith) c.bytes.invariant (λ _. eq-eqb _ _ c.if-byte-eq10.true))

pub returns-clause-value : goal.returns-clause-value
returns-clause-value c =
    let all = position_or_len_is (λ b. b == 10) c.args.text.now c.bytes.at 0 (omega arith) c.bytes.invariant (λ lt. absurd (omega arith)) in omega arith
