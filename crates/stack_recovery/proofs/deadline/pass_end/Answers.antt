use Rattle.std.proofs.Common.{inl, inr, arith}
use Rattle.stack_recovery.proofs.deadline.pass_end.Goals as goal

pub returns-then-is_up-clause-ends : goal.returns-then-is_up-clause-ends
returns-then-is_up-clause-ends g c = λ low. inr (c.is_up.ensures c.if-is_up.true, c.requires)

pub returns-clause-ends : goal.returns-clause-ends
returns-clause-ends g c = λ low. inl (omega (arith, low, c.requires))
