use Rattle.std.proofs.Common.{inl, inr, refl}
use Rattle.assemble_commands.proofs.plan.parity_count.Goals as goal

pub returns-then-not-has_parity : goal.returns-then-not-has_parity
returns-then-not-has_parity c = rw c.if-not-has_parity.true refl

pub returns-in-Some : goal.returns-in-Some
returns-in-Some c = rw c.if-not-has_parity.false (inl c.in-Some.ensures.some)

pub returns-in-None : goal.returns-in-None
returns-in-None c = rw c.if-not-has_parity.false (inr (c.in-None.ensures.none, refl))
