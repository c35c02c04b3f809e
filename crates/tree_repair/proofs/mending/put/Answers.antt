use Rattle.std.proofs.Common.{refl}
use Rattle.tree_repair.proofs.mending.put.Goals as goal

pub returns-then-not-write-clause-handed : goal.returns-then-not-write-clause-handed
returns-then-not-write-clause-handed g c = rw c.if-not-write.true refl

pub returns-clause-handed : goal.returns-clause-handed
returns-clause-handed g c = rw c.if-not-write.false (c.write.new.self, c.write.ensures.call, refl)
