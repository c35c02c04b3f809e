use Rattle.std.proofs.Common.{arith, sym}
use Rattle.tree_difference.proofs.trees.check_pair.Goals as goal

pub returns-then-first-one-clause-err : goal.returns-then-first-one-clause-err
returns-then-first-one-clause-err c = omega (arith, c.if-first-one.true, c.tree_sectors-one.ensures.value)

pub returns-then-second-two-clause-err : goal.returns-then-second-two-clause-err
returns-then-second-two-clause-err c = (
  omega (arith, c.if-first-one.false, c.tree_sectors-one.ensures.value),
  omega (arith, c.if-second-two.true, c.tree_sectors-two.ensures.value),
)

pub returns-in-Some-clause-err : goal.returns-in-Some-clause-err
returns-in-Some-clause-err c = (
  omega (arith, c.if-first-one.false, c.tree_sectors-one.ensures.value),
  omega (arith, c.if-second-two.false, c.tree_sectors-two.ensures.value),
  sym c.in-Some.ensures,
)

pub returns-in-None-clause-ok : goal.returns-in-None-clause-ok
returns-in-None-clause-ok c = record {
  alike = sym c.in-None.ensures;
  first_fits = omega (arith, c.if-first-one.false, c.tree_sectors-one.ensures.value);
  second_fits = omega (arith, c.if-second-two.false, c.tree_sectors-two.ensures.value);
}
