use Rattle.std.proofs.Common.{inl, inr, refl, sym}
use Rattle.verity_commands.proofs.OpeningLemmas.{err-from}
use Rattle.verity_commands.proofs.tree_pair.find_trees.Goals as goal

pub returns-in_err-one-clause-err : goal.returns-in_err-one-clause-err
returns-in_err-one-clause-err g c =
    err-from c.from_residual.result _ c.in_err-one.field-0.0 c.from_residual.ensures.1
    (inl (c.in_err-one.ensures.err, refl))

pub returns-in_err-two-clause-err : goal.returns-in_err-two-clause-err
returns-in_err-two-clause-err g c =
    err-from c.from_residual-in_err-two.result _ c.in_err-two.field-0.0 c.from_residual-in_err-two.ensures.1
    (inr (inl (record { tree = c.in_ok-one.one; first_found = c.in_ok-one.ensures.ok; cause = c.in_err-two.ensures.err })))

pub returns-in-Some-clause-err : goal.returns-in-Some-clause-err
returns-in-Some-clause-err g c = inr (inr (record {
  a = c.in_ok-one.one;
  b = c.in_ok-two.two;
  field = c.in-Some.field;
  first_found = c.in_ok-one.ensures.ok;
  second_found = c.in_ok-two.ensures.ok;
  unlike = sym c.in-Some.ensures;
  is = refl;
}))

pub returns-in-None-clause-ok : goal.returns-in-None-clause-ok
returns-in-None-clause-ok g c = record {
  first_found = c.in_ok-one.ensures.ok;
  second_found = c.in_ok-two.ensures.ok;
  alike = sym c.in-None.ensures;
  roots = refl;
}
