use Rattle.std.proofs.Common.{inl, inr}
use Rattle.verity_commands.proofs.OpeningLemmas.{err-from}
use Rattle.verity_commands.proofs.sought_trees.both_sought_in.Goals as goal

pub returns-in_err-first-clause-err : goal.returns-in_err-first-clause-err
returns-in_err-first-clause-err g c = err-from c.from_residual.result _ c.in_err-first.field-0.0 c.from_residual.ensures.1 (inl c.in_err-first.ensures.err)

pub returns-in_err-second-clause-err : goal.returns-in_err-second-clause-err
returns-in_err-second-clause-err g c =
    err-from c.from_residual-in_err-second.result _ c.in_err-second.field-0.0 c.from_residual-in_err-second.ensures.1
    (inr (record { between = c.sought_tree_in.new.images; first = c.in_ok-first.first; first_told = c.in_ok-first.ensures.ok; ends = c.in_err-second.ensures.err }))

pub returns-clause-ok : goal.returns-clause-ok
returns-clause-ok g c = record {
  between = c.sought_tree_in.new.images;
  first_told = c.in_ok-first.ensures.ok;
  second_told = c.in_ok-second.ensures.ok;
}
