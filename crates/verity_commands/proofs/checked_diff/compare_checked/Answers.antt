use Rattle.std.proofs.Common.{inl, inr}
use Rattle.verity_commands.proofs.OpeningLemmas.{err-from}
use Rattle.verity_commands.proofs.checked_diff.compare_checked.Goals as goal

pub returns-in_err-whole_tree-clause-err : goal.returns-in_err-whole_tree-clause-err
returns-in_err-whole_tree-clause-err g c =
    err-from c.from_residual.result _ c.in_err-whole_tree.field-0.0 c.from_residual.ensures.1
    (inl c.in_err-whole_tree.ensures.err)

pub returns-in_err-totals-clause-err : goal.returns-in_err-totals-clause-err
returns-in_err-totals-clause-err g c =
    err-from c.from_residual-in_err-totals.result _ c.in_err-totals.field-0.0 c.from_residual-in_err-totals.ensures.1
    (inr (record {
      whole = c.in_ok-whole_tree.whole_tree;
      middle = g.E.BlockDev.state c.check_second.new.device;
      between = g.L.Listing.told c.check_second.new.listing;
      checks = record { over = c.check_second.ensures.over; tells = c.in_ok-whole_tree.ensures.ok };
      cause = c.in_err-totals.ensures.err;
      before = c.in_err-totals.ensures.before;
    }))

pub returns-clause-ok : goal.returns-clause-ok
returns-clause-ok g c = record {
  middle = g.E.BlockDev.state c.check_second.new.device;
  between = g.L.Listing.told c.check_second.new.listing;
  checks = record { over = c.check_second.ensures.over; tells = c.in_ok-whole_tree.ensures.ok };
  difference = c.in_ok-totals.ensures.ok;
}
