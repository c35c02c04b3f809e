use Rattle.std.proofs.Common.{inl, inr, refl, sym}
use Rattle.std.proofs.lemmas.Result.{IfErr-weaker, on_ok_weaker}
use Rattle.verity_commands.specs.declared.tree_fault.TreeFault.TheVariants.{Open}
use Rattle.verity_commands.proofs.OpeningLemmas.{err-from}
use Rattle.verity_commands.proofs.placed_diff.diff_images.Goals as goal

pub returns-in-Some-clause-err : goal.returns-in-Some-clause-err
returns-in-Some-clause-err g c = inl (c.in-Some.which, sym c.in-Some.ensures, refl, refl, refl)

pub returns-in_err-opened-clause-err : goal.returns-in_err-opened-clause-err
returns-in_err-opened-clause-err g c =
    err-from c.from_residual.result _ (Open c.in_err-opened.field-0.0) c.from_residual.ensures.1 (inr (sym c.in-None.ensures, inl (c.in_err-opened.ensures.err, refl)))

pub returns-clause-ok : goal.returns-clause-ok
returns-clause-ok g c = on_ok_weaker c.diff_behind-two.result.1 (λ done. (
  sym c.in-None.ensures,
  record {
    between = c.open_both.new.images;
    two = c.in_ok-opened.opened;
    two' = c.diff_behind-two.result.0;
    opened = c.in_ok-opened.ensures.ok;
    holds = rw c.hashes_of-two.ensures at done;
    closed = c.close_both.ensures;
  },
)) c.diff_behind-two.ensures.ok

pub returns-clause-err : goal.returns-clause-err
returns-clause-err g c = IfErr-weaker c.diff_behind-two.result.1 _ _ (λ fault ends. inr (
  sym c.in-None.ensures,
  inr (record {
    between = c.open_both.new.images;
    two = c.in_ok-opened.opened;
    two' = c.diff_behind-two.result.0;
    opened = c.in_ok-opened.ensures.ok;
    holds = rw c.hashes_of-two.ensures at ends;
    closed = c.close_both.ensures;
  }),
)) c.diff_behind-two.ensures.err
