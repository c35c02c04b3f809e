use Rattle.std.proofs.Common.{inl, inr, refl}
use Rattle.std.proofs.lemmas.Result.{IfErr-weaker, on_ok_weaker}
use Rattle.verity_commands.proofs.OpeningLemmas.{err-from, found-fits}
use Rattle.verity_commands.proofs.placed_diff.diff_devices.Goals as goal

pub returns-in_err-pair-clause-err : goal.returns-in_err-pair-clause-err
returns-in_err-pair-clause-err g c =
    err-from c.from_residual.result _ c.in_err-pair.field-0.0 c.from_residual.ensures.1 (inl (c.in_err-pair.ensures.err, refl))

pub find_difference-requires : goal.find_difference-requires
find_difference-requires g c = found-fits _ _ _ _ _ _ _ c.in_ok-pair.ensures.ok

pub returns-clause-ok : goal.returns-clause-ok
returns-clause-ok g c = on_ok_weaker c.find_difference.result (λ done. record {
  pair = c.in_ok-pair.pair;
  first_read = g.D.BlockDev.state c.find_trees.new.first;
  second_read = g.D.BlockDev.state c.find_trees.new.second;
  found = c.in_ok-pair.ensures.ok;
  holds = done;
}) c.find_difference.ensures.ok

pub returns-clause-err : goal.returns-clause-err
returns-clause-err g c = IfErr-weaker c.find_difference.result _ _ (λ fault ends. inr (record {
  pair = c.in_ok-pair.pair;
  first_read = g.D.BlockDev.state c.find_trees.new.first;
  second_read = g.D.BlockDev.state c.find_trees.new.second;
  found = c.in_ok-pair.ensures.ok;
  holds = ends;
})) c.find_difference.ensures.err
