use Rattle.std.proofs.Common.{ℕ}
use Rattle.std.proofs.lemmas.List.{take-replicate}
use Rattle.table_text.proofs.PrintLemmas.{exit_memory}
use Rattle.table_text.proofs.print_crypt.push_zeros.Goals as goal

pub returns-clause-ok : goal.returns-clause-ok
returns-clause-ok c = rw (take-replicate {X = ℕ} c.args.count 128 48 c.requires) at c.in_ok-push_spaced.ensures.ok

pub returns-in_err-push_spaced-clause-err : goal.returns-in_err-push_spaced-clause-err
returns-in_err-push_spaced-clause-err c =
    exit_memory c.from_residual.result _ c.in_err-push_spaced.field-0.0 c.from_residual.ensures.1
    (rw (take-replicate {X = ℕ} c.args.count 128 48 c.requires) at c.in_err-push_spaced.ensures.err)
