use Rattle.std.proofs.Common.{inl, inr}
use Rattle.update_commands.proofs.EndingLemmas.{err-from}
use Rattle.update_commands.proofs.pin_apart.check_pin_apart.Goals as goal

pub returns-in_err-check_apart-clause-err : goal.returns-in_err-check_apart-clause-err
returns-in_err-check_apart-clause-err g c = err-from c.from_residual.result _ c.in_err-check_apart.field-0.0 c.from_residual.ensures.1 (inl c.in_err-check_apart.ensures.err)

pub returns-in_err-check_apart-2-clause-err : goal.returns-in_err-check_apart-2-clause-err
returns-in_err-check_apart-2-clause-err g c =
    err-from c.from_residual-in_err-check_apart-2.result _ c.in_err-check_apart-2.field-0.0 c.from_residual-in_err-check_apart-2.ensures.1
    (inr (record { between = c.check_apart.new.images; data_apart = c.in_ok-check_apart.ensures.ok; one = c.in_err-check_apart-2.ensures.err }))

pub returns-clause-ok : goal.returns-clause-ok
returns-clause-ok g c = record { between = c.check_apart.new.images; data_apart = c.in_ok-check_apart.ensures.ok; hash_apart = c.in_ok-check_apart-2.ensures.ok }
