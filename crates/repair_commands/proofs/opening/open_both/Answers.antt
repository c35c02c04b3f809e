use Rattle.std.proofs.Common.{inl, inr}
use Rattle.repair_commands.proofs.EndingLemmas.{err-from}
use Rattle.repair_commands.proofs.opening.open_both.Goals as goal

pub returns-in_err-data_copies-clause-err : goal.returns-in_err-data_copies-clause-err
returns-in_err-data_copies-clause-err g c =
    err-from c.from_residual.result _ c.in_err-data_copies.field-0.0 c.from_residual.ensures.1 (inl c.in_err-data_copies.ensures.err)

pub returns-in_err-hash_copies-clause-err : goal.returns-in_err-hash_copies-clause-err
returns-in_err-hash_copies-clause-err g c =
    err-from c.from_residual-in_err-hash_copies.result _ c.in_err-hash_copies.field-0.0 c.from_residual-in_err-hash_copies.ensures.1
    (inr (record { between = c.open_copies.new.images; devices = c.in_ok-data_copies.data_copies.items; data_opened = c.in_ok-data_copies.ensures.ok; refused = c.in_err-hash_copies.ensures.err }))

pub returns-clause-ok : goal.returns-clause-ok
returns-clause-ok g c = record {
  between = c.open_copies.new.images;
  data_opened = c.in_ok-data_copies.ensures.ok;
  hash_opened = c.in_ok-hash_copies.ensures.ok;
}
