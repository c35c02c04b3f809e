use Rattle.std.proofs.Common.{inr}
use Rattle.repair_commands.proofs.EndingLemmas.{err-from}
use Rattle.repair_commands.proofs.pair.open_files.Goals as goal

pub returns-in_err-hash-clause-err : goal.returns-in_err-hash-clause-err
returns-in_err-hash-clause-err g c =
    err-from c.from_residual-in_err-hash.result _ c.in_err-hash.field-0.0 c.from_residual-in_err-hash.ensures.1
    (inr (record { between = c.open_place.new.images; data_image = c.in_ok-data.«data»; data_opened = c.in_ok-data.ensures.ok; refused = c.in_err-hash.ensures.err }))

pub returns-clause-ok : goal.returns-clause-ok
returns-clause-ok g c = record {
  between = c.open_place.new.images;
  data_opened = c.in_ok-data.ensures.ok;
  hash_opened = c.in_ok-hash.ensures.ok;
}
