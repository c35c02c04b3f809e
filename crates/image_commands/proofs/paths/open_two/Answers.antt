use Rattle.std.proofs.Common.{inr}
use Rattle.image_commands.proofs.OpeningLemmas.{err-from}
use Rattle.image_commands.proofs.paths.open_two.Goals as goal

pub returns-in_err-hash-clause-err : goal.returns-in_err-hash-clause-err
returns-in_err-hash-clause-err g c =
    err-from c.from_residual-in_err-hash.result _ c.in_err-hash.field-0.0 c.from_residual-in_err-hash.ensures.1
    (inr (record { data_image = c.in_ok-data.«data»; between = c.open_place.new.images; data_opened = c.in_ok-data.ensures.ok; refused = c.in_err-hash.ensures.err }))
