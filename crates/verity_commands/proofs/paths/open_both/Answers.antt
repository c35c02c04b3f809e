use Rattle.std.proofs.Common.{inr}
use Rattle.verity_commands.proofs.OpeningLemmas.{err-from}
use Rattle.verity_commands.proofs.paths.open_both.Goals as goal

pub returns-in_err-second-clause-err : goal.returns-in_err-second-clause-err
returns-in_err-second-clause-err g c =
    err-from c.from_residual-in_err-second.result _ c.in_err-second.field-0.0 c.from_residual-in_err-second.ensures.1
    (inr (record { first_image = c.in_ok-first.first; between = c.open_place.new.images; first_opened = c.in_ok-first.ensures.ok; refused = c.in_err-second.ensures.err }))
