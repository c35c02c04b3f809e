use Rattle.std.proofs.Common.{refl}
use Rattle.repair_commands.proofs.EndingLemmas.{err-from}
use Rattle.repair_commands.proofs.parity.open_parity.Goals as goal

pub returns-clause-ok : goal.returns-clause-ok
returns-clause-ok g c = record { image = c.in_ok-image.image; opened = rw (c.part_use.ensures, c.part_use-2.ensures) at c.in_ok-image.ensures.ok; device_is = refl; roots_are = refl }

pub returns-in_err-image-clause-err : goal.returns-in_err-image-clause-err
returns-in_err-image-clause-err g c =
    err-from c.from_residual.result _ c.in_err-image.field-0.0 c.from_residual.ensures.1 (rw (c.part_use.ensures, c.part_use-2.ensures) at c.in_err-image.ensures.err)
