use Rattle.image_commands.specs.declared.fault.ImageFault.TheVariants.{NoMemory}
use Rattle.image_commands.proofs.OpeningLemmas.{err-from}
use Rattle.image_commands.proofs.line.say_line.Goals as goal

pub returns-in_err-line-clause-err : goal.returns-in_err-line-clause-err
returns-in_err-line-clause-err g c =
    let refused = rw (c.as_bytes.ensures.value, c.as_bytes-2.ensures.value) at c.in_err-line.ensures.err in
    err-from c.from_residual.result _ NoMemory c.from_residual.ensures.1 refused
