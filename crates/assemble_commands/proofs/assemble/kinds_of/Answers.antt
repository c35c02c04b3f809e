use Rattle.std.proofs.Common.{refl}
use Rattle.image_commands.specs.declared.fault.ImageFault.TheVariants.{NoMemory}
use Rattle.assemble_commands.proofs.EndLemmas.{err-from}
use Rattle.assemble_commands.proofs.assemble.kinds_of.Goals as goal

pub returns-in_err-kinds-clause-err : goal.returns-in_err-kinds-clause-err
returns-in_err-kinds-clause-err c =
    let e = c.in_err-kinds.field-0.0 in
    err-from c.from_residual.result _ NoMemory c.from_residual.ensures.1 (refl, (e.asked, c.in_err-kinds.ensures.err, e.refused))
