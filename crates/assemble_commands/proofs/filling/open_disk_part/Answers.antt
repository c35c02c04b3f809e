use Rattle.std.proofs.Common.{ap, sym}
use Rattle.assemble_commands.specs.StepEnds.{part_fault}
use Rattle.assemble_commands.proofs.filling.open_disk_part.Goals as goal

pub returns-in-Err-File-clause-err : goal.returns-in-Err-File-clause-err
returns-in-Err-File-clause-err g c = (c.in-Err-File.field-0, ap part_fault (sym c.in-Err-File.field-0-is), c.in-Err-File.ensures.err)

pub returns-in-Err-Outside-clause-err : goal.returns-in-Err-Outside-clause-err
returns-in-Err-Outside-clause-err g c = (c.in-Err-Outside.field-0, ap part_fault (sym c.in-Err-Outside.field-0-is), c.in-Err-Outside.ensures.err)
