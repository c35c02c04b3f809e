use Rattle.std.proofs.Common.{refl}
use Rattle.stack_files.proofs.opening_fault.OpeningFaultFromUnopenedPart.from.Goals as goal

pub returns-in-File : goal.returns-in-File
returns-in-File c = rw c.in-File.is refl

pub returns-in-Outside : goal.returns-in-Outside
returns-in-Outside c = rw c.in-Outside.is refl
