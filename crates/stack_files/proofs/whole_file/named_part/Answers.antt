use Rattle.std.proofs.Common.{Some, ap}
use Rattle.device_adapters.specs.declared.part.Part.{Part}
use Rattle.stack_files.proofs.whole_file.named_part.Goals as goal

pub returns-in-Some : goal.returns-in-Some
returns-in-Some c = rw c.in-Some.is (ap (λ (part : Part). Some part) c.device_part.ensures)
