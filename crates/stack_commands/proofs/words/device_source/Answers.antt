use Rattle.std.proofs.Common.{ap, refl}
use Rattle.stack_files.specs.DeviceSources.{of_stack}
use Rattle.stack_files.specs.NamedDevices.{device_words}
use Rattle.stack_files.specs.OpenStacks.{StackWords}
use Rattle.stack_commands.proofs.words.device_source.Goals as goal

pub returns-in-Stack : goal.returns-in-Stack
returns-in-Stack c = rw c.in-Stack.is (ap (λ (words : StackWords). of_stack (device_words words c.in-Stack.name.now c.args.cache)) c.stack_file-file.ensures)

pub returns-in-Disk : goal.returns-in-Disk
returns-in-Disk c = rw c.in-Disk.is refl
