-- The sentences on commands that end early.
use Rattle.std.specs.Prelude.{ℕ, List, Option, Some, None}
use Rattle.stack_commands.specs.declared.fault.CommandFault.{CommandFault}
use Rattle.stack_commands.specs.declared.fault.CommandFault.TheVariants as command
use Rattle.manual_pages.specs.messages.Accesses.{io_message}
use Rattle.manual_pages.specs.messages.Linux.{linux_message}
use Rattle.stack_commands.specs.messages.Images.{fec_message, verity_message}
use Rattle.stack_commands.specs.messages.Partitions.{partitions_message}
use Rattle.stack_commands.specs.messages.Scans.{recovering_message}
use Rattle.stack_commands.specs.messages.Services.{faults_message, service_message}
use Rattle.stack_commands.specs.messages.Stacks.{request_message, stack_message}
use Rattle.stack_commands.specs.messages.Streams.{stream_message}
use Rattle.stack_commands.specs.messages.Trees.{tree_message}

-- a command that ends early, if there is one
unfoldable pub ending_message : CommandFault → Option (List ℕ)
ending_message (command.Usage misuse) = None
ending_message command.NoMemory = None
ending_message (command.Stack fault) = stack_message fault
ending_message (command.Linux refusal) = Some (linux_message refusal.kind)
ending_message (command.Request fault) = request_message fault
ending_message (command.Io fault) = io_message fault
ending_message (command.Recovering fault) = recovering_message fault
ending_message (command.Stream fault) = stream_message fault
ending_message (command.Verity fault) = verity_message fault
ending_message (command.Fec fault) = fec_message fault
ending_message (command.Partitions fault) = partitions_message fault
ending_message (command.Trees fault) = tree_message fault
ending_message (command.Session fault) = None
ending_message (command.Service fault) = service_message fault
ending_message (command.Faults tally) = Some (faults_message tally)
