-- What a command uses, and ends that several commands have.
use Rattle.std.specs.Prelude.{◌≡◌, ℕ, List, Some, Err}
use Rattle.command_line.specs.Misuses.{misuse_record}
use Rattle.command_parser.specs.CommandLines.{line_said}
use Rattle.command_parser.specs.Memory.{IsLineOutOfMemory}
use Rattle.stack_commands.specs.ServiceLog.{JournalRecord}
use Rattle.stack_commands.specs.declared.fault.CommandFault.{CommandFault}
use Rattle.stack_commands.specs.declared.fault.CommandFault.TheVariants.{NoMemory, Recovering, Request, Stack, Stream, Trees, Usage, Verity}
use Rattle.program_io.specs.Streams.{Streams}
use Rattle.image_commands.specs.Drawing.{Drawing}
use Rattle.image_files.specs.Opener.{Calls}
use Rattle.stack_files.specs.Warnings.{Notes}
use Rattle.scan_commands.specs.declared.recovering_fault.RecoveringFault.{RecoveringFault}
use Rattle.transfer_commands.specs.declared.request_fault.RequestFault.{RequestFault}
use Rattle.stack_files.specs.declared.stack_fault.StackFault.{StackFault}
use Rattle.transfer_commands.specs.declared.stream_fault.StreamFault.{StreamFault}
use Rattle.verity_commands.specs.declared.tree_fault.TreeFault.{TreeFault}
use Rattle.verity_commands.specs.declared.verity_fault.VerityFault.{VerityFault}

-- the fault is `Usage` with the argument that the words misuse, or memory ran out while they were read
abbrev pub IsUsageEnd : List (List ℕ) → CommandFault → Type 0
IsUsageEnd words (Usage (Some misuse)) = line_said words ≡ Err (misuse_record misuse)
IsUsageEnd words NoMemory = IsLineOutOfMemory words
IsUsageEnd words fault = ⊥

-- a command on stacks ended so before it had one
abbrev pub IsStackEnd : (StackFault → Type 0) → CommandFault → Type 0
IsStackEnd Ends (Stack fault) = Ends fault
IsStackEnd Ends fault = ⊥

-- a request ended so
abbrev pub IsRequestEnd : (RequestFault → Type 0) → CommandFault → Type 0
IsRequestEnd Ends (Request fault) = Ends fault
IsRequestEnd Ends fault = ⊥

-- a command that scans a device ended so
abbrev pub IsRecoveringEnd : (RecoveringFault → Type 0) → CommandFault → Type 0
IsRecoveringEnd Ends (Recovering fault) = Ends fault
IsRecoveringEnd Ends fault = ⊥

-- a command on the bytes of a device ended so
abbrev pub IsStreamEnd : (StreamFault → Type 0) → CommandFault → Type 0
IsStreamEnd Ends (Stream fault) = Ends fault
IsStreamEnd Ends fault = ⊥

-- a command on verity images ended so
abbrev pub IsVerityEnd : (VerityFault → Type 0) → CommandFault → Type 0
IsVerityEnd Ends (Verity fault) = Ends fault
IsVerityEnd Ends fault = ⊥

-- a command on hash trees ended so
abbrev pub IsTreesEnd : (TreeFault → Type 0) → CommandFault → Type 0
IsTreesEnd Ends (Trees fault) = Ends fault
IsTreesEnd Ends fault = ⊥

-- What a command opens, draws from, reads and writes, and what it prints among the errors, before and after it; and who takes the
-- lines of `nbd`.
pub record Uses (S D T G : Type 0) : Type 1 where
  pub images : Calls S D
  pub drawing : Drawing T G
  pub old : Streams
  pub new : Streams
  pub notes : Notes
  pub journal : JournalRecord

abbrev pub uses : {S D T G : Type 0} → Calls S D → Drawing T G → Streams → Streams → Notes → JournalRecord → Uses S D T G
uses images drawing old new notes journal = record { images = images; drawing = drawing; old = old; new = new; notes = notes; journal = journal }
