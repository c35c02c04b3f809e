-- What the functions that run a command line do with all that a command may use.
use Rattle.std.specs.Prelude.{◌≡◌, ℕ, List, Option}
use Rattle.block_device.specs.Device.{Device}
use Rattle.program_io.specs.Counted.{CountedRecord}
use Rattle.program_io.specs.Streams.{streams}
use Rattle.command_line.specs.FormatOptions.{option_texts}
use Rattle.command_line.specs.Invocations.{invocation_record}
use Rattle.command_parser.specs.declared.parser.CommandLine.{CommandLine}
use Rattle.image_commands.specs.Drawing.{Drawing}
use Rattle.image_files.specs.Opener.{Calls, Opener, calls}
use Rattle.stack_files.specs.Warnings.{Notes}
use Rattle.stack_commands.specs.declared.command_end.CommandEnd.{CommandEnd}
use Rattle.stack_commands.specs.declared.fault.CommandFault.{CommandFault}
use Rattle.stack_commands.specs.Commands.{IsCommandDone, IsRunEnd, object_asked}
use Rattle.stack_commands.specs.Invocations.{AreCommandNotes, FailsCommand, Succeeds}
use Rattle.stack_commands.specs.Resolutions.{FailsToFindBound, Resolves}
use Rattle.stack_commands.specs.ServiceLog.{JournalRecord}
use Rattle.stack_commands.specs.Uses.{Uses, uses}

module _ {S D G F R T : Type 0} (relations : Opener S D) (state : D → Device) (remaining : R → Option (List ℕ)) (contents : T → Option (List ℕ)) (images images' : S) (drawn : Drawing G F)
    (reader reader' : CountedRecord R) (writer writer' : CountedRecord T) (notes : Notes) (journal : JournalRecord) where
  abbrev all_used : Uses S D G F
  all_used = uses
      (calls relations state images images')
      drawn
      (streams (remaining reader.inner) (contents writer.inner))
      (streams (remaining reader'.inner) (contents writer'.inner))
      notes
      journal

  -- by the words after the program's name
  abbrev pub DoesWords : List (List ℕ) → Type 0
  DoesWords words = IsCommandDone words all_used

  abbrev pub EndsWords : List (List ℕ) → CommandEnd → Type 0
  EndsWords words ended = IsRunEnd words all_used writer'.failed ended

  -- by what they say
  abbrev pub DoesLine : CommandLine → Type 0
  DoesLine line = Succeeds (option_texts line.options) (invocation_record line.invocation) all_used

  abbrev pub EndsLine : CommandLine → CommandFault → Type 0
  EndsLine line = FailsCommand (option_texts line.options) (invocation_record line.invocation) all_used writer'.failed

  -- what their command prints among the errors while it runs
  abbrev pub NotesLine : CommandLine → Type 0
  NotesLine line = AreCommandNotes (invocation_record line.invocation) all_used

-- the line's command with the partitions that its bindings name as parts of their disks, and its options
pub record IsLineResolved {S D : Type 0} (w : Calls S D) (line resolved : CommandLine) : Type 0 where
  pub same_options : resolved.options ≡ line.options
  pub resolves : Resolves w (invocation_record line.invocation) (invocation_record resolved.invocation)

-- a partition isn't found: how the line ends
pub record IsUnresolvedEnd {S D : Type 0} (w : Calls S D) (line : CommandLine) (ended : CommandEnd) : Type 0 where
  pub cause : FailsToFindBound w (invocation_record line.invocation) ended.fault
  pub json_is : ended.json ≡ object_asked line.options.json ended.fault
  pub quiet_is : ended.quiet ≡ line.options.quiet

-- ---- in terms of the opener, before and after its calls

abbrev pub ResolvesLine : {S D : Type 0} → Opener S D → (D → Device) → S → S → CommandLine → CommandLine → Type 0
ResolvesLine relations state old new line = IsLineResolved (calls relations state old new) line

abbrev pub EndsUnresolved : {S D : Type 0} → Opener S D → (D → Device) → S → S → CommandLine → CommandEnd → Type 0
EndsUnresolved relations state old new line = IsUnresolvedEnd (calls relations state old new) line
