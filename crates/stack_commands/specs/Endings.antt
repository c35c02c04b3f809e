-- What a command prints if it ends early, and its status.
use Rattle.std.specs.Prelude.{◌≡◌, ◌⊎◌, ℕ, Bool, true, List, [], Option, Some}
use Rattle.std.specs.Io.KnownBytes.{Appends}
use Rattle.command_line.specs.declared.fault.WordsFault.{WordsFault}
use Rattle.command_line.specs.declared.fault.WordsFault.TheVariants as words
use Rattle.stack_commands.specs.declared.fault.CommandFault.{CommandFault}
use Rattle.stack_commands.specs.declared.fault.CommandFault.TheVariants.{Usage, NoMemory, Stack, Linux, Request, Io, Recovering, Stream, Verity, Fec, Partitions, Trees, Session, Service, Faults}
use Rattle.linux_rules.specs.declared.refusal.LinuxFault.{LinuxFault}
use Rattle.linux_rules.specs.declared.refusal.LinuxFault.TheVariants as linux
use Rattle.nbd_protocol.specs.declared.fault.ServiceFault.TheVariants as service
use Rattle.stack_commands.specs.EndingObjects.{ending_object}
use Rattle.stack_session.specs.declared.fault.SessionFault.TheVariants.{WriteFault}
use Rattle.verity_commands.specs.Endings as verity
use Rattle.verity_commands.specs.Texts.{verity_text}
use Rattle.fec_commands.specs.FaultTexts.{fec_status, fec_text}
use Rattle.partition_commands.specs.FaultTexts.{partitions_status, partitions_text}
use Rattle.verity_commands.specs.TreeFaultTexts.{tree_status, tree_fault_text}
use Rattle.io_fault_text.specs.Texts.{io_text, no_memory, usage_text}
use Rattle.stack_commands.specs.FaultTexts.{faults_text, io_status, linux_text, recovering_status, recovering_text, request_status, request_text, service_text, stack_fault_text, stream_status, stream_text}

-- how a command ends where the words are none
abbrev pub command_words_ending : WordsFault → CommandFault
command_words_ending (words.Usage misuse) = Usage (Some misuse)
command_words_ending words.NoMemory = NoMemory

-- how a command ends if Linux wouldn't take a stack, or memory ran out before that was known
abbrev pub linux_ending : LinuxFault → CommandFault
linux_ending (linux.Refused refusal) = Linux refusal
linux_ending linux.NoMemory = NoMemory

-- what is printed of it; the own faults of a session print nothing
abbrev pub ending_text : CommandFault → List ℕ
ending_text (Usage misuse) = usage_text
ending_text NoMemory = no_memory
ending_text (Stack fault) = stack_fault_text fault
ending_text (Linux refusal) = linux_text refusal
ending_text (Request fault) = request_text fault
ending_text (Io fault) = io_text fault
ending_text (Recovering fault) = recovering_text fault
ending_text (Stream fault) = stream_text fault
ending_text (Verity fault) = verity_text fault
ending_text (Fec fault) = fec_text fault
ending_text (Partitions fault) = partitions_text fault
ending_text (Trees fault) = tree_fault_text fault
ending_text (Session fault) = []
ending_text (Service fault) = service_text fault
ending_text (Faults tally) = faults_text tally

-- 2 for words that are no command, 3 for a fault of the stack, images that differ, lost sectors and faults that a client got,
-- 4 for a client that breaks the protocol or is lost, else 1
abbrev pub ending_status : CommandFault → ℕ
ending_status (Usage misuse) = 2
ending_status (Request fault) = request_status fault
ending_status (Io fault) = io_status fault
ending_status (Recovering fault) = recovering_status fault
ending_status (Stream fault) = stream_status fault
ending_status (Verity fault) = verity.verity_status fault
ending_status (Fec fault) = fec_status fault
ending_status (Partitions fault) = partitions_status fault
ending_status (Trees fault) = tree_status fault
ending_status (Service service.Lost) = 4
ending_status (Service service.Magic) = 4
ending_status (Service service.Flags) = 4
ending_status (Service service.NoSuchExport) = 4
ending_status (Service service.TooManyOptions) = 4
ending_status (Faults tally) = 3
ending_status fault = 1

-- its text was printed, and its status answered
abbrev pub IsEnd : CommandFault → Option (List ℕ) → Option (List ℕ) → ℕ → Type 0
IsEnd fault old new status = (status ≡ ending_status fault) × Appends old new (ending_text fault)

-- the object of its line was printed, and its status answered
abbrev pub IsObjectEnd : CommandFault → Option (List ℕ) → Option (List ℕ) → ℕ → Type 0
IsObjectEnd fault old new status = (status ≡ ending_status fault) × ((object : List ℕ) × ((ending_object (ending_text fault) ≡ Some object) × Appends old new object))

-- its text was printed, or if an object is asked for maybe the object of its line; that it is the object then is only tested
abbrev pub IsEndAs : Bool → CommandFault → Option (List ℕ) → Option (List ℕ) → ℕ → Type 0
IsEndAs json fault old new status = IsEnd fault old new status ⊎ ((json ≡ true) × IsObjectEnd fault old new status)

-- a line can't be written: the writer failed
abbrev pub IsReplyUnwritten : Bool → CommandFault → Type 0
IsReplyUnwritten failed (Session fault) = (fault ≡ WriteFault) × (failed ≡ true)
IsReplyUnwritten failed fault = ⊥

-- nothing is written ahead of what ends a command, unless it is the writing that fails
abbrev pub IsSilent : CommandFault → Option (List ℕ) → Option (List ℕ) → Type 0
IsSilent (Session fault) old new = Unit {0}
IsSilent (Verity fault) old new = verity.IsVerityQuiet fault old new
IsSilent fault old new = new ≡ old
