-- What the program does with the words after its name.
use Rattle.std.specs.Prelude.{◌≡◌, ◌⊎◌, ◌&&◌, ◌||◌, ℕ, Bool, true, false, not, List, [], ◌∷◌, codes, Option, None, Some, Ok, if◌then◌else◌}
use Rattle.std.specs.Io.KnownBytes.{Appends}
use Rattle.std.specs.Str.{bytes_eq}
use Rattle.stack_commands.specs.declared.command_end.CommandEnd.{CommandEnd}
use Rattle.stack_commands.specs.declared.fault.CommandFault.{CommandFault}
use Rattle.stack_commands.specs.declared.fault.CommandFault.TheVariants.{Fec, Usage, Verity}
use Rattle.stack_commands.specs.Endings.{IsEnd, IsEndAs, IsSilent, ending_text}
use Rattle.fec_commands.specs.declared.fault.FecFault.TheVariants as fec_fault
use Rattle.verity_commands.specs.declared.verity_fault.VerityFault.TheVariants as verity_fault
use Rattle.program_io.specs.Streams.{Streams}
use Rattle.command_line.specs.declared.misuse.Misuse.{Misuse}
use Rattle.command_line.specs.Invocations.{InvocationRecord}
use Rattle.command_parser.specs.CommandLines.{line_said, line_with}
use Rattle.command_line.specs.FormatOptions.{OptionTexts}
use Rattle.manual_pages.specs.MessageLines.{message_line}
use Rattle.manual_pages.specs.UsageErrors.{explanation}
use Rattle.stack_files.specs.Warnings.{Notes}
use Rattle.stack_commands.specs.messages.Commands.{ending_message}
use Rattle.stack_commands.specs.Resolutions.{EndsEarly, SucceedsResolved}
use Rattle.stack_commands.specs.Uses.{IsUsageEnd, Uses}

-- the command of some words, and the values of its options
abbrev pub IsCommandOf : List (List ℕ) → OptionTexts → InvocationRecord → Type 0
IsCommandOf words texts invocation = line_said words ≡ Ok (line_with texts invocation)

-- the command of that name writes data for another program: the bytes of a device, the replies to a client
abbrev pub writes_data : List ℕ → Bool
writes_data name = bytes_eq name (codes "cat") || bytes_eq name (codes "nbd")

-- that of the words does
abbrev pub output_is_data : List (List ℕ) → Bool
output_is_data [] = false
output_is_data (name ∷ words) = writes_data name

-- the words are no command
abbrev pub is_usage : CommandFault → Bool
is_usage (Usage misuse) = true
is_usage (Verity verity_fault.Usage) = true
is_usage (Fec (fec_fault.Verity verity_fault.Usage)) = true
is_usage fault = false

-- `--json` asks for an object of each end but a usage error
abbrev pub object_asked : Bool → CommandFault → Bool
object_asked json fault = json && not (is_usage fault)

-- An argument is misused, or memory ran out while the words were read, and nothing was opened; or their command ended early, and its
-- options ask for an object of the end, or for no sentence on it.
abbrev pub IsRunEnd : {S D T G : Type 0} → List (List ℕ) → Uses S D T G → Bool → CommandEnd → Type 0
IsRunEnd words u failed ended =
    (IsUsageEnd words ended.fault × (u.new ≡ u.old) × (u.images.new ≡ u.images.old) × (u.notes.new ≡ u.notes.old) × (ended.json ≡ false))
    ⊎ ((invocation : InvocationRecord) × (texts : OptionTexts) × IsCommandOf words texts invocation × EndsEarly texts invocation u failed ended.fault
    × (ended.json ≡ object_asked texts.json ended.fault) × (ended.quiet ≡ texts.quiet))

-- the words; whether the writer failed; what was written to the errors' writer before and by now, and whether that failed
pub record Told : Type 0 where
  pub words : List (List ℕ)
  pub failed : Bool
  pub old : Option (List ℕ)
  pub new : Option (List ℕ)
  pub errors_failed : Bool

abbrev pub told_to : List (List ℕ) → Bool → Option (List ℕ) → Option (List ℕ) → Bool → Told
told_to words failed old new errors_failed = record { words = words; failed = failed; old = old; new = new; errors_failed = errors_failed }

-- the misused argument that a usage error names; none if `manual` has no such page
abbrev pub misuse_of : CommandFault → Option Misuse
misuse_of (Usage misuse) = misuse
misuse_of fault = None

-- what is printed of a usage error: which argument is misused and why, or the page that is wanted, unless the errors' writer failed
abbrev pub ExplainsUsage : CommandFault → List (List ℕ) → Option (List ℕ) → Option (List ℕ) → Bool → Type 0
ExplainsUsage fault words old new failed = Appends old new (explanation words (misuse_of fault)) ⊎ (failed ≡ true)

-- the sentence on an end, if there is one, unless none is asked for
abbrev pub said_message : Bool → CommandFault → Option (List ℕ)
said_message quiet fault = if quiet then None else ending_message fault

-- the line of a sentence, if there is one
abbrev pub reason_line : Option (List ℕ) → List ℕ
reason_line (Some message) = message_line message
reason_line None = []

-- the sentence on an end is printed, unless the errors' writer failed
abbrev pub ExplainsEnd : Bool → CommandFault → Option (List ℕ) → Option (List ℕ) → Bool → Type 0
ExplainsEnd quiet fault old new failed = Appends old new (reason_line (said_message quiet fault)) ⊎ (failed ≡ true)

-- its text was printed and its status answered, or the writer failed
abbrev pub IsEndOr : Bool → CommandFault → Option (List ℕ) → Option (List ℕ) → ℕ → Type 0
IsEndOr failed fault old new status = IsEnd fault old new status ⊎ ((status ≡ 1) × (failed ≡ true))

-- its text or its object was printed and its status answered, or the writer failed
abbrev pub IsEndAsOr : Bool → Bool → CommandFault → Option (List ℕ) → Option (List ℕ) → ℕ → Type 0
IsEndAsOr json failed fault old new status = IsEndAs json fault old new status ⊎ ((status ≡ 1) × (failed ≡ true))

-- the text among the errors, after what explains it
pub record IsToldElsewhere (ended : CommandEnd) (told : Told) (status : ℕ) : Type 0 where
  pub before : Option (List ℕ)
  pub explained : is_usage ended.fault ≡ true → ExplainsUsage ended.fault told.words told.old before told.errors_failed
  pub reason : is_usage ended.fault ≡ false → ExplainsEnd ended.quiet ended.fault told.old before told.errors_failed
  pub ends : IsEndOr told.errors_failed ended.fault before told.new status

-- if the writer failed, the text is printed among the errors, unless these failed too; else the errors are as they were
abbrev pub IsRepeated : Bool → CommandFault → Option (List ℕ) → Option (List ℕ) → Bool → Type 0
IsRepeated false fault old new errors_failed = new ≡ old
IsRepeated true fault old new errors_failed = Appends old new (ending_text fault) ⊎ (errors_failed ≡ true)

-- what is printed among the errors: what explains the end, then its text if the writer failed
pub record TellsErrors (ended : CommandEnd) (told : Told) : Type 0 where
  pub before : Option (List ℕ)
  pub explained : is_usage ended.fault ≡ true → ExplainsUsage ended.fault told.words told.old before told.errors_failed
  pub reason : is_usage ended.fault ≡ false → ExplainsEnd ended.quiet ended.fault told.old before told.errors_failed
  pub repeated : IsRepeated told.failed ended.fault before told.new told.errors_failed

-- how an end is reported: printed; if the output is data, among the errors, and nothing is written
abbrev pub IsTold : Bool → CommandEnd → Option (List ℕ) → Option (List ℕ) → Told → ℕ → Type 0
IsTold false ended old new told status = IsEndAsOr ended.json told.failed ended.fault old new status × TellsErrors ended told
IsTold true ended old new told status = (new ≡ old) × IsToldElsewhere ended told status

-- A command ended early: its text, or the object of its line, is printed and its status answered, or that can't be written. If the
-- writer had failed before, that stays known. Among the errors the text follows what the command printed there. Nothing more is read.
pub record EndsCommand {S D T G : Type 0} (u : Uses S D T G) (told : Told) (status : ℕ) : Type 0 where
  pub ended : CommandEnd
  pub before : Streams
  pub unwritten : Bool
  pub notes : Notes
  pub begun : notes.old ≡ told.old
  pub noted : notes.failed ≡ true → told.errors_failed ≡ true
  pub fails : IsRunEnd told.words (record u { new = before; notes = notes }) unwritten ended
  pub read : u.new.input ≡ before.input
  pub kept : unwritten ≡ true → told.failed ≡ true
  pub told_so : IsTold (output_is_data told.words) ended before.output u.new.output (record told { old = notes.new }) status

-- the command of some words succeeded
abbrev pub IsCommandDone : {S D T G : Type 0} → List (List ℕ) → Uses S D T G → Type 0
IsCommandDone words u = (invocation : InvocationRecord) × (texts : OptionTexts) × IsCommandOf words texts invocation × SucceedsResolved texts invocation u
