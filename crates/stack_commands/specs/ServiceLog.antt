-- What `nbd` prints among the errors while it serves a client.
use Rattle.std.specs.Prelude.{◌≡◌, ℕ, ◌-◌, ◌==◌, All, Bool, true, false, List, [], ◌∷◌, ◌++◌, codes, decimal, flat_map, Option, Some, None, Result, Ok, Err, if◌then◌else◌}
use Rattle.hex.specs.Hex.{encode_lower}
use Rattle.dm_table.specs.declared.table.Line.{Line}
use Rattle.dm_table.specs.declared.table.Target.{Target}
use Rattle.dm_table.specs.declared.table.Target.TheVariants as target
use Rattle.stack_rules.specs.Names.{lines_of}
use Rattle.stack_rules.specs.Records.{Configuration}
use Rattle.nbd_protocol.specs.Exports.{ExportRecord}
use Rattle.nbd_protocol.specs.declared.fault.ServiceFault.{ServiceFault}
use Rattle.nbd_protocol.specs.declared.fault.ServiceFault.TheVariants as service
use Rattle.nbd_server.specs.FaultLines.{report_text}
use Rattle.nbd_server.specs.FaultLog.{MetFault, faults_in}
use Rattle.nbd_server.specs.Service.{IsService}
use Rattle.nbd_server.specs.declared.known_faults.ExportFault.{ExportFault}
use Rattle.nbd_server.specs.declared.session_end.SessionEnd.{SessionEnd}
use Rattle.nbd_server.specs.declared.session_end.SessionEnd.TheVariants as session
use Rattle.nbd_server.specs.declared.session_log.SessionLog.{SessionLog}
use Rattle.nbd_server.specs.declared.tally.Tally.{Tally}
use Rattle.linux_rules.specs.Signatures.{has_signature}
use Rattle.stack_files.specs.Unchecked.{unchecked_text}
use Rattle.stack_files.specs.Warnings.{IsNoted, Notes}
use Rattle.program_io.specs.Streams.{Streams}
use Rattle.request_queue.specs.World.{World}

-- ---- the lines

-- whether clients may write it
abbrev pub rights_text : Bool → List ℕ
rights_text writable = if writable then codes "rw" else codes "ro"

-- the root hash of a `verity` line
abbrev pub target_root : Target → Option (List ℕ)
target_root (target.Verity verity) = Some verity.root
target_root other = None

-- that of a mapped device whose only line is such a line
abbrev pub only_root : List Line → Option (List ℕ)
only_root (line ∷ []) = target_root line.target
only_root lines = None

-- `, root HEX`, if there is a root hash
unfoldable pub root_words : List ℕ → List ℕ
root_words root = codes ", root " ++ encode_lower root

abbrev pub root_end : Option (List ℕ) → List ℕ
root_end (Some root) = root_words root
root_end None = codes ""

-- ` SIZE bytes rw`, or `ro`
abbrev pub export_facts : ℕ → Bool → List ℕ
export_facts size writable = codes " " ++ (decimal size ++ (codes " bytes " ++ rights_text writable))

-- the root hash of an export of these lines, and the end of the line
unfoldable pub root_facts : List Line → List ℕ
root_facts lines = root_end (only_root lines) ++ codes "\n"

-- its size, its rights and its root hash
unfoldable pub export_words : Configuration → ExportRecord → List ℕ
export_words c e = export_facts e.size e.writable ++ root_facts (lines_of c e.device)

-- its name before them; the name of a mapped device has no control characters
unfoldable pub named_facts : Configuration → ExportRecord → List ℕ
named_facts c e = e.name ++ export_words c e

-- the line of an export
unfoldable pub export_line : Configuration → ExportRecord → List ℕ
export_line c e = codes "dmstack: export " ++ named_facts c e

-- a line for each export
abbrev pub exports_text : Configuration → List ExportRecord → List ℕ
exports_text c exports = flat_map (export_line c) exports

-- before them, that no signature is checked
unfoldable pub start_text : Configuration → List ExportRecord → List ℕ
start_text c exports = unchecked_text c ++ exports_text c exports

-- why a session ended
abbrev pub end_reason : Result SessionEnd ServiceFault → List ℕ
end_reason (Ok session.Ended) = codes "the client ended the session"
end_reason (Ok session.Gone) = codes "the client disconnected"
end_reason (Err service.Lost) = codes "the client disconnected in a message"
end_reason (Err service.Magic) = codes "the client broke the protocol"
end_reason (Err service.Flags) = codes "the client broke the protocol"
end_reason (Err service.NoSuchExport) = codes "there is no such export"
end_reason (Err service.TooManyOptions) = codes "the client sent too many options"
end_reason (Err service.ReadFault) = codes "the input failed"
end_reason (Err service.WriteFault) = codes "the output failed"

-- how many requests were answered, of how many bytes, how many of these with an input/output error, and how many because a device
-- has no space left
unfoldable pub tally_text : Tally → List ℕ
tally_text t =
    codes "dmstack: served "
    ++ (decimal t.requests
    ++ (codes " requests of "
    ++ (decimal t.bytes ++ (codes " bytes, " ++ (decimal (t.faults - t.full) ++ (codes " with an input/output error, " ++ (decimal t.full ++ codes " with NoSpace")))))))

-- how often blocks were restored; nothing if none was
unfoldable pub restored_text : ℕ → List ℕ
restored_text count = if count == 0 then codes "" else codes ", restored blocks " ++ (decimal count ++ codes " times")

-- and why the session ended
unfoldable pub reason_text : List ℕ → List ℕ
reason_text reason = codes "; " ++ (reason ++ codes "\n")

abbrev pub ending_text : ℕ → List ℕ → List ℕ
ending_text restored reason = restored_text restored ++ reason_text reason

abbrev pub served_line : Tally → ℕ → List ℕ → List ℕ
served_line t restored reason = tally_text t ++ ending_text restored reason

-- ---- what was printed

-- who takes the lines: whether these may begin with their priority, and the seconds that the clock may show by which those on faults
-- are limited
pub record JournalRecord : Type 1 where
  pub priorities : Bool
  pub shows : ℕ → Type 0

abbrev pub journal_record : {J : Type 0} → (J → Bool) → (J → ℕ → Type 0) → J → JournalRecord
journal_record priorities shows journal = record { priorities = priorities journal; shows = shows journal }

-- The faults were met when the clock showed these seconds, and a text on them was printed among the errors, or the errors failed.
pub record IsMetNoted (shows : ℕ → Type 0) (text : List MetFault → List ℕ) (notes : Notes) (faults : List ExportFault) : Type 0 where
  pub met : List MetFault
  pub faults_are : faults ≡ faults_in met
  pub shown : All (λ (m : MetFault). shows m.seconds) met
  pub noted : IsNoted notes (text met)

-- that no signature is checked was printed, if a line names the key of one, and otherwise nothing
abbrev pub IsWarnedIf : Bool → List ℕ → Notes → Type 0
IsWarnedIf true text notes = IsNoted notes text
IsWarnedIf false text notes = notes.new ≡ notes.old

abbrev pub IsWarned : Configuration → Notes → Type 0
IsWarned c notes = IsWarnedIf (has_signature c) (unchecked_text c) notes

-- with `--quiet` only that is printed
abbrev pub IsNotedUnless : Bool → Configuration → (ℕ → Type 0) → (List MetFault → List ℕ) → Notes → List ExportFault → Type 0
IsNotedUnless true c shows text notes faults = IsWarned c notes
IsNotedUnless false c shows text notes faults = IsMetNoted shows text notes faults

-- what is read of a client, written to it and printed among the errors while it is served, whether `--quiet` is given, and the journal
pub record Exchange : Type 1 where
  pub old : Streams
  pub new : Streams
  pub quiet : Bool
  pub notes : Notes
  pub journal : JournalRecord

abbrev pub exchange : Streams → Streams → Bool → Notes → JournalRecord → Exchange
exchange old new quiet notes journal = record { old = old; new = new; quiet = quiet; notes = notes; journal = journal }

-- what is printed after a session: its tally, with the number of times that a block was restored
abbrev pub end_text : Tally → ℕ → Result SessionEnd ServiceFault → List ℕ
end_text t restored outcome = served_line t restored (end_reason outcome)

-- what is printed of a session: a line for each export before, those on faults, and that on the tally after
abbrev pub session_text : Bool → List ExportRecord → World → World → SessionLog → Result SessionEnd ServiceFault → List MetFault → List ℕ
session_text priorities exports begin last log outcome met =
    start_text begin.stack.config exports ++ (report_text priorities exports met ++ end_text log.tally (last.stack.restored - begin.stack.restored) outcome)

-- a client was served these exports, and this was printed of its session, by the clock and the priorities of the journal
pub record ServesNoted (x : Exchange) (exports : List ExportRecord) (begin last : World) (log : SessionLog) (outcome : Result SessionEnd ServiceFault) : Type 0 where
  pub service : IsService exports begin last x.old x.new log (IsNotedUnless x.quiet begin.stack.config x.journal.shows (session_text x.journal.priorities exports begin last log outcome) x.notes) outcome

-- nothing was read, written or printed
abbrev pub IsUnbegun : Exchange → Type 0
IsUnbegun x = (x.new ≡ x.old) × (x.notes.new ≡ x.notes.old)
