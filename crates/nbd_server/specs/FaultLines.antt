-- What is printed of the faults of requests: a line for each of the first 60 in a minute, and how many more there are.
use Rattle.std.specs.Prelude.{◌≡◌, ◌⊎◌, ℕ, ◌==◌, Bool, true, List, [], ◌∷◌, ◌++◌, All, codes, decimal, Option, Some, None, Result, Ok, Err, if◌then◌else◌}
use Rattle.std.specs.Io.KnownBytes.{Appends}
use Rattle.nbd_protocol.specs.Exports.{ExportRecord, export_at}
use Rattle.nbd_protocol.specs.declared.fault.ServiceFault.{ServiceFault}
use Rattle.nbd_protocol.specs.declared.phase.Phase.{Phase}
use Rattle.nbd_protocol.specs.declared.phase.Phase.TheVariants.{Serving}
use Rattle.nbd_server.specs.FaultLog.{MetFault, begun_log, ended_count, faults_in, log_after, met_fault, new_log, next_log, said_fault}
use Rattle.nbd_server.specs.Logs.{met_name}
use Rattle.nbd_server.specs.declared.data_block.DataBlock.{DataBlock}
use Rattle.nbd_server.specs.declared.fault_log.FaultLog.{FaultLog}
use Rattle.nbd_server.specs.declared.known_faults.ExportFault.{ExportFault}
use Rattle.nbd_server.specs.declared.session_log.SessionLog.{SessionLog}
use Rattle.program_io.specs.Counted.{CountedRecord}
use Rattle.stack_meaning.specs.declared.fault.IoFault.{IoFault}
use Rattle.stack_meaning.specs.declared.fault.IoFault.TheVariants as io

-- the end of the line of a fault, with the data block that fails verification if it is known
abbrev pub block_end : Option DataBlock → List ℕ
block_end (Some block) = codes ", data block " ++ (decimal block.number ++ codes "\n")
block_end None = codes "\n"

-- with the number of the backing device that failed
abbrev pub fault_end : IoFault → Option DataBlock → List ℕ
fault_end (io.Device leaf) block = codes " " ++ (decimal leaf ++ codes "\n")
fault_end fault block = block_end block

-- the sector of a request's fault, or that the fault is of a sync
abbrev pub place_text : Option ℕ → List ℕ
place_text (Some sector) = codes ": sector " ++ (decimal sector ++ codes ": ")
place_text None = codes ": flush: "

-- the name of a fault, and what is known of it
abbrev pub kind_text : ExportFault → List ℕ
kind_text f = met_name f ++ fault_end f.fault f.block

-- the place of a request's fault, and the fault's name
unfoldable pub fault_facts : ExportFault → List ℕ
fault_facts f = place_text f.sector ++ kind_text f

-- with the name of its export before them
unfoldable pub named_fault : List ExportRecord → ExportFault → List ℕ
named_fault exports f = (export_at exports f.place).name ++ fault_facts f

-- a line for it
unfoldable pub fault_line : List ExportRecord → ExportFault → List ℕ
fault_line exports f = codes "dmstack: export " ++ named_fault exports f

-- the priority of a warning, by which systemd's journal files the line
abbrev pub priority_text : Bool → List ℕ
priority_text priorities = if priorities then codes "<4>" else codes ""

unfoldable pub journal_line : Bool → List ExportRecord → ExportFault → List ℕ
journal_line priorities exports f = priority_text priorities ++ fault_line exports f

-- the line of a fault, if it has one
abbrev pub said_line : Bool → List ExportRecord → Option ExportFault → List ℕ
said_line priorities exports None = codes ""
said_line priorities exports (Some f) = journal_line priorities exports f

-- so many more requests had faults; nothing if there are none
unfoldable pub more_text : ℕ → List ℕ
more_text count = codes "dmstack: " ++ (decimal count ++ codes " more faulty requests\n")

abbrev pub more_line : Bool → ℕ → List ℕ
more_line priorities count = if count == 0 then codes "" else priority_text priorities ++ more_text count

-- what is printed of a fault that is met: how many had no line in the minute before, and its own line
abbrev pub said_lines : Bool → List ExportRecord → ℕ → Option ExportFault → List ℕ
said_lines priorities exports count f = more_line priorities count ++ said_line priorities exports f

abbrev pub met_lines : List ExportRecord → MetFault → FaultLog → List ℕ
met_lines exports met l = said_lines l.priorities exports (ended_count met.seconds l) (said_fault met.fault (begun_log met.seconds l))

-- and of several in their order
abbrev pub lines_of : List ExportRecord → FaultLog → List MetFault → List ℕ
lines_of exports l [] = []
lines_of exports l (met ∷ more) = met_lines exports met l ++ lines_of exports (next_log met l) more

-- at the end: how many had no line in the last minute
abbrev pub last_line : FaultLog → List ℕ
last_line l = more_line l.priorities l.left_out

-- what is printed of the faults of a session
abbrev pub report_text : Bool → List ExportRecord → List MetFault → List ℕ
report_text priorities exports met = lines_of exports (new_log priorities) met ++ last_line (log_after (new_log priorities) met)

-- a text was printed, or the writer failed; a writer that had failed stays failed
pub record IsPrinted {E : Type 0} (contents : E → Option (List ℕ)) (old new : CountedRecord E) (text : List ℕ) : Type 0 where
  pub printed : Appends (contents old.inner) (contents new.inner) text ⊎ (new.failed ≡ true)
  pub failed : old.failed ≡ true → new.failed ≡ true

-- these faults were met, and what is printed of them by the log and the clock, so far
pub record IsReporting {E : Type 0} (contents : E → Option (List ℕ)) (Shows : ℕ → Type 0) (exports : List ExportRecord) (begin now : FaultLog) (old new : CountedRecord E) (faults : List ExportFault) : Type 0 where
  pub met : List MetFault
  pub faults_are : faults ≡ faults_in met
  pub shown : All (λ (m : MetFault). Shows m.seconds) met
  pub now_is : now ≡ log_after begin met
  pub printed : IsPrinted contents old new (lines_of exports begin met)

-- and of all of a session
pub record IsReported {E : Type 0} (contents : E → Option (List ℕ)) (Shows : ℕ → Type 0) (priorities : Bool) (exports : List ExportRecord) (old new : CountedRecord E) (faults : List ExportFault) : Type 0 where
  pub met : List MetFault
  pub faults_are : faults ≡ faults_in met
  pub shown : All (λ (m : MetFault). Shows m.seconds) met
  pub printed : IsPrinted contents old new (report_text priorities exports met)

-- a fault was met, and the lines were printed, or the writer failed
pub record TellsFault {E : Type 0} (contents : E → Option (List ℕ)) (Shows : ℕ → Type 0) (exports : List ExportRecord) (l l' : FaultLog) (old new : CountedRecord E) (fault : ExportFault) : Type 0 where
  pub seconds : ℕ
  pub shown : Shows seconds
  pub log_is : l' ≡ next_log (met_fault seconds fault) l
  pub printed : IsPrinted contents old new (met_lines exports (met_fault seconds fault) l)

-- or there was none, and nothing was printed
abbrev pub TellsMet : {E : Type 0} → (E → Option (List ℕ)) → (ℕ → Type 0) → List ExportRecord → FaultLog → FaultLog → CountedRecord E → CountedRecord E → Option ExportFault → Type 0
TellsMet contents Shows exports l l' old new None = (l' ≡ l) × (new ≡ old)
TellsMet contents Shows exports l l' old new (Some fault) = TellsFault contents Shows exports l l' old new fault

-- the fault of a request, after its message in a phase led to the next one; other messages have none
abbrev pub served_fault : Phase → Phase → SessionLog → Option ExportFault
served_fault (Serving agreed) (Serving again) log = log.last
served_fault phase next log = None

abbrev pub turn_fault : Phase → Option Phase → SessionLog → Option ExportFault
turn_fault phase None log = None
turn_fault phase (Some next) log = served_fault phase next log

-- what was printed after a message, by how it ended
abbrev pub TellsTurn : {E : Type 0} → (E → Option (List ℕ)) → (ℕ → Type 0) → List ExportRecord → Phase → SessionLog → FaultLog → FaultLog → CountedRecord E → CountedRecord E → Result (Option Phase) ServiceFault → Type 0
TellsTurn contents Shows exports phase log l l' old new (Ok next) = TellsMet contents Shows exports l l' old new (turn_fault phase next log)
TellsTurn contents Shows exports phase log l l' old new (Err fault) = TellsMet contents Shows exports l l' old new None

-- nothing is printed of the faults
abbrev pub AnyFaults : List ExportFault → Type 0
AnyFaults faults = Unit {0}
