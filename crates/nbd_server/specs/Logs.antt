-- What a session keeps of its requests: how many were answered, how many of these with a fault, and the last of the faults.
use Rattle.std.specs.Prelude.{ℕ, ◌==◌, ◌&&◌, ◌||◌, Bool, true, false, List, [], ◌∷◌, codes, Option, Some, None, Ok, Err, if◌then◌else◌}
use Rattle.std.specs.List.{list_any}
use Rattle.stack_meaning.specs.IoFaults.{io_name}
use Rattle.nbd_server.specs.declared.data_block.DataBlock.{DataBlock}
use Rattle.nbd_server.specs.declared.known_faults.ExportFault.{ExportFault}
use Rattle.nbd_server.specs.declared.known_faults.SectorFault.{SectorFault}
use Rattle.nbd_server.specs.declared.session_log.SessionLog.{SessionLog}
use Rattle.nbd_server.specs.Failures.{fault_of}
use Rattle.nbd_server.specs.Replies.{RequestOutcome}
use Rattle.nbd_server.specs.Tallies.{counted, no_requests}

-- both are the same sector, or no sector
abbrev pub is_same_sector : Option ℕ → Option ℕ → Bool
is_same_sector (Some sector) (Some other) = sector == other
is_same_sector (Some sector) None = false
is_same_sector None (Some other) = false
is_same_sector None None = true

-- both are the same known data block; blocks of several `verity` lines can have the same number
abbrev pub is_same_block : Option DataBlock → Option DataBlock → Bool
is_same_block (Some block) (Some other) = (block.device == other.device) && (block.line == other.line) && (block.number == other.number)
is_same_block (Some block) None = false
is_same_block None other = false

-- both are the same sector, or no sector, or lie in the same data block
abbrev pub is_same_place : Option ℕ → Option DataBlock → Option ℕ → Option DataBlock → Bool
is_same_place sector block other other_block = is_same_sector sector other || is_same_block block other_block

-- a fault of the same sector, or in the same data block, or of a sync, of the same export is among them
abbrev pub has_place : List ExportFault → ExportFault → Bool
has_place known fault = list_any (λ met. (met.place == fault.place) && is_same_place met.sector met.block fault.sector fault.block) known

-- the name that is printed of it
abbrev pub met_name : ExportFault → List ℕ
met_name met = if met.full then codes "NoSpace" else io_name met.fault

abbrev pub no_log : SessionLog
no_log = record { tally = no_requests; last = None }

-- the fault by which a request ended, with the sector of that fault
abbrev pub outcome_fault : RequestOutcome → Option SectorFault
outcome_fault (Ok content) = None
outcome_fault (Err error) = fault_of error

-- the fault of a request of the export at an index
abbrev pub export_fault : ℕ → SectorFault → ExportFault
export_fault place met = record { place = place; sector = met.sector; block = met.block; fault = met.fault; full = met.full }

-- one more request was answered, of so many bytes, and with that fault or with none
abbrev pub logged : ℕ → ℕ → Option SectorFault → SessionLog → SessionLog
logged place bytes None log = record { tally = counted bytes false false log.tally; last = None }
logged place bytes (Some met) log = record { tally = counted bytes true met.full log.tally; last = Some (export_fault place met) }

-- the fault of a request, if it had one
abbrev pub met_faults : ℕ → Option SectorFault → List ExportFault
met_faults place None = []
met_faults place (Some met) = export_fault place met ∷ []
