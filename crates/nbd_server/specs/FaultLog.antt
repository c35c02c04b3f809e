-- Which faults of a session have a line: at most 60 in a minute.
use Rattle.std.specs.Prelude.{ℕ, ◌-◌, ◌&&◌, nat_le, nat_lt, not, Bool, List, [], ◌∷◌, ◌++◌, length, map, Option, Some, None, if◌then◌else◌}
use Rattle.nbd_server.specs.Logs.{has_place}
use Rattle.nbd_server.specs.Tallies.{one_more}
use Rattle.nbd_server.specs.declared.fault_log.FaultLog.{FaultLog}
use Rattle.nbd_server.specs.declared.known_faults.ExportFault.{ExportFault}

-- a fault, and the seconds that the clock showed after the reply to its request
pub record MetFault : Type 0 where
  pub seconds : ℕ
  pub fault : ExportFault

abbrev pub met_fault : ℕ → ExportFault → MetFault
met_fault seconds fault = record { seconds = seconds; fault = fault }

-- no fault was met
abbrev pub new_log : Bool → FaultLog
new_log priorities = record { priorities = priorities; begun = 0; lines = 0; known = []; left_out = 0 }

-- 60 seconds have passed since the minute began
abbrev pub is_minute_over : ℕ → FaultLog → Bool
is_minute_over seconds l = nat_le 60 (seconds - l.begun)

-- how many faults had no line in the minute, if it is over
abbrev pub ended_count : ℕ → FaultLog → ℕ
ended_count seconds l = if is_minute_over seconds l then l.left_out else 0

-- the next minute begins then
abbrev pub begun_log : ℕ → FaultLog → FaultLog
begun_log seconds l = if is_minute_over seconds l then record { priorities = l.priorities; begun = seconds; lines = 0; known = l.known; left_out = 0 } else l

-- a fault has a line if fewer than 60 had one in the minute, and none of the same sector or data block is remembered
abbrev pub has_line : ExportFault → FaultLog → Bool
has_line fault l = nat_lt l.lines 60 && not (has_place l.known fault)

abbrev pub said_fault : ExportFault → FaultLog → Option ExportFault
said_fault fault l = if has_line fault l then Some fault else None

-- the most faults that are remembered
abbrev pub most_known : ℕ
most_known = 60

-- faults that had a line are remembered; 60 of them are forgotten when one more has a line
abbrev pub remembered : List ExportFault → ExportFault → List ExportFault
remembered known fault = if nat_lt (length known) most_known then known ++ fault ∷ [] else fault ∷ []

-- a fault was met in the minute
abbrev pub counted_fault : ExportFault → FaultLog → FaultLog
counted_fault fault l =
    if has_line fault l
    then record { priorities = l.priorities; begun = l.begun; lines = one_more l.lines; known = remembered l.known fault; left_out = l.left_out }
    else record { priorities = l.priorities; begun = l.begun; lines = l.lines; known = l.known; left_out = one_more l.left_out }

-- the log after a fault, and after several in their order
abbrev pub next_log : MetFault → FaultLog → FaultLog
next_log met l = counted_fault met.fault (begun_log met.seconds l)

abbrev pub log_after : FaultLog → List MetFault → FaultLog
log_after l [] = l
log_after l (met ∷ more) = log_after (next_log met l) more

-- these faults were met at some time
abbrev pub faults_in : List MetFault → List ExportFault
faults_in met = map (λ (m : MetFault). m.fault) met
