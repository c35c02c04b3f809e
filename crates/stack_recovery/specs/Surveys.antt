-- A scan of a mapped device: the pieces that were read, and the result for each.
use Rattle.std.specs.Prelude.{◌≡◌, ◌≢◌, ℕ, ◌+◌, ◌-◌, ◌<◌, ◌≤◌, Bool, true, false, List, [], ◌∷◌, ◌++◌, length, replicate, Option, Some, None, Ok, Err}
use Rattle.std.specs.List.{flat_map, slice_index_or}
use Rattle.stack_rules.specs.Records.{Configuration}
use Rattle.stack_meaning.specs.declared.fault.IoFault.{IoFault}
use Rattle.stack_meaning.specs.declared.fault.IoFault.TheVariants.{NoMemory}
use Rattle.stack_engine.specs.Bytes.{EachBytes}
use Rattle.stack_engine.specs.Stacks.{StackRecord}
use Rattle.stack_recovery.specs.declared.lost_run.Loss.{Loss}
use Rattle.stack_recovery.specs.declared.lost_run.Loss.TheVariants.{Lost, Unscraped}
use Rattle.stack_recovery.specs.Alike.{AreAlike}

-- the fault of a loss
abbrev pub fault_of : Loss → IoFault
fault_of (Lost fault) = fault
fault_of (Unscraped fault) = fault

-- the result for a piece
pub data Finding : Type 0 where
  -- its sectors were read, with these bytes
  had : List ℕ → Finding
  -- its sectors are lost by this fault
  lost : IoFault → Finding
  -- its read ended in this fault, and its sectors are read again by a later pass
  again : IoFault → Finding
  -- the sectors after so many were read, with these bytes
  probed : ℕ → List ℕ → Finding
  -- so many sectors are unscraped, since those after them are lost by this fault
  trimmed : ℕ → IoFault → Finding
  -- its sectors were read by earlier pieces of the pass, backwards from the end of their run
  copied : Finding
  -- its sectors were read before, and aren't read again
  kept : Finding

-- the number of sectors, the result, and the state of the stack afterwards
pub record PieceRead : Type 0 where
  pub count : ℕ
  pub found : Finding
  pub after : StackRecord

-- the stack's answer, and its state afterwards
abbrev pub AnswersFinding : StackRecord → ℕ → ℕ → ℕ → Finding → StackRecord → Type 0
AnswersFinding w d first n (had bytes) w' = EachBytes w d first n (Ok bytes) w'
AnswersFinding w d first n (lost fault) w' = EachBytes w d first n (Err fault) w'
AnswersFinding w d first n (again fault) w' = EachBytes w d first n (Err fault) w'
AnswersFinding w d first n (probed behind bytes) w' = EachBytes w d (first + behind) (n - behind) (Ok bytes) w'
AnswersFinding w d first n (trimmed behind fault) w' = EachBytes w d (first + behind) (n - behind) (Err fault) w'
AnswersFinding w d first n copied w' = w' ≡ w
AnswersFinding w d first n kept w' = w' ≡ w

-- Sectors are lost only by a read of one sector, or of sectors that are lost together, and read backwards by such reads alone. Running out of
-- memory is no loss.
abbrev pub MayLose : Configuration → ℕ → ℕ → ℕ → IoFault → Type 0
MayLose c d first n fault = AreAlike c d first n × (fault ≢ NoMemory)

abbrev pub MayFind : Configuration → ℕ → ℕ → ℕ → Finding → Type 0
MayFind c d first n (had bytes) = Unit {0}
MayFind c d first n (lost fault) = MayLose c d first n fault
MayFind c d first n (again fault) = Unit {0}
MayFind c d first n (probed behind bytes) = (behind < n) × AreAlike c d (first + behind) (n - behind)
MayFind c d first n (trimmed behind fault) = (behind < n) × MayLose c d (first + behind) (n - behind) fault
MayFind c d first n copied = 1 ≤ n
MayFind c d first n kept = 1 ≤ n

-- a mark states whether a sector was read before; past the last mark none was; these n sectors have this mark
abbrev pub AreMarked : List Bool → ℕ → ℕ → Bool → Type 0
AreMarked marks first n mark = (j : ℕ) → j < n → slice_index_or marks (first + j) false ≡ mark

-- the mark of sectors with this result
abbrev pub mark_of : Finding → Bool
mark_of kept = true
mark_of other = false

-- a piece of device d from sector `first` on, which the stack answered so, unless its sectors were read before
pub record IsPieceSurveyed (marks : List Bool) (d first : ℕ) (w : StackRecord) (r : PieceRead) : Type 0 where
  pub answered : AnswersFinding w d first r.count r.found r.after
  pub may : MayFind w.config d first r.count r.found
  pub marked : AreMarked marks first r.count (mark_of r.found)

-- the state of a sector: read, or lost so
abbrev pub SectorState : Type 0
SectorState = Option Loss

abbrev pub states_found : ℕ → Finding → List SectorState
states_found n (had bytes) = replicate n None
states_found n (lost fault) = replicate n (Some (Lost fault))
states_found n (again fault) = []
states_found n (probed behind bytes) = []
states_found n (trimmed behind fault) = replicate behind (Some (Unscraped fault)) ++ replicate (n - behind) (Some (Lost fault))
states_found n copied = replicate n None
states_found n kept = replicate n None

-- the states of the sectors of a piece, and of several pieces
abbrev pub states_of : PieceRead → List SectorState
states_of r = states_found r.count r.found

abbrev pub all_states : List PieceRead → List SectorState
all_states reads = flat_map states_of reads

-- The pieces are read in order, from sector `first` of device d on, and leave the stack w'. A sector that was read before isn't
-- in a piece that is read, and no other sector is kept.
abbrev pub IsSurveyOver : List Bool → ℕ → ℕ → StackRecord → List PieceRead → StackRecord → Type 0
IsSurveyOver marks d first w [] w' = w' ≡ w
IsSurveyOver marks d first w (r ∷ more) w' = IsPieceSurveyed marks d first w r × IsSurveyOver marks d (first + length (states_of r)) r.after more w'

-- such a scan, in which no sector was read before
abbrev pub IsStackSurvey : ℕ → ℕ → StackRecord → List PieceRead → StackRecord → Type 0
IsStackSurvey d first w reads w' = IsSurveyOver [] d first w reads w'
