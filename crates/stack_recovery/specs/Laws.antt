-- Laws of what a recovery finds.
use Rattle.std.specs.Prelude.{◌≡◌, ◌≢◌, ◌↔◌, ℕ, zero, suc, ◌+◌, ◌-◌, ◌/◌, ◌<◌, ◌≤◌, Bool, true, false, IsTrue, List, [], ◌∷◌, length, get_or, All, Some, None, Ok, Err}
use Rattle.std.specs.List.{slice_index_or}
use Rattle.block_device.specs.Device.{Device}
use Rattle.dm_table.specs.declared.table.Line.{Line}
use Rattle.dm_table.specs.declared.verity.Verity.{Verity}
use Rattle.stack_rules.specs.Names.{mapped}
use Rattle.stack_rules.specs.Records.{Configuration}
use Rattle.stack_rules.specs.Rules.{IsLoaded}
use Rattle.stack_rules.specs.Trees.{block_sectors}
use Rattle.stack_meaning.specs.declared.fault.IoFault.TheVariants.{Stack}
use Rattle.stack_meaning.specs.Kept.{verity_block}
use Rattle.stack_engine.specs.Laws.{LiesInVerity}
use Rattle.stack_meaning.specs.Agreement.{AgreesOn}
use Rattle.stack_meaning.specs.Leaves.{AreSteady, steady_images}
use Rattle.stack_meaning.specs.LeavesBeneath.{stands_on}
use Rattle.stack_meaning.specs.Meaning.{sector}
use Rattle.stack_meaning.specs.declared.fault.Fault.{Fault}
use Rattle.stack_meaning.specs.Outcomes.{Images, Outcome}
use Rattle.stack_engine.specs.Stacks.{StackRecord}
use Rattle.runs.specs.Runs.{runs_of}
use Rattle.stack_recovery.specs.declared.lost_run.Loss.TheVariants.{Lost}
use Rattle.stack_recovery.specs.LostRuns.{LostRun, is_same_loss}
use Rattle.stack_recovery.specs.PassLaws.{AreScraped}
use Rattle.stack_recovery.specs.Surveys.{IsSurveyOver, PieceRead, SectorState, all_states}

-- ---- on backing devices that are steady and never fail

-- each of these backing devices is steady and never fails, and they agree with what parity restores on them
pub record AreSure (c : Configuration) (these : ℕ → Bool) (leaves : List Device) : Type 0 where
  pub steady : AreSteady these leaves
  pub agrees : AgreesOn c these (steady_images leaves)
  pub never_fail : (i : ℕ) (x : Device) → i < length leaves → IsTrue (these i) → IsTrue (slice_index_or leaves i x).never_fails

-- the state of a sector that means this
abbrev pub meant_state : Outcome → SectorState
meant_state (Ok bytes) = None
meant_state (Err fault) = Some (Lost (Stack fault))

-- the states of n sectors from the first on; `at` gives what each means
abbrev pub meant_states : (ℕ → Outcome) → ℕ → ℕ → List SectorState
meant_states at first zero = []
meant_states at first (suc n) = meant_state (at first) ∷ meant_states at (suc first) n

-- each sector with this mark means bytes
abbrev pub MarksAreMeant : List Bool → ℕ → StackRecord → Type 0
MarksAreMeant marks d w = (k : ℕ) → slice_index_or marks k false ≡ true → meant_state (sector w.config (steady_images w.leaves) (mapped d) k) ≡ None

-- If the backing devices are such, a sector is lost exactly if it means a fault, and by that fault: in a scan that leaves none
-- unscraped, if the sectors that were read before mean bytes
abbrev pub SurveysAreMeant : Type 0
SurveysAreMeant = (marks : List Bool) (d first : ℕ) (w : StackRecord) (reads : List PieceRead) (w' : StackRecord) → IsSurveyOver marks d first w reads w' → AreScraped reads → MarksAreMeant marks d w → AreSure w.config (λ i. stands_on w.config i (mapped d)) w.leaves
    → all_states reads ≡ meant_states (sector w.config (steady_images w.leaves) (mapped d)) first (length (all_states reads))

-- ---- runs

-- the sectors are lost by the run's fault, and those directly before and after it aren't
pub record IsLongestRun (states : List SectorState) (r : LostRun) : Type 0 where
  pub some : 1 ≤ r.count
  pub lost : (j : ℕ) → j < r.count → get_or states (r.first + j) None ≡ Some r.kind
  pub before : (s : ℕ) → suc s ≡ r.first → get_or states s None ≢ Some r.kind
  pub behind : get_or states (r.first + r.count) None ≢ Some r.kind

-- each run is as long as possible
abbrev pub RunsAreLongest : Type 0
RunsAreLongest = (states : List SectorState) → All (IsLongestRun states) (runs_of is_same_loss 0 states)

-- ---- verity lines

-- a sector of a verity line means a fault exactly if its data block does
abbrev pub LostBlocksAreLost : Type 0
LostBlocksAreLost = (c : Configuration) → IsLoaded c → (images : Images) (d s l : ℕ) (line : Line) (v : Verity) → LiesInVerity c d s l line v → (fault : Fault)
    → (sector c images (mapped d) s ≡ Err fault) ↔ (verity_block c images v ((s - line.start) / block_sectors v) ≡ Err fault)
