-- The lost runs that a pass found, among the sectors that its map doesn't mark as recovered, with those that an earlier pass found.
use Rattle.std.specs.Prelude.{◌≡◌, ℕ, suc, ◌+◌, ◌<◌, ◌≤◌, nat_le, nat_lt, List, [], ◌∷◌, Some, None, Option, if◌then◌else◌}
use Rattle.rescue_map.specs.declared.status.Status.{Status}
use Rattle.rescue_map.specs.declared.status.Status.TheVariants.{Bad, Recovered}
use Rattle.runs.specs.Runs.{run}
use Rattle.runs.specs.Tallies.{closed_by, listed, opened_by}
use Rattle.stack_meaning.specs.declared.fault.IoFault.TheVariants.{Device}
use Rattle.stack_recovery.specs.declared.lost_run.Loss.{Loss}
use Rattle.stack_recovery.specs.declared.lost_run.Loss.TheVariants.{Lost, Unscraped}
use Rattle.stack_recovery.specs.LostRuns.{LostRun, is_same_loss}
use Rattle.stack_recovery.specs.Surveys.{SectorState}

-- the state of a sector by runs in rising order: the first run that ends after it has it, or none
abbrev pub state_in : List LostRun → ℕ → SectorState
state_in [] s = None
state_in (r ∷ more) s = if nat_lt s (r.first + r.count) then (if nat_le r.first s then Some r.kind else None) else state_in more s

-- why a sector of a status wasn't recovered: as an earlier pass found, or by the fault of binding 0, since a map has none
abbrev pub loss_before : Status → SectorState → Loss
loss_before Bad None = Lost (Device 0)
loss_before other None = Unscraped (Device 0)
loss_before status (Some loss) = loss

-- the state of a sector of a status by an earlier pass and by the last one, which may not have read it
abbrev pub or_before : Status → SectorState → SectorState → SectorState
or_before status before (Some loss) = Some loss
or_before Recovered before None = None
or_before status before None = Some (loss_before status before)

-- the state of a sector by its status and the runs of an earlier pass and of the last one
abbrev pub joined_state : Status → List LostRun → List LostRun → ℕ → SectorState
joined_state status earlier runs s = or_before status (state_in earlier s) (state_in runs s)

-- the states of the sectors from one on, which have these statuses
abbrev pub joined_states : ℕ → List Status → List LostRun → List LostRun → List SectorState
joined_states at [] earlier runs = []
joined_states at (status ∷ more) earlier runs = joined_state status earlier runs at ∷ joined_states (suc at) more earlier runs

-- n sectors from one on have this state by runs
abbrev pub HaveState : List LostRun → ℕ → ℕ → SectorState → Type 0
HaveState runs at n state = (j : ℕ) → j < n → state_in runs (at + j) ≡ state

-- n sectors from one on have this state by the runs of both passes
abbrev pub HaveJoined : Status → List LostRun → List LostRun → ℕ → ℕ → SectorState → Type 0
HaveJoined status earlier runs at n state = (j : ℕ) → j < n → joined_state status earlier runs (at + j) ≡ state

-- the first run ends after a sector
abbrev pub EndsAfter : ℕ → List LostRun → Type 0
EndsAfter at [] = Unit {0}
EndsAfter at (r ∷ more) = at < r.first + r.count

-- the states from a sector on are the same
abbrev pub AreSameFrom : ℕ → List LostRun → List LostRun → Type 0
AreSameFrom at runs others = (s : ℕ) → at ≤ s → state_in runs s ≡ state_in others s

-- n sectors of a state are added to the open run: the run that no longer grows, and the open one
abbrev pub closed_with : Option LostRun → ℕ → ℕ → SectorState → List LostRun
closed_with last at n None = listed last
closed_with last at n (Some kind) = closed_by is_same_loss last (run at n kind)

abbrev pub opened_with : Option LostRun → ℕ → ℕ → SectorState → Option LostRun
opened_with last at n None = None
opened_with last at n (Some kind) = Some (opened_by is_same_loss last (run at n kind))
