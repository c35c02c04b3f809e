-- Laws of the passes over a device.
use Rattle.std.specs.Prelude.{◌≡◌, ℕ, ◌+◌, ◌<◌, nat_le, nat_lt, Bool, false, not, ◌&&◌, ◌||◌, List, [], ◌∷◌, Option, None}
use Rattle.std.specs.List.{slice_index_or}
use Rattle.block_device.specs.Device.{Device}
use Rattle.image_files.specs.Opener.{Opener, calls}
use Rattle.rescue_map.specs.declared.map.Run.{Run}
use Rattle.rescue_map.specs.Maps.{marks}
use Rattle.rescue_map.specs.Stages.{statuses}
use Rattle.runs.specs.Runs.{runs_of}
use Rattle.stack_rules.specs.Names.{mapped, size}
use Rattle.stack_recovery.specs.declared.recovery.Counts.{Counts}
use Rattle.stack_meaning.specs.Leaves.{steady_images}
use Rattle.stack_meaning.specs.LeavesBeneath.{stands_on}
use Rattle.stack_meaning.specs.Meaning.{sector}
use Rattle.stack_recovery.specs.Joins.{joined_states}
use Rattle.stack_recovery.specs.Laws.{AreSure, meant_states}
use Rattle.stack_recovery.specs.LostRuns.{LostRun, is_same_loss}
use Rattle.scan_commands.specs.Retries.{Retried}
use Rattle.scan_commands.specs.MapFiles.{MapPathRecord}
use Rattle.scan_commands.specs.Passes.{Moving, Passes, StopsPass}
use Rattle.scan_commands.specs.declared.rescue_fault.PassFault.{PassFault}

-- a sector is in a run, or in one of several
abbrev pub is_within : LostRun → ℕ → Bool
is_within r s = nat_le r.first s && nat_lt s (r.first + r.count)

abbrev pub is_in : List LostRun → ℕ → Bool
is_in [] s = false
is_in (r ∷ more) s = is_within r s || is_in more s

-- the runs that are reported of a last pass that made this map and found these runs, after others that were known
abbrev pub reported : List Run → List LostRun → List LostRun → List LostRun
reported runs known found = runs_of is_same_loss 0 (joined_states 0 (statuses runs) known found)

-- A sector is in a reported run exactly if the last map doesn't mark it as recovered.
abbrev pub LostRunsAreUnrecovered : {S D : Type 0} → Opener S D → (D → Device) → Type 0
LostRunsAreUnrecovered {S} relations state =
    (old new : S) (file : Option MapPathRecord) (t : Retried) (m : Moving) (counts : Counts) (r : Passes (calls relations state old new) file t m counts) (s : ℕ) → s < size m.old.stack.config (mapped t.d)
    → is_in (reported r.rescued.last.made r.rescued.known r.rescued.last.found) s ≡ not (slice_index_or (marks r.rescued.last.made) s false)

-- If the backing devices are steady and never fail, passes that scrape and have no map file report exactly the sectors that mean a fault, each
-- as lost by that fault.
abbrev pub StatesAreMeant : {S D : Type 0} → Opener S D → (D → Device) → Type 0
StatesAreMeant {S} relations state =
    (old new : S) (t : Retried) (m : Moving) (counts : Counts) (r : Passes (calls relations state old new) None t m counts) → t.no_scrape ≡ false → AreSure m.old.stack.config (λ i. stands_on m.old.stack.config i (mapped t.d)) m.old.stack.leaves
    → joined_states 0 (statuses r.rescued.last.made) r.rescued.known r.rescued.last.found ≡ meant_states (sector m.old.stack.config (steady_images m.old.stack.leaves) (mapped t.d)) 0 (size m.old.stack.config (mapped t.d))

-- Without a map file the opener isn't called, also if the passes end early.
abbrev pub PlainPassesCallNothing : {S D : Type 0} → Opener S D → (D → Device) → Type 0
PlainPassesCallNothing {S} relations state =
    (old new : S) (t : Retried) (m : Moving)
    → ((counts : Counts) → Passes (calls relations state old new) None t m counts → new ≡ old) × ((fault : PassFault) → StopsPass (calls relations state old new) None t m fault → new ≡ old)
