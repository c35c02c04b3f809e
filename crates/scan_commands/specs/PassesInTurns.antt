-- The passes over a device with a map, each in turns.
use Rattle.std.specs.Prelude.{◌≡◌, ◌⊎◌, ℕ, ◌<◌, ◌==◌, Bool, true, false, List, [], if◌then◌else◌}
use Rattle.block_device.specs.Device.{Device}
use Rattle.rescue_map.specs.declared.map.Run.{Run}
use Rattle.rescue_map.specs.Maps.{map_totals}
use Rattle.rescue_map.specs.Stages.{statuses}
use Rattle.rescue_map.specs.declared.totals.Totals.{Totals}
use Rattle.stack_engine.specs.Stacks.{StackRecord}
use Rattle.stack_recovery.specs.declared.recovery.Counts.{Counts}
use Rattle.stack_recovery.specs.Listings.{Listed, Tells, kept_runs}
use Rattle.stack_recovery.specs.Recoveries.{Sides, sides}
use Rattle.scan_commands.specs.Retries.{AfterPass, IsEnough, Steps, after_pass}
use Rattle.stack_recovery.specs.Joins.{joined_states}
use Rattle.stack_recovery.specs.LostRuns.{LostRun, is_same_loss}
use Rattle.runs.specs.Runs.{runs_of}
use Rattle.allocation.specs.Refusal.{IsOutOfMemory}
use Rattle.scan_commands.specs.declared.phase.Phase.{Phase}
use Rattle.scan_commands.specs.declared.phase.Phase.TheVariants.{Retry, Scrape, Skim, Sweep, Trim}
use Rattle.scan_commands.specs.declared.rescue_fault.PassFault.{PassFault}
use Rattle.scan_commands.specs.declared.rescue_fault.PassFault.TheVariants.{NoMemory}
use Rattle.scan_commands.specs.declared.retries.TriedMap.{TriedMap}
use Rattle.scan_commands.specs.Turns.{begun_with, Kept, Progressed, ReadsInTurns}
use Rattle.scan_commands.specs.TurnEnds.{IsPassTurnsEnd}

-- what the turns of a pass leave: the opener, and the stack, the output device and the map
pub record AfterTurns (S : Type 0) : Type 0 where
  pub images : S
  pub left : AfterPass Device

abbrev pub after_turns : {S : Type 0} → S → StackRecord → Device → List Run → AfterTurns S
after_turns images stack out map = record { images = images; left = after_pass stack out map }

-- how many sectors of a map were recovered, are bad and remain to be read
abbrev pub counts_of : Totals → Counts
counts_of totals = record { read = totals.had; lost = totals.bad; untried = totals.left }

-- a pass over so many sectors begins at the first one
abbrev pub pass_from : {S : Type 0} → Phase → ℕ → AfterTurns S → Listed → Progressed S
pass_from phase sectors a printed = begun_with phase sectors a.images (sides a.left.stack a.left.out printed) a.left.map

-- a pass that reported to nobody
abbrev pub IsSilentPass : {S : Type 0} → Kept S → Phase → AfterTurns S → AfterTurns S → Type 0
IsSilentPass k phase old new =
    (before : Listed) × (after : Listed) × ReadsInTurns k phase (pass_from phase k.sectors old before) new.images (sides new.left.stack new.left.out after) new.left.map

-- the passes in large pieces, which report nothing
pub record SweepsInTurns {S : Type 0} (k : Kept S) (old new : AfterTurns S) : Type 0 where
  pub between : AfterTurns S
  pub skims : IsSilentPass k Skim old between
  pub sweeps : IsSilentPass k Sweep between new

-- ---- those by single sectors

-- the pass after the one that trims and n further ones; if none scrapes, one trims again, which has nothing to read
abbrev pub phase_after : Bool → ℕ → Phase
phase_after no_scrape n = if n == 0 then (if no_scrape then Trim else Scrape) else Retry

-- such a pass, which reported to nobody
abbrev pub IsSilentTurns : {S : Type 0} → Kept S → ℕ → AfterTurns S → AfterTurns S → Type 0
IsSilentTurns k n old new = IsSilentPass k (phase_after k.scan.no_scrape n) old new

-- so many passes after the one that trims, which reported to nobody; one for each retry, or fewer if no sector is left to be read
abbrev pub RetriesInTurns : {S : Type 0} → Kept S → ℕ → AfterTurns S → ℕ → AfterTurns S → Type 0
RetriesInTurns k retries old passes new = Steps (IsSilentTurns k) old passes new × IsEnough retries passes new.left.map

-- no lost run is kept yet
abbrev pub nothing : Listed
nothing = kept_runs [] false

-- a pass whose lost runs were kept
pub record KeepsTurns {S : Type 0} (k : Kept S) (phase : Phase) (old new : AfterTurns S) (found : List LostRun) : Type 0 where
  pub made : List Run
  pub reads : ReadsInTurns k phase (pass_from phase k.sectors old nothing) new.images (sides new.left.stack new.left.out (kept_runs found false)) made
  pub map : new.left.map ≡ made

-- The last pass. Its lost runs were kept, and then the longest runs were reported: of these, and of the sectors that its map doesn't have
-- as recovered and that it didn't read, some of which are in the runs known before.
pub record ReportsLast {S : Type 0} (k : Kept S) (phase : Phase) (known : List LostRun) (old : AfterTurns S) (printed : Listed) (images : S) (new : Sides) (counts : Counts) : Type 0 where
  pub made : List Run
  pub found : List LostRun
  pub reads : ReadsInTurns k phase (pass_from phase k.sectors old nothing) images (sides new.stack new.out (kept_runs found false)) made
  pub told : Tells printed new.printed (runs_of is_same_loss 0 (joined_states 0 (statuses made) known found))
  pub counted : counts ≡ counts_of (map_totals made)

-- The passes in large pieces, the one that trims, those that report nothing, and the last one, with a map between them.
pub record RescuesInTurns {S : Type 0} (k : Kept S) (retries : ℕ) (first : AfterTurns S) (printed : Listed) (images : S) (new : Sides) (counts : Counts) : Type 0 where
  pub swept : AfterTurns S
  pub between : AfterTurns S
  pub known : List LostRun
  pub passes : ℕ
  pub left : AfterTurns S
  pub large : SweepsInTurns k first swept
  pub trims : KeepsTurns k Trim swept between known
  pub again : RetriesInTurns k retries between passes left
  pub last : ReportsLast k (phase_after k.scan.no_scrape passes) known left printed images new counts

-- ---- a pass that ended early

-- one of the passes that report nothing ended early
pub record EndsRetries {S : Type 0} (k : Kept S) (retries : ℕ) (old : AfterTurns S) (images : S) (stack : StackRecord) (out : Device) (fault : PassFault) : Type 0 where
  pub left : AfterTurns S
  pub passes : ℕ
  pub before : Listed
  pub after : Listed
  pub steps : Steps (IsSilentTurns k) old passes left
  pub few : passes < retries
  pub ends : IsPassTurnsEnd k (phase_after k.scan.no_scrape passes) (pass_from (phase_after k.scan.no_scrape passes) k.sectors left before) images (sides stack out after) fault

-- room for a lost run of a pass was refused, which was completed
pub record RefusesRun {S : Type 0} (k : Kept S) (phase : Phase) (old : AfterTurns S) (images : S) (stack : StackRecord) (out : Device) (fault : PassFault) : Type 0 where
  pub made : List Run
  pub kept : Listed
  pub reads : ReadsInTurns k phase (pass_from phase k.sectors old nothing) images (sides stack out kept) made
  pub refused : kept.failed ≡ true
  pub may : IsOutOfMemory 1
  pub is : fault ≡ NoMemory

-- a pass whose lost runs are kept ended early, or a run of it couldn't be kept
abbrev pub EndsLast : {S : Type 0} → Kept S → Phase → AfterTurns S → S → StackRecord → Device → PassFault → Type 0
EndsLast k phase old images stack out fault =
    ((kept : Listed) × IsPassTurnsEnd k phase (pass_from phase k.sectors old nothing) images (sides stack out kept) fault) ⊎ RefusesRun k phase old images stack out fault

pub record EndsLastTurns {S : Type 0} (k : Kept S) (retries : ℕ) (old : AfterTurns S) (images : S) (stack : StackRecord) (out : Device) (fault : PassFault) : Type 0 where
  pub left : AfterTurns S
  pub passes : ℕ
  pub again : RetriesInTurns k retries old passes left
  pub ends : EndsLast k (phase_after k.scan.no_scrape passes) left images stack out fault

-- the pass that trims was completed, and a later one ended early
pub record EndsAfterTrims {S : Type 0} (k : Kept S) (retries : ℕ) (old : AfterTurns S) (images : S) (stack : StackRecord) (out : Device) (fault : PassFault) : Type 0 where
  pub between : AfterTurns S
  pub known : List LostRun
  pub trims : KeepsTurns k Trim old between known
  pub ends : EndsRetries k retries between images stack out fault ⊎ EndsLastTurns k retries between images stack out fault

-- nothing is reported
abbrev pub EndsLaterTurns : {S : Type 0} → Kept S → ℕ → AfterTurns S → Listed → S → Sides → PassFault → Type 0
EndsLaterTurns k retries old printed images new fault =
    (EndsLast k Trim old images new.stack new.out fault ⊎ EndsAfterTrims k retries old images new.stack new.out fault) × (new.printed ≡ printed)

-- the passes in large pieces were completed, and a later one wasn't
pub record IsRescueTurnsEnd {S : Type 0} (k : Kept S) (retries : ℕ) (first : AfterTurns S) (printed : Listed) (images : S) (new : Sides) (fault : PassFault) : Type 0 where
  pub between : AfterTurns S
  pub large : SweepsInTurns k first between
  pub later : EndsLaterTurns k retries between printed images new fault

-- a pass that reports nothing ended early
abbrev pub EndsSilently : {S : Type 0} → Kept S → Phase → AfterTurns S → S → StackRecord → Device → PassFault → Type 0
EndsSilently k phase old images stack out fault =
    (before : Listed) × (after : Listed) × IsPassTurnsEnd k phase (pass_from phase k.sectors old before) images (sides stack out after) fault

-- the first pass in large pieces ended early, or it was completed, and the second one ended early
abbrev pub EndsSweeping : {S : Type 0} → Kept S → AfterTurns S → S → StackRecord → Device → PassFault → Type 0
EndsSweeping {S} k first images stack out fault = EndsSilently k Skim first images stack out fault ⊎ ((between : AfterTurns S) × IsSilentPass k Skim first between × EndsSilently k Sweep between images stack out fault)

abbrev pub IsTurnsEnd : {S : Type 0} → Kept S → ℕ → AfterTurns S → Listed → S → Sides → PassFault → Type 0
IsTurnsEnd k retries first printed images new fault = (EndsSweeping k first images new.stack new.out fault × (new.printed ≡ printed)) ⊎ IsRescueTurnsEnd k retries first printed images new fault

-- ---- in terms of the arguments of a call

-- the passes that report nothing, by the stack and the output device before and after them
abbrev pub RetriesBy : {S : Type 0} → Kept S → ℕ → AfterTurns S → S → StackRecord → Device → TriedMap → Type 0
RetriesBy k retries old images stack out tried = RetriesInTurns k retries old tried.passes (after_turns images stack out tried.map)
