-- A run of sectors that a pass doesn't recover: in the map, in the counts and among the reported runs.
use Rattle.std.specs.Prelude.{◌≡◌, ℕ, ◌+◌, ◌==◌, Bool, true, false, List, [], ◌++◌, replicate, Option, Some, if◌then◌else◌}
use Rattle.rescue_map.specs.declared.map.Run.{Run}
use Rattle.rescue_map.specs.Maps.{losts, marks}
use Rattle.runs.specs.Runs.{run}
use Rattle.runs.specs.Tallies.{closed_by, opened_by}
use Rattle.stack_recovery.specs.declared.fault.RecoveryFault.{RecoveryFault}
use Rattle.stack_recovery.specs.declared.fault.RecoveryFault.TheVariants.{NoMemory, Output}
use Rattle.stack_recovery.specs.declared.lost_run.Loss.TheVariants.{Lost, Unscraped}
use Rattle.stack_recovery.specs.declared.tally.Tally.{Tally}
use Rattle.stack_recovery.specs.declared.trimming.LostEnd.{LostEnd}
use Rattle.stack_recovery.specs.LostRuns.{LostRun, is_same_loss, lost_count, untried_count}
use Rattle.stack_recovery.specs.Recoveries.{IsMapRefused, NotesMore, is_lost}

-- what is recorded in the map
abbrev pub NotesLost : LostRun → Option (List Run) → Option (List Run) → Type 0
NotesLost lost old new = NotesMore marks old new (replicate lost.count false) × NotesMore losts old new (replicate lost.count (is_lost (Some lost.kind)))

-- what is counted
abbrev pub with_loss : Tally → LostRun → Tally
with_loss t lost = record { last = Some (opened_by is_same_loss t.last lost); lost = t.lost + lost_count lost.kind lost.count; untried = t.untried + untried_count lost.kind lost.count }

-- why the recovery ends there: memory for the map was refused, before a run was reported
abbrev pub StopsInRun : {L : Type 0} → Bool → L → L → RecoveryFault → Type 0
StopsInRun makes_map old new NoMemory = IsMapRefused makes_map × (new ≡ old)
StopsInRun makes_map old new Output = ⊥

-- ---- the last lost sectors of a run, and those before them

-- these, from sector `at` on, and the last ones
abbrev pub unread_run : ℕ → LostEnd → LostRun
unread_run at last = run at last.before (Unscraped last.fault)

abbrev pub last_run : ℕ → LostEnd → LostRun
last_run at last = run (at + last.before) last.count (Lost last.fault)

abbrev pub NotesEnd : LostEnd → Option (List Run) → Option (List Run) → Type 0
NotesEnd last old new =
    NotesMore marks old new (replicate last.before false ++ replicate last.count false) × NotesMore losts old new (replicate last.before false ++ replicate last.count true)

-- the tally after those that aren't read, if there are any, and the runs that no longer grow then
abbrev pub with_unread : Tally → ℕ → LostEnd → Tally
with_unread t at last = if last.before == 0 then t else with_loss t (unread_run at last)

abbrev pub closed_by_unread : Tally → ℕ → LostEnd → List LostRun
closed_by_unread t at last = if last.before == 0 then [] else closed_by is_same_loss t.last (unread_run at last)

-- and after the last ones
abbrev pub with_end : Tally → ℕ → LostEnd → Tally
with_end t at last = with_loss (with_unread t at last) (last_run at last)

abbrev pub closed_by_end : Tally → ℕ → LostEnd → List LostRun
closed_by_end t at last = closed_by_unread t at last ++ closed_by is_same_loss (with_unread t at last).last (last_run at last)
