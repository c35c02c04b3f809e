-- The report on a device after a complete pass: lines as lost runs are found, and then the counts; the
-- lines, a map and the counts; or one JSON object.
use Rattle.std.specs.Prelude.{◌≡◌, ◌⊎◌, ℕ, Bool, true, false, List, [], ◌++◌, Option, Some, is_some}
use Rattle.std.specs.Io.KnownBytes.{Appends}
use Rattle.allocation.specs.Refusal.{IsOutOfMemory}
use Rattle.program_io.specs.Counted.{CountedRecord}
use Rattle.program_io.specs.JsonLines.{json_line}
use Rattle.scan_commands.specs.LostJson.{lost_json}
use Rattle.stack_recovery.specs.declared.listing.KeptRuns.{KeptRuns}
use Rattle.scan_commands.specs.declared.pass_counts.PassCounts.{PassCounts}
use Rattle.stack_recovery.specs.Listings.{Listed, kept_runs, listed}
use Rattle.stack_recovery.specs.LostRuns.{LostRun}
use Rattle.scan_commands.specs.declared.recovering_fault.RecoveringFault.{RecoveringFault}
use Rattle.scan_commands.specs.declared.recovering_fault.RecoveringFault.TheVariants.{Lost, LostAsSaid, NoMemory, Write}
use Rattle.charts.specs.declared.form.ReportForm.{ReportForm}
use Rattle.charts.specs.declared.form.ReportForm.TheVariants.{Lines, Chart, Object}
use Rattle.scan_commands.specs.Charts.{charted_text}
use Rattle.scan_commands.specs.Counting.{IsCountsEnd, TellsCounts, counts_text, has_missing}

-- a pass over a device, by what was reported before it and after it: completed with these counts, or ended early
abbrev pub Whole : Type 1
Whole = Listed → PassCounts → Listed → Type 0

abbrev pub Early : Type 1
Early = Listed → RecoveringFault → Listed → Type 0

-- what was reported before: the lines follow what the writer holds; for a map or an object no run is kept
abbrev pub BeginsReport : ReportForm → Option (List ℕ) → Listed → Type 0
BeginsReport Lines old before = before.text ≡ old
BeginsReport Chart old before = before ≡ kept_runs [] false
BeginsReport Object old before = before ≡ kept_runs [] false

-- all runs were kept, and these are their lines
pub record AreKept (told : Listed) : Type 0 where
  pub runs : List LostRun
  pub same : told ≡ kept_runs runs false

-- one object of the runs and the counts was printed
abbrev pub PrintsLost : List LostRun → PassCounts → Option (List ℕ) → Option (List ℕ) → Type 0
PrintsLost runs counts old new = Appends old new (json_line (lost_json runs counts))

-- all sectors were read, and all was printed
abbrev pub IsReported : ReportForm → PassCounts → Listed → Option (List ℕ) → Option (List ℕ) → Type 0
IsReported Lines counts told old new = (told.failed ≡ false) × TellsCounts counts told.text new
IsReported Chart counts told old new = (kept : AreKept told) × (has_missing counts.sectors ≡ false) × Appends old new (charted_text kept.runs counts.sectors ++ counts_text counts)
IsReported Object counts told old new = (kept : AreKept told) × (has_missing counts.sectors ≡ false) × PrintsLost kept.runs counts old new

-- room for one run was refused, so a run wasn't kept
abbrev pub IsRunRefused : Listed → Type 0
IsRunRefused told = (told.failed ≡ true) × IsOutOfMemory 1

-- sectors are lost or unscraped, as the object states; or the object can't be written; or memory ran out for a run or for the object
abbrev pub IsObjectEnd : PassCounts → Listed → Option (List ℕ) → Option (List ℕ) → Bool → RecoveringFault → Type 0
IsObjectEnd counts told old new failed LostAsSaid = (kept : AreKept told) × (has_missing counts.sectors ≡ true) × PrintsLost kept.runs counts old new
IsObjectEnd counts told old new failed Write = AreKept told × (failed ≡ true)
IsObjectEnd counts told old new failed NoMemory = (IsRunRefused told ⊎ AreKept told) × (new ≡ old)
IsObjectEnd counts told old new failed fault = ⊥

-- sectors are lost or unscraped, after the lines and the map; or not all is printed; or memory ran out for a run
abbrev pub IsChartEnd : PassCounts → Listed → Option (List ℕ) → Option (List ℕ) → Bool → RecoveringFault → Type 0
IsChartEnd counts told old new failed (Lost of) = (kept : AreKept told) × (of ≡ counts) × (has_missing counts.sectors ≡ true) × Appends old new (charted_text kept.runs counts.sectors)
IsChartEnd counts told old new failed Write = AreKept told × (failed ≡ true)
IsChartEnd counts told old new failed NoMemory = IsRunRefused told × (new ≡ old)
IsChartEnd counts told old new failed fault = ⊥

abbrev pub IsReportEnd : ReportForm → PassCounts → Listed → Option (List ℕ) → Option (List ℕ) → Bool → RecoveringFault → Type 0
IsReportEnd Lines counts told old new failed fault = IsCountsEnd counts told new failed fault
IsReportEnd Chart counts told old new failed fault = IsChartEnd counts told old new failed fault
IsReportEnd Object counts told old new failed fault = IsObjectEnd counts told old new failed fault

-- lines that were printed remain; runs that were kept aren't printed
abbrev pub KeepsReport : ReportForm → Listed → Option (List ℕ) → Option (List ℕ) → Bool → Type 0
KeepsReport Lines told old new failed = told ≡ listed new failed
KeepsReport Chart told old new failed = new ≡ old
KeepsReport Object told old new failed = new ≡ old

-- the pass was completed, all sectors were read, and all was printed
pub record Reports (Done : Whole) (form : ReportForm) (old new : Option (List ℕ)) : Type 0 where
  pub counts : PassCounts
  pub before : Listed
  pub told : Listed
  pub begun : BeginsReport form old before
  pub done : Done before counts told
  pub reported : IsReported form counts told old new

-- the pass was completed, and sectors are lost or unscraped, or not all is printed
pub record LosesSectors (Done : Whole) (form : ReportForm) (old new : Option (List ℕ)) (failed : Bool) (fault : RecoveringFault) : Type 0 where
  pub counts : PassCounts
  pub before : Listed
  pub told : Listed
  pub begun : BeginsReport form old before
  pub done : Done before counts told
  pub ends : IsReportEnd form counts told old new failed fault

-- the pass ended early
pub record StopsEarly (Stopped : Early) (form : ReportForm) (old new : Option (List ℕ)) (failed : Bool) (fault : RecoveringFault) : Type 0 where
  pub before : Listed
  pub told : Listed
  pub begun : BeginsReport form old before
  pub stopped : Stopped before fault told
  pub kept : KeepsReport form told old new failed

abbrev pub IsUnreported : Early → Whole → ReportForm → Option (List ℕ) → Option (List ℕ) → Bool → RecoveringFault → Type 0
IsUnreported Stopped Done form old new failed fault = StopsEarly Stopped form old new failed fault ⊎ LosesSectors Done form old new failed fault

-- ---- in terms of the arguments of a call

-- the runs that are kept, and whether a run couldn't be kept
abbrev pub kept_text : KeptRuns → Listed
kept_text kept = kept_runs kept.runs.items (is_some kept.refused)

abbrev pub TellsObject : {T : Type 0} → (T → Option (List ℕ)) → KeptRuns → PassCounts → CountedRecord T → CountedRecord T → Type 0
TellsObject contents kept counts old new = IsReported Object counts (kept_text kept) (contents old.inner) (contents new.inner)

abbrev pub EndsObject : {T : Type 0} → (T → Option (List ℕ)) → KeptRuns → PassCounts → CountedRecord T → CountedRecord T → RecoveringFault → Type 0
EndsObject contents kept counts old new fault = IsObjectEnd counts (kept_text kept) (contents old.inner) (contents new.inner) new.failed fault

abbrev pub TellsChart : {T : Type 0} → (T → Option (List ℕ)) → KeptRuns → PassCounts → CountedRecord T → CountedRecord T → Type 0
TellsChart contents kept counts old new = IsReported Chart counts (kept_text kept) (contents old.inner) (contents new.inner)

abbrev pub EndsChart : {T : Type 0} → (T → Option (List ℕ)) → KeptRuns → PassCounts → CountedRecord T → CountedRecord T → RecoveringFault → Type 0
EndsChart contents kept counts old new fault = IsChartEnd counts (kept_text kept) (contents old.inner) (contents new.inner) new.failed fault
