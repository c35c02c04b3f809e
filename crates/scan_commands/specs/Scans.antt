-- Scans for a device's lost sectors, and how a scan ends early.
use Rattle.std.specs.Prelude.{◌≡◌, ◌⊎◌, ℕ, Bool, IsTrue, List, Option, option_map}
use Rattle.block_device.specs.Device.{Device}
use Rattle.program_io.specs.Counted.{CountedRecord}
use Rattle.image_files.specs.declared.file_use.FileUse.{FileUse}
use Rattle.image_files.specs.Opener.{Calls, Opener, calls}
use Rattle.scan_commands.specs.declared.passing.Passing.{Passing}
use Rattle.scan_commands.specs.MapFiles.{map_at}
use Rattle.scan_commands.specs.MapUses.{IsMapUnused, UsesMap, map_plan}
use Rattle.scan_commands.specs.CountedPasses.{CountsPass}
use Rattle.scan_commands.specs.Passes.{Moving, StopsPass, moving, retried_of}
use Rattle.rescue_map.specs.declared.kind.MapKind.TheVariants as map_kind
use Rattle.stack_files.specs.DeviceSources.{FailsToFindSource, FindsSource, SourceWords, source_words}
use Rattle.stack_files.specs.NamedDevices.{DevicePlace, device_place}
use Rattle.stack_files.specs.Unchecked.{NotesStack}
use Rattle.stack_files.specs.Warnings.{Notes}
use Rattle.stack_engine.specs.Stacks.{StackRecord}
use Rattle.stack_files.specs.declared.device_source.DeviceSource.{DeviceSource}
use Rattle.stack_recovery.specs.declared.discard.Discard.{Discard}
use Rattle.scan_commands.specs.declared.pass_counts.PassCounts.{PassCounts}
use Rattle.stack_recovery.specs.Listings.{Listed}
use Rattle.stack_recovery.specs.Recoveries.{sides}
use Rattle.scan_commands.specs.Retries.{retried}
use Rattle.scan_commands.specs.declared.recovering_fault.RecoveringFault.{RecoveringFault}
use Rattle.charts.specs.declared.form.ReportForm.{ReportForm}
use Rattle.scan_commands.specs.declared.scan.ScanPlan.{ScanPlan}
use Rattle.scan_commands.specs.Counting.{IsPassEnd, IsRecoveryStackless}
use Rattle.scan_commands.specs.Reports.{IsUnreported, Reports}

-- a device of a stack file over bindings or a disk, the path of its map file, if there is one, how many times lost sectors are read again,
-- whether failed pieces aren't searched sector by sector, and the form of the report
pub record ScanWords : Type 0 where
  pub words : SourceWords
  pub map : Option (List ℕ)
  pub retries : ℕ
  pub no_scrape : Bool
  pub form : ReportForm

abbrev pub scan_words : SourceWords → Option (List ℕ) → ℕ → Bool → ReportForm → ScanWords
scan_words words map retries no_scrape form = record { words = words; map = map; retries = retries; no_scrape = no_scrape; form = form }

abbrev pub words_to_scan : DeviceSource → ScanPlan → ScanWords
words_to_scan source plan = scan_words (source_words source) (option_map (λ p. p.now) plan.map) plan.retries plan.no_scrape plan.form

-- the device was scanned, with a scan's map if there is one
pub record Scans {S D : Type 0} (w : Calls S D) (words : ScanWords) (before : Listed) (counts : PassCounts) (told : Listed) : Type 0 where
  pub at : DevicePlace
  pub out : Device
  pub out' : Device
  pub left : StackRecord
  pub used : FileUse
  pub first : S
  pub between : S
  pub map_used : UsesMap (record w { new = first }) (map_plan words.map map_kind.Scan words.retries) used
  pub found : FindsSource (record w { old = first; new = between }) used words.words at
  pub passed : CountsPass (record w { old = between }) (map_at words.map map_kind.Scan) (retried at.d words.retries words.no_scrape) (moving (sides at.stack out before) (sides left out' told)) counts

-- the scan began and ended early; the device that it copies to never fails
pub record StopsScan {S D : Type 0} (w : Calls S D) (words : ScanWords) (before : Listed) (fault : RecoveringFault) (told : Listed) : Type 0 where
  pub at : DevicePlace
  pub out : Device
  pub out' : Device
  pub left : StackRecord
  pub used : FileUse
  pub first : S
  pub between : S
  pub map_used : UsesMap (record w { new = first }) (map_plan words.map map_kind.Scan words.retries) used
  pub found : FindsSource (record w { old = first; new = between }) used words.words at
  pub sure : IsTrue out.never_fails
  pub stops : IsPassEnd (StopsPass (record w { old = between }) (map_at words.map map_kind.Scan) (retried at.d words.retries words.no_scrape) (moving (sides at.stack out before) (sides left out' told))) fault

-- no sector is lost, and all was reported
abbrev pub PrintsScan : {S D : Type 0} → Calls S D → ScanWords → Option (List ℕ) → Option (List ℕ) → Type 0
PrintsScan w words old new = Reports (Scans w words) words.form old new

-- the map's file may be used, and there is no such device beside it
pub record FailsBesideMap {S D : Type 0} (w : Calls S D) (words : ScanWords) (fault : RecoveringFault) : Type 0 where
  pub used : FileUse
  pub first : S
  pub map_used : UsesMap (record w { new = first }) (map_plan words.map map_kind.Scan words.retries) used
  pub fails : IsRecoveryStackless (FailsToFindSource (record w { old = first }) used words.words) fault

-- that, or the file may not be used
abbrev pub IsScanUnbegun : {S D : Type 0} → Calls S D → ScanWords → RecoveringFault → Type 0
IsScanUnbegun w words fault = IsPassEnd (IsMapUnused w (map_plan words.map map_kind.Scan words.retries)) fault ⊎ FailsBesideMap w words fault

-- nothing is printed if the scan doesn't begin; or the scan ended early, or sectors are lost or not all is printed
abbrev pub IsScanEnd : {S D : Type 0} → Calls S D → ScanWords → Option (List ℕ) → Option (List ℕ) → Bool → RecoveringFault → Type 0
IsScanEnd w words old new failed fault =
    ((new ≡ old) × IsScanUnbegun w words fault) ⊎ IsUnreported (StopsScan w words) (Scans w words) words.form old new failed fault

-- the stack that is scanned, beside the map's file
pub record LoadsScanned {S D : Type 0} (w : Calls S D) (words : ScanWords) (stack : StackRecord) : Type 0 where
  pub d : ℕ
  pub used : FileUse
  pub first : S
  pub between : S
  pub map_used : UsesMap (record w { new = first }) (map_plan words.map map_kind.Scan words.retries) used
  pub found : FindsSource (record w { old = first; new = between }) used words.words (device_place stack d)

-- what is printed among the errors of that stack
abbrev pub NotesScan : {S D : Type 0} → Calls S D → ScanWords → Notes → Type 0
NotesScan w words = NotesStack (LoadsScanned w words) ((fault : RecoveringFault) × IsScanUnbegun w words fault)

-- ---- in terms of the arguments of a call, for an open device

module _ {S D E T : Type 0} (relations : Opener S D) (state : D → Device) (seen : Discard → Device) (contents : T → Option (List ℕ)) (images images' : S) (old new : Passing E Discard) (writer writer' : CountedRecord T) where
  abbrev scanned : Listed → Listed → Moving
  scanned before told = moving (sides old.stack (seen old.out) before) (sides new.stack (seen new.out) told)

  abbrev scans : ScanPlan → Listed → PassCounts → Listed → Type 0
  scans plan before counts told = CountsPass (calls relations state images images') (map_at (option_map (λ p. p.now) plan.map) map_kind.Scan) (retried_of old) (scanned before told) counts

  abbrev stops_scan : ScanPlan → Listed → RecoveringFault → Listed → Type 0
  stops_scan plan before fault told = IsPassEnd (StopsPass (calls relations state images images') (map_at (option_map (λ p. p.now) plan.map) map_kind.Scan) (retried_of old) (scanned before told)) fault

  abbrev pub ReportsScan : ScanPlan → Type 0
  ReportsScan plan = Reports (scans plan) plan.form (contents writer.inner) (contents writer'.inner)

  abbrev pub EndsReporting : ScanPlan → RecoveringFault → Type 0
  EndsReporting plan = IsUnreported (stops_scan plan) (scans plan) plan.form (contents writer.inner) (contents writer'.inner) writer'.failed
