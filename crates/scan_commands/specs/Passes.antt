-- The passes over a mapped device, with or without a map file.
use Rattle.std.specs.Prelude.{◌≡◌, ◌⊎◌, ◌<◌, ◌≤◌, IsTrue, List, length, Option, option_map}
use Rattle.block_device.specs.Device.{Device}
use Rattle.image_files.specs.Opener.{Calls, Opener, calls}
use Rattle.rescue_map.specs.declared.map.Run.{Run}
use Rattle.rescue_map.specs.declared.text.ParsedMap.{ParsedMap}
use Rattle.rescue_map.specs.Maps.{marks}
use Rattle.scan_commands.specs.declared.rescue_fault.PassFault.{PassFault}
use Rattle.scan_commands.specs.declared.map_file.MapFile.{MapFile}
use Rattle.scan_commands.specs.declared.map_file.MapPath.{MapPath}
use Rattle.scan_commands.specs.declared.passing.Passing.{Passing}
use Rattle.scan_commands.specs.declared.phase.Phase.TheVariants.{Trim}
use Rattle.scan_commands.specs.declared.retries.TriedMap.{TriedMap}
use Rattle.scan_commands.specs.declared.trimming.TrimmedMap.{TrimmedMap}
use Rattle.scan_commands.specs.MapFiles.{BeginsMap, LacksMap, MapPathRecord, map_path_of, with_tail}
use Rattle.scan_commands.specs.PassesInTurns.{EndsLast, EndsRetries, EndsSweeping, IsTurnsEnd, KeepsTurns, ReportsLast, RescuesInTurns, RetriesBy, SweepsInTurns, after_turns}
use Rattle.scan_commands.specs.Turns.{Kept, Replaces, kept}
use Rattle.stack_rules.specs.Names.{mapped, size}
use Rattle.stack_recovery.specs.declared.recovery.Counts.{Counts}
use Rattle.stack_recovery.specs.Listings.{Listed}
use Rattle.stack_recovery.specs.LostRuns.{LostRun}
use Rattle.stack_recovery.specs.PassPieces.{scanned}
use Rattle.stack_recovery.specs.Recoveries.{Sides, sides}
use Rattle.scan_commands.specs.Retries.{Retried, retried, scan_of}

-- the stack, the output device and the reported lines, before and after
pub record Moving : Type 0 where
  pub old : Sides
  pub new : Sides

abbrev pub moving : Sides → Sides → Moving
moving old new = record { old = old; new = new }

-- The passes began with a map, that of the map file if there is one. Each pass read sectors of one status, in turns, and a map file was
-- replaced after each turn; its bytes after the device's sectors stay.
pub record Passes {S D : Type 0} (w : Calls S D) (file : Option MapPathRecord) (t : Retried) (m : Moving) (counts : Counts) : Type 0 where
  pub found : ParsedMap
  pub between : S
  pub read : BeginsMap (record w { new = between }) file (size m.old.stack.config (mapped t.d)) found
  pub rescued : RescuesInTurns (kept w.relations.replaces (with_tail file found.tail) (scan_of t) (size m.old.stack.config (mapped t.d))) t.retries (after_turns between m.old.stack m.old.out found.map) m.old.printed w.new m.new counts

-- the passes began, and a turn ended early
pub record IsCutShort {S D : Type 0} (w : Calls S D) (file : Option MapPathRecord) (t : Retried) (m : Moving) (fault : PassFault) : Type 0 where
  pub found : ParsedMap
  pub between : S
  pub read : BeginsMap (record w { new = between }) file (size m.old.stack.config (mapped t.d)) found
  pub ends : IsTurnsEnd (kept w.relations.replaces (with_tail file found.tail) (scan_of t) (size m.old.stack.config (mapped t.d))) t.retries (after_turns between m.old.stack m.old.out found.map) m.old.printed w.new m.new fault

-- there was no map to begin with, and nothing was done; or a turn ended early
abbrev pub StopsPass : {S D : Type 0} → Calls S D → Option MapPathRecord → Retried → Moving → PassFault → Type 0
StopsPass w file t m fault =
    ((m.new ≡ m.old) × LacksMap w file (size m.old.stack.config (mapped t.d)) fault) ⊎ IsCutShort w file t m fault

-- ---- in terms of the arguments of a call

-- the device is one of the stack's, and the other device is writable and has room for all its sectors
pub record CanPass {D O : Type 0} (state : O → Device) (p : Passing D O) : Type 0 where
  pub device : p.device.0 < length p.stack.config.devices
  pub room : size p.stack.config (mapped p.device.0) ≤ (state p.out).size
  pub allowed : IsTrue (state p.out).may_write

-- the device, how many times lost sectors are read again, and whether failed pieces aren't searched
abbrev pub retried_of : {D O : Type 0} → Passing D O → Retried
retried_of p = retried p.device.0 p.retries p.no_scrape

-- a device that is read by a map
abbrev pub kept_by : {S D O : Type 0} → Replaces S → Option MapPath → Passing D O → Kept S
kept_by replaces file old = kept replaces (option_map map_path_of file) (scanned old.device.0 old.no_scrape) (size old.stack.config (mapped old.device.0))

-- the passes in large pieces, after which the map is that one, or their early end
abbrev pub ReadsLargeMapBy : {S D O : Type 0} → Replaces S → (O → Device) → Option MapPath → List Run → S → S → Passing D O → Passing D O → List Run → Type 0
ReadsLargeMapBy replaces state file map images images' old new made =
    SweepsInTurns (kept_by replaces file old) (after_turns images old.stack (state old.out) map) (after_turns images' new.stack (state new.out) made)

abbrev pub EndsLargeMapBy : {S D O : Type 0} → Replaces S → (O → Device) → Option MapPath → List Run → S → S → Passing D O → Passing D O → PassFault → Type 0
EndsLargeMapBy replaces state file map images images' old new fault = EndsSweeping (kept_by replaces file old) (after_turns images old.stack (state old.out) map) images' new.stack (state new.out) fault

-- the pass that trims, after which the map is that one, or its early end
abbrev pub TrimsMapBy : {S D O : Type 0} → Replaces S → (O → Device) → Option MapPath → List Run → S → S → Passing D O → Passing D O → TrimmedMap → Type 0
TrimsMapBy replaces state file map images images' old new made =
    KeepsTurns (kept_by replaces file old) Trim (after_turns images old.stack (state old.out) map) (after_turns images' new.stack (state new.out) made.map) made.known.runs.items

abbrev pub EndsTrimsBy : {S D O : Type 0} → Replaces S → (O → Device) → Option MapPath → List Run → S → S → Passing D O → Passing D O → PassFault → Type 0
EndsTrimsBy replaces state file map images images' old new fault = EndsLast (kept_by replaces file old) Trim (after_turns images old.stack (state old.out) map) images' new.stack (state new.out) fault

-- the passes that report nothing, after which the map is that one
abbrev pub RetriesMapBy : {S D O : Type 0} → Replaces S → (O → Device) → Option MapPath → List Run → S → S → Passing D O → Passing D O → TriedMap → Type 0
RetriesMapBy replaces state file map images images' old new tried =
    RetriesBy (kept_by replaces file old) old.retries (after_turns images old.stack (state old.out) map) images' new.stack (state new.out) tried

abbrev pub EndsRetriesBy : {S D O : Type 0} → Replaces S → (O → Device) → Option MapPath → List Run → S → S → Passing D O → Passing D O → PassFault → Type 0
EndsRetriesBy replaces state file map images images' old new fault =
    EndsRetries (kept_by replaces file old) old.retries (after_turns images old.stack (state old.out) map) images' new.stack (state new.out) fault

-- the last pass, which reports, or its early end
abbrev pub last_kept : {S D O : Type 0} → Replaces S → MapFile → Passing D O → Kept S
last_kept replaces last old = kept replaces (option_map map_path_of last.file) (scanned old.device.0 last.no_scrape) (size old.stack.config (mapped old.device.0))

abbrev pub ReportsLastBy : {S D O L : Type 0} → Replaces S → (O → Device) → (L → Listed) → MapFile → List LostRun → S → S → Passing D O → Passing D O → L → L → Counts → Type 0
ReportsLastBy replaces state told last known images images' old new listing listing' counts =
    ReportsLast (last_kept replaces last old) last.phase known (after_turns images old.stack (state old.out) last.map) (told listing) images' (sides new.stack (state new.out) (told listing')) counts

abbrev pub EndsLastBy : {S D O L : Type 0} → Replaces S → (O → Device) → (L → Listed) → MapFile → S → S → Passing D O → Passing D O → L → L → PassFault → Type 0
EndsLastBy replaces state told last images images' old new listing listing' fault =
    EndsLast (last_kept replaces last old) last.phase (after_turns images old.stack (state old.out) last.map) images' new.stack (state new.out) fault × (told listing' ≡ told listing)

-- what a later pass needs: the map is of all sectors, and the same device can still be read and copied
pub record LeavesPassing {D O : Type 0} (state : O → Device) (old new : Passing D O) (runs : List Run) : Type 0 where
  pub map : length (marks runs) ≡ size old.stack.config (mapped old.device.0)
  pub device : new.device.0 ≡ old.device.0
  pub retries : new.retries ≡ old.retries
  pub no_scrape : new.no_scrape ≡ old.no_scrape
  pub config : new.stack.config ≡ old.stack.config
  pub same_size : (state new.out).size ≡ (state old.out).size
  pub allowed : IsTrue (state new.out).may_write

module _ {S D E O L : Type 0} (relations : Opener S D) (state : D → Device) (seen : O → Device) (told : L → Listed) (images images' : S) (old new : Passing E O) (listing listing' : L) where
  abbrev passed : Moving
  passed = moving (sides old.stack (seen old.out) (told listing)) (sides new.stack (seen new.out) (told listing'))

  abbrev pub PassesBy : Option MapPath → Counts → Type 0
  PassesBy file = Passes (calls relations state images images') (option_map map_path_of file) (retried_of old) passed

  abbrev pub StopsBy : Option MapPath → PassFault → Type 0
  StopsBy file = StopsPass (calls relations state images images') (option_map map_path_of file) (retried_of old) passed
