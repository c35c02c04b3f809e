-- Copies of a device's readable sectors to an image, and how a copy ends early.
use Rattle.std.specs.Prelude.{◌≡◌, ◌⊎◌, ◌&&◌, not, ℕ, ◌<◌, Bool, true, false, IsTrue, List, Option, option_map}
use Rattle.block_device.specs.Device.{Device, IsUnsynced, synced}
use Rattle.program_io.specs.Counted.{CountedRecord}
use Rattle.device_adapters.specs.Differing.{differing}
use Rattle.image_files.specs.declared.file_use.FileUse.{FileUse}
use Rattle.image_files.specs.declared.images.OpenImage.{OpenImage}
use Rattle.image_files.specs.Opener.{Calls, Opener, calls}
use Rattle.scan_commands.specs.declared.rescue_fault.PassFault.{PassFault}
use Rattle.scan_commands.specs.declared.rescue_fault.PassFault.TheVariants.{Output}
use Rattle.scan_commands.specs.declared.passing.Passing.{Passing}
use Rattle.scan_commands.specs.MapFiles.{map_at}
use Rattle.scan_commands.specs.MapUses.{IsMapUnusedBeside, UsesMapBeside, map_plan}
use Rattle.scan_commands.specs.CountedPasses.{CountsPass}
use Rattle.scan_commands.specs.Passes.{Moving, StopsPass, moving, retried_of}
use Rattle.rescue_map.specs.declared.kind.MapKind.TheVariants as map_kind
use Rattle.stack_rules.specs.Names.{mapped, size}
use Rattle.stack_engine.specs.Stacks.{StackRecord}
use Rattle.stack_files.specs.DeviceSources.{FailsToFindSourceOutput, FindsSourceOutput, SourceWords, of_disk, of_stack, source_words}
use Rattle.stack_files.specs.NamedDevices.{DevicePlace, device_place}
use Rattle.stack_files.specs.Unchecked.{NotesStack}
use Rattle.stack_files.specs.Warnings.{Notes}
use Rattle.stack_files.specs.declared.device_source.DeviceSource.{DeviceSource}
use Rattle.scan_commands.specs.declared.pass_counts.PassCounts.{PassCounts}
use Rattle.stack_recovery.specs.Listings.{Listed}
use Rattle.stack_recovery.specs.Recoveries.{sides}
use Rattle.scan_commands.specs.Retries.{Retried, retried}
use Rattle.scan_commands.specs.declared.copy.CopyPlan.{CopyPlan}
use Rattle.charts.specs.declared.form.ReportForm.TheVariants.{Lines}
use Rattle.scan_commands.specs.declared.recovering_fault.RecoveringFault.{RecoveringFault}
use Rattle.scan_commands.specs.declared.recovering_fault.RecoveringFault.TheVariants.{OutputTooSmall}
use Rattle.scan_commands.specs.Counting.{IsPassEnd, IsRecoveryStackless, listed_by}
use Rattle.scan_commands.specs.Reports.{IsUnreported, Reports}

-- a device of a stack file over bindings or a disk, the image to copy to, whether only sectors that differ are written, the path of the map
-- file, if there is one, how many times lost sectors are read again, and whether failed pieces aren't searched sector by sector
pub record CopyWords : Type 0 where
  pub words : SourceWords
  pub out : List ℕ
  pub differing : Bool
  pub map : Option (List ℕ)
  pub retries : ℕ
  pub no_scrape : Bool

abbrev pub copy_words : SourceWords → List ℕ → Bool → Option (List ℕ) → ℕ → Bool → CopyWords
copy_words words out differing map retries no_scrape = record { words = words; out = out; differing = differing; map = map; retries = retries; no_scrape = no_scrape }

abbrev pub words_to_copy : DeviceSource → CopyPlan → CopyWords
words_to_copy source plan = copy_words (source_words source) plan.out.now plan.differing (option_map (λ p. p.now) plan.map) plan.retries plan.no_scrape

-- OUT's device as the pass sees it: with `--differing` a device that reads before it writes, and counts its own calls
abbrev pub IsOutputSeenAs : Bool → Device → Device → Type 0
IsOutputSeenAs false out seen = seen ≡ out
IsOutputSeenAs true out seen = seen ≡ differing out seen.reads seen.writes seen.dirty

-- the pass copied to OUT's device as it sees it, with a copy's map if there is one; `m` is of OUT's device itself
pub record PassesTo {S D : Type 0} (is_differing : Bool) (w : Calls S D) (map : Option (List ℕ)) (t : Retried) (m : Moving) (counts : PassCounts) : Type 0 where
  pub seen : Device
  pub left : Device
  pub begun : IsOutputSeenAs is_differing m.old.out seen
  pub passed : CountsPass w (map_at map map_kind.Copy) t (moving (record m.old { out = seen }) (record m.new { out = left })) counts
  pub ended : IsOutputSeenAs is_differing m.new.out left

-- the pass ended early
pub record StopsTo {S D : Type 0} (is_differing : Bool) (w : Calls S D) (map : Option (List ℕ)) (t : Retried) (m : Moving) (fault : PassFault) : Type 0 where
  pub seen : Device
  pub left : Device
  pub begun : IsOutputSeenAs is_differing m.old.out seen
  pub stops : StopsPass w (map_at map map_kind.Copy) t (moving (record m.old { out = seen }) (record m.new { out = left })) fault
  pub ended : IsOutputSeenAs is_differing m.new.out left

-- the pass was completed, and OUT was synced
pub record CopiesTo {S D : Type 0} (is_differing : Bool) (w : Calls S D) (map : Option (List ℕ)) (t : Retried) (m : Moving) (counts : PassCounts) : Type 0 where
  pub unsynced : Device
  pub passed : PassesTo is_differing w map t (moving m.old (record m.new { out = unsynced })) counts
  pub durable : m.new.out ≡ synced unsynced

-- the pass was completed, but OUT's sync failed, which changed no sector
pub record FailsToSync {S D : Type 0} (is_differing : Bool) (w : Calls S D) (map : Option (List ℕ)) (t : Retried) (m : Moving) (fault : PassFault) : Type 0 where
  pub counts : PassCounts
  pub unsynced : Device
  pub passed : PassesTo is_differing w map t (moving m.old (record m.new { out = unsynced })) counts
  pub failed : IsUnsynced unsynced m.new.out
  pub sure : IsTrue unsynced.never_fails → ⊥
  pub is : fault ≡ Output

abbrev pub EndsCopying : {S D : Type 0} → Bool → Calls S D → Option (List ℕ) → Retried → Moving → PassFault → Type 0
EndsCopying is_differing w map t m fault = StopsTo is_differing w map t m fault ⊎ FailsToSync is_differing w map t m fault

-- ---- a copy

-- what is read: beside a map that there is, OUT isn't made as long as a disk, since it has what the map marks
abbrev pub words_beside : FileUse → SourceWords → SourceWords
words_beside used (of_stack words) = of_stack words
words_beside used (of_disk words) = of_disk (record words { grow = words.grow && not used.writable })

-- the device was copied to OUT's image, which was then synced and closed
pub record Copies {S D : Type 0} (w : Calls S D) (words : CopyWords) (before : Listed) (counts : PassCounts) (told : Listed) : Type 0 where
  pub at : DevicePlace
  pub image : OpenImage D
  pub image' : D
  pub left : StackRecord
  pub used : FileUse
  pub first : S
  pub between : S
  pub behind : S
  pub map_used : UsesMapBeside (record w { new = first }) (map_plan words.map map_kind.Copy words.retries) words.out used
  pub found : FindsSourceOutput (record w { old = first; new = between }) used (words_beside used words.words) words.out at image
  pub copied : CopiesTo words.differing (record w { old = between; new = behind }) words.map (retried at.d words.retries words.no_scrape) (moving (sides at.stack (w.state image.device) before) (sides left (w.state image') told)) counts
  pub back : w.relations.takes behind words.out image' w.new

-- the copy began and ended early, and OUT's image was closed
pub record StopsCopy {S D : Type 0} (w : Calls S D) (words : CopyWords) (before : Listed) (fault : RecoveringFault) (told : Listed) : Type 0 where
  pub at : DevicePlace
  pub image : OpenImage D
  pub image' : D
  pub left : StackRecord
  pub used : FileUse
  pub first : S
  pub between : S
  pub behind : S
  pub map_used : UsesMapBeside (record w { new = first }) (map_plan words.map map_kind.Copy words.retries) words.out used
  pub found : FindsSourceOutput (record w { old = first; new = between }) used (words_beside used words.words) words.out at image
  pub stops : IsPassEnd (EndsCopying words.differing (record w { old = between; new = behind }) words.map (retried at.d words.retries words.no_scrape) (moving (sides at.stack (w.state image.device) before) (sides left (w.state image') told))) fault
  pub back : w.relations.takes behind words.out image' w.new

-- no sector is lost, and all was reported
abbrev pub PrintsCopy : {S D : Type 0} → Calls S D → CopyWords → Option (List ℕ) → Option (List ℕ) → Type 0
PrintsCopy w words old new = Reports (Copies w words) Lines old new

-- the device has so many sectors, which are more than the image has
abbrev pub IsOutputTooSmall : Device → ℕ → RecoveringFault → Type 0
IsOutputTooSmall image sectors (OutputTooSmall needed) = (needed ≡ sectors) × (image.size < sectors)
IsOutputTooSmall image sectors fault = ⊥

-- the image has no room for the device
pub record FindsNoRoom {S D : Type 0} (w : Calls S D) (used : FileUse) (words : SourceWords) (out : List ℕ) (fault : RecoveringFault) : Type 0 where
  pub at : DevicePlace
  pub image : OpenImage D
  pub found : FindsSourceOutput w used words out at image
  pub small : IsOutputTooSmall (w.state image.device) (size at.stack.config (mapped at.d)) fault

-- the image has no room, or there is no such device
abbrev pub IsOutputUncopied : {S D : Type 0} → Calls S D → FileUse → SourceWords → List ℕ → RecoveringFault → Type 0
IsOutputUncopied w used words out fault = IsRecoveryStackless (FailsToFindSourceOutput w used words out) fault ⊎ FindsNoRoom w used words out fault

-- the map's file may be used and isn't OUT, and one of these
pub record FailsBesideMap {S D : Type 0} (w : Calls S D) (words : CopyWords) (fault : RecoveringFault) : Type 0 where
  pub used : FileUse
  pub first : S
  pub map_used : UsesMapBeside (record w { new = first }) (map_plan words.map map_kind.Copy words.retries) words.out used
  pub fails : IsOutputUncopied (record w { old = first }) used (words_beside used words.words) words.out fault

-- that, or the file may not be used, or is OUT
abbrev pub IsCopyUnbegun : {S D : Type 0} → Calls S D → CopyWords → RecoveringFault → Type 0
IsCopyUnbegun w words fault = IsMapUnusedBeside w (map_plan words.map map_kind.Copy words.retries) words.out fault ⊎ FailsBesideMap w words fault

-- nothing is printed if the copy doesn't begin
abbrev pub IsCopyEnd : {S D : Type 0} → Calls S D → CopyWords → Option (List ℕ) → Option (List ℕ) → Bool → RecoveringFault → Type 0
IsCopyEnd w words old new failed fault =
    ((new ≡ old) × IsCopyUnbegun w words fault) ⊎ IsUnreported (StopsCopy w words) (Copies w words) Lines old new failed fault

-- the stack that is copied, beside the map's file
pub record LoadsCopied {S D : Type 0} (w : Calls S D) (words : CopyWords) (stack : StackRecord) : Type 0 where
  pub d : ℕ
  pub image : OpenImage D
  pub used : FileUse
  pub first : S
  pub between : S
  pub map_used : UsesMapBeside (record w { new = first }) (map_plan words.map map_kind.Copy words.retries) words.out used
  pub found : FindsSourceOutput (record w { old = first; new = between }) used (words_beside used words.words) words.out (device_place stack d) image

-- what is printed among the errors of that stack
abbrev pub NotesCopy : {S D : Type 0} → Calls S D → CopyWords → Notes → Type 0
NotesCopy w words = NotesStack (LoadsCopied w words) ((fault : RecoveringFault) × IsCopyUnbegun w words fault)

-- ---- in terms of the arguments of a call

-- there is no such device, or no image with room for it
abbrev pub FailsTo : {S D : Type 0} → Opener S D → (D → Device) → S → S → FileUse → DeviceSource → List ℕ → RecoveringFault → Type 0
FailsTo relations state old new used source out = IsOutputUncopied (calls relations state old new) used (source_words source) out

-- for an open device, with the writer of the lines
module _ {S D E O T : Type 0} (relations : Opener S D) (state : D → Device) (seen : O → Device) (contents : T → Option (List ℕ)) (images images' : S) (old new : Passing E O) (writer writer' : CountedRecord T) (plan : CopyPlan) where
  abbrev copy_moved : Moving
  copy_moved = moving (sides old.stack (seen old.out) (listed_by contents writer)) (sides new.stack (seen new.out) (listed_by contents writer'))

  abbrev pub PassesToBy : PassCounts → Type 0
  PassesToBy = PassesTo plan.differing (calls relations state images images') (option_map (λ p. p.now) plan.map) (retried_of old) copy_moved

  abbrev pub StopsToBy : PassFault → Type 0
  StopsToBy = StopsTo plan.differing (calls relations state images images') (option_map (λ p. p.now) plan.map) (retried_of old) copy_moved

  abbrev pub CopiesBy : PassCounts → Type 0
  CopiesBy = CopiesTo plan.differing (calls relations state images images') (option_map (λ p. p.now) plan.map) (retried_of old) copy_moved

  abbrev pub EndsCopyingBy : PassFault → Type 0
  EndsCopyingBy = EndsCopying plan.differing (calls relations state images images') (option_map (λ p. p.now) plan.map) (retried_of old) copy_moved
