-- The map file as a file in use, which a scan or a copy replaces: it is found before anything else is opened.
use Rattle.std.specs.Prelude.{◌≡◌, ◌⊎◌, ℕ, ◌&&◌, nat_lt, Bool, true, false, List, [], ◌∷◌, length, Option, Some, None, option_map, Ok, Err, if◌then◌else◌}
use Rattle.block_device.specs.declared.open_fault.OpenFault.{OpenFault}
use Rattle.block_device.specs.declared.open_fault.OpenFault.TheVariants.{NotFound, OtherFault, SameFile}
use Rattle.image_files.specs.Apart.{OpensApart, RefusesApart}
use Rattle.image_files.specs.declared.file_use.FileUse.{FileUse}
use Rattle.image_files.specs.declared.images.OpenImage.{OpenImage}
use Rattle.image_files.specs.declared.images.FileText.{FileText}
use Rattle.image_files.specs.declared.opening.UnopenedFile.{UnopenedFile}
use Rattle.image_files.specs.FileUses.{image_use, no_use}
use Rattle.image_files.specs.Opened.{Refuses}
use Rattle.image_files.specs.OneFile.{is_block_device}
use Rattle.image_files.specs.OnePlace.{Compares, FailsToCompare}
use Rattle.image_files.specs.OpenPlaces.{is_missing}
use Rattle.image_files.specs.Opener.{Calls}
use Rattle.image_files.specs.declared.texts.ReplaceFault.{ReplaceFault}
use Rattle.stack_files.specs.declared.stack_fault.StackFault.TheVariants as stack_fault
use Rattle.scan_commands.specs.declared.recovering_fault.RecoveringFault.{RecoveringFault}
use Rattle.scan_commands.specs.declared.recovering_fault.RecoveringFault.TheVariants.{Pass, Stack}
use Rattle.scan_commands.specs.declared.rescue_fault.PassFault.{PassFault}
use Rattle.scan_commands.specs.declared.rescue_fault.PassFault.TheVariants.{Unread, Unwritten}
use Rattle.rescue_map.specs.declared.kind.MapKind.{MapKind}
use Rattle.rescue_map.specs.Finished.{is_finished}
use Rattle.rescue_map.specs.Kinds.{kind_of}
use Rattle.scan_commands.specs.declared.map_use.MapPlan.{MapPlan}
use Rattle.scan_commands.specs.MapFiles.{MapPathRecord, TellsMap, continues, map_at, map_path_of, most_map}

-- the file was opened to be read, and isn't a block device; it is in use as one that is written
pub record IsMapThere {S D : Type 0} (w : Calls S D) (path : List ℕ) (used : FileUse) : Type 0 where
  pub image : OpenImage D
  pub opened : w.relations.opens w.old path false (Ok image) w.new
  pub regular : is_block_device image.id ≡ false
  pub is : used ≡ image_use true image

-- there is no file
pub record IsMapMissing {S D : Type 0} (w : Calls S D) (path : List ℕ) (used : FileUse) : Type 0 where
  pub missing : w.relations.opens w.old path false (Err NotFound) w.new
  pub is : used ≡ no_use

-- how the map's file is used, if there is one
abbrev pub FindsMap : {S D : Type 0} → Calls S D → List ℕ → FileUse → Type 0
FindsMap w path used = IsMapThere w path used ⊎ IsMapMissing w path used

-- the file was opened, and is a block device
pub record IsMapDevice {S D : Type 0} (w : Calls S D) (path : List ℕ) (file : UnopenedFile) : Type 0 where
  pub image : OpenImage D
  pub opened : w.relations.opens w.old path false (Ok image) w.new
  pub device : is_block_device image.id ≡ true
  pub is : (file.fault ≡ OtherFault) × (file.path.now ≡ path)

-- that, or it isn't opened
abbrev pub RefusesMap : {S D : Type 0} → Calls S D → List ℕ → UnopenedFile → Type 0
RefusesMap w path file = ((is_missing file.fault ≡ false) × Refuses w path false file) ⊎ IsMapDevice w path file

-- the map file of a pass, and whether bad sectors are read again
pub record PlanRecord : Type 0 where
  pub file : MapPathRecord
  pub again : Bool

abbrev pub plan_of : MapPlan → PlanRecord
plan_of plan = record { file = map_path_of plan.file; again = plan.again }

-- the map file of that kind, if a path is given, of a pass with so many retries
abbrev pub map_plan : Option (List ℕ) → MapKind → ℕ → Option PlanRecord
map_plan path kind retries = option_map (λ file. record { file = file; again = nat_lt 0 retries }) (map_at path kind)

-- nothing remains to be read by a text: a map of the kind continues it, and it is finished
abbrev pub is_complete : Bool → MapKind → List ℕ → Bool
is_complete again kind text = if nat_lt 16777216 (length text) then false else (continues kind (kind_of text) && is_finished again text)

-- the text of the map was read, and is complete or not
pub record TellsComplete {S D : Type 0} (w : Calls S D) (plan : PlanRecord) (complete : Bool) : Type 0 where
  pub text : FileText
  pub told : TellsMap w plan.file.path text
  pub is : is_complete plan.again plan.file.kind text.bytes.items ≡ complete

-- it couldn't be read
abbrev pub IsTextMissing : {S D : Type 0} → Calls S D → PlanRecord → Type 0
IsTextMissing w plan = (fault : OpenFault) × w.relations.tells w.old plan.file.path most_map (Err fault) w.new

-- whether the map is complete
abbrev pub IsComplete : {S D : Type 0} → Calls S D → PlanRecord → Bool → Type 0
IsComplete w plan true = TellsComplete w plan true
IsComplete w plan false = IsTextMissing w plan ⊎ TellsComplete w plan false

-- no file can be created beside the map, which is complete or not
pub record HasNoDraft {S D : Type 0} (w : Calls S D) (plan : PlanRecord) (complete : Bool) (fault : ReplaceFault) : Type 0 where
  pub between : S
  pub tried : w.relations.tries w.old plan.file.path (Err fault) between
  pub read : IsComplete (record w { old = between }) plan complete

-- a file can be created beside the map, or the map is complete, so that it isn't replaced
abbrev pub MayUse : {S D : Type 0} → Calls S D → PlanRecord → Type 0
MayUse w plan = w.relations.tries w.old plan.file.path (Ok tt) w.new ⊎ ((fault : ReplaceFault) × HasNoDraft w plan true fault)

-- neither
abbrev pub LacksDraft : {S D : Type 0} → Calls S D → PlanRecord → PassFault → Type 0
LacksDraft w plan (Unwritten fault) = HasNoDraft w plan false fault
LacksDraft w plan fault = ⊥

-- the map's file was found, or there is none, and it may be used
pub record UsesMapAt {S D : Type 0} (w : Calls S D) (plan : PlanRecord) (used : FileUse) : Type 0 where
  pub between : S
  pub found : FindsMap (record w { new = between }) plan.file.path used
  pub may : MayUse (record w { old = between }) plan

-- it was found, or there is none, and it may not
pub record IsMapKept {S D : Type 0} (w : Calls S D) (plan : PlanRecord) (fault : ReplaceFault) : Type 0 where
  pub used : FileUse
  pub between : S
  pub found : FindsMap (record w { new = between }) plan.file.path used
  pub draft : HasNoDraft (record w { old = between }) plan false fault

-- how the map's file is used: without a map nothing is opened, and no file is in use
abbrev pub UsesMap : {S D : Type 0} → Calls S D → Option PlanRecord → FileUse → Type 0
UsesMap w (Some plan) used = UsesMapAt w plan used
UsesMap w None used = (used ≡ no_use) × (w.new ≡ w.old)

-- why there can be no map in that file
abbrev pub RefusesMapAt : {S D : Type 0} → Calls S D → PlanRecord → PassFault → Type 0
RefusesMapAt w plan (Unread file) = RefusesMap w plan.file.path file
RefusesMapAt w plan (Unwritten fault) = IsMapKept w plan fault
RefusesMapAt w plan fault = ⊥

abbrev pub IsMapUnused : {S D : Type 0} → Calls S D → Option PlanRecord → PassFault → Type 0
IsMapUnused w (Some plan) fault = RefusesMapAt w plan fault
IsMapUnused w None fault = ⊥

-- ---- beside an image to copy to, be there a file or not

abbrev pub is_same_file : OpenFault → Bool
is_same_file SameFile = true
is_same_file fault = false

-- OUT's file was opened, and doesn't clash with the one in use; or OUT isn't opened, for another reason
abbrev pub IsOtherFile : {S D : Type 0} → Calls S D → FileUse → List ℕ → Type 0
IsOtherFile {S} {D} w used out =
    ((image : OpenImage D) × OpensApart w (used ∷ []) out false image) ⊎ ((file : UnopenedFile) × (is_same_file file.fault ≡ false) × RefusesApart w (used ∷ []) out false file)

-- OUT is another place than the map, and its file isn't the one in use
pub record IsOutputApart {S D : Type 0} (w : Calls S D) (used : FileUse) (map out : List ℕ) : Type 0 where
  pub between : S
  pub compared : Compares (record w { new = between }) out map false
  pub other : IsOtherFile (record w { old = between }) used out

-- OUT is the map's place
pub record IsMapPlace {S D : Type 0} (w : Calls S D) (map out : List ℕ) (file : UnopenedFile) : Type 0 where
  pub compared : Compares w out map true
  pub is : (file.fault ≡ SameFile) × (file.path.now ≡ out)

-- it is another place, but its file is the one in use
pub record IsMapFile {S D : Type 0} (w : Calls S D) (used : FileUse) (map out : List ℕ) (file : UnopenedFile) : Type 0 where
  pub between : S
  pub compared : Compares (record w { new = between }) out map false
  pub same : is_same_file file.fault ≡ true
  pub refused : RefusesApart (record w { old = between }) (used ∷ []) out false file

-- one of these, or memory ran out
abbrev pub IsOutputMap : {S D : Type 0} → Calls S D → FileUse → List ℕ → List ℕ → UnopenedFile → Type 0
IsOutputMap w used map out file = FailsToCompare w out map file ⊎ (IsMapPlace w map out file ⊎ IsMapFile w used map out file)

-- the map's file may be used, and OUT is another one
pub record UsesMapBesideAt {S D : Type 0} (w : Calls S D) (plan : PlanRecord) (out : List ℕ) (used : FileUse) : Type 0 where
  pub between : S
  pub found : UsesMapAt (record w { new = between }) plan used
  pub apart : IsOutputApart (record w { old = between }) used plan.file.path out

abbrev pub UsesMapBeside : {S D : Type 0} → Calls S D → Option PlanRecord → List ℕ → FileUse → Type 0
UsesMapBeside w (Some plan) out used = UsesMapBesideAt w plan out used
UsesMapBeside w None out used = (used ≡ no_use) × (w.new ≡ w.old)

-- it may be used, and is OUT
pub record IsMapOutput {S D : Type 0} (w : Calls S D) (plan : PlanRecord) (out : List ℕ) (file : UnopenedFile) : Type 0 where
  pub used : FileUse
  pub between : S
  pub found : UsesMapAt (record w { new = between }) plan used
  pub one : IsOutputMap (record w { old = between }) used plan.file.path out file

-- the map's file may not be used, or is OUT
abbrev pub RefusesMapBeside : {S D : Type 0} → Calls S D → PlanRecord → List ℕ → RecoveringFault → Type 0
RefusesMapBeside w plan out (Pass fault) = RefusesMapAt w plan fault
RefusesMapBeside w plan out (Stack (stack_fault.Open file)) = IsMapOutput w plan out file
RefusesMapBeside w plan out fault = ⊥

abbrev pub IsMapUnusedBeside : {S D : Type 0} → Calls S D → Option PlanRecord → List ℕ → RecoveringFault → Type 0
IsMapUnusedBeside w (Some plan) out fault = RefusesMapBeside w plan out fault
IsMapUnusedBeside w None out fault = ⊥
