-- What `repair` does to files, and how it ends.
use Rattle.std.specs.Prelude.{◌≡◌, ◌⊎◌, ℕ, Bool, true, false, List, Option, None, map}
use Rattle.block_device.specs.Device.{Device}
use Rattle.program_io.specs.Counted.{CountedRecord}
use Rattle.command_line.specs.declared.image_copies.ImageCopy.{ImageCopy}
use Rattle.image_pin.specs.declared.trusted.TrustedRoot.{TrustedRoot}
use Rattle.image_commands.specs.declared.tree_source.SoughtTree.{SoughtTree}
use Rattle.image_commands.specs.TreeSources.{may_seek}
use Rattle.image_files.specs.Opener.{Calls, Opener, calls}
use Rattle.verity_commands.specs.declared.tree_fault.TreeFault.{TreeFault}
use Rattle.verity_commands.specs.Surveyed.{SurveyedDevices, surveyed_devices}
use Rattle.verity_commands.specs.Surveys.{IsSurveyUnplaced}
use Rattle.tree_repair.specs.declared.fault.RepairFault.{RepairFault}
use Rattle.tree_repair.specs.declared.outcome.Outcome.{Outcome}
use Rattle.tree_repair.specs.declared.repair.Plan.{Plan}
use Rattle.tree_repair.specs.Worlds.{RepairWorld, repair_world}
use Rattle.repair_commands.specs.declared.counters.Counters.{Counters}
use Rattle.repair_commands.specs.declared.found_tree.FoundTree.{FoundTree}
use Rattle.repair_commands.specs.declared.opening.Copies.{Copies}
use Rattle.repair_commands.specs.declared.opening.Opened.{Opened}
use Rattle.repair_commands.specs.declared.pair.Pair.{Pair}
use Rattle.repair_commands.specs.declared.pair.Parts.{Parts}
use Rattle.repair_commands.specs.declared.pair.RepairPlaces.{RepairPlaces}
use Rattle.repair_commands.specs.Counters.{counters_of}
use Rattle.repair_commands.specs.Endings.{ending_fault}
use Rattle.repair_commands.specs.FoundTrees.{FindsNoTree, FindsTree}
use Rattle.repair_commands.specs.Mends.{HalfMends, IsOnMedium, MendsInOnePass, ParityUse}
use Rattle.repair_commands.specs.Openings.{FailsToOpenCopies, OpensAll}
use Rattle.repair_commands.specs.Pairs.{Places, places_of, pair_places}
use Rattle.repair_commands.specs.Rest.{IsRestEnd, TellsRest, known_by}
use Rattle.verity_format.specs.Blocks.{IsOnlyRead}

-- the repair by the tree that was found
abbrev pub plan_of : Places → FoundTree → Plan
plan_of p found = record { tree = found.tree; root = found.root; copy_first = p.first; write = p.write }

-- the devices of the two images and of their copies
abbrev pub pair_world : {D : Type 0} → (D → Device) → Pair D → Copies D → RepairWorld
pair_world state pair copies = repair_world (state pair.data_image.device) (state pair.hash_image.device) (map state copies.data_copies.items) (map state copies.hash_copies.items)

-- the opened devices
abbrev pub opened_world : {D : Type 0} → (D → Device) → Opened D → RepairWorld
opened_world state o = pair_world state o.pair o.copies

-- the two devices of the image
abbrev pub devices_in : RepairWorld → SurveyedDevices
devices_in w = surveyed_devices w.data_dev w.hash_dev

-- both parts were closed, the data first
pub record TakesBoth {S D : Type 0} (w : Calls S D) (parts : Parts) (data_dev hash_dev : D) : Type 0 where
  pub between : S
  pub data_taken : w.relations.takes_part w.old parts.data_path.now parts.data_part data_dev between
  pub hash_taken : w.relations.takes_part between parts.hash_path.now parts.hash_part hash_dev w.new

-- both parts were closed if the repair may write; otherwise none
abbrev pub GivesBackImages : {S D : Type 0} → Bool → Calls S D → Parts → D → D → Type 0
GivesBackImages true w parts data_dev hash_dev = TakesBoth w parts data_dev hash_dev
GivesBackImages false w parts data_dev hash_dev = w.new ≡ w.old

-- ---- on devices

-- what a repair did to devices: up to a state of them, a text, and what is known of the image, or the fault that ended the repair
abbrev pub Mending : Type 0 → Type 1
Mending E = RepairWorld → Option (List ℕ) → E → Type 0

-- The image was repaired, and what is still lost was reported: nothing. What was written is synced at the end.
pub record MendsAndTells (Mends : Mending Outcome) (whole : Bool) (plan : Plan) (new : Option (List ℕ)) (t' : SurveyedDevices) : Type 0 where
  pub mended : RepairWorld
  pub between : Option (List ℕ)
  pub found : Outcome
  pub mends : Mends mended between found
  pub tells : TellsRest (known_by whole found) plan (devices_in mended) t' between new
  pub on_medium : IsOnMedium plan.write t'.data_dev t'.hash_dev

-- The image wasn't repaired to the end, not all lines were printed, or not all is synced. No device was accessed afterwards.
pub record EndsMending (Half : Mending RepairFault) (new : Option (List ℕ)) (fault : TreeFault) (t' : SurveyedDevices) : Type 0 where
  pub mid : RepairWorld
  pub cause : RepairFault
  pub half : Half mid new cause
  pub is : fault ≡ ending_fault cause
  pub same : t' ≡ devices_in mid

-- The image was repaired, and the report wasn't completed, or not all blocks are valid. What was written is synced all the same.
pub record EndsTelling (Mends : Mending Outcome) (whole : Bool) (plan : Plan) (new : Option (List ℕ)) (failed : Bool) (fault : TreeFault) (t' : SurveyedDevices) : Type 0 where
  pub mended : RepairWorld
  pub between : Option (List ℕ)
  pub found : Outcome
  pub mends : Mends mended between found
  pub ends : IsRestEnd (known_by whole found) plan (devices_in mended) t' between new failed fault
  pub on_medium : IsOnMedium plan.write t'.data_dev t'.hash_dev

abbrev pub EndsEarly : Mending Outcome → Mending RepairFault → Bool → Plan → Option (List ℕ) → Bool → TreeFault → SurveyedDevices → Type 0
EndsEarly Mends Half whole plan new failed fault t' = EndsMending Half new fault t' ⊎ EndsTelling Mends whole plan new failed fault t'

-- a repair from copies, in one pass
abbrev pub MendsOnce : Plan → RepairWorld → Option (List ℕ) → Mending Outcome
MendsOnce plan w old = λ mid between outcome. MendsInOnePass plan w mid old between outcome

-- a repair that ended early, of which only verified blocks were written; `failed` is whether the writer failed
abbrev pub MendsHalf : Plan → Option ParityUse → RepairWorld → Option (List ℕ) → Bool → Mending RepairFault
MendsHalf plan parity w old failed = λ mid between cause. HalfMends plan parity w mid old between failed cause

-- the image on two devices was repaired from copies in one pass, and what is still lost was reported: nothing
abbrev pub RepairsDevices : Plan → Bool → RepairWorld → SurveyedDevices → Option (List ℕ) → Option (List ℕ) → Type 0
RepairsDevices plan whole w t' old new = MendsAndTells (MendsOnce plan w old) whole plan new t'

-- this ended early, or not all blocks are valid
abbrev pub EndsOnDevices : Plan → Bool → RepairWorld → SurveyedDevices → Option (List ℕ) → Option (List ℕ) → Bool → TreeFault → Type 0
EndsOnDevices plan whole w t' old new failed fault = EndsEarly (MendsOnce plan w old) (MendsHalf plan None w old failed) whole plan new failed fault t'

-- that, and what the devices had counted when the repair ended
abbrev pub RepairsCounted : Plan → Bool → RepairWorld → SurveyedDevices → Option (List ℕ) → Option (List ℕ) → Counters → Type 0
RepairsCounted plan whole w t' old new counters = (does : RepairsDevices plan whole w t' old new) × (counters ≡ counters_of does.mended)

abbrev pub EndsCounted : Plan → Bool → RepairWorld → SurveyedDevices → Option (List ℕ) → Option (List ℕ) → Bool → Counters → TreeFault → Type 0
EndsCounted plan whole w t' old new failed counters fault =
    ((ends : EndsMending (MendsHalf plan None w old failed) new fault t') × (counters ≡ counters_of ends.mid))
    ⊎ ((ends : EndsTelling (MendsOnce plan w old) whole plan new failed fault t') × (counters ≡ counters_of ends.mended))

-- ---- on files

-- this holds of the two devices as they are closed
pub record GivesBack {S D : Type 0} (w : Calls S D) (p : Places) (parts : Parts) (P : SurveyedDevices → Type 0) : Type 0 where
  pub data_dev : D
  pub hash_dev : D
  pub holds : P (surveyed_devices (w.state data_dev) (w.state hash_dev))
  pub back : GivesBackImages p.write w parts data_dev hash_dev

-- the open images were repaired, what is still lost was reported, and both parts were closed
abbrev pub MendsOpened : {S D : Type 0} → Calls S D → Places → Opened D → FoundTree → Option (List ℕ) → Option (List ℕ) → Type 0
MendsOpened w p o found old new = GivesBack w p o.parts (λ t'. RepairsDevices (plan_of p found) found.whole (opened_world w.state o) t' old new)

-- this ended early, and both parts were closed
abbrev pub EndsOpened : {S D : Type 0} → Calls S D → Places → Opened D → FoundTree → Option (List ℕ) → Option (List ℕ) → Bool → TreeFault → Type 0
EndsOpened w p o found old new failed fault = GivesBack w p o.parts (λ t'. EndsOnDevices (plan_of p found) found.whole (opened_world w.state o) t' old new failed fault)

-- ---- what is read before anything is written

-- the open files, with another hash device
abbrev pub with_hash : {D : Type 0} → Opened D → D → Opened D
with_hash o device = record o { pair = record o.pair { hash_image = record o.pair.hash_image { device = device } } }

-- the tree was found on the hash device, which was only read
pub record PassesOpened {D : Type 0} (state : D → Device) (first : ℕ) (sought : SoughtTree) (before o : Opened D) (found : FoundTree) : Type 0 where
  pub rest_is : o ≡ with_hash before o.pair.hash_image.device
  pub read : IsOnlyRead (state before.pair.hash_image.device) (state o.pair.hash_image.device)
  pub finds : FindsTree (state before.pair.data_image.device).size (state before.pair.hash_image.device) first sought (state o.pair.hash_image.device) found

-- the image is refused; only the hash device was accessed, by reads
pub record RefusesOpened {D : Type 0} (state : D → Device) (first : ℕ) (sought : SoughtTree) (before o : Opened D) (fault : TreeFault) : Type 0 where
  pub rest_is : o ≡ with_hash before o.pair.hash_image.device
  pub read : IsOnlyRead (state before.pair.hash_image.device) (state o.pair.hash_image.device)
  pub none : FindsNoTree (state before.pair.data_image.device).size (state before.pair.hash_image.device) first sought (state o.pair.hash_image.device) fault

-- ---- from the arguments on

-- The images and the copies were opened, and the tree was found. The image was repaired by that tree, reported and closed.
pub record RepairsFiles {S D : Type 0} (w : Calls S D) (p : Places) (copies : List ImageCopy) (sought : SoughtTree) (old new : Option (List ℕ)) : Type 0 where
  pub ready : S
  pub before : Opened D
  pub opened : Opened D
  pub found : FoundTree
  pub opens : OpensAll (record w { new = ready }) p copies before
  pub passes : PassesOpened w.state p.first sought before opened found
  pub mends : MendsOpened (record w { old = ready }) p opened found old new
  pub aligned : may_seek sought.source p.first ≡ true

-- no hash block of the options' tree begins there, and nothing was opened or printed
abbrev pub IsRepairUnplaced : {S D : Type 0} → Calls S D → Places → SoughtTree → Option (List ℕ) → Option (List ℕ) → TreeFault → Type 0
IsRepairUnplaced w p sought old new fault = IsSurveyUnplaced w (pair_places p) sought.source fault × (new ≡ old)

-- a file can't be opened, and nothing was written or printed
pub record EndsUnopenedRepair {S D : Type 0} (w : Calls S D) (p : Places) (copies : List ImageCopy) (old new : Option (List ℕ)) (fault : TreeFault) : Type 0 where
  pub fails : FailsToOpenCopies w p copies fault
  pub quiet : new ≡ old

-- all files are open, and the image is refused before anything is written or printed
pub record EndsRefused {S D : Type 0} (w : Calls S D) (p : Places) (copies : List ImageCopy) (sought : SoughtTree) (old new : Option (List ℕ)) (fault : TreeFault) : Type 0 where
  pub before : Opened D
  pub opened : Opened D
  pub opens : OpensAll w p copies before
  pub refuses : RefusesOpened w.state p.first sought before opened fault
  pub quiet : new ≡ old

-- the image isn't refused, and its repair ended early, or not all of it is valid
pub record EndsUnmended {S D : Type 0} (w : Calls S D) (p : Places) (copies : List ImageCopy) (sought : SoughtTree) (old new : Option (List ℕ)) (failed : Bool) (fault : TreeFault) : Type 0 where
  pub ready : S
  pub before : Opened D
  pub opened : Opened D
  pub found : FoundTree
  pub opens : OpensAll (record w { new = ready }) p copies before
  pub passes : PassesOpened w.state p.first sought before opened found
  pub ends : EndsOpened (record w { old = ready }) p opened found old new failed fault

abbrev pub IsRepairEnd : {S D : Type 0} → Calls S D → Places → List ImageCopy → SoughtTree → Option (List ℕ) → Option (List ℕ) → Bool → TreeFault → Type 0
IsRepairEnd w p copies sought old new failed fault =
    IsRepairUnplaced w p sought old new fault ⊎ (EndsUnopenedRepair w p copies old new fault ⊎ (EndsRefused w p copies sought old new fault ⊎ EndsUnmended w p copies sought old new failed fault))

-- ---- in terms of the devices that are returned, an opener, a writer before and after, and the arguments

abbrev pub AreDevicesRepaired : {D H W : Type 0} → (D → Device) → (H → Device) → RepairWorld → Bool → Plan → D → H → Counters → (W → Option (List ℕ)) → CountedRecord W → CountedRecord W → Type 0
AreDevicesRepaired data_state hash_state w whole plan d h counters contents before behind =
    RepairsCounted plan whole w (surveyed_devices (data_state d) (hash_state h)) (contents before.inner) (contents behind.inner) counters

abbrev pub AreDevicesUnrepaired : {D H W : Type 0} → (D → Device) → (H → Device) → RepairWorld → Bool → Plan → D → H → Counters → (W → Option (List ℕ)) → CountedRecord W → CountedRecord W → TreeFault → Type 0
AreDevicesUnrepaired data_state hash_state w whole plan d h counters contents before behind =
    EndsCounted plan whole w (surveyed_devices (data_state d) (hash_state h)) (contents before.inner) (contents behind.inner) behind.failed counters

abbrev pub plan_at : RepairPlaces → FoundTree → Plan
plan_at places found = plan_of (places_of places) found

abbrev pub GivesBackBoth : {S D : Type 0} → Opener S D → (D → Device) → S → S → RepairPlaces → Parts → D → D → Type 0
GivesBackBoth relations state old new places parts data_dev hash_dev = GivesBackImages places.write (calls relations state old new) parts data_dev hash_dev

abbrev pub IsPairMended : {S D W : Type 0} → Opener S D → (D → Device) → S → S → RepairPlaces → Opened D → FoundTree → (W → Option (List ℕ)) → CountedRecord W → CountedRecord W → Type 0
IsPairMended relations state old new places o found contents before behind =
    MendsOpened (calls relations state old new) (places_of places) o found (contents before.inner) (contents behind.inner)

abbrev pub IsPairUnmended : {S D W : Type 0} → Opener S D → (D → Device) → S → S → RepairPlaces → Opened D → FoundTree → (W → Option (List ℕ)) → CountedRecord W → CountedRecord W → TreeFault → Type 0
IsPairUnmended relations state old new places o found contents before behind =
    EndsOpened (calls relations state old new) (places_of places) o found (contents before.inner) (contents behind.inner) behind.failed

abbrev pub AreRepaired : {S D W : Type 0} → Opener S D → (D → Device) → S → S → RepairPlaces → List ImageCopy → SoughtTree → (W → Option (List ℕ)) → CountedRecord W → CountedRecord W → Type 0
AreRepaired relations state old new places copies sought contents before behind =
    RepairsFiles (calls relations state old new) (places_of places) copies sought (contents before.inner) (contents behind.inner)

abbrev pub AreUnrepaired : {S D W : Type 0} → Opener S D → (D → Device) → S → S → RepairPlaces → List ImageCopy → SoughtTree
    → (W → Option (List ℕ)) → CountedRecord W → CountedRecord W → TreeFault → Type 0
AreUnrepaired relations state old new places copies sought contents before behind =
    IsRepairEnd (calls relations state old new) (places_of places) copies sought (contents before.inner) (contents behind.inner) behind.failed
