-- An image on two devices that is brought to a release.
use Rattle.std.specs.Prelude.{◌≡◌, ◌⊎◌, ℕ, Bool, true, false, if◌then◌else◌, List, Option, None, map}
use Rattle.std.specs.Io.KnownBytes.{Appends}
use Rattle.block_device.specs.Device.{Device}
use Rattle.image_commands.specs.Places.{IsStateOf}
use Rattle.program_io.specs.Counted.{CountedRecord}
use Rattle.repair_commands.specs.declared.counters.Counters.{Counters}
use Rattle.repair_commands.specs.Commands.{devices_in}
use Rattle.repair_commands.specs.Counters.{counters_of}
use Rattle.repair_commands.specs.Endings.{ending_fault}
use Rattle.tree_repair.specs.declared.fault.RepairFault.{RepairFault}
use Rattle.tree_repair.specs.declared.fault.RepairFault.TheVariants as repair_fault
use Rattle.tree_repair.specs.Worlds.{RepairWorld, repair_world}
use Rattle.tree_survey.specs.declared.fault.SurveyFault.TheVariants.{Image}
use Rattle.verity_commands.specs.declared.tree_fault.TreeFault.{TreeFault}
use Rattle.verity_commands.specs.declared.tree_fault.TreeFault.TheVariants.{Damaged, Survey, Write}
use Rattle.verity_commands.specs.Surveyed.{SurveyedDevices, surveyed_devices}
use Rattle.verity_format.specs.declared.verifying.VerifyFault.TheVariants.{Device as DeviceFailed}
use Rattle.verity_format.specs.Superblock.{SuperRecord, shape_of}
use Rattle.update_commands.specs.declared.counts.Counts.{Counts}
use Rattle.update_commands.specs.declared.counts.Tally.{Tally}
use Rattle.update_commands.specs.declared.devices.Target.{Target}
use Rattle.update_commands.specs.declared.release.Release.{Release}
use Rattle.update_commands.specs.Beginnings.{Begins, IsUnbegun}
use Rattle.update_commands.specs.Counts.{EndsWithCounts, IsUncounted, counts_of, counts_said}
use Rattle.update_commands.specs.Listings.{ListsBlocks}
use Rattle.update_commands.specs.Moving.{FailsToMove, MovesListed, MovesUnheard}
use Rattle.update_commands.specs.Releases.{plan_of}
use Rattle.update_commands.specs.Repaired.{EndsAloud, EndsSilently, RepairsAloud, RepairsSilently}
use Rattle.update_commands.specs.Seals.{IsSealed, IsUnsealed}

-- the devices of the image and of its copies
abbrev pub target_world : {D H C : Type 0} → (D → Device) → (H → Device) → (C → Device) → Target D H C → RepairWorld
target_world data_state hash_state copy_state t = repair_world (data_state t.data_dev) (hash_state t.hash_dev) (map copy_state t.copies.data_copies.items) (map copy_state t.copies.hash_copies.items)

-- ---- the end

-- the superblock was written and synced, and then the counts were printed
pub record Finishes (s : SuperRecord) (counts : Counts) (json : Bool) (hash_dev hash_dev' : Device) (old new : Option (List ℕ)) : Type 0 where
  pub sealed : IsSealed s hash_dev hash_dev'
  pub counted : Appends old new (counts_said json counts)

-- the superblock couldn't be written or synced, and nothing was printed
pub record EndsUnsealed (s : SuperRecord) (hash_dev hash_dev' : Device) (old new : Option (List ℕ)) (fault : TreeFault) : Type 0 where
  pub unsealed : IsUnsealed s hash_dev hash_dev'
  pub is : fault ≡ Survey (Image DeviceFailed)
  pub quiet : new ≡ old

-- it was written and synced, and the counts weren't printed
pub record EndsUncounted (s : SuperRecord) (json : Bool) (hash_dev hash_dev' : Device) (failed : Bool) (fault : TreeFault) : Type 0 where
  pub sealed : IsSealed s hash_dev hash_dev'
  pub uncounted : IsUncounted json failed fault

abbrev pub IsUnfinished : SuperRecord → Bool → Device → Device → Option (List ℕ) → Option (List ℕ) → Bool → TreeFault → Type 0
IsUnfinished s json hash_dev hash_dev' old new failed fault = EndsUnsealed s hash_dev hash_dev' old new fault ⊎ EndsUncounted s json hash_dev hash_dev' failed fault

-- ---- after the writer failed

-- the writer failed
abbrev pub is_unprinted : RepairFault → Bool
is_unprinted repair_fault.Write = true
is_unprinted fault = false

abbrev pub is_write : TreeFault → Bool
is_write Write = true
is_write fault = false

-- the fault of an update that ended without a superblock, which `Write` isn't
abbrev pub unsealed_fault : TreeFault → TreeFault
unsealed_fault fault = if is_write fault then Damaged else fault

-- the moves ended early, though not by the writer, and the superblock wasn't written
pub record EndsMoving (r : Release) (w : RepairWorld) (t' : SurveyedDevices) (fault : TreeFault) : Type 0 where
  pub behind : RepairWorld
  pub cause : RepairFault
  pub fails : FailsToMove (plan_of r) w behind cause
  pub heard : is_unprinted cause ≡ false
  pub is : fault ≡ ending_fault cause
  pub same : t' ≡ devices_in behind

-- the superblock was written and synced, and `Write` is the fault; or it couldn't be
abbrev pub SealsUnheard : SuperRecord → Device → Device → TreeFault → Type 0
SealsUnheard s hash_dev hash_dev' fault = ((fault ≡ Write) × IsSealed s hash_dev hash_dev') ⊎ ((fault ≡ Survey (Image DeviceFailed)) × IsUnsealed s hash_dev hash_dev')

-- without a writer all blocks were found or written valid, and synced; then that was done
pub record EndsSealing (r : Release) (w : RepairWorld) (t' : SurveyedDevices) (fault : TreeFault) : Type 0 where
  pub mended : SurveyedDevices
  pub repairs : RepairsSilently (plan_of r) w mended
  pub seals : SealsUnheard r.superblock mended.hash_dev t'.hash_dev fault
  pub data_is : t'.data_dev ≡ mended.data_dev

-- without a writer the repair ended early, or not all blocks are valid, and the superblock wasn't written
pub record EndsUnsealedUnheard (r : Release) (w : RepairWorld) (t' : SurveyedDevices) (fault : TreeFault) : Type 0 where
  pub cause : TreeFault
  pub ends : EndsSilently (plan_of r) w t' cause
  pub is : fault ≡ unsealed_fault cause

abbrev pub EndsMovedUnheard : Release → RepairWorld → SurveyedDevices → TreeFault → Type 0
EndsMovedUnheard r w t' fault = EndsUnsealedUnheard r w t' fault ⊎ EndsSealing r w t' fault

-- data blocks that moved were copied and others fetched, without a writer, and then that was done
pub record EndsBehindUnheard (r : Release) (w : RepairWorld) (t' : SurveyedDevices) (fault : TreeFault) : Type 0 where
  pub moved : RepairWorld
  pub moves : MovesUnheard (plan_of r) w moved
  pub ends : EndsMovedUnheard r moved t' fault

-- From some state on the image was brought to the release without a writer. The fault is `Write` if the superblock was written.
abbrev pub EndsUnheard : Release → RepairWorld → SurveyedDevices → TreeFault → Type 0
EndsUnheard r w t' fault = EndsMoving r w t' fault ⊎ EndsBehindUnheard r w t' fault

-- what was done after moves that ended early: nothing; or the writer failed, and the update went on without it
abbrev pub IsMovesEnd : Release → RepairWorld → SurveyedDevices → RepairFault → TreeFault → Type 0
IsMovesEnd r w t' cause fault = ((is_unprinted cause ≡ false) × ((fault ≡ ending_fault cause) × (t' ≡ devices_in w))) ⊎ ((is_unprinted cause ≡ true) × EndsUnheard r w t' fault)

-- the update went on without a writer, from these devices on
pub record UpdatesAgain (r : Release) (t t' : SurveyedDevices) (fault : TreeFault) : Type 0 where
  pub again : RepairWorld
  pub data_same : again.data_dev ≡ t.data_dev
  pub hash_same : again.hash_dev ≡ t.hash_dev
  pub ends : EndsUnheard r again t' fault

-- a device may not be written, no device was accessed, and the fault stays; or that was done
abbrev pub IsUpdatedAgain : Release → SurveyedDevices → SurveyedDevices → TreeFault → TreeFault → Type 0
IsUpdatedAgain r t t' cause fault = (((t.data_dev.may_write ≡ false) ⊎ (t.hash_dev.may_write ≡ false)) × ((fault ≡ cause) × (t' ≡ t))) ⊎ UpdatesAgain r t t' fault

-- ---- after the moves; `Hash` holds of the states that the hash device had between calls

-- the counts, by the counters at the end of the repair
abbrev pub counts_since : Release → Tally → Counters → Counts
counts_since r tally counters = counts_of (shape_of r.superblock) tally counters

-- All blocks were found or written valid, and synced. Then the superblock was written and synced, and the counts were printed.
pub record UpdatesMoved (Hash : Device → Type 0) (r : Release) (json : Bool) (tally : Tally) (w : RepairWorld) (t' : SurveyedDevices) (old new : Option (List ℕ)) : Type 0 where
  pub mended : SurveyedDevices
  pub left : Hash mended.hash_dev
  pub counters : Counters
  pub between : Option (List ℕ)
  pub repairs : RepairsAloud json (plan_of r) w mended old between counters
  pub finishes : Finishes r.superblock (counts_since r tally counters) json mended.hash_dev t'.hash_dev between new
  pub data_is : t'.data_dev ≡ mended.data_dev

-- all blocks were found or written valid, and the rest couldn't be done
pub record EndsRepaired (Hash : Device → Type 0) (r : Release) (json : Bool) (w : RepairWorld) (t' : SurveyedDevices) (old new : Option (List ℕ)) (failed : Bool) (fault : TreeFault) : Type 0 where
  pub mended : SurveyedDevices
  pub left : Hash mended.hash_dev
  pub counters : Counters
  pub between : Option (List ℕ)
  pub repairs : RepairsAloud json (plan_of r) w mended old between counters
  pub unfinished : IsUnfinished r.superblock json mended.hash_dev t'.hash_dev between new failed fault
  pub data_is : t'.data_dev ≡ mended.data_dev

-- The repair ended early, or not all blocks are valid, and the superblock wasn't written. If blocks are lost, the object of the counts
-- was printed, if it is wanted.
pub record EndsUnsound (r : Release) (json : Bool) (tally : Tally) (w : RepairWorld) (t' : SurveyedDevices) (old new : Option (List ℕ)) (failed : Bool) (fault : TreeFault) : Type 0 where
  pub counters : Counters
  pub between : Option (List ℕ)
  pub was : Bool
  pub cause : TreeFault
  pub ends : EndsAloud json (plan_of r) w t' old between was counters cause
  pub is : fault ≡ unsealed_fault cause
  pub counted : EndsWithCounts (counts_since r tally counters) json fault between new was failed

-- the repair ended early, the writer had failed, and the update went on without it, or a device may not be written
pub record EndsRepairedAgain (r : Release) (json : Bool) (w : RepairWorld) (t' : SurveyedDevices) (old new : Option (List ℕ)) (failed : Bool) (fault : TreeFault) : Type 0 where
  pub mended : SurveyedDevices
  pub counters : Counters
  pub cause : TreeFault
  pub cut : EndsAloud json (plan_of r) w mended old new failed counters cause
  pub told : failed ≡ true
  pub goes_on : IsUpdatedAgain r mended t' cause fault

abbrev pub EndsMoved : (Device → Type 0) → Release → Bool → Tally → RepairWorld → SurveyedDevices → Option (List ℕ) → Option (List ℕ) → Bool → TreeFault → Type 0
EndsMoved Hash r json tally w t' old new failed fault =
    EndsUnsound r json tally w t' old new failed fault ⊎ (EndsRepaired Hash r json w t' old new failed fault ⊎ EndsRepairedAgain r json w t' old new failed fault)

-- ---- after the superblock was cleared

-- what was counted of an update from some state on, when so many blocks were copied by lists
abbrev pub tally_from : RepairWorld → ℕ → Tally
tally_from w copied = record { before = counters_of w; copied = copied }

-- data blocks that moved were copied, and then the image was brought to the release
pub record UpdatesBegun (Hash : Device → Type 0) (r : Release) (json : Bool) (w : RepairWorld) (t' : SurveyedDevices) (old new : Option (List ℕ)) : Type 0 where
  pub moved : RepairWorld
  pub count : ℕ
  pub between : Option (List ℕ)
  pub moves : MovesListed json (plan_of r) w moved old between count
  pub updates : UpdatesMoved Hash r json (tally_from w count) moved t' between new

-- the moves were made, and what came after them ended early
pub record EndsBehindMoves (Hash : Device → Type 0) (r : Release) (json : Bool) (w : RepairWorld) (t' : SurveyedDevices) (old new : Option (List ℕ)) (failed : Bool) (fault : TreeFault) : Type 0 where
  pub moved : RepairWorld
  pub count : ℕ
  pub between : Option (List ℕ)
  pub moves : MovesListed json (plan_of r) w moved old between count
  pub ends : EndsMoved Hash r json (tally_from w count) moved t' between new failed fault

-- the moves ended early because the writer failed, and the update went on without it
pub record EndsCutMoves (r : Release) (json : Bool) (w : RepairWorld) (t' : SurveyedDevices) (failed : Bool) (fault : TreeFault) : Type 0 where
  pub between : RepairWorld
  pub cause : RepairFault
  pub cut : FailsToMove (plan_of r) w between cause
  pub unprinted : is_unprinted cause ≡ true
  pub told : json ≡ false → failed ≡ true
  pub ends : EndsUnheard r between t' fault

abbrev pub EndsBegun : (Device → Type 0) → Release → Bool → RepairWorld → SurveyedDevices → Option (List ℕ) → Option (List ℕ) → Bool → TreeFault → Type 0
EndsBegun Hash r json w t' old new failed fault = EndsMoving r w t' fault ⊎ (EndsBehindMoves Hash r json w t' old new failed fault ⊎ EndsCutMoves r json w t' failed fault)

-- ---- the update

-- the devices with a superblock that is cleared, after the hash devices of the copies were read
abbrev pub begun_world : RepairWorld → Device → List Device → RepairWorld
begun_world w cleared seen = record w { hash_dev = cleared; hash_copies = seen }

-- Blocks were listed, the release fits on the devices, and the superblock was cleared and synced before anything else. Then the image
-- was brought to the release, and the superblock written last.
pub record UpdatesDevices (Hash : Device → Type 0) (r : Release) (no_index json : Bool) (w : RepairWorld) (t' : SurveyedDevices) (old new : Option (List ℕ)) : Type 0 where
  pub looked : Device
  pub seen : List Device
  pub cleared : Device
  pub left : Hash looked × Hash cleared
  pub lists : ListsBlocks no_index w.hash_dev looked w.hash_copies seen
  pub begins : Begins r.superblock w.data_dev looked cleared
  pub updates : UpdatesBegun Hash r json (begun_world w cleared seen) t' old new

-- the release doesn't fit, or the superblock couldn't be cleared; nothing else was written, and nothing printed
pub record EndsUnbegun (Hash : Device → Type 0) (r : Release) (no_index : Bool) (w : RepairWorld) (t' : SurveyedDevices) (old new : Option (List ℕ)) (fault : TreeFault) : Type 0 where
  pub looked : Device
  pub seen : List Device
  pub left : Hash looked
  pub lists : ListsBlocks no_index w.hash_dev looked w.hash_copies seen
  pub unbegun : IsUnbegun r.superblock w.data_dev looked t'.hash_dev fault
  pub data_is : t'.data_dev ≡ w.data_dev
  pub quiet : new ≡ old

-- the superblock was cleared and synced, and then the update ended early
pub record EndsCleared (Hash : Device → Type 0) (r : Release) (no_index json : Bool) (w : RepairWorld) (t' : SurveyedDevices) (old new : Option (List ℕ)) (failed : Bool) (fault : TreeFault) : Type 0 where
  pub looked : Device
  pub seen : List Device
  pub cleared : Device
  pub left : Hash looked × Hash cleared
  pub lists : ListsBlocks no_index w.hash_dev looked w.hash_copies seen
  pub begins : Begins r.superblock w.data_dev looked cleared
  pub ends : EndsBegun Hash r json (begun_world w cleared seen) t' old new failed fault

abbrev pub EndsUpdate : (Device → Type 0) → Release → Bool → Bool → RepairWorld → SurveyedDevices → Option (List ℕ) → Option (List ℕ) → Bool → TreeFault → Type 0
EndsUpdate Hash r no_index json w t' old new failed fault = EndsUnbegun Hash r no_index w t' old new fault ⊎ EndsCleared Hash r no_index json w t' old new failed fault

-- ---- in terms of the devices that are returned, and a writer before and after

abbrev pub FinishesOf : {H W : Type 0} → (H → Device) → SuperRecord → Counts → Bool → H → H → (W → Option (List ℕ)) → CountedRecord W → CountedRecord W → Type 0
FinishesOf state s counts json h h' contents before behind = Finishes s counts json (state h) (state h') (contents before.inner) (contents behind.inner)

abbrev pub IsUnfinishedOf : {H W : Type 0} → (H → Device) → SuperRecord → Bool → H → H → (W → Option (List ℕ)) → CountedRecord W → CountedRecord W → TreeFault → Type 0
IsUnfinishedOf state s json h h' contents before behind = IsUnfinished s json (state h) (state h') (contents before.inner) (contents behind.inner) behind.failed

abbrev pub EndsMovedUnheardOf : {D H : Type 0} → (D → Device) → (H → Device) → RepairWorld → Release → D → H → TreeFault → Type 0
EndsMovedUnheardOf data_state hash_state w r d h fault = EndsMovedUnheard r w (surveyed_devices (data_state d) (hash_state h)) fault

abbrev pub EndsUnheardOf : {D H : Type 0} → (D → Device) → (H → Device) → RepairWorld → Release → D → H → TreeFault → Type 0
EndsUnheardOf data_state hash_state w r d h fault = EndsUnheard r w (surveyed_devices (data_state d) (hash_state h)) fault

abbrev pub IsMovesEndOf : {D H : Type 0} → (D → Device) → (H → Device) → RepairWorld → Release → RepairFault → D → H → TreeFault → Type 0
IsMovesEndOf data_state hash_state w r cause d h fault = IsMovesEnd r w (surveyed_devices (data_state d) (hash_state h)) cause fault

abbrev pub IsUpdatedAgainOf : {D H : Type 0} → (D → Device) → (H → Device) → D → H → Release → TreeFault → D → H → TreeFault → Type 0
IsUpdatedAgainOf data_state hash_state d h r cause d' h' fault =
    IsUpdatedAgain r (surveyed_devices (data_state d) (hash_state h)) (surveyed_devices (data_state d') (hash_state h')) cause fault

abbrev pub AreMovedUpdated : {D H W : Type 0} → (D → Device) → (H → Device) → RepairWorld → Tally → Release → Bool → D → H → (W → Option (List ℕ)) → CountedRecord W → CountedRecord W → Type 0
AreMovedUpdated data_state hash_state w tally r json d h contents before behind =
    UpdatesMoved (IsStateOf hash_state) r json tally w (surveyed_devices (data_state d) (hash_state h)) (contents before.inner) (contents behind.inner)

abbrev pub AreMovedUnupdated : {D H W : Type 0} → (D → Device) → (H → Device) → RepairWorld → Tally → Release → Bool → D → H → (W → Option (List ℕ)) → CountedRecord W → CountedRecord W → TreeFault → Type 0
AreMovedUnupdated data_state hash_state w tally r json d h contents before behind =
    EndsMoved (IsStateOf hash_state) r json tally w (surveyed_devices (data_state d) (hash_state h)) (contents before.inner) (contents behind.inner) behind.failed

abbrev pub AreBegunUpdated : {D H C W : Type 0} → (D → Device) → (H → Device) → (C → Device) → Target D H C → Release → Bool → D → H → (W → Option (List ℕ)) → CountedRecord W → CountedRecord W → Type 0
AreBegunUpdated data_state hash_state copy_state t r json d h contents before behind =
    UpdatesBegun (IsStateOf hash_state) r json (target_world data_state hash_state copy_state t) (surveyed_devices (data_state d) (hash_state h)) (contents before.inner) (contents behind.inner)

abbrev pub AreBegunUnupdated : {D H C W : Type 0} → (D → Device) → (H → Device) → (C → Device) → Target D H C → Release → Bool → D → H → (W → Option (List ℕ)) → CountedRecord W → CountedRecord W → TreeFault → Type 0
AreBegunUnupdated data_state hash_state copy_state t r json d h contents before behind =
    EndsBegun (IsStateOf hash_state) r json (target_world data_state hash_state copy_state t) (surveyed_devices (data_state d) (hash_state h)) (contents before.inner) (contents behind.inner) behind.failed

abbrev pub AreUpdated : {D H C W : Type 0} → (D → Device) → (H → Device) → (C → Device) → Target D H C → Release → Bool → Bool → D → H → (W → Option (List ℕ)) → CountedRecord W → CountedRecord W → Type 0
AreUpdated data_state hash_state copy_state t r no_index json d h contents before behind =
    UpdatesDevices (IsStateOf hash_state) r no_index json (target_world data_state hash_state copy_state t) (surveyed_devices (data_state d) (hash_state h)) (contents before.inner) (contents behind.inner)

abbrev pub AreUnupdated : {D H C W : Type 0} → (D → Device) → (H → Device) → (C → Device) → Target D H C → Release → Bool → Bool → D → H → (W → Option (List ℕ)) → CountedRecord W → CountedRecord W → TreeFault → Type 0
AreUnupdated data_state hash_state copy_state t r no_index json d h contents before behind =
    EndsUpdate (IsStateOf hash_state) r no_index json (target_world data_state hash_state copy_state t) (surveyed_devices (data_state d) (hash_state h)) (contents before.inner) (contents behind.inner) behind.failed
