-- A repair of two devices, with the sync after it.
use Rattle.std.specs.Prelude.{◌≡◌, ◌≤◌, ◌⊎◌, ℕ, Bool, true, false, IsTrue, List, Option, None, Some, Result, Ok, Err, is_some}
use Rattle.block_device.specs.Device.{Device, HasFailed, IsUnsynced}
use Rattle.program_io.specs.Counted.{CountedRecord}
use Rattle.fec_area.specs.declared.layout.Layout.{Layout}
use Rattle.tree_repair.specs.declared.fault.RepairFault.{RepairFault}
use Rattle.tree_repair.specs.declared.fault.RepairFault.TheVariants.{Image, Write}
use Rattle.tree_repair.specs.declared.outcome.Outcome.{Outcome}
use Rattle.tree_repair.specs.declared.repair.Plan.{Plan}
use Rattle.tree_repair.specs.Bounds.{RepairsInOnePass}
use Rattle.tree_repair.specs.Outcomes.{IsOutcomeOf, IsParityOutcome}
use Rattle.tree_repair.specs.ParityBounds.{RepairsInPasses}
use Rattle.tree_repair.specs.Repairs.{IsUnrepairedBy, LooksAtAll, Repairs, SeeksByParity}
use Rattle.tree_repair.specs.Worlds.{RepairWorld}
use Rattle.verity_format.specs.Blocks.{IsOnlyRead}
use Rattle.verity_format.specs.declared.verifying.VerifyFault.{VerifyFault}
use Rattle.verity_format.specs.declared.verifying.VerifyFault.TheVariants.{Device as DeviceFailed}

-- a device stores the same as before, and is as large, as writable and as steady
pub record KeepsImage (old new : Device) : Type 0 where
  pub image : new.image ≡ old.image
  pub size : new.size ≡ old.size
  pub may_write : new.may_write ≡ old.may_write
  pub steady : new.steady ≡ old.steady

-- both devices store the same as before, their failure counters didn't decrease, and the copies are unchanged
pub record KeepsBothImages (w w' : RepairWorld) : Type 0 where
  pub data_image : KeepsImage w.data_dev w'.data_dev
  pub hash_image : KeepsImage w.hash_dev w'.hash_dev
  pub data_more : w.data_dev.failures ≤ w'.data_dev.failures
  pub hash_more : w.hash_dev.failures ≤ w'.hash_dev.failures
  pub data_copies_are : w'.data_copies ≡ w.data_copies
  pub hash_copies_are : w'.hash_copies ≡ w.hash_copies

-- if the repair may write, all is synced
pub record IsOnMedium (write : Bool) (data_dev hash_dev : Device) : Type 0 where
  pub data_clean : IsTrue write → data_dev.dirty ≡ false
  pub hash_clean : IsTrue write → hash_dev.dirty ≡ false

-- the image was repaired, with parity or without, and what was written is synced
pub record MendsWhole (plan : Plan) (parity : Bool) (w w' : RepairWorld) (old new : Option (List ℕ)) : Type 0 where
  pub mid : RepairWorld
  pub repair : Repairs plan parity w mid old new None
  pub kept : KeepsBothImages mid w'
  pub on_medium : IsOnMedium plan.write w'.data_dev w'.hash_dev

-- The image was repaired in one pass, from copies and from the blocks below hash blocks. Each block was visited, and this is
-- known of the image.
pub record MendsInOnePass (plan : Plan) (w w' : RepairWorld) (old new : Option (List ℕ)) (outcome : Outcome) : Type 0 where
  pub mends : MendsWhole plan false w w' old new
  pub all : LooksAtAll plan w mends.mid old new
  pub within : RepairsInOnePass plan w mends.mid old new None
  pub whole : IsOutcomeOf plan w mends.mid outcome

-- the image was repaired with parity, in passes; in each pass the blocks that were found nowhere were sought by parity; this is
-- known of the image
pub record MendsInPasses (plan : Plan) (l : Layout) (p p' : Device) (w w' : RepairWorld) (old new : Option (List ℕ)) (outcome : Outcome) : Type 0 where
  pub mends : MendsWhole plan true w w' old new
  pub within : RepairsInPasses plan l w mends.mid p p' old new None
  pub sought : SeeksByParity plan l w mends.mid p p'
  pub whole : IsParityOutcome plan w mends.mid outcome

-- nothing written to the device is unsynced, or its own sync failed
abbrev pub IsSyncTried : Device → Device → Type 0
IsSyncTried old new = (new.dirty ≡ false) ⊎ IsUnsynced old new

-- what was written isn't all synced, because a device failed in a sync; the other one was synced nevertheless, if it could be
pub record HasFailedInSync (write : Bool) (data_dev hash_dev data_dev' hash_dev' : Device) : Type 0 where
  pub may_write : IsTrue write
  pub failed : HasFailed data_dev data_dev' ⊎ HasFailed hash_dev hash_dev'
  pub data_tried : IsSyncTried data_dev data_dev'
  pub hash_tried : IsSyncTried hash_dev hash_dev'

abbrev pub IsUnsyncedCause : Bool → RepairWorld → RepairWorld → RepairFault → Type 0
IsUnsyncedCause write w w' fault = (fault ≡ Image DeviceFailed) × HasFailedInSync write w.data_dev w.hash_dev w'.data_dev w'.hash_dev

-- what is reported of a repair and the sync after it: first a fault that ended the repair, then a failed sync, then a failed
-- writer, which doesn't end the repair
abbrev pub end_of : Result Outcome RepairFault → Result (Unit {0}) RepairFault → Result Outcome RepairFault
end_of ended (Ok done) = ended
end_of (Ok outcome) (Err fault) = Err fault
end_of (Err Write) (Err fault) = Err fault
end_of (Err (Image cause)) (Err fault) = Err (Image cause)

-- a device failed in the sync, and this is reported unless another fault ended the repair
abbrev pub IsUnsyncedEnd : Bool → RepairWorld → RepairWorld → Option RepairFault → RepairFault → Type 0
IsUnsyncedEnd write w w' None fault = IsUnsyncedCause write w w' fault
IsUnsyncedEnd write w w' (Some Write) fault = IsUnsyncedCause write w w' fault
IsUnsyncedEnd write w w' (Some (Image cause)) fault = (fault ≡ Image cause) × HasFailedInSync write w.data_dev w.hash_dev w'.data_dev w'.hash_dev

-- ---- a run that ends early

-- the layout of the parity, and the states of its device before and after a run
pub record ParityUse : Type 0 where
  pub layout : Layout
  pub before : Device
  pub after : Device

abbrev pub parity_use : {P : Type 0} → (P → Device) → Layout → P → P → Option ParityUse
parity_use state l old new = Some (record { layout = l; before = state old; after = state new })

-- the rest of a use of parity, of which the part before only read the device
abbrev pub IsRestOfUse : Option ParityUse → Option ParityUse → Type 0
IsRestOfUse None None = Unit {0}
IsRestOfUse None (Some rest) = ⊥
IsRestOfUse (Some whole) None = ⊥
IsRestOfUse (Some whole) (Some rest) = IsOnlyRead whole.before rest.before × ((rest.layout ≡ whole.layout) × (rest.after ≡ whole.after))

-- the blocks were visited to the end, in passes, and those that were found nowhere were sought by the parity
pub record SeeksToEnd (plan : Plan) (parity : ParityUse) (w w' : RepairWorld) (old new : Option (List ℕ)) : Type 0 where
  pub repairs : Repairs plan true w w' old new None
  pub sought : SeeksByParity plan parity.layout w w' parity.before parity.after

-- a run to its end, by parity if there is some
abbrev pub IsRunToEnd : Plan → Option ParityUse → RepairWorld → RepairWorld → Option (List ℕ) → Option (List ℕ) → Type 0
IsRunToEnd plan None w w' old new = LooksAtAll plan w w' old new
IsRunToEnd plan (Some parity) w w' old new = SeeksToEnd plan parity w w' old new

-- a run to its end, or up to a fault
abbrev pub IsRunTo : Plan → Option ParityUse → RepairWorld → RepairWorld → Option (List ℕ) → Option (List ℕ) → Option RepairFault → Type 0
IsRunTo plan parity w w' old new None = IsRunToEnd plan parity w w' old new
IsRunTo plan parity w w' old new (Some fault) = IsUnrepairedBy plan (is_some parity) w w' old new fault

-- the image was repaired without a writer; the fault `Write` means that this completed
abbrev pub unheard_end : Option RepairFault → RepairFault
unheard_end None = Write
unheard_end (Some fault) = fault

pub record IsUnheard (plan : Plan) (parity : Option ParityUse) (w w' : RepairWorld) (fault : RepairFault) : Type 0 where
  pub ended : Option RepairFault
  pub run : IsRunTo plan parity w w' None None ended
  pub is : fault ≡ unheard_end ended

-- what ended a repair; after a failed writer the image was repaired again without a writer
abbrev pub IsEndBehind : Plan → Option ParityUse → RepairFault → RepairWorld → RepairWorld → RepairFault → Type 0
IsEndBehind plan parity (Image cause) w w' fault = (fault ≡ Image cause) × (w' ≡ w)
IsEndBehind plan parity Write w w' fault = IsUnheard plan parity w w' fault

-- the writer failed, which it records, and the image was repaired again without a writer
pub record GoesOnUnheard (plan : Plan) (parity : Option ParityUse) (w w' : RepairWorld) (old new : Option (List ℕ)) (failed : Bool) (fault : RepairFault) : Type 0 where
  pub told : failed ≡ true
  pub between : RepairWorld
  pub rest : Option ParityUse
  pub cut : IsUnrepairedBy plan (is_some parity) w between old new Write
  pub is_rest : IsRestOfUse parity rest
  pub unheard : IsUnheard plan rest between w' fault

-- The fault `Write` therefore means that the image was repaired to its end nevertheless.
abbrev pub IsCutBy : Plan → Option ParityUse → RepairWorld → RepairWorld → Option (List ℕ) → Option (List ℕ) → Bool → RepairFault → Type 0
IsCutBy plan parity w w' old new failed fault =
    ((cause : VerifyFault) × ((fault ≡ Image cause) × IsUnrepairedBy plan (is_some parity) w w' old new (Image cause))) ⊎ GoesOnUnheard plan parity w w' old new failed fault

-- a run to its end, or up to a fault, with the writer or after its failure
abbrev pub IsWholeOrCut : Plan → Option ParityUse → RepairWorld → RepairWorld → Option (List ℕ) → Option (List ℕ) → Bool → Option RepairFault → Type 0
IsWholeOrCut plan parity w w' old new failed None = IsRunToEnd plan parity w w' old new
IsWholeOrCut plan parity w w' old new failed (Some fault) = IsCutBy plan parity w w' old new failed fault

-- The repair ended in that fault, and both devices were synced; or a device failed in the sync, and each one was synced or its
-- own sync failed. Only verified blocks were written.
pub record HalfMends (plan : Plan) (parity : Option ParityUse) (w w' : RepairWorld) (old new : Option (List ℕ)) (failed : Bool) (fault : RepairFault) : Type 0 where
  pub mid : RepairWorld
  pub ended : Option RepairFault
  pub run : IsWholeOrCut plan parity w mid old new failed ended
  pub kept : KeepsBothImages mid w'
  pub synced : ((ended ≡ Some fault) × IsOnMedium plan.write w'.data_dev w'.hash_dev) ⊎ IsUnsyncedEnd plan.write mid w' ended fault

-- ---- in terms of a writer before and after

abbrev pub IsMendedInOnePass : {W : Type 0} → (W → Option (List ℕ)) → Plan → RepairWorld → RepairWorld → CountedRecord W → CountedRecord W → Outcome → Type 0
IsMendedInOnePass contents plan w w' old new outcome = MendsInOnePass plan w w' (contents old.inner) (contents new.inner) outcome

abbrev pub IsMendedInPasses : {P W : Type 0} → (P → Device) → (W → Option (List ℕ)) → Plan → Layout → P → P → RepairWorld → RepairWorld → CountedRecord W → CountedRecord W → Outcome → Type 0
IsMendedInPasses state contents plan l p p' w w' old new outcome = MendsInPasses plan l (state p) (state p') w w' (contents old.inner) (contents new.inner) outcome

abbrev pub IsMendingCut : {W : Type 0} → (W → Option (List ℕ)) → Plan → Option ParityUse → RepairWorld → RepairWorld → CountedRecord W → CountedRecord W → RepairFault → Type 0
IsMendingCut contents plan parity w w' old new fault = HalfMends plan parity w w' (contents old.inner) (contents new.inner) new.failed fault

abbrev pub IsRunCut : {W : Type 0} → (W → Option (List ℕ)) → Plan → Option ParityUse → RepairWorld → RepairWorld → CountedRecord W → CountedRecord W → RepairFault → Type 0
IsRunCut contents plan parity w w' old new fault = IsCutBy plan parity w w' (contents old.inner) (contents new.inner) new.failed fault

-- each block was visited, in one pass, and this is known of the image
pub record RunsInOnePass (plan : Plan) (w w' : RepairWorld) (old new : Option (List ℕ)) (outcome : Outcome) : Type 0 where
  pub repair : Repairs plan false w w' old new None
  pub all : LooksAtAll plan w w' old new
  pub within : RepairsInOnePass plan w w' old new None
  pub whole : IsOutcomeOf plan w w' outcome

abbrev pub IsRunWhole : {W : Type 0} → (W → Option (List ℕ)) → Plan → RepairWorld → RepairWorld → CountedRecord W → CountedRecord W → Outcome → Type 0
IsRunWhole contents plan w w' old new outcome = RunsInOnePass plan w w' (contents old.inner) (contents new.inner) outcome

-- with parity, in passes; in each pass the blocks that were found nowhere were sought by parity
pub record RunsInPasses (plan : Plan) (l : Layout) (p p' : Device) (w w' : RepairWorld) (old new : Option (List ℕ)) (outcome : Outcome) : Type 0 where
  pub repair : Repairs plan true w w' old new None
  pub within : RepairsInPasses plan l w w' p p' old new None
  pub sought : SeeksByParity plan l w w' p p'
  pub whole : IsParityOutcome plan w w' outcome

abbrev pub IsRunByParity : {P W : Type 0} → (P → Device) → (W → Option (List ℕ)) → Plan → Layout → P → P → RepairWorld → RepairWorld → CountedRecord W → CountedRecord W → Outcome → Type 0
IsRunByParity state contents plan l p p' w w' old new outcome = RunsInPasses plan l (state p) (state p') w w' (contents old.inner) (contents new.inner) outcome
