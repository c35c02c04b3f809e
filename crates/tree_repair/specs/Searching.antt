-- What functions that restore blocks by parity state of their arguments: the image and the parity before and after; `state`
-- gives the parity device.
use Rattle.std.specs.Prelude.{ℕ, Bool, false, IfOk, List, OnErr, OnOk, Option, Result}
use Rattle.block_device.specs.Call.{Call}
use Rattle.block_device.specs.Device.{Device}
use Rattle.program_io.specs.Counted.{CountedRecord}
use Rattle.fec_area.specs.declared.layout.Layout.{Layout}
use Rattle.tree_survey.specs.Surveys.{IsWay}
use Rattle.tree_repair.specs.declared.bad.BadBlock.{BadBlock}
use Rattle.tree_repair.specs.declared.fault.RepairFault.{RepairFault}
use Rattle.tree_repair.specs.declared.parity.ParityOutcome.{ParityOutcome}
use Rattle.tree_repair.specs.declared.losses.Losses.{Losses}
use Rattle.tree_repair.specs.declared.place.Place.{Place}
use Rattle.tree_repair.specs.declared.place.Repair.{Repair}
use Rattle.tree_repair.specs.declared.putting.Missing.{Missing}
use Rattle.tree_repair.specs.Jobs.{AreGoodAt, job}
use Rattle.tree_repair.specs.Mending.{IsBlockReplaced}
use Rattle.tree_repair.specs.Parity.{FailsToPlace, IsNotBack, IsPlace, IsPlaced, IsPlacedAndRead, IsPutOr}
use Rattle.tree_repair.specs.ParityBounds.{IsAskedWithin, IsMadeWithin, ParityBill, RunsInAll, RunsInOne, TellsBack, parity_bill, sought_among, tries_of}
use Rattle.tree_repair.specs.Passes.{EndsInPass, IsPass}
use Rattle.tree_repair.specs.RepairCalls.{HandsTo, IsPlaceWrite}
use Rattle.tree_repair.specs.Runs.{size_at}
use Rattle.tree_repair.specs.Sources.{due}
use Rattle.tree_repair.specs.ParitySearches.{HasSought, IsFoundOrVain, IsMadeOrVain, IsSought, IsTried, Trial, trial}
use Rattle.tree_repair.specs.Worlds.{ImageRecord, RepairWorld}

-- ---- how often devices are accessed

-- the devices were accessed at most this often
abbrev pub AsksWithin : {P : Type 0} → (P → Device) → ParityBill → RepairWorld → RepairWorld → P → P → Type 0
AsksWithin state b w w' old new = IsAskedWithin b w w' (state old) (state new)

-- at most as often as one block that was found nowhere takes
abbrev pub TriesWithin : {P : Type 0} → (P → Device) → Repair → Losses → BadBlock → RepairWorld → RepairWorld → P → P → Type 0
TriesWithin state r l bad w w' old new = IsAskedWithin (parity_bill r.shape l.layout 0 0 (tries_of bad.found)) w w' (state old) (state new)

-- at most as often as those of the blocks take that were found nowhere
abbrev pub SeeksWithin : {P : Type 0} → (P → Device) → Repair → Layout → List BadBlock → RepairWorld → RepairWorld → P → P → Type 0
SeeksWithin state r l blocks w w' old new = IsAskedWithin (parity_bill r.shape l 0 0 (sought_among blocks)) w w' (state old) (state new)

-- at most this often, to restore a block; a restored block has the size of the covered blocks
abbrev pub MakesWithin : {P E : Type 0} → (P → Device) → ParityBill → Missing → Losses → RepairWorld → RepairWorld → P → P → Result Bool E → Type 0
MakesWithin state b m l w w' old new result = IsMadeWithin b m.repair.now.shape l.layout m.place.height w w' (state old) (state new) result

-- ---- blocks

-- if a covered block isn't restored, this has a cause
abbrev pub LacksBlock : {P : Type 0} → (P → Device) → Losses → ℕ → RepairWorld → RepairWorld → P → P → Bool → Type 0
LacksBlock state l index w w' old new back = IsNotBack l index w w' (state old) (state new) back

-- the attempt to restore a block, by the arguments before and after
abbrev pub trial_by : {P : Type 0} → (P → Device) → Losses → RepairWorld → RepairWorld → P → P → Trial
trial_by state l w w' old new = trial l.layout l.lost.items w w' (state old) (state new)

-- a corrupt block is sought by parity if it was found nowhere
abbrev pub SeeksBlock : {P E : Type 0} → (P → Device) → Repair → Losses → BadBlock → RepairWorld → RepairWorld → P → P → Result Bool E → Type 0
SeeksBlock state r l bad w w' old new result = IfOk result (IsSought (job r) bad (trial_by state l w w' old new))

-- each of some corrupt blocks is sought, with all of them counted as lost
abbrev pub SeeksEach : {P E : Type 0} → (P → Device) → Repair → Layout → List BadBlock → RepairWorld → RepairWorld → P → P → Result ParityOutcome E → Type 0
SeeksEach state r l blocks w w' old new result = IfOk result (λ came. HasSought (job r) l blocks w w' (state old) (state new) came.tree)

-- the function returns whether the block was restored
abbrev pub TellsPlace : {W : Type 0} → (W → Option (List ℕ)) → Repair → Place → RepairWorld → RepairWorld → CountedRecord W → CountedRecord W → Result Bool RepairFault → Type 0
TellsPlace contents r place w w' old new result = TellsBack contents (job r) place.height w w' old new result

-- ---- a lost block to which verified hash blocks lead

-- the tree has the block
abbrev pub IsInTree : Missing → Type 0
IsInTree m = IsPlace m.repair.now.shape m.place.height m.place.index

-- the path leads to the block
abbrev pub IsReached : Missing → Type 0
IsReached m = IsWay (job m.repair.now).tree m.place.index m.place.height m.path.now

-- the block's size in bytes
abbrev pub missing_size : Missing → ℕ
missing_size m = size_at m.repair.now.shape m.place.height

-- these are the block's bytes, by their digest
abbrev pub AreGoodFor : Missing → List ℕ → Type 0
AreGoodFor m bytes = AreGoodAt m.repair.now m.path.now m.place bytes

-- the block is restored, or parity doesn't have it
abbrev pub MakesMissing : {P E : Type 0} → (P → Device) → Missing → Losses → RepairWorld → RepairWorld → P → P → Result Bool E → Type 0
MakesMissing state m l w w' old new result = IfOk result (IsMadeOrVain (job m.repair.now) m.path.now m.place.height m.place.index (trial_by state l w w' old new))

-- the block is restored from the blocks that aren't lost, or corrected, or parity doesn't have it
abbrev pub MakesBytes : {P E : Type 0} → (P → Device) → Missing → Losses → RepairWorld → RepairWorld → P → P → Result Bool E → Type 0
MakesBytes state m l w w' old new result = IfOk result (IsFoundOrVain (job m.repair.now) m.path.now m.place.height m.place.index (trial_by state l w w' old new))

-- the block's bytes are written if it is corrupt
abbrev pub IsMissingPut : Missing → List ℕ → RepairWorld → RepairWorld → Bool → Type 0
IsMissingPut m bytes w w' put = IsPlaced (job m.repair.now) m.place.height m.place.index bytes w w' put

-- the block's bytes are written and read back
abbrev pub IsMissingRead : Missing → List ℕ → RepairWorld → RepairWorld → Bool → Type 0
IsMissingRead m bytes w w' put = IsPlacedAndRead (job m.repair.now) m.place.height m.place.index bytes w w' put

-- the block's bytes can't be written
abbrev pub FailsToPutMissing : Missing → List ℕ → RepairWorld → RepairWorld → Type 0
FailsToPutMissing m bytes w w' = FailsToPlace (job m.repair.now) m.place.height m.place.index bytes w w'

-- the calls for the block: its device was read, and at most one write of its valid bytes was made there
abbrev pub HandsMissing : {D H : Type 0} → (D → Call → D → Type 0) → (H → Call → H → Type 0) → Missing → Bool → ImageRecord D H → ImageRecord D H → Type 0
HandsMissing asks does m done i i' = HandsTo asks does m.place.height (IsPlaceWrite (job m.repair.now) m.path.now m.place.height m.place.index) done i i'

-- the block is sought by parity
abbrev pub TriesMissing : {P E : Type 0} → (P → Device) → Missing → Losses → RepairWorld → RepairWorld → P → P → Result Bool E → Type 0
TriesMissing state m l w w' old new result = IfOk result (IsTried (job m.repair.now) m.place.height m.place.index (trial_by state l w w' old new))

-- the function returns whether the block was restored
abbrev pub TellsMissing : {W : Type 0} → (W → Option (List ℕ)) → Missing → RepairWorld → RepairWorld → CountedRecord W → CountedRecord W → Result Bool RepairFault → Type 0
TellsMissing contents m w w' old new result = TellsPlace contents m.repair.now m.place w w' old new result

-- ---- writing a block that is corrupt

-- these bytes are written if the block doesn't have that digest
abbrev pub PutsWhereBad : {B E : Type 0} → (B → Device) → B → B → ℕ → Repair → List ℕ → List ℕ → Result Bool E → Type 0
PutsWhereBad state old new first r digest_is bytes result = IfOk result (IsPutOr (state old) first (due r.salt digest_is bytes) r.write bytes (state new))

-- the block is corrupt, and the bytes can't be written
abbrev pub FailsToReplace : {B T E : Type 0} → (B → Device) → B → B → ℕ → Repair → List ℕ → List ℕ → Result T E → Type 0
FailsToReplace state old new first r digest_is bytes result = OnErr result (IsBlockReplaced (state old) first (due r.salt digest_is bytes) r.write bytes false (state new))

-- ---- passes

-- one pass is made, and the function returns whether a further one is due
abbrev pub MakesPass : {P E : Type 0} → (P → Device) → Repair → Layout → RepairWorld → RepairWorld → P → P → Result ParityOutcome E → Type 0
MakesPass state r l w w' old new result = IfOk result (λ came. IsPass (job r) l w w' (state old) (state new) came.tree)

-- as many passes are made as are due
abbrev pub EndsPasses : {P T E : Type 0} → (P → Device) → Repair → Layout → RepairWorld → RepairWorld → P → P → Result T E → Type 0
EndsPasses state r l w w' old new result = OnOk result (EndsInPass (job r) l w w' (state old) (state new))

-- one pass is made, to the end or not, and the devices are accessed at most as often as it takes
abbrev pub RunsPass : {W P : Type 0} → (W → Option (List ℕ)) → (P → Device) → Repair → Layout → RepairWorld → RepairWorld → P → P → CountedRecord W → CountedRecord W → Result ParityOutcome RepairFault → Type 0
RunsPass contents state r l w w' p p' old new result = RunsInOne contents (job r) l w w' (state p) (state p') old new result

-- as many passes are made as are due, and the devices are accessed at most as often as these take
abbrev pub RunsPasses : {W P T : Type 0} → (W → Option (List ℕ)) → (P → Device) → Repair → Layout → RepairWorld → RepairWorld → P → P → CountedRecord W → CountedRecord W → Result T RepairFault → Type 0
RunsPasses contents state r l w w' p p' old new result = RunsInAll contents (job r) l w w' (state p) (state p') old new result
