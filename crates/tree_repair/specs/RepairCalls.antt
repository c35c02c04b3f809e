-- Which calls a repair makes on a device, whether it is steady or not: reads, and writes of valid blocks.
use Rattle.std.specs.Prelude.{◌≡◌, ℕ, zero, suc, ◌+◌, ◌*◌, ◌/◌, Bool, true, false, List, [], ◌∷◌, Result, Ok, Err, length}
use Rattle.block_device.specs.Call.{Call, Calls, Read, Sync, Write}
use Rattle.tree_shape.specs.Digests.{digest}
use Rattle.verity_format.specs.declared.verifying.VerifyFault.TheVariants.{Device as DeviceFailed}
use Rattle.tree_path.specs.Path.{PathRecord, digest_on}
use Rattle.tree_repair.specs.declared.fault.RepairFault.{RepairFault}
use Rattle.tree_repair.specs.declared.fault.RepairFault.TheVariants.{Image, Write as WriteFailed}
use Rattle.tree_repair.specs.Runs.{Job, sector_at, size_at}
use Rattle.tree_repair.specs.Sources.{Wanted, wanted}
use Rattle.tree_repair.specs.Visits.{hash_sector}
use Rattle.tree_repair.specs.Worlds.{ImageRecord}

-- one call was made: a read of sectors into a buffer
abbrev pub IsReadOnce : {B : Type 0} → (B → Call → B → Type 0) → ℕ → List ℕ → B → B → Type 0
IsReadOnce does first bytes old new = (ok : Bool) × Calls does old (Read first bytes ok ∷ []) new

-- a write of one whole block at its first sector, with the expected digest
pub record IsBlockWrite (block_first : ℕ) (w : Wanted) (first : ℕ) (bytes : List ℕ) : Type 0 where
  pub here : first ≡ block_first
  pub whole : length bytes ≡ 512 * w.sectors
  pub good : digest w.salt bytes ≡ w.digest_is

-- Reads, and writes that are allowed. No call follows a failed write; `done` is whether no write failed.
abbrev pub AreRepairCalls : (ℕ → List ℕ → Type 0) → Bool → List Call → Type 0
AreRepairCalls Allowed done [] = done ≡ true
AreRepairCalls Allowed done (Read first bytes ok ∷ more) = AreRepairCalls Allowed done more
AreRepairCalls Allowed done (Write first bytes true ∷ more) = Allowed first bytes × AreRepairCalls Allowed done more
AreRepairCalls Allowed done (Write first bytes false ∷ more) = Allowed first bytes × ((more ≡ []) × (done ≡ false))
AreRepairCalls Allowed done (Sync ok ∷ more) = ⊥

-- such calls lead from one state of a device to another
pub record MakesRepairCalls {B : Type 0} (does : B → Call → B → Type 0) (Allowed : ℕ → List ℕ → Type 0) (done : Bool) (old new : B) : Type 0 where
  pub calls : List Call
  pub made : Calls does old calls new
  pub valid : AreRepairCalls Allowed done calls

-- ---- an image

-- a write of a block of the tree at its offset, with the digest that a path has for it
abbrev pub IsPlaceWrite : Job → PathRecord → ℕ → ℕ → ℕ → List ℕ → Type 0
IsPlaceWrite j p h i = IsBlockWrite (sector_at j.tree.shape h i) (wanted j.tree.salt (digest_on p i h) (size_at j.tree.shape h / 512))

-- calls of the data device alone
abbrev pub HandsToData : {D H : Type 0} → (D → Call → D → Type 0) → (ℕ → List ℕ → Type 0) → Bool → ImageRecord D H → ImageRecord D H → Type 0
HandsToData asks Allowed done i i' = MakesRepairCalls asks Allowed done i.data_dev i'.data_dev × (i'.hash_dev ≡ i.hash_dev)

-- calls of the hash device alone
abbrev pub HandsToHash : {D H : Type 0} → (H → Call → H → Type 0) → (ℕ → List ℕ → Type 0) → Bool → ImageRecord D H → ImageRecord D H → Type 0
HandsToHash does Allowed done i i' = MakesRepairCalls does Allowed done i.hash_dev i'.hash_dev × (i'.data_dev ≡ i.data_dev)

-- calls of the device of a block's height alone
abbrev pub HandsTo : {D H : Type 0} → (D → Call → D → Type 0) → (H → Call → H → Type 0) → ℕ → (ℕ → List ℕ → Type 0) → Bool → ImageRecord D H → ImageRecord D H → Type 0
HandsTo asks does zero Allowed done i i' = HandsToData asks Allowed done i i'
HandsTo asks does (suc l) Allowed done i i' = HandsToHash does Allowed done i i'

-- these calls of the hash device, and no others
abbrev pub CallsHash : {D H : Type 0} → (H → Call → H → Type 0) → List Call → ImageRecord D H → ImageRecord D H → Type 0
CallsHash does calls i i' = Calls does i.hash_dev calls i'.hash_dev × (i'.data_dev ≡ i.data_dev)

-- no write is allowed
abbrev pub IsNoWrite : ℕ → List ℕ → Type 0
IsNoWrite first bytes = ⊥

-- the device of a block's height alone was called, and only read
abbrev pub ReadsAt : {D H : Type 0} → (D → Call → D → Type 0) → (H → Call → H → Type 0) → ℕ → ImageRecord D H → ImageRecord D H → Type 0
ReadsAt asks does h i i' = HandsTo asks does h IsNoWrite true i i'

-- both devices were only read
abbrev pub ReadsBoth : {D H : Type 0} → (D → Call → D → Type 0) → (H → Call → H → Type 0) → ImageRecord D H → ImageRecord D H → Type 0
ReadsBoth asks does i i' = MakesRepairCalls asks IsNoWrite true i.data_dev i'.data_dev × MakesRepairCalls does IsNoWrite true i.hash_dev i'.hash_dev

-- a write of a hash block of level l
abbrev pub IsHashWrite : Job → PathRecord → ℕ → ℕ → ℕ → List ℕ → Type 0
IsHashWrite j p l i = IsBlockWrite (hash_sector j.tree.shape l i) (wanted j.tree.salt (digest_on p i (l + 1)) (j.tree.shape.hash_block / 512))

-- the calls of a visit to a hash block: the data device was only read
abbrev pub VisitsHash : {D H : Type 0} → (D → Call → D → Type 0) → (H → Call → H → Type 0) → (ℕ → List ℕ → Type 0) → Bool → ImageRecord D H → ImageRecord D H → Type 0
VisitsHash asks does Allowed done i i' = MakesRepairCalls does Allowed done i.hash_dev i'.hash_dev × MakesRepairCalls asks IsNoWrite true i.data_dev i'.data_dev

-- the calls of a visit to the block above data block i: writes of its valid bytes at its offset, and reads
abbrev pub VisitCalls : {D H : Type 0} → (D → Call → D → Type 0) → (H → Call → H → Type 0) → Job → PathRecord → ℕ → ℕ → Bool → ImageRecord D H → ImageRecord D H → Type 0
VisitCalls asks does j p zero i done a b = HandsToData asks (IsPlaceWrite j p zero i) done a b
VisitCalls asks does j p (suc l) i done a b = VisitsHash asks does (IsHashWrite j p l i) done a b

-- only a failed write of a device ends a repair with its fault
abbrev pub wrote_before : RepairFault → Bool
wrote_before (Image DeviceFailed) = false
wrote_before (Image fault) = true
wrote_before WriteFailed = true

-- no write failed up to the result
abbrev pub wrote_all : {T : Type 0} → Result T RepairFault → Bool
wrote_all (Ok x) = true
wrote_all (Err fault) = wrote_before fault
