-- A run over the blocks of an image, with the result for each block.
use Rattle.std.specs.Prelude.{◌≡◌, ℕ, zero, suc, ◌+◌, ◌*◌, ◌/◌, ◌^◌, ◌<◌, ◌≤◌, Bool, true, false, IsTrue, List, [], ◌∷◌, ◌++◌, Option, Result, All, IfSome, IsNone, codes, decimal}
use Rattle.std.specs.List.{flat_map}
use Rattle.std.specs.Result.{result_err}
use Rattle.std.specs.Io.KnownBytes.{Appends}
use Rattle.allocation.specs.Refusal.{IsOutOfMemory}
use Rattle.block_device.specs.Device.{Device}
use Rattle.program_io.specs.Counted.{CountedRecord}
use Rattle.fec_area.specs.Layouts.{largest_allocation}
use Rattle.tree_shape.specs.Shape.{ShapeRecord, IsShape, ancestor, position}
use Rattle.verity_format.specs.declared.verifying.VerifyFault.TheVariants.{Device as DeviceFailed, NoMemory}
use Rattle.verity_format.specs.Blocks.{IsOnlyRead}
use Rattle.verity_format.specs.Image.{data_sectors, tree_sectors}
use Rattle.tree_path.specs.Path.{PathRecord, digest_on}
use Rattle.tree_survey.specs.Surveys.{Tree, IsWay}
use Rattle.tree_repair.specs.declared.fault.RepairFault.{RepairFault}
use Rattle.tree_repair.specs.declared.fault.RepairFault.TheVariants.{Image, Write}
use Rattle.tree_repair.specs.declared.mending.Mended.{Mended}
use Rattle.tree_repair.specs.declared.mending.Mended.TheVariants as mended
use Rattle.tree_repair.specs.Mending.{BlockCheck, IsBareOf, IsBlockFound, IsMended}
use Rattle.tree_repair.specs.Remaking.{IsMadeBeneath, IsNowhereBeneath, lost_hash}
use Rattle.tree_repair.specs.Sources.{wanted}
use Rattle.tree_repair.specs.Worlds.{IsWorldRead, RepairWorld}

-- a tree, the sector at which hash blocks begin on a copy, whether the repair may write, and whether there is parity
pub record Job : Type 0 where
  pub tree : Tree
  pub copy_first : ℕ
  pub write : Bool
  pub parity : Bool

-- ---- a block: a data block has height 0, a hash block of level l height l + 1; its index is that of the first data block
-- below it

-- the device of the block, and the other device
abbrev pub own : ℕ → RepairWorld → Device
own zero w = w.data_dev
own (suc l) w = w.hash_dev

abbrev pub other : ℕ → RepairWorld → Device
other zero w = w.hash_dev
other (suc l) w = w.data_dev

-- the copies of the block's device, and those of the other device
abbrev pub own_copies : ℕ → RepairWorld → List Device
own_copies zero w = w.data_copies
own_copies (suc l) w = w.hash_copies

abbrev pub other_copies : ℕ → RepairWorld → List Device
other_copies zero w = w.hash_copies
other_copies (suc l) w = w.data_copies

-- the size of the block in bytes
abbrev pub size_at : ShapeRecord → ℕ → ℕ
size_at s zero = s.data_block
size_at s (suc l) = s.hash_block

-- the first sector of the block, on its device and on a copy
abbrev pub sector_at : ShapeRecord → ℕ → ℕ → ℕ
sector_at s zero i = i * (s.data_block / 512)
sector_at s (suc l) i = position s l (ancestor s (l + 1) i) * (s.hash_block / 512)

abbrev pub copy_sector_at : Job → ℕ → ℕ → ℕ
copy_sector_at j zero i = sector_at j.tree.shape zero i
copy_sector_at j (suc l) i = j.copy_first + sector_at j.tree.shape (suc l) i

-- the check of a block, when a path leads to its digest
abbrev pub look_at : Job → PathRecord → ℕ → ℕ → RepairWorld → RepairWorld → BlockCheck
look_at j p h i w w' = record {
  old = own h w;
  new = own h w';
  copies = own_copies h w;
  copies' = own_copies h w';
  first = sector_at j.tree.shape h i;
  copy_first = copy_sector_at j h i;
  w = wanted j.tree.salt (digest_on p i h) (size_at j.tree.shape h / 512);
  write = j.write;
}

-- ---- one block after another

-- a block, the result, its valid bytes, and whether none of its writes failed
pub record Visit : Type 0 where
  pub height : ℕ
  pub index : ℕ
  pub mended : Mended
  pub bytes : List ℕ
  pub done : Bool

abbrev pub visit : ℕ → ℕ → Mended → List ℕ → Bool → Visit
visit height index mended bytes done = record { height = height; index = index; mended = mended; bytes = bytes; done = done }

-- The other device wasn't accessed; but if a hash block is corrupt and no copy has it, the data device was only read.
abbrev pub OtherStays : ℕ → Mended → Device → Device → Type 0
OtherStays zero m old new = new ≡ old
OtherStays (suc l) mended.Good old new = new ≡ old
OtherStays (suc l) (mended.Copy k) old new = new ≡ old
OtherStays (suc l) mended.Remade old new = IsOnlyRead old new × (old.failures ≤ new.failures)
OtherStays (suc l) mended.Parity old new = new ≡ old
OtherStays (suc l) mended.Lost old new = IsOnlyRead old new × (old.failures ≤ new.failures)

-- A reconstructed hash block is made from the blocks below it, and a lost one can't be. A data block isn't reconstructed. A
-- block is restored by parity only if there is parity.
abbrev pub IsMadeOf : Job → PathRecord → ℕ → ℕ → RepairWorld → RepairWorld → List ℕ → Mended → Type 0
IsMadeOf j p zero i w w' bytes m = IsBareOf j.parity m
IsMadeOf j p (suc l) i w w' bytes mended.Good = Unit {0}
IsMadeOf j p (suc l) i w w' bytes (mended.Copy k) = Unit {0}
IsMadeOf j p (suc l) i w w' bytes mended.Remade = IsMadeBeneath j.tree.shape j.tree.salt w.data_dev w.hash_dev l i bytes
IsMadeOf j p (suc l) i w w' bytes mended.Parity = IsTrue j.parity
IsMadeOf j p (suc l) i w w' bytes mended.Lost =
    IsNowhereBeneath (lost_hash j.tree.shape j.tree.salt l i (digest_on p i (l + 1))) w.data_dev w.hash_dev w'.data_dev w'.hash_dev

-- Verified hash blocks lead from the root to the block's digest. By this digest the block was found valid, was repaired, or is
-- lost.
pub record IsVisited (j : Job) (v : Visit) (w w' : RepairWorld) : Type 0 where
  pub inside : v.index < j.tree.shape.blocks
  pub p : PathRecord
  pub way : IsWay j.tree v.index v.height p
  pub mended_as : IsMended (look_at j p v.height v.index w w') v.bytes v.done v.mended
  pub made_of : IsMadeOf j p v.height v.index w w' v.bytes v.mended
  pub other_stays : OtherStays v.height v.mended (other v.height w) (other v.height w')
  pub copies_are : other_copies v.height w' ≡ other_copies v.height w

-- these blocks were visited, and everything else was only read
abbrev pub VisitsAll : Job → List Visit → RepairWorld → RepairWorld → Type 0
VisitsAll j [] w w' = IsWorldRead w w'
VisitsAll j (v ∷ more) w w' = (a : RepairWorld) × ((b : RepairWorld) × (IsWorldRead w a × (IsVisited j v a b × VisitsAll j more b w')))

-- a part of a run: blocks were visited before and after it
pub record IsPart (j : Job) (w a b w' : RepairWorld) : Type 0 where
  pub earlier : List Visit
  pub later : List Visit
  pub before : VisitsAll j earlier w a
  pub behind : VisitsAll j later b w'

-- ---- what is printed

abbrev pub verb : Bool → List ℕ
verb true = codes "repaired"
verb false = codes "repairable"

-- `VERB data INDEX copy K` or `VERB hash LEVEL NUMBER copy K`
unfoldable pub data_line : Bool → ℕ → ℕ → List ℕ
data_line write i k = verb write ++ (codes " data " ++ (decimal i ++ (codes " copy " ++ (decimal k ++ codes "\n"))))

unfoldable pub repaired_hash_line : Bool → ℕ → ℕ → ℕ → List ℕ
repaired_hash_line write l n k = verb write ++ (codes " hash " ++ (decimal l ++ (codes " " ++ (decimal n ++ (codes " copy " ++ (decimal k ++ codes "\n"))))))

-- `VERB hash LEVEL NUMBER remade`
unfoldable pub remade_line : Bool → ℕ → ℕ → List ℕ
remade_line write l n = verb write ++ (codes " hash " ++ (decimal l ++ (codes " " ++ (decimal n ++ codes " remade\n"))))

abbrev pub made_line : Job → ℕ → ℕ → List ℕ
made_line j zero i = []
made_line j (suc l) i = remade_line j.write l (ancestor j.tree.shape (l + 1) i)

-- `VERB data INDEX parity` or `VERB hash LEVEL NUMBER parity`
unfoldable pub data_parity_line : Bool → ℕ → List ℕ
data_parity_line write i = verb write ++ (codes " data " ++ (decimal i ++ codes " parity\n"))

unfoldable pub hash_parity_line : Bool → ℕ → ℕ → List ℕ
hash_parity_line write l n = verb write ++ (codes " hash " ++ (decimal l ++ (codes " " ++ (decimal n ++ codes " parity\n"))))

abbrev pub parity_line : Job → ℕ → ℕ → List ℕ
parity_line j zero i = data_parity_line j.write i
parity_line j (suc l) i = hash_parity_line j.write l (ancestor j.tree.shape (l + 1) i)

abbrev pub copy_line : Job → ℕ → ℕ → ℕ → List ℕ
copy_line j zero i k = data_line j.write i k
copy_line j (suc l) i k = repaired_hash_line j.write l (ancestor j.tree.shape (l + 1) i) k

-- the line for a repaired block
abbrev pub mended_line : Job → ℕ → ℕ → Mended → List ℕ
mended_line j h i mended.Good = []
mended_line j h i (mended.Copy k) = copy_line j h i k
mended_line j h i mended.Remade = made_line j h i
mended_line j h i mended.Parity = parity_line j h i
mended_line j h i mended.Lost = []

abbrev pub visit_line : Job → Visit → List ℕ
visit_line j v = mended_line j v.height v.index v.mended

-- ---- the whole run

abbrev pub IsDone : Visit → Type 0
IsDone v = v.done ≡ true

-- No write failed before the last visit. In the last visit the block's valid bytes were known, and their write failed.
pub record EndsAtFailedWrite (visits : List Visit) : Type 0 where
  pub earlier : List Visit
  pub last : Visit
  pub are : visits ≡ earlier ++ (last ∷ [])
  pub before : All IsDone earlier
  pub found : IsBlockFound last.mended
  pub failed : last.done ≡ false

-- Why a run ended early: a write failed, and the run ended with it; or an allocation was refused or a line can't be written,
-- and no write had failed. There is no other cause.
abbrev pub IsEndCause : List Visit → RepairFault → Type 0
IsEndCause visits (Image DeviceFailed) = EndsAtFailedWrite visits
IsEndCause visits (Image NoMemory) = All IsDone visits × IsOutOfMemory largest_allocation
IsEndCause visits (Image fault) = ⊥
IsEndCause visits Write = All IsDone visits

-- the fault of a refused allocation
abbrev pub IsRefusal : RepairFault → Type 0
IsRefusal fault = (fault ≡ Image NoMemory) × IsOutOfMemory largest_allocation

-- A run, and the fault that ended it, if there is one. Without a fault no write failed, and a line was printed for each
-- repaired block; a fault has its cause.
pub record HasRun (j : Job) (w w' : RepairWorld) (old new : Option (List ℕ)) (fault : Option RepairFault) : Type 0 where
  pub visits : List Visit
  pub runs : VisitsAll j visits w w'
  pub done : IsNone fault → All IsDone visits
  pub printed : IsNone fault → Appends old new (flat_map (visit_line j) visits)
  pub cause : IfSome fault (IsEndCause visits)

-- a run, by the writer before and after and the result
abbrev pub Ran : {W T : Type 0} → (W → Option (List ℕ)) → Job → RepairWorld → RepairWorld → CountedRecord W → CountedRecord W → Result T RepairFault → Type 0
Ran contents j w w' old new result = HasRun j w w' (contents old.inner) (contents new.inner) (result_err result)

-- a line can't be written only if the writer failed, which the writer records
abbrev pub IsWriterCause : {W : Type 0} → CountedRecord W → RepairFault → Type 0
IsWriterCause writer (Image fault) = Unit {0}
IsWriterCause writer Write = writer.failed ≡ true

-- the data and the tree are within the devices, which are writable if the repair may write
pub record CanRun (j : Job) (w : RepairWorld) : Type 0 where
  pub valid : IsShape j.tree.shape
  pub data_fits : data_sectors j.tree.shape ≤ w.data_dev.size
  pub tree_fits : tree_sectors j.tree.shape ≤ w.hash_dev.size
  pub data_writable : IsTrue j.write → IsTrue w.data_dev.may_write
  pub hash_writable : IsTrue j.write → IsTrue w.hash_dev.may_write
  pub copy_small : j.copy_first ≤ 2 ^ 55
