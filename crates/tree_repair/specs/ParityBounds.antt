-- How often the devices of an image and its parity are accessed at most, in passes over the image and for each block that is
-- sought by parity. Failed calls count too.
use Rattle.std.specs.Prelude.{◌≡◌, ◌⊎◌, ℕ, ◌+◌, ◌-◌, ◌*◌, ◌/◌, ◌^◌, ◌<◌, ◌≤◌, zero, suc, Bool, true, false, IsTrue, List, Option, Result, Ok, Err, IfOk, IsErrAnd, length, sum_by}
use Rattle.std.specs.Int.{div_ceil}
use Rattle.std.specs.Result.{result_err}
use Rattle.block_device.specs.Device.{Device}
use Rattle.program_io.specs.Counted.{CountedRecord}
use Rattle.fec_area.specs.declared.layout.Layout.{Layout}
use Rattle.tree_shape.specs.Shape.{ShapeRecord, area_blocks, levels, per_block}
use Rattle.tree_path.specs.Steps.{HasReadAtMost}
use Rattle.verity_format.specs.Image.{data_sectors}
use Rattle.tree_repair.specs.declared.bad.BadBlock.{BadBlock}
use Rattle.tree_repair.specs.declared.bad.BadBlocks.{BadBlocks}
use Rattle.tree_repair.specs.declared.fault.RepairFault.{RepairFault}
use Rattle.tree_repair.specs.declared.mending.Mended.{Mended}
use Rattle.tree_repair.specs.declared.mending.Mended.TheVariants as mended
use Rattle.tree_repair.specs.declared.place.Row.{Row}
use Rattle.tree_repair.specs.declared.parity.ParityOutcome.{ParityOutcome}
use Rattle.tree_repair.specs.declared.repair.Plan.{Plan}
use Rattle.tree_repair.specs.Bounds.{AreReadAtMost, HasWrittenAtMost, area_block_sectors}
use Rattle.tree_repair.specs.Repairs.{GoesPast, Repairs}
use Rattle.tree_repair.specs.Runs.{HasRun, Job, Visit, size_at}
use Rattle.tree_repair.specs.Worlds.{RepairWorld}

-- ---- the accesses

-- How many sectors may be read from the data device, the hash device and the parity, how many may be written to the first two,
-- and how many may be read from each of their copies.
pub record ParityBill : Type 0 where
  pub data_reads : ℕ
  pub hash_reads : ℕ
  pub parity_reads : ℕ
  pub data_writes : ℕ
  pub hash_writes : ℕ
  pub data_sought : ℕ
  pub hash_sought : ℕ

-- no more accesses were made than these
pub record IsAskedWithin (b : ParityBill) (w w' : RepairWorld) (p p' : Device) : Type 0 where
  pub data_reads : HasReadAtMost w.data_dev b.data_reads w'.data_dev
  pub hash_reads : HasReadAtMost w.hash_dev b.hash_reads w'.hash_dev
  pub parity_reads : HasReadAtMost p b.parity_reads p'
  pub data_writes : HasWrittenAtMost w.data_dev b.data_writes w'.data_dev
  pub hash_writes : HasWrittenAtMost w.hash_dev b.hash_writes w'.hash_dev
  pub data_copies : AreReadAtMost w.data_copies b.data_sought w'.data_copies
  pub hash_copies : AreReadAtMost w.hash_copies b.hash_sought w'.hash_copies

-- The accesses for so many superblocks, passes, and blocks sought by parity. For a sought block these sectors are read: the
-- path to it on the hash device; on each device at most the other blocks of its round and then, if these don't give it, all blocks
-- of the round and the block itself; the block, once more to read it back; and the parity of the round, at most twice. The block may
-- be written.
abbrev pub parity_bill : ShapeRecord → Layout → ℕ → ℕ → ℕ → ParityBill
parity_bill s l superblocks passes sought = record {
  data_reads = passes * ((levels s + 3) * data_sectors s) + sought * ((513 - 2 * l.roots) * (l.block / 512));
  hash_reads = superblocks + passes * ((2 * levels s + 1) * area_block_sectors s) + sought * (levels s * (s.hash_block / 512) + (513 - 2 * l.roots) * (l.block / 512));
  parity_reads = sought * (2 * (l.roots * (l.block / 512)));
  data_writes = passes * data_sectors s + sought * (l.block / 512);
  hash_writes = passes * area_block_sectors s + sought * (l.block / 512);
  data_sought = passes * data_sectors s;
  hash_sought = passes * area_block_sectors s;
}

-- ---- the steps

-- only one device was accessed
abbrev pub IsAskedAlone : ParityBill → RepairWorld → RepairWorld → Type 0
IsAskedAlone b w w' = (p : Device) → IsAskedWithin b w w' p p

-- a block of so many sectors was read and written, each at most once
pub record IsReplacedOnce (n : ℕ) (old new : Device) : Type 0 where
  pub reads : HasReadAtMost old n new
  pub writes : HasWrittenAtMost old n new

-- a block of an image was read and written, at most once
abbrev pub put_bill : ℕ → ParityBill
put_bill n = record { data_reads = n; hash_reads = n; parity_reads = 0; data_writes = n; hash_writes = n; data_sought = 0; hash_sought = 0 }

-- a block of an image was read and written, and then read back
abbrev pub kept_bill : ℕ → ParityBill
kept_bill n = record (put_bill n) { data_reads = n + n; hash_reads = n + n }

-- the other blocks of a round and their parity were read
abbrev pub round_bill : Layout → ParityBill
round_bill l = record {
  data_reads = (255 - l.roots) * (l.block / 512);
  hash_reads = (255 - l.roots) * (l.block / 512);
  parity_reads = l.roots * (l.block / 512);
  data_writes = 0;
  hash_writes = 0;
  data_sought = 0;
  hash_sought = 0;
}

-- all blocks of a round, their parity and one block again were read
abbrev pub correct_bill : Layout → ParityBill
correct_bill l = record {
  data_reads = (256 - l.roots) * (l.block / 512);
  hash_reads = (256 - l.roots) * (l.block / 512);
  parity_reads = l.roots * (l.block / 512);
  data_writes = 0;
  hash_writes = 0;
  data_sought = 0;
  hash_sought = 0;
}

-- these two
abbrev pub tries_bill : Layout → ParityBill
tries_bill l = record {
  data_reads = (511 - 2 * l.roots) * (l.block / 512);
  hash_reads = (511 - 2 * l.roots) * (l.block / 512);
  parity_reads = 2 * (l.roots * (l.block / 512));
  data_writes = 0;
  hash_writes = 0;
  data_sought = 0;
  hash_sought = 0;
}

-- all together
abbrev pub along_bill : Layout → ParityBill
along_bill l = record {
  data_reads = (513 - 2 * l.roots) * (l.block / 512);
  hash_reads = (513 - 2 * l.roots) * (l.block / 512);
  parity_reads = 2 * (l.roots * (l.block / 512));
  data_writes = l.block / 512;
  hash_writes = l.block / 512;
  data_sought = 0;
  hash_sought = 0;
}

-- a block of a height was restored or not, by at most these accesses; a restored block has the size of the covered blocks
abbrev pub IsMadeWithin : {E : Type 0} → ParityBill → ShapeRecord → Layout → ℕ → RepairWorld → RepairWorld → Device → Device → Result Bool E → Type 0
IsMadeWithin b s l h w w' p p' result = IsAskedWithin b w w' p p' × IfOk result (λ made. IsTrue made → l.block ≡ size_at s h)

-- ---- which blocks are sought

-- 1 for a block that was found nowhere, and 0 for a block that was found elsewhere
abbrev pub tries_of : Bool → ℕ
tries_of true = 0
tries_of false = 1

-- how many of these blocks are sought
abbrev pub sought_among : List BadBlock → ℕ
sought_among blocks = sum_by (λ b. tries_of b.found) blocks

-- 1 for a block that a pass found nowhere
abbrev pub lost_of : Mended → ℕ
lost_of mended.Good = 0
lost_of (mended.Copy k) = 0
lost_of mended.Remade = 0
lost_of mended.Parity = 0
lost_of mended.Lost = 1

-- how many blocks an image has
abbrev pub image_blocks : ShapeRecord → ℕ
image_blocks s = s.blocks + area_blocks s

-- `a` blocks may be noted before, and `b` still after
abbrev pub LeavesNoted : ℕ → ℕ → BadBlocks → BadBlocks → Type 0
LeavesNoted a b old new = length new.blocks.items + b ≤ length old.blocks.items + a

-- how many blocks of a height there are over n data blocks
abbrev pub blocks_over : ShapeRecord → ℕ → ℕ → ℕ
blocks_over s h n = div_ceil n (per_block s ^ h)

-- at most the blocks of a height are noted
abbrev pub NotesInHeight : ShapeRecord → ℕ → BadBlocks → BadBlocks → Type 0
NotesInHeight s h old new = LeavesNoted (blocks_over s h s.blocks) 0 old new

-- at most the blocks of a row are noted
abbrev pub NotesInRow : ShapeRecord → Row → BadBlocks → BadBlocks → Type 0
NotesInRow s row old new = LeavesNoted (blocks_over s row.height (s.blocks - row.first)) (blocks_over s row.height (s.blocks - row.first - per_block s ^ (row.height + 1))) old new

-- 1 for a hash block that parity restored
abbrev pub back_of : ℕ → Mended → ℕ
back_of zero m = 0
back_of (suc l) mended.Good = 0
back_of (suc l) (mended.Copy k) = 0
back_of (suc l) mended.Remade = 0
back_of (suc l) mended.Parity = 1
back_of (suc l) mended.Lost = 0

-- how many hash blocks parity restored
abbrev pub hashes_back : List Visit → ℕ
hashes_back visits = sum_by (λ v. back_of v.height v.mended) visits

-- what a successful call returns
abbrev pub told_of : {E : Type 0} → Result Bool E → Bool
told_of (Ok told) = told
told_of (Err fault) = false

-- A run that returns whether parity restored a block of a height: if it returns so for a hash block, one was restored.
pub record TellsOfHash (j : Job) (h : ℕ) (w w' : RepairWorld) (old new : Option (List ℕ)) (fault : Option RepairFault) (told : Bool) : Type 0 where
  pub run : HasRun j w w' old new fault
  pub came : IsTrue told → 0 < h → 1 ≤ hashes_back run.visits

-- such a run, by the writer before and after and the result
abbrev pub TellsBack : {W : Type 0} → (W → Option (List ℕ)) → Job → ℕ → RepairWorld → RepairWorld → CountedRecord W → CountedRecord W → Result Bool RepairFault → Type 0
TellsBack contents j h w w' old new result = TellsOfHash j h w w' (contents old.inner) (contents new.inner) (result_err result) (told_of result)

-- what a successful call returns about a hash block
abbrev pub tree_told : {E : Type 0} → Result ParityOutcome E → Bool
tree_told (Ok came) = came.tree
tree_told (Err fault) = false

-- a run over some blocks that returns whether a hash block among them was restored
abbrev pub TellsCame : {W : Type 0} → (W → Option (List ℕ)) → Job → RepairWorld → RepairWorld → CountedRecord W → CountedRecord W → Result ParityOutcome RepairFault → Type 0
TellsCame contents j w w' old new result = TellsOfHash j 1 w w' (contents old.inner) (contents new.inner) (result_err result) (tree_told result)

-- ---- passes

-- A run of at most so many passes. Each further pass follows one in which parity restored a hash block; if one more is due, so
-- does that one. Each block that is sought was lost in one of the passes.
pub record RunsInPasses (j : Job) (l : Layout) (most : ℕ) (w w' : RepairWorld) (p p' : Device) (old new : Option (List ℕ)) (fault : Option RepairFault) (again : Bool) : Type 0 where
  pub run : HasRun j w w' old new fault
  pub passes : ℕ
  pub sought : ℕ
  pub passes_few : passes ≤ most
  pub further : passes ≤ 1 + hashes_back run.visits
  pub due : IsTrue again → passes ≤ hashes_back run.visits
  pub lost : sought ≤ sum_by (λ v. lost_of v.mended) run.visits
  pub sought_few : sought ≤ passes * image_blocks j.tree.shape
  pub within : IsAskedWithin (parity_bill j.tree.shape l 0 passes sought) w w' p p'

-- a run in one pass, by the writer before and after and the result
abbrev pub RunsInOne : {W : Type 0} → (W → Option (List ℕ)) → Job → Layout → RepairWorld → RepairWorld → Device → Device → CountedRecord W → CountedRecord W → Result ParityOutcome RepairFault → Type 0
RunsInOne contents j l w w' p p' old new result = RunsInPasses j l 1 w w' p p' (contents old.inner) (contents new.inner) (result_err result) (tree_told result)

abbrev pub RunsInAll : {W T : Type 0} → (W → Option (List ℕ)) → Job → Layout → RepairWorld → RepairWorld → Device → Device → CountedRecord W → CountedRecord W → Result T RepairFault → Type 0
RunsInAll contents j l w w' p p' old new result = RunsInPasses j l (1 + l.hash_blocks) w w' p p' (contents old.inner) (contents new.inner) (result_err result) false

-- ---- the whole repair

-- An image was repaired with parity. The passes after the first are no more than the hash blocks that parity restored, and no
-- more than the covered blocks of the hash device. Only blocks that a pass found nowhere were sought by parity.
pub record RepairsInPasses (plan : Plan) (l : Layout) (w w' : RepairWorld) (p p' : Device) (old new : Option (List ℕ)) (fault : Option RepairFault) : Type 0 where
  pub repairs : Repairs plan true w w' old new fault
  pub passes : ℕ
  pub sought : ℕ
  pub passes_few : passes ≤ 1 + l.hash_blocks
  pub further : passes ≤ 1 + hashes_back repairs.run.visits
  pub lost : sought ≤ sum_by (λ v. lost_of v.mended) repairs.run.visits
  pub sought_few : sought ≤ passes * image_blocks plan.tree.shape
  pub within : IsAskedWithin (parity_bill plan.tree.shape l 0 passes sought) w w' p p'

-- such a repair, or one that ended early; or there was no image to repair
abbrev pub IsParityWithin : {W T : Type 0} → (W → Option (List ℕ)) → Plan → Layout → RepairWorld → RepairWorld → Device → Device → CountedRecord W → CountedRecord W → Result T RepairFault → Type 0
IsParityWithin contents plan l w w' p p' old new result =
    (IsErrAnd result (GoesPast plan.tree.shape w w') × (p' ≡ p))
    ⊎ RepairsInPasses plan l w w' p p' (contents old.inner) (contents new.inner) (result_err result)
