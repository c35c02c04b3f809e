-- Data blocks that are copied from another place of the data device or of a copy, or fetched from copies in runs.
use Rattle.std.specs.Prelude.{◌≡◌, ◌+◌, ℕ, true, List, ◌++◌, Option, None, Result, All, codes, decimal, length, map}
use Rattle.std.specs.List.{flat_map}
use Rattle.std.specs.Io.KnownBytes.{Appends}
use Rattle.std.specs.Result.{result_err}
use Rattle.block_device.specs.Device.{capped}
use Rattle.program_io.specs.Counted.{CountedRecord}
use Rattle.tree_repair.specs.declared.fault.RepairFault.{RepairFault}
use Rattle.tree_repair.specs.declared.mending.Mended.TheVariants as mended
use Rattle.tree_repair.specs.declared.repair.Plan.{Plan}
use Rattle.tree_repair.specs.Bounds.{IsOnePass}
use Rattle.tree_repair.specs.CopyReads.{ReadsCopies, ReadsLists}
use Rattle.tree_repair.specs.Repairs.{Repairs, job_of}
use Rattle.tree_repair.specs.Runs.{HasRun, Job, Visit, VisitsAll, copy_line}
use Rattle.tree_repair.specs.Worlds.{RepairWorld}

-- ---- what is printed: a data block, and where its bytes are from

-- `moved data INDEX from SOURCE`
unfoldable pub moved_line : ℕ → ℕ → List ℕ
moved_line block source = codes "moved data " ++ (decimal block ++ (codes " from " ++ (decimal source ++ codes "\n")))

-- `repaired data INDEX copy K`
abbrev pub fetched_line : Job → ℕ → ℕ → List ℕ
fetched_line j block copy = copy_line j 0 block copy

-- ---- copies

-- the visit of a block, and where its bytes are from: a block of the data device, or a copy
pub record Copied : Type 0 where
  pub visit : Visit
  pub source : ℕ

-- a data block was corrupt, and bytes with its digest were written
pub record IsCopied (c : Copied) : Type 0 where
  pub low : c.visit.height ≡ 0
  pub written : c.visit.mended ≡ mended.Parity
  pub done : c.visit.done ≡ true

abbrev pub copied_line : (ℕ → ℕ → List ℕ) → Copied → List ℕ
copied_line line c = line c.visit.index c.source

-- So many data blocks were written, each by a visit, and everything else was only read. A line was printed for each, and nothing else.
pub record CopiesBlocks (j : Job) (line : ℕ → ℕ → List ℕ) (count : ℕ) (w w' : RepairWorld) (old new : Option (List ℕ)) : Type 0 where
  pub items : List Copied
  pub runs : VisitsAll j (map (λ (c : Copied). c.visit) items) w w'
  pub each : All IsCopied items
  pub told : Appends old new (flat_map (copied_line line) items)
  pub counted : count ≡ capped (length items)

-- some were fetched
abbrev pub FetchesBlocks : Job → RepairWorld → RepairWorld → Option (List ℕ) → Option (List ℕ) → Type 0
FetchesBlocks j w w' old new = (count : ℕ) × CopiesBlocks j (fetched_line j) count w w' old new

-- Blocks were visited, up to a fault if there is one, and each that was corrupt and found was written. A data block that was copied
-- or fetched counts as restored: its bytes have its digest. What was printed is stated elsewhere.
abbrev pub HasMoved : {T : Type 0} → Job → RepairWorld → RepairWorld → Result T RepairFault → Type 0
HasMoved j w w' result = HasRun j w w' None None (result_err result)

-- The tree was repaired. Then data blocks were copied within the data device, others from copies, and then some were fetched; the lines of
-- all were printed. The count is that of the blocks that were copied. The copies were read in at most one pass while the tree was repaired;
-- no copy of the data was accessed while blocks were copied within the data device; then blocks that the data device lacked were read where
-- lists have them, each at most once from a copy; and from `settled` on runs of such blocks.
pub record MovesBlocks (plan : Plan) (w w' : RepairWorld) (old new : Option (List ℕ)) (count : ℕ) : Type 0 where
  pub mid : RepairWorld
  pub placed : RepairWorld
  pub settled : RepairWorld
  pub between : Option (List ℕ)
  pub heard : Option (List ℕ)
  pub listed : Option (List ℕ)
  pub shifted : ℕ
  pub seeds : ℕ
  pub tree : Repairs plan true w mid old between None
  pub moved : Repairs plan true mid w' None None None
  pub moves : CopiesBlocks (job_of plan true) moved_line shifted mid placed between heard
  pub copies : CopiesBlocks (job_of plan true) (fetched_line (job_of plan true)) seeds placed settled heard listed
  pub within : IsOnePass plan.tree.shape w mid
  pub kept : placed.data_copies ≡ mid.data_copies
  pub lists : ReadsLists (job_of plan true) placed settled
  pub fetched : FetchesBlocks (job_of plan true) settled w' listed new
  pub reads : ReadsCopies (job_of plan true) settled w'
  pub counted : count ≡ capped (shifted + seeds)

-- ---- in terms of a writer before and after

abbrev pub SaysMoves : {W : Type 0} → (W → Option (List ℕ)) → Job → RepairWorld → RepairWorld → CountedRecord W → CountedRecord W → ℕ → Type 0
SaysMoves contents j w w' old new count = CopiesBlocks j moved_line count w w' (contents old.inner) (contents new.inner)

abbrev pub SaysCopies : {W : Type 0} → (W → Option (List ℕ)) → Job → RepairWorld → RepairWorld → CountedRecord W → CountedRecord W → ℕ → Type 0
SaysCopies contents j w w' old new count = CopiesBlocks j (fetched_line j) count w w' (contents old.inner) (contents new.inner)

abbrev pub SaysFetches : {W : Type 0} → (W → Option (List ℕ)) → Job → RepairWorld → RepairWorld → CountedRecord W → CountedRecord W → Type 0
SaysFetches contents j w w' old new = FetchesBlocks j w w' (contents old.inner) (contents new.inner)

abbrev pub AreMoved : {W : Type 0} → (W → Option (List ℕ)) → Plan → RepairWorld → RepairWorld → CountedRecord W → CountedRecord W → ℕ → Type 0
AreMoved contents plan w w' old new = MovesBlocks plan w w' (contents old.inner) (contents new.inner)
