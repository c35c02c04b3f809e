-- Reads of data blocks from the copies, and what else happens meanwhile.
use Rattle.std.specs.Prelude.{◌≡◌, ◌≢◌, ◌⊎◌, ℕ, ◌+◌, ◌-◌, ◌*◌, ◌/◌, ◌^◌, ◌<◌, ◌≤◌, Bool, List, [], ◌∷◌, length, if◌then◌else◌, nat_lt}
use Rattle.std.specs.List.{slice_index_or}
use Rattle.block_device.specs.Call.{IsCall, Read}
use Rattle.block_device.specs.Device.{Device}
use Rattle.tree_repair.specs.Fetches.{AreLacking, IsLacking, IsNotLacking, IsWholeRun, most_blocks}
use Rattle.tree_repair.specs.Runs.{Job, Visit, VisitsAll}
use Rattle.tree_repair.specs.Worlds.{IsWorldRead, RepairWorld}

-- sectors of copy k were read into a buffer by one call, and no other copy was accessed
pub record ReadsCopy (k first : ℕ) (bytes : List ℕ) (copies copies' : List Device) : Type 0 where
  pub inside : k < length copies
  pub count : length copies' ≡ length copies
  pub low : first < 2 ^ 64 - 1
  pub ok : Bool
  pub call : (d : Device) → IsCall (slice_index_or copies k d) (Read first bytes ok) (slice_index_or copies' k d)
  pub others : (j : ℕ) → j ≢ k → (d : Device) → slice_index_or copies' j d ≡ slice_index_or copies j d

-- that, or no copy was accessed
abbrev pub ReadsCopyOnce : ℕ → ℕ → List ℕ → List Device → List Device → Type 0
ReadsCopyOnce k first bytes copies copies' = (copies' ≡ copies) ⊎ ReadsCopy k first bytes copies copies'

-- a run of data blocks that was read from a copy: its first block, and the block after the last one
pub record CopyRead : Type 0 where
  pub copy : ℕ
  pub first : ℕ
  pub end : ℕ

abbrev pub copy_read : ℕ → ℕ → ℕ → CopyRead
copy_read copy first end = record { copy = copy; first = first; end = end }

-- blocks were visited, and no copy of the data was accessed
pub record LeavesCopies (j : Job) (w w' : RepairWorld) : Type 0 where
  pub visits : List Visit
  pub runs : VisitsAll j visits w w'
  pub kept : w'.data_copies ≡ w.data_copies

-- at most one call read the run from its copy, or the beginning of it; then blocks were visited, and no copy was accessed
pub record ReadsRunOnce (j : Job) (r : CopyRead) (w w' : RepairWorld) : Type 0 where
  pub between : RepairWorld
  pub read : IsWorldRead w between
  pub bytes : List ℕ
  pub short : length bytes ≤ (r.end - r.first) * j.tree.shape.data_block
  pub once : ReadsCopyOnce r.copy (r.first * (j.tree.shape.data_block / 512)) bytes w.data_copies between.data_copies
  pub after : LeavesCopies j between w'

-- The data device lacked each block of a run, which has as many blocks as a read can have, or ends before a block that wasn't lacking. Then
-- one call read the run from its copy, or the beginning of it, and no other copy was accessed.
pub record FetchesRun (j : Job) (r : CopyRead) (w w' : RepairWorld) : Type 0 where
  pub seen : RepairWorld
  pub lacking : IsLacking j r.first w seen
  pub others : AreLacking j r.first r.end w seen
  pub whole : IsWholeRun j j.tree.shape.data_block r.first r.end w
  pub bytes : List ℕ
  pub short : length bytes ≤ (r.end - r.first) * j.tree.shape.data_block
  pub reads : ReadsCopy r.copy (r.first * (j.tree.shape.data_block / 512)) bytes w.data_copies w'.data_copies
  pub read : IsWorldRead seen w'

-- The data device lacked a block. Then one call read a block of a copy, where a list has its digest, and no other copy was accessed.
pub record ReadsSeed (j : Job) (r : CopyRead) (w w' : RepairWorld) : Type 0 where
  pub one : r.end ≡ r.first + 1
  pub seen : RepairWorld
  pub lacking : IsLacking j r.first w seen
  pub source : ℕ
  pub bytes : List ℕ
  pub size : length bytes ≡ j.tree.shape.data_block
  pub reads : ReadsCopy r.copy (source * (j.tree.shape.data_block / 512)) bytes w.data_copies w'.data_copies
  pub read : IsWorldRead seen w'

-- such reads were made one after another, and nothing else was read from a copy of the data; blocks were visited meanwhile
abbrev pub ReadsEach : (CopyRead → RepairWorld → RepairWorld → Type 0) → Job → List CopyRead → RepairWorld → RepairWorld → Type 0
ReadsEach Reads j [] w w' = LeavesCopies j w w'
ReadsEach Reads j (r ∷ more) w w' = (a : RepairWorld) × ((b : RepairWorld) × (LeavesCopies j w a × (Reads r a b × ReadsEach Reads j more b w')))

-- ---- the order

-- a data block of a copy
pub record CopyBlock : Type 0 where
  pub copy : ℕ
  pub block : ℕ

abbrev pub copy_block : ℕ → ℕ → CopyBlock
copy_block copy block = record { copy = copy; block = block }

-- q is of a later copy than p, or of the same one and not before p
abbrev pub IsNotBefore : CopyBlock → CopyBlock → Type 0
IsNotBefore p q = (p.copy < q.copy) ⊎ ((p.copy ≡ q.copy) × (p.block ≤ q.block))

-- each run begins where the one before it ends, or after that; the first one begins at a block or after it, and the last one ends at
-- another one or before it
abbrev pub AreInOrder : List CopyRead → CopyBlock → CopyBlock → Type 0
AreInOrder [] from to = IsNotBefore from to
AreInOrder (r ∷ more) from to = IsNotBefore from (copy_block r.copy r.first) × AreInOrder more (copy_block r.copy r.end) to

-- such reads were made in their order
pub record ReadsInOrder (Reads : CopyRead → RepairWorld → RepairWorld → Type 0) (j : Job) (from to : CopyBlock) (w w' : RepairWorld) : Type 0 where
  pub reads : List CopyRead
  pub made : ReadsEach Reads j reads w w'
  pub ordered : AreInOrder reads from to

-- runs were read
abbrev pub ReadsRuns : Job → CopyBlock → CopyBlock → RepairWorld → RepairWorld → Type 0
ReadsRuns j from to w w' = ReadsInOrder (FetchesRun j) j from to w w'

-- single blocks were read where lists have them
abbrev pub ReadsSeeds : Job → CopyBlock → CopyBlock → RepairWorld → RepairWorld → Type 0
ReadsSeeds j from to w w' = ReadsInOrder (ReadsSeed j) j from to w w'

-- runs were read from one copy after another
abbrev pub ReadsCopies : Job → RepairWorld → RepairWorld → Type 0
ReadsCopies j w w' = (to : CopyBlock) × ReadsRuns j (copy_block 0 0) to w w'

-- blocks were, from one copy after another
abbrev pub ReadsLists : Job → RepairWorld → RepairWorld → Type 0
ReadsLists j w w' = (to : CopyBlock) × ReadsSeeds j (copy_block 0 0) to w w'

-- ---- how many reads there are

-- how many blocks the runs have
abbrev pub blocks_fetched : List CopyRead → ℕ
blocks_fetched [] = 0
blocks_fetched (r ∷ more) = (r.end - r.first) + blocks_fetched more

-- how many runs have fewer blocks than a read can have
abbrev pub short_runs : ℕ → List CopyRead → ℕ
short_runs most [] = 0
short_runs most (r ∷ more) = (if nat_lt (r.end - r.first) most then 1 else 0) + short_runs most more

-- The number of reads is at most that of the runs that end before a block that isn't lacking, and the number of whole reads that the
-- blocks take: MiBs, if 1 MiB is whole blocks.
pub record ReadsAreFew : Type 0 where
  pub few : (most : ℕ) → (reads : List CopyRead) → length reads * most ≤ short_runs most reads * most + blocks_fetched reads
  pub ends : (j : Job) → (r : CopyRead) → (w w' : RepairWorld) → FetchesRun j r w w' → r.end < r.first + most_blocks j.tree.shape.data_block → r.end < 2 ^ 64 - 1
      → IsNotLacking j r.end w
