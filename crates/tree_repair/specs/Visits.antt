-- The visit of one block of an image.
use Rattle.std.specs.Prelude.{◌≡◌, ℕ, suc, ◌+◌, ◌*◌, ◌/◌, Bool, true, false, IsTrue, List}
use Rattle.block_device.specs.Device.{Device}
use Rattle.tree_shape.specs.Shape.{ShapeRecord, ancestor, position}
use Rattle.tree_path.specs.Path.{PathRecord, digest_on}
use Rattle.tree_repair.specs.declared.mending.Mended.{Mended}
use Rattle.tree_repair.specs.Mending.{BlockCheck, IsBlockFound, IsMended, IsPutAt}
use Rattle.tree_repair.specs.Noting.{was_put}
use Rattle.tree_repair.specs.Parity.{IsGoodNow}
use Rattle.tree_repair.specs.Runs.{IsMadeOf, IsVisited, Job, OtherStays, visit}
use Rattle.tree_repair.specs.Sources.{wanted}
use Rattle.tree_repair.specs.Worlds.{IsWorldRead, RepairWorld}

-- the visit had this result, and no write failed
abbrev pub IsLooked : BlockCheck → Mended → Type 0
IsLooked l m = (bytes : List ℕ) × IsMended l bytes true m

abbrev pub IsBlockMade : Job → ℕ → ℕ → RepairWorld → RepairWorld → Mended → Type 0
IsBlockMade j h i w w' m = (bytes : List ℕ) × IsVisited j (visit h i m bytes true) w w'

-- the block was found or made, but a write failed
abbrev pub FailsToStoreBlock : Job → ℕ → ℕ → RepairWorld → RepairWorld → Type 0
FailsToStoreBlock j h i w w' = (m : Mended) × ((bytes : List ℕ) × (IsBlockFound m × IsVisited j (visit h i m bytes false) w w'))

-- the visit had this result, and the devices were only read afterwards; if the block was written, verified hash blocks lead to
-- the bytes read back
pub record IsBlockKept (j : Job) (h i : ℕ) (w w' : RepairWorld) : Type 0 where
  pub mended : Mended
  pub bytes : List ℕ
  pub behind : RepairWorld
  pub visited : IsVisited j (visit h i mended bytes true) w behind
  pub there : IsTrue (was_put j.write mended) → IsGoodNow j h i behind
  pub read_back : IsWorldRead behind w'

-- ---- a data block

abbrev pub data_look : Job → PathRecord → ℕ → Device → Device → List Device → List Device → BlockCheck
data_look j p i old new copies copies' = record {
  old = old;
  new = new;
  copies = copies;
  copies' = copies';
  first = i * (j.tree.shape.data_block / 512);
  copy_first = i * (j.tree.shape.data_block / 512);
  w = wanted j.tree.salt (digest_on p i 0) (j.tree.shape.data_block / 512);
  write = j.write;
}

-- ---- a hash block

-- the first sector of the block
abbrev pub hash_sector : ShapeRecord → ℕ → ℕ → ℕ
hash_sector s l i = position s l (ancestor s (l + 1) i) * (s.hash_block / 512)

abbrev pub hash_look : Job → PathRecord → ℕ → ℕ → Device → Device → List Device → List Device → BlockCheck
hash_look j p l i old new copies copies' = record {
  old = old;
  new = new;
  copies = copies;
  copies' = copies';
  first = position j.tree.shape l (ancestor j.tree.shape (l + 1) i) * (j.tree.shape.hash_block / 512);
  copy_first = j.copy_first + position j.tree.shape l (ancestor j.tree.shape (l + 1) i) * (j.tree.shape.hash_block / 512);
  w = wanted j.tree.salt (digest_on p i (l + 1)) (j.tree.shape.hash_block / 512);
  write = j.write;
}

-- the visit of a hash block of level l
pub record IsHashSeen (j : Job) (p : PathRecord) (l i : ℕ) (w w' : RepairWorld) (bytes : List ℕ) (done : Bool) (m : Mended) : Type 0 where
  pub looked : IsMended (hash_look j p l i w.hash_dev w'.hash_dev w.hash_copies w'.hash_copies) bytes done m
  pub made_of : IsMadeOf j p (suc l) i w w' bytes m
  pub data_stays : OtherStays (suc l) m w.data_dev w'.data_dev
  pub copies_are : w'.data_copies ≡ w.data_copies

abbrev pub IsHashLooked : Job → PathRecord → ℕ → ℕ → RepairWorld → RepairWorld → Mended → Type 0
IsHashLooked j p l i w w' m = (bytes : List ℕ) × IsHashSeen j p l i w w' bytes true m

abbrev pub IsHashUnmended : Job → PathRecord → ℕ → ℕ → RepairWorld → RepairWorld → Type 0
IsHashUnmended j p l i w w' = (m : Mended) × ((bytes : List ℕ) × (IsBlockFound m × IsHashSeen j p l i w w' bytes false m))

-- ---- what a part of a visit leaves unchanged

-- the data device and its copies weren't accessed
pub record KeepsData (w w' : RepairWorld) : Type 0 where
  pub device_is : w'.data_dev ≡ w.data_dev
  pub copies_are : w'.data_copies ≡ w.data_copies

-- a block was written to the hash device, or the write failed
pub record IsTreePut (write : Bool) (first : ℕ) (bytes : List ℕ) (done : Bool) (w w' : RepairWorld) : Type 0 where
  pub put : IsPutAt write w.hash_dev first bytes done w'.hash_dev
  pub keeps : KeepsData w w'
  pub hash_copies_are : w'.hash_copies ≡ w.hash_copies
