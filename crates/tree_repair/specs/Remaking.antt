-- Hash blocks reconstructed from the blocks below them.
use Rattle.std.specs.Prelude.{◌≡◌, ◌≢◌, ℕ, zero, suc, ◌+◌, ◌-◌, ◌*◌, ◌≤◌, min, map, IsTrue, List, ◌⊎◌, ◌^◌}
use Rattle.std.specs.List.{concat, range_with_len}
use Rattle.block_device.specs.Device.{Device}
use Rattle.tree_shape.specs.Digests.{digest}
use Rattle.tree_shape.specs.Shape.{ShapeRecord, IsShape, ancestor, per_block, position}
use Rattle.hash_tree.specs.Tree.{filled}
use Rattle.verity_format.specs.Blocks.{block_at}
use Rattle.verity_format.specs.Image.{data_sectors, tree_sectors}
use Rattle.tree_path.specs.Unused.{digests_in}

-- ---- blocks by their height (a data block has height 0, a hash block of level l height l + 1) and their index in it

-- the blocks of a height whose digests are in block n of the height above
abbrev pub children : ShapeRecord → ℕ → ℕ → List ℕ
children s h n = range_with_len (n * per_block s) (min (per_block s) (digests_in s h - n * per_block s))

-- block n of a height as the data device and the hash device store it
abbrev pub standing_block : ShapeRecord → List (List ℕ) → List (List ℕ) → ℕ → ℕ → List ℕ
standing_block s data_image hash_image zero n = block_at data_image s.data_block n
standing_block s data_image hash_image (suc l) n = block_at hash_image s.hash_block (position s l n)

-- ---- reconstruction

-- A tree's shape and salt, what the two devices store, and a height: its blocks are taken as stored, and the blocks above it
-- are reconstructed.
pub record StoredTree : Type 0 where
  pub shape : ShapeRecord
  pub salt : List ℕ
  pub data_image : List (List ℕ)
  pub hash_image : List (List ℕ)
  pub height : ℕ

abbrev pub ground : ShapeRecord → List ℕ → Device → Device → ℕ → StoredTree
ground s salt data_dev hash_dev h = record { shape = s; salt = salt; data_image = data_dev.image; hash_image = hash_dev.image; height = h }

-- block n, so many heights above: the digests of the blocks below it in order, then zeros
unfoldable pub made : StoredTree → ℕ → ℕ → List ℕ
made g zero n = standing_block g.shape g.data_image g.hash_image g.height n
made g (suc steps) n = filled g.shape.hash_block (concat (map (λ i. digest g.salt (made g steps i)) (children g.shape (g.height + steps) n)))

-- the hash block of level l on the path to data block i
abbrev pub made_on : StoredTree → ℕ → ℕ → List ℕ
made_on g l i = made g (l + 1 - g.height) (ancestor g.shape (l + 1) i)

-- ---- on two devices

-- the data and the tree are within the devices
pub record HaveBlocks (s : ShapeRecord) (data_dev hash_dev : Device) : Type 0 where
  pub valid : IsShape s
  pub data_fits : data_sectors s ≤ data_dev.size
  pub tree_fits : tree_sectors s ≤ hash_dev.size

-- on a steady device these are the stored bytes of a block of that size
abbrev pub IsBlockOf : Device → ℕ → ℕ → List ℕ → Type 0
IsBlockOf device size n bytes = IsTrue device.steady → bytes ≡ block_at device.image size n

-- these are the stored bytes of a hash block of a level
abbrev pub IsHashBlockOf : Device → ShapeRecord → ℕ → ℕ → List ℕ → Type 0
IsHashBlockOf device s l n bytes = IsBlockOf device s.hash_block (position s l n) bytes

-- on steady devices these are the bytes
abbrev pub IsOver : Device → Device → List ℕ → List ℕ → Type 0
IsOver data_dev hash_dev bytes_are bytes = IsTrue data_dev.steady → IsTrue hash_dev.steady → bytes ≡ bytes_are

-- on steady devices these bytes have another digest
abbrev pub IsUnlike : List ℕ → Device → Device → List ℕ → List ℕ → Type 0
IsUnlike salt data_dev hash_dev digest_is bytes = IsTrue data_dev.steady → IsTrue hash_dev.steady → digest salt bytes ≢ digest_is

-- The hash block of level l on the path to data block i was reconstructed from the blocks of one height below it, on steady
-- devices from the stored ones. These are its bytes.
pub record IsMadeBeneath (s : ShapeRecord) (salt : List ℕ) (data_dev hash_dev : Device) (l i : ℕ) (bytes : List ℕ) : Type 0 where
  pub from : ℕ
  pub beneath : from ≤ l
  pub stand : IsOver data_dev hash_dev (made_on (ground s salt data_dev hash_dev from) l i) bytes

-- ---- a hash block that can't be reconstructed

-- the hash block of a level on the path to a data block, and its digest
pub record LostHash : Type 0 where
  pub shape : ShapeRecord
  pub salt : List ℕ
  pub level : ℕ
  pub index : ℕ
  pub digest_is : List ℕ

abbrev pub lost_hash : ShapeRecord → List ℕ → ℕ → ℕ → List ℕ → LostHash
lost_hash s salt l i digest_is = record { shape = s; salt = salt; level = l; index = i; digest_is = digest_is }

-- made from each of n heights from the first on, it has another digest, except for so many heights that weren't read
abbrev pub AreUnlikeFrom : LostHash → Device → Device → ℕ → ℕ → ℕ → Type 0
AreUnlikeFrom x data_dev hash_dev first zero unread = unread ≡ 0
AreUnlikeFrom x data_dev hash_dev first (suc n) unread =
    (IsUnlike x.salt data_dev hash_dev x.digest_is (made_on (ground x.shape x.salt data_dev hash_dev first) x.level x.index) × AreUnlikeFrom x data_dev hash_dev (suc first) n unread)
    ⊎ ((rest : ℕ) × ((unread ≡ suc rest) × AreUnlikeFrom x data_dev hash_dev (suc first) n rest))

-- two devices counted at least n failures, or a counter reached its maximum
abbrev pub HaveFailedTimes : Device → Device → ℕ → Device → Device → Type 0
HaveFailedTimes data_dev hash_dev n data_dev' hash_dev' =
    (data_dev.failures + hash_dev.failures + n ≤ data_dev'.failures + hash_dev'.failures) ⊎ ((2 ^ 64 - 1 ≤ data_dev'.failures) ⊎ (2 ^ 64 - 1 ≤ hash_dev'.failures))

-- From each height from the first on it was made with another digest, or a call failed. Each height that wasn't read is
-- counted.
pub record IsNowhereFrom (x : LostHash) (first : ℕ) (data_dev hash_dev data_dev' hash_dev' : Device) : Type 0 where
  pub unread : ℕ
  pub each : AreUnlikeFrom x data_dev hash_dev first (x.level + 1 - first) unread
  pub counted : HaveFailedTimes data_dev hash_dev unread data_dev' hash_dev'

-- from each height below it
abbrev pub IsNowhereBeneath : LostHash → Device → Device → Device → Device → Type 0
IsNowhereBeneath x data_dev hash_dev data_dev' hash_dev' = IsNowhereFrom x 0 data_dev hash_dev data_dev' hash_dev'
