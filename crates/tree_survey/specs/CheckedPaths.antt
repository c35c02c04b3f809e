-- The hash blocks on the path to a data block during a scan of data blocks.
use Rattle.std.specs.Prelude.{◌≡◌, ◌≢◌, ◌⊎◌, ℕ, ◌-◌, ◌<◌, ◌≤◌, nat_lt, true, false, IsTrue, List, Option, Some, None, if◌then◌else◌}
use Rattle.std.specs.Str.{bytes_eq}
use Rattle.block_device.specs.Device.{Device}
use Rattle.tree_shape.specs.Digests.{digest}
use Rattle.tree_shape.specs.Shape.{ShapeRecord, levels, per_block}
use Rattle.verity_format.specs.Image.{tree_sectors}
use Rattle.tree_path.specs.Path.{PathRecord, IsPathOf, LeadsTo, AreStored, block_of, digest_on}
use Rattle.tree_path.specs.Spans.{IsTopAt}
use Rattle.runs.specs.declared.kind.Kind.TheVariants.{Changed, Unknown}
use Rattle.runs.specs.Kinds.{State}
use Rattle.tree_survey.specs.declared.checked_path.CheckedPath.{CheckedPath}
use Rattle.tree_survey.specs.Failing.{HasFailedRead}

-- nothing was read
abbrev pub none_read : PathRecord → ShapeRecord → CheckedPath
none_read path shape = record { path = path; shape = shape; good = levels path.shape; unread = false }

-- the lowest level whose hash block was read: the one below those that verify, if it could be read
abbrev pub read_to : CheckedPath → ℕ
read_to w = if w.unread then w.good else w.good - 1

-- From a level up the hash blocks on the path to data block i verify. The one below that level, if there is one and it could be
-- read, doesn't. On a steady device the blocks that were read are the stored ones.
pub record IsOnWay (w : CheckedPath) (device : Device) (i : ℕ) : Type 0 where
  pub few : w.good ≤ levels w.path.shape
  pub leads : LeadsTo w.path i w.good
  pub bad : 0 < w.good → w.unread ≡ false → digest w.path.salt (block_of w.path (w.good - 1)) ≢ digest_on w.path i w.good
  pub stored : IsTrue device.steady → AreStored w.path device.image i (read_to w)

-- Data block i is the next one, and the greatest subtree that begins there has `top` levels: the hash blocks from that level up
-- stay on the path. If one of them doesn't verify, the path ends there as before.
pub record IsReady (w : CheckedPath) (device : Device) (i : ℕ) : Type 0 where
  pub stays : (top : ℕ) → IsTopAt (per_block w.path.shape) (levels w.path.shape) i top → top < w.good → IsOnWay w device i
  pub leads : (top : ℕ) → IsTopAt (per_block w.path.shape) (levels w.path.shape) i top → w.good ≤ top → LeadsTo w.path i top
  pub stored : IsTrue device.steady → (top : ℕ) → IsTopAt (per_block w.path.shape) (levels w.path.shape) i top → w.good ≤ top → AreStored w.path device.image i top

pub record CanGoDown (w : CheckedPath) (device : Device) (i : ℕ) : Type 0 where
  pub index : i < w.path.shape.blocks
  pub fits : tree_sectors w.path.shape ≤ device.size
  pub shape : w.shape ≡ w.path.shape
  pub ready : IsReady w device i

-- the hash blocks down to the first that doesn't verify are on the path to data block i too, and nothing is read
pub record HasStayed (old new : CheckedPath) (i : ℕ) : Type 0 where
  pub is : new ≡ old
  pub top : ℕ
  pub is_top : IsTopAt (per_block old.path.shape) (levels old.path.shape) i top
  pub low : top < old.good

-- The hash blocks on the path to data block i were read, down to the first that doesn't verify. If that block couldn't be read,
-- a read failed in this call, or the block is the one that couldn't be read before.
pub record HasGone (old new : CheckedPath) (device device' : Device) (i : ℕ) : Type 0 where
  pub same : IsPathOf old.path.shape old.path.salt old.path.root new.path
  pub shape : new.shape ≡ old.shape
  pub on : IsOnWay new device i
  pub failed : new.unread ≡ true → HasStayed old new i ⊎ ((0 < new.good) × HasFailedRead device device')

-- the state of a data block with that digest, if its hash blocks verify
abbrev pub state_by : PathRecord → ℕ → List ℕ → State
state_by p i found = if bytes_eq found (digest_on p i 0) then None else Some Changed

abbrev pub state_with : PathRecord → ℕ → Option (List ℕ) → State
state_with p i (Some found) = state_by p i found
state_with p i None = Some Changed

-- the state of a data block at the end of a path; none for the digest if the block couldn't be read
abbrev pub state_at : CheckedPath → ℕ → Option (List ℕ) → State
state_at w i found = if nat_lt 0 w.good then Some Unknown else state_with w.path i found
