-- The paths down two trees to one data block.
use Rattle.std.specs.Prelude.{◌≡◌, ◌≢◌, ℕ, ◌+◌, ◌-◌, ◌*◌, ◌/◌, ◌<◌, ◌≤◌, Bool, false, IsTrue}
use Rattle.std.specs.Str.{bytes_eq}
use Rattle.block_device.specs.Device.{Device}
use Rattle.tree_shape.specs.Shape.{ancestor, levels}
use Rattle.verity_format.specs.Blocks.{IsFullRead}
use Rattle.verity_format.specs.Image.{tree_sectors}
use Rattle.tree_path.specs.Path.{PathRecord, IsPathOf, LeadsTo, AreStored, digest_on}
use Rattle.tree_path.specs.Steps.{IsDown, steps}
use Rattle.tree_difference.specs.declared.fault.DifferenceFault.{DifferenceFault}
use Rattle.tree_difference.specs.declared.fault.DifferenceFault.TheVariants.{Hash}
use Rattle.tree_difference.specs.declared.fault.Which.TheVariants.{First, Second}
use Rattle.tree_difference.specs.declared.walk.Stop.{Stop}
use Rattle.tree_difference.specs.declared.walk.Walk.{Walk}

-- two walks and their devices, before and after
pub record WalkSides : Type 0 where
  pub old : Walk
  pub new : Walk
  pub first : Device
  pub second : Device
  pub first' : Device
  pub second' : Device

abbrev pub walk_sides : Walk → Walk → Device → Device → Device → Device → WalkSides
walk_sides old new first second first' second' = record { old = old; new = new; first = first; second = second; first' = first'; second' = second' }

-- both walks are of the same two trees
pub record AreSameTrees (old new : Walk) : Type 0 where
  pub first : IsPathOf old.first.shape old.first.salt old.first.root new.first
  pub second : IsPathOf old.second.shape old.second.salt old.second.root new.second
  pub shape : new.shape ≡ old.shape
  pub levels : new.levels ≡ old.levels
  pub blocks : new.blocks ≡ old.blocks

-- Both paths lead to data block i from level k up, on steady devices by the stored blocks, and their digests differ above.
pub record IsOn (w : Walk) (first second : Device) (i k : ℕ) : Type 0 where
  pub first_leads : LeadsTo w.first i k
  pub second_leads : LeadsTo w.second i k
  pub first_stored : IsTrue first.steady → AreStored w.first first.image i k
  pub second_stored : IsTrue second.steady → AreStored w.second second.image i k
  pub differ : (m : ℕ) → k < m → m ≤ w.levels → digest_on w.first i m ≢ digest_on w.second i m

-- both trees have the data block, and fit on the devices
pub record HaveBlock (w : Walk) (first second : Device) (i : ℕ) : Type 0 where
  pub first_levels : w.levels ≤ levels w.first.shape
  pub second_levels : w.levels ≤ levels w.second.shape
  pub first_block : i < w.first.shape.blocks
  pub second_block : i < w.second.shape.blocks
  pub first_fits : tree_sectors w.first.shape ≤ first.size
  pub second_fits : tree_sectors w.second.shape ≤ second.size

pub record CanWalk (w : Walk) (first second : Device) (i top : ℕ) : Type 0 where
  pub have : HaveBlock w first second i
  pub on : IsOn w first second i top
  pub few : top ≤ w.levels

pub record CanEnter (w : Walk) (first second : Device) (i level : ℕ) : Type 0 where
  pub have : HaveBlock w first second i
  pub on : IsOn w first second i (level + 1)
  pub low : level < w.levels

-- the hash blocks of that level were read and verify
pub record HasEntered (s : WalkSides) (i level : ℕ) : Type 0 where
  pub first : IsDown (steps s.old.first s.new.first s.first s.first' i (level + 1)) level level
  pub second : IsDown (steps s.old.second s.new.second s.second s.second' i (level + 1)) level level
  pub shape : s.new.shape ≡ s.old.shape
  pub levels : s.new.levels ≡ s.old.levels
  pub blocks : s.new.blocks ≡ s.old.blocks

-- The hash blocks of the levels from top - 1 down to `level` were read, each once. There the digests are equal, or those of the
-- data block differ.
pub record HasStopped (s : WalkSides) (i top level : ℕ) (same : Bool) : Type 0 where
  pub trees : AreSameTrees s.old s.new
  pub few : level ≤ top
  pub on : IsOn s.new s.first s.second i level
  pub test : same ≡ bytes_eq (digest_on s.new.first i level) (digest_on s.new.second i level)
  pub last : same ≡ false → level ≡ 0
  pub first_read : IsFullRead s.first ((top - level) * (s.old.first.shape.hash_block / 512)) s.first'
  pub second_read : IsFullRead s.second ((top - level) * (s.old.second.shape.hash_block / 512)) s.second'

-- a hash block that fails verification is below level `top` on the path to data block i
abbrev pub IsOnWay : Walk → ℕ → ℕ → DifferenceFault → Type 0
IsOnWay w i top (Hash First level number) = (level < top) × (number ≡ ancestor w.first.shape (level + 1) i)
IsOnWay w i top (Hash Second level number) = (level < top) × (number ≡ ancestor w.second.shape (level + 1) i)
IsOnWay w i top fault = Unit {0}

-- ---- relations for calls: the two devices before and after, as a proof sees them

-- the hash blocks of that level were read in both trees, and verify
abbrev pub Enters : {D E : Type 0} → (D → Device) → (E → Device) → Walk → Walk → D → E → D → E → ℕ → ℕ → Type 0
Enters first_state second_state old new d e d' e' i level = HasEntered (walk_sides old new (first_state d) (second_state e) (first_state d') (second_state e')) i level

-- the descent from level `top` ended at that level
abbrev pub StopsWalk : {D E : Type 0} → (D → Device) → (E → Device) → Walk → Walk → D → E → D → E → ℕ → ℕ → Stop → Type 0
StopsWalk first_state second_state old new d e d' e' i top stop = HasStopped (walk_sides old new (first_state d) (second_state e) (first_state d') (second_state e')) i top stop.level stop.same

-- the hash blocks on the path to a data block, from one level down to another, were read and verify
abbrev pub ReadsDown : {H : Type 0} → (H → Device) → PathRecord → PathRecord → H → H → ℕ → ℕ → ℕ → Type 0
ReadsDown state old new h h' index from to = IsDown (steps old new (state h) (state h') index from) to to
