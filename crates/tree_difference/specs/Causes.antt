-- Why a comparison of two trees ends early.
use Rattle.std.specs.Prelude.{◌≡◌, ◌≢◌, ℕ, ◌+◌, ◌<◌, IsTrue, List}
use Rattle.block_device.specs.Device.{Device, HasFailed}
use Rattle.tree_shape.specs.Digests.{digest}
use Rattle.tree_shape.specs.Shape.{ShapeRecord, ancestor, levels}
use Rattle.verity_format.specs.declared.verifying.VerifyFault.TheVariants.{Device as DeviceFailed}
use Rattle.tree_path.specs.Path.{PathRecord, IsPathOf, LeadsTo, AreStored, block_of, digest_on}
use Rattle.tree_path.specs.Steps.{Steps, IsStopped, steps}
use Rattle.tree_difference.specs.declared.fault.DifferenceFault.{DifferenceFault}
use Rattle.tree_difference.specs.declared.fault.DifferenceFault.TheVariants.{Image, Hash}
use Rattle.tree_difference.specs.declared.fault.Which.{Which}
use Rattle.tree_difference.specs.declared.fault.Which.TheVariants.{First, Second}
use Rattle.tree_difference.specs.declared.walk.Walk.{Walk}

-- the hash block of a level on the path to a data block has another digest than its parent stores, or the device failed
abbrev pub IsWayCause : Steps → Which → ℕ → DifferenceFault → Type 0
IsWayCause w which to (Hash tree level number) = (tree ≡ which) × IsStopped w to level × (number ≡ ancestor w.old.shape (level + 1) w.index)
IsWayCause w which to (Image tree DeviceFailed) = (tree ≡ which) × HasFailed w.device w.device'
IsWayCause w which to fault = ⊥

-- The hash block of that level and index has another digest than its parent stores, and those above it verify. On a steady
-- device this is the stored block.
pub record IsBadBlock (shape : ShapeRecord) (salt root : List ℕ) (device : Device) (level number : ℕ) : Type 0 where
  pub path : PathRecord
  pub index : ℕ
  pub is_of : IsPathOf shape salt root path
  pub inside : index < shape.blocks
  pub low : level < levels shape
  pub number_is : number ≡ ancestor shape (level + 1) index
  pub leads : LeadsTo path index (level + 1)
  pub bad : digest path.salt (block_of path level) ≢ digest_on path index (level + 1)
  pub stored : IsTrue device.steady → AreStored path device.image index level

-- a hash block that fails verification is the first of its level
abbrev pub IsFirstBlock : DifferenceFault → Type 0
IsFirstBlock (Hash tree level number) = number ≡ 0
IsFirstBlock fault = Unit {0}

-- why a walk ends early
abbrev pub IsWalkCause : Walk → Device → Device → Device → Device → DifferenceFault → Type 0
IsWalkCause w first second first' second' (Hash First level number) = IsBadBlock w.first.shape w.first.salt w.first.root first level number
IsWalkCause w first second first' second' (Hash Second level number) = IsBadBlock w.second.shape w.second.salt w.second.root second level number
IsWalkCause w first second first' second' (Image First DeviceFailed) = HasFailed first first'
IsWalkCause w first second first' second' (Image Second DeviceFailed) = HasFailed second second'
IsWalkCause w first second first' second' fault = ⊥

-- ---- causes for calls: the devices before and after, as a proof sees them

-- why the hash blocks on the path to a data block weren't all read and verified
abbrev pub FailsToReadDown : {H : Type 0} → (H → Device) → PathRecord → PathRecord → H → H → ℕ → ℕ → Which → ℕ → DifferenceFault → Type 0
FailsToReadDown state old new h h' index from which to fault = IsWayCause (steps old new (state h) (state h') index from) which to fault

-- why a walk ended early
abbrev pub EndsWalk : {D E : Type 0} → (D → Device) → (E → Device) → Walk → D → E → D → E → DifferenceFault → Type 0
EndsWalk first_state second_state w d e d' e' fault = IsWalkCause w (first_state d) (second_state e) (first_state d') (second_state e') fault
