-- The superblock after an update that ended early.
use Rattle.std.specs.Prelude.{true, ◌≡◌, ◌⊎◌, ℕ, Bool, false, IsTrue, List, [], Option}
use Rattle.std.specs.List.{slice_index_or}
use Rattle.block_device.specs.Device.{Device}
use Rattle.image_commands.specs.Clearing.{begins_super}
use Rattle.repair_commands.specs.declared.counters.Counters.{Counters}
use Rattle.tree_repair.specs.declared.fault.RepairFault.TheVariants.{Write as Unprinted}
use Rattle.tree_repair.specs.Worlds.{RepairWorld}
use Rattle.verity_commands.specs.declared.tree_fault.TreeFault.{TreeFault}
use Rattle.verity_commands.specs.Surveyed.{SurveyedDevices}
use Rattle.verity_format.specs.Blocks.{IsOnlyRead}
use Rattle.update_commands.specs.declared.release.Release.{Release}
use Rattle.update_commands.specs.Beginnings.{Begins}
use Rattle.update_commands.specs.Moving.{FailsToMove, MovesListed}
use Rattle.update_commands.specs.Releases.{plan_of}
use Rattle.update_commands.specs.Repaired.{EndsAloud}
use Rattle.update_commands.specs.Updates.{EndsMoving, begun_world}

-- the first sector of the device doesn't begin as a superblock does
abbrev pub HasNoSuper : Device → Type 0
HasNoSuper device = begins_super (slice_index_or device.image 0 []) ≡ false

-- the moves were made, or ended because a line couldn't be written, and the repair ended early, or not all blocks are valid
pub record EndsUnrepaired (r : Release) (json : Bool) (w : RepairWorld) (t' : SurveyedDevices) (fault : TreeFault) : Type 0 where
  pub moved : RepairWorld
  pub old : Option (List ℕ)
  pub between : Option (List ℕ)
  pub new : Option (List ℕ)
  pub failed : Bool
  pub counters : Counters
  pub count : ℕ
  pub moves : MovesListed json (plan_of r) w moved old between count ⊎ FailsToMove (plan_of r) w moved Unprinted
  pub ends : EndsAloud json (plan_of r) moved t' between new failed counters fault

-- the moves, or what came after them, ended early, and the update went on from these devices
pub record EndsOnce (r : Release) (json : Bool) (w again : RepairWorld) (cause : TreeFault) : Type 0 where
  pub t : SurveyedDevices
  pub ends : EndsMoving r w t cause ⊎ EndsUnrepaired r json w t cause
  pub hash_same : again.hash_dev ≡ t.hash_dev

-- it ended early again
pub record EndsTwice (r : Release) (json : Bool) (w : RepairWorld) (t' : SurveyedDevices) (fault : TreeFault) : Type 0 where
  pub again : RepairWorld
  pub cause : TreeFault
  pub once : EndsOnce r json w again cause
  pub ends : EndsMoving r again t' fault ⊎ EndsUnrepaired r true again t' fault

-- The superblock was cleared, and then the moves or the repair ended early, or not all blocks are valid; or so they did after the writer
-- failed.
pub record EndsUnsealedEarly (r : Release) (json : Bool) (w : RepairWorld) (t' : SurveyedDevices) : Type 0 where
  pub looked : Device
  pub seen : List Device
  pub cleared : Device
  pub fault : TreeFault
  pub read : IsOnlyRead w.hash_dev looked
  pub begins : Begins r.superblock w.data_dev looked cleared
  pub ends : (EndsMoving r (begun_world w cleared seen) t' fault ⊎ EndsUnrepaired r json (begun_world w cleared seen) t' fault) ⊎ EndsTwice r json (begun_world w cleared seen) t' fault

-- a steady hash device has no superblock then
abbrev pub EarlyEndsLeaveNoSuperblock : Type 0
EarlyEndsLeaveNoSuperblock = (r : Release) → (json : Bool) → (w : RepairWorld) → (t' : SurveyedDevices) → EndsUnsealedEarly r json w t' → IsTrue w.hash_dev.steady → HasNoSuper t'.hash_dev
