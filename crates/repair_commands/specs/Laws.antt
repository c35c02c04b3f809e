-- What an image stores after a repair.
use Rattle.std.specs.Prelude.{◌⊎◌, ℕ, Bool, IsTrue, List, Option}
use Rattle.block_device.specs.Device.{Device}
use Rattle.tree_path.specs.Laws.{Collide}
use Rattle.tree_repair.specs.declared.repair.Plan.{Plan}
use Rattle.tree_repair.specs.Standing.{IsWorldSteady}
use Rattle.tree_repair.specs.Valid.{AreAllValid}
use Rattle.tree_repair.specs.Worlds.{RepairWorld}
use Rattle.tree_survey.specs.Passes.{tree_under}
use Rattle.verity_commands.specs.Surveyed.{SurveyedDevices}
use Rattle.repair_commands.specs.declared.parity.LaidParity.{LaidParity}
use Rattle.repair_commands.specs.ByParity.{MendsByParity}
use Rattle.repair_commands.specs.Commands.{MendsAndTells, RepairsDevices}

-- both devices are steady still, and all blocks are valid under the root hash, or two different inputs have one digest
pub record IsRepaired (plan : Plan) (t : SurveyedDevices) : Type 0 where
  pub data_steady : IsTrue t.data_dev.steady
  pub hash_steady : IsTrue t.hash_dev.steady
  pub valid : AreAllValid (tree_under plan.tree plan.root) t.data_dev.image t.hash_dev.image ⊎ Collide plan.tree.salt

-- this holds after a repair from copies that succeeded, if both devices were steady before it, whatever the copies returned
abbrev pub RepairedImagesAreValid : Type 0
RepairedImagesAreValid = (plan : Plan) → (whole : Bool) → (w : RepairWorld) → (t' : SurveyedDevices) → (old new : Option (List ℕ)) → RepairsDevices plan whole w t' old new → IsWorldSteady w → IsRepaired plan t'

-- this also holds after a repair by parity that succeeded, whatever the copies and the parity device returned
abbrev pub ImagesRepairedByParityAreValid : {D : Type 0} → (D → Device) → Type 0
ImagesRepairedByParityAreValid {D} state =
    (plan : Plan) → (whole : Bool) → (laid : LaidParity D) → (w : RepairWorld) → (t' : SurveyedDevices) → (old new : Option (List ℕ)) → MendsAndTells (MendsByParity state plan laid w old) whole plan new t' → IsWorldSteady w
    → IsRepaired plan t'
