-- Repairs of which counters are known.
use Rattle.std.proofs.Common.{◌≡◌, ◌⊎◌, ℕ, Bool, List, Option, inl, inr}
use Rattle.tree_repair.specs.declared.repair.Plan.{Plan}
use Rattle.tree_repair.specs.Worlds.{RepairWorld}
use Rattle.verity_commands.specs.declared.tree_fault.TreeFault.{TreeFault}
use Rattle.verity_commands.specs.Surveyed.{SurveyedDevices}
use Rattle.repair_commands.specs.declared.counters.Counters.{Counters}
use Rattle.repair_commands.specs.Commands.{EndsCounted, EndsOnDevices}

-- how a repair ended, without its counters
pub counted-ends : (plan : Plan) (whole : Bool) (w : RepairWorld) (t' : SurveyedDevices) (old new : Option (List ℕ)) (failed : Bool) (n : Counters) (fault : TreeFault) → EndsCounted plan whole w t' old new failed n fault
    → EndsOnDevices plan whole w t' old new failed fault
counted-ends plan whole w t' old new failed n fault (inl (ends, counted)) = inl ends
counted-ends plan whole w t' old new failed n fault (inr (ends, counted)) = inr ends
