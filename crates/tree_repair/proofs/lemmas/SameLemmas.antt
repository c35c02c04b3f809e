-- What a repair doesn't change of its devices: their sizes, and whether they may be written.
use Rattle.std.proofs.Common.{ℕ, Bool, List, Option, Some, inl, inr, subst, sym}
use Rattle.block_device.specs.Device.{IsSameDevice}
use Rattle.verity_format.proofs.lemmas.DeviceLemmas.{same-none}
use Rattle.tree_repair.specs.declared.fault.RepairFault.{RepairFault}
use Rattle.tree_repair.specs.declared.repair.Plan.{Plan}
use Rattle.tree_repair.specs.Repairs.{IsUnrepairedBy, Repairs, job_of}
use Rattle.tree_repair.specs.Worlds.{RepairWorld}
use Rattle.tree_repair.proofs.RunLemmas.{runs-same}

pub repaired-same : (plan : Plan) (parity : Bool) (w w' : RepairWorld) (old new : Option (List ℕ)) (fault : Option RepairFault) → Repairs plan parity w w' old new fault
    → IsSameDevice w.data_dev w'.data_dev × IsSameDevice w.hash_dev w'.hash_dev
repaired-same plan parity w w' old new fault repairs =
    let same = runs-same (job_of plan parity) repairs.run.visits w w' repairs.run.runs in (same.data_same, same.hash_same)

-- of a repair that ended early
pub unrepaired-same : (plan : Plan) (parity : Bool) (w w' : RepairWorld) (old new : Option (List ℕ)) (fault : RepairFault) → IsUnrepairedBy plan parity w w' old new fault
    → IsSameDevice w.data_dev w'.data_dev × IsSameDevice w.hash_dev w'.hash_dev
unrepaired-same plan parity w w' old new fault (inl past) = subst (λ (x : RepairWorld). IsSameDevice w.data_dev x.data_dev × IsSameDevice w.hash_dev x.hash_dev) (sym past.same) (same-none w.data_dev, same-none w.hash_dev)
unrepaired-same plan parity w w' old new fault (inr repairs) = repaired-same plan parity w w' old new (Some fault) repairs
