-- The effects of a repair of an image.
use Rattle.std.specs.Prelude.{◌≡◌, ◌⊎◌, ℕ, Bool, true, false, IsTrue, List, Option, None, Some, ◌<◌, ◌≤◌}
use Rattle.block_device.specs.Device.{Device}
use Rattle.program_io.specs.Counted.{CountedRecord}
use Rattle.fec_area.specs.declared.layout.Layout.{Layout}
use Rattle.tree_shape.specs.Shape.{IsShape, ShapeRecord, levels}
use Rattle.verity_format.specs.declared.verifying.VerifyFault.TheVariants.{TooSmall}
use Rattle.verity_format.specs.Image.{data_sectors, tree_sectors}
use Rattle.tree_survey.specs.Passes.{tree_under}
use Rattle.tree_repair.specs.declared.fault.RepairFault.{RepairFault}
use Rattle.tree_repair.specs.declared.fault.RepairFault.TheVariants.{Image}
use Rattle.tree_repair.specs.declared.repair.Plan.{Plan}
use Rattle.tree_repair.specs.Coverage.{IsLookedAt}
use Rattle.tree_repair.specs.Passes.{EndsInPass}
use Rattle.tree_repair.specs.Runs.{HasRun, Job}
use Rattle.tree_repair.specs.Worlds.{RepairWorld}

-- the repair of the plan's tree under its root hash, with parity or without
abbrev pub job_of : Plan → Bool → Job
job_of plan parity = record { tree = tree_under plan.tree plan.root; copy_first = plan.copy_first; write = plan.write; parity = parity }

-- the devices are writable if the repair may write
pub record IsAllowed (write : Bool) (data_dev hash_dev : Device) : Type 0 where
  pub data_writable : IsTrue write → IsTrue data_dev.may_write
  pub hash_writable : IsTrue write → IsTrue hash_dev.may_write

-- there is a tree of that shape, and it and the data fit on the devices
pub record LiesOn (shape : ShapeRecord) (w : RepairWorld) : Type 0 where
  pub valid : IsShape shape
  pub data_fits : data_sectors shape ≤ w.data_dev.size
  pub tree_fits : tree_sectors shape ≤ w.hash_dev.size

-- the blocks of the plan's tree were visited, to the end or up to a fault
pub record Repairs (plan : Plan) (parity : Bool) (w w' : RepairWorld) (old new : Option (List ℕ)) (fault : Option RepairFault) : Type 0 where
  pub lies : LiesOn plan.tree.shape w
  pub run : HasRun (job_of plan parity) w w' old new fault

-- a repair to the end without parity, by the writer before and after
abbrev pub IsRepair : {W : Type 0} → (W → Option (List ℕ)) → Plan → RepairWorld → RepairWorld → CountedRecord W → CountedRecord W → Type 0
IsRepair contents plan w w' old new = Repairs plan false w w' (contents old.inner) (contents new.inner) None

-- a repair to the end with parity, by the writer before and after
abbrev pub IsParityRepair : {W : Type 0} → (W → Option (List ℕ)) → Plan → RepairWorld → RepairWorld → CountedRecord W → CountedRecord W → Type 0
IsParityRepair contents plan w w' old new = Repairs plan true w w' (contents old.inner) (contents new.inner) None

-- the run, whose lines were printed, visited each block of the tree to which verified hash blocks led
pub record LooksAtAll (plan : Plan) (w w' : RepairWorld) (old new : Option (List ℕ)) : Type 0 where
  pub repairs : Repairs plan false w w' old new None
  pub looked : (h i : ℕ) → h ≤ levels plan.tree.shape → i < plan.tree.shape.blocks → IsLookedAt (job_of plan false) h i repairs.run.visits w w'

-- such a repair, by the writer before and after
abbrev pub IsGoneOver : {W : Type 0} → (W → Option (List ℕ)) → Plan → RepairWorld → RepairWorld → CountedRecord W → CountedRecord W → Type 0
IsGoneOver contents plan w w' old new = LooksAtAll plan w w' (contents old.inner) (contents new.inner)

-- The blocks of the tree were visited to the end, in passes. In each pass the blocks that were found nowhere were sought by
-- parity.
pub record SeeksByParity (plan : Plan) (l : Layout) (w w' : RepairWorld) (p p' : Device) : Type 0 where
  pub lies : LiesOn plan.tree.shape w
  pub ends : EndsInPass (job_of plan true) l w w' p p'

-- such a repair, by the states of the parity device
abbrev pub IsSoughtByParity : {P : Type 0} → (P → Device) → Plan → Layout → RepairWorld → RepairWorld → P → P → Type 0
IsSoughtByParity state plan l w w' old new = SeeksByParity plan l w w' (state old) (state new)

-- ---- why there was no image to repair

-- the data or the tree don't fit on their device, and no device was accessed
pub record GoesPast (shape : ShapeRecord) (w w' : RepairWorld) (fault : RepairFault) : Type 0 where
  pub past : (w.data_dev.size < data_sectors shape) ⊎ (w.hash_dev.size < tree_sectors shape)
  pub is : fault ≡ Image TooSmall
  pub same : w' ≡ w

-- the data or the tree don't fit; or the blocks were visited up to that fault, which has its cause
abbrev pub IsUnrepairedBy : Plan → Bool → RepairWorld → RepairWorld → Option (List ℕ) → Option (List ℕ) → RepairFault → Type 0
IsUnrepairedBy plan parity w w' old new fault = GoesPast plan.tree.shape w w' fault ⊎ Repairs plan parity w w' old new (Some fault)

abbrev pub IsUnrepaired : {W : Type 0} → (W → Option (List ℕ)) → Plan → RepairWorld → RepairWorld → CountedRecord W → CountedRecord W → RepairFault → Type 0
IsUnrepaired contents plan w w' old new fault = IsUnrepairedBy plan false w w' (contents old.inner) (contents new.inner) fault

abbrev pub IsParityUnrepaired : {W : Type 0} → (W → Option (List ℕ)) → Plan → RepairWorld → RepairWorld → CountedRecord W → CountedRecord W → RepairFault → Type 0
IsParityUnrepaired contents plan w w' old new fault = IsUnrepairedBy plan true w w' (contents old.inner) (contents new.inner) fault
