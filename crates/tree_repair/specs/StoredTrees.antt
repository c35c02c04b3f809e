-- Hash blocks reconstructed from what the devices of an image store.
use Rattle.std.specs.Prelude.{◌⊎◌, ℕ, List}
use Rattle.fec_area.specs.Rounds.{HasOneFailed}
use Rattle.tree_shape.specs.Shape.{ShapeRecord}
use Rattle.tree_repair.specs.declared.place.Repair.{Repair}
use Rattle.tree_repair.specs.declared.remaking.Making.{Making}
use Rattle.tree_repair.specs.Remaking.{IsMadeBeneath, IsNowhereBeneath, IsOver, IsUnlike, ground, lost_hash, made, standing_block}
use Rattle.tree_repair.specs.Worlds.{RepairWorld}

-- the block that is made
abbrev pub made_in : Repair → RepairWorld → Making → List ℕ
made_in r w m = made (ground r.shape r.salt w.data_dev w.hash_dev m.from) m.steps m.number

-- block n of a height as it is stored
abbrev pub stands_in : ShapeRecord → RepairWorld → ℕ → ℕ → List ℕ
stands_in s w h n = standing_block s w.data_dev.image w.hash_dev.image h n

abbrev pub IsOverIn : RepairWorld → List ℕ → List ℕ → Type 0
IsOverIn w bytes_are bytes = IsOver w.data_dev w.hash_dev bytes_are bytes

-- a call of one of the two devices failed
abbrev pub HasOneFailedIn : RepairWorld → RepairWorld → Type 0
HasOneFailedIn w w' = HasOneFailed w.data_dev w.hash_dev w'.data_dev w'.hash_dev

-- a call failed, or on steady devices these bytes have another digest
abbrev pub IsUnmadeIn : Repair → RepairWorld → RepairWorld → List ℕ → List ℕ → Type 0
IsUnmadeIn r w w' digest_is bytes = HasOneFailedIn w w' ⊎ IsUnlike r.salt w.data_dev w.hash_dev digest_is bytes

abbrev pub IsMadeIn : Repair → RepairWorld → ℕ → ℕ → List ℕ → Type 0
IsMadeIn r w l i bytes = IsMadeBeneath r.shape r.salt w.data_dev w.hash_dev l i bytes

abbrev pub IsNowhereIn : Repair → RepairWorld → RepairWorld → ℕ → ℕ → List ℕ → Type 0
IsNowhereIn r w w' l i digest_is = IsNowhereBeneath (lost_hash r.shape r.salt l i digest_is) w.data_dev w.hash_dev w'.data_dev w'.hash_dev
