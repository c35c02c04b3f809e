-- The check of a block whose digest is known.
use Rattle.std.specs.Prelude.{ℕ, ◌/◌, true, IfOk, List, OnErr, Result, Vec, length, map}
use Rattle.block_device.specs.Device.{Device}
use Rattle.tree_repair.specs.declared.mending.Mended.{Mended}
use Rattle.tree_repair.specs.declared.mending.WantedBlock.{WantedBlock}
use Rattle.tree_repair.specs.Mending.{IsMended, IsUnmended, BlockCheck}
use Rattle.tree_repair.specs.Sources.{wanted}
use Rattle.tree_repair.specs.Worlds.{RepairWorld}

abbrev pub look : WantedBlock → ℕ → Device → Device → List Device → List Device → BlockCheck
look s sectors old new copies copies' = record {
  old = old;
  new = new;
  copies = copies;
  copies' = copies';
  first = s.first;
  copy_first = s.copy_first;
  w = wanted s.repair.now.salt s.digest sectors;
  write = s.repair.now.write;
}

-- the check of a hash block of an image
abbrev pub tree_look : WantedBlock → List ℕ → RepairWorld → RepairWorld → BlockCheck
tree_look s block w w' = look s (length block / 512) w.hash_dev w'.hash_dev w.hash_copies w'.hash_copies

-- the check of a block as long as a buffer, by the states of its device and the copies
abbrev pub look_by : {B C Z : Type 0} → (B → Device) → (C → Device) → WantedBlock → List ℕ → B → B → Vec C Z → Vec C Z → BlockCheck
look_by state copy_state s block old new copies copies' = look s (length block / 512) (state old) (state new) (map copy_state copies.items) (map copy_state copies'.items)

-- the result of the check
abbrev pub MendsBlock : {B C Z E : Type 0} → (B → Device) → (C → Device) → WantedBlock → List ℕ → B → B → Vec C Z → Vec C Z → Result Mended E → Type 0
MendsBlock state copy_state s block old new copies copies' result = IfOk result (λ m. (bytes : List ℕ) × IsMended (look_by state copy_state s block old new copies copies') bytes true m)

-- the block was found in a copy, but its write failed
abbrev pub FailsToMend : {B C Z T E : Type 0} → (B → Device) → (C → Device) → WantedBlock → List ℕ → B → B → Vec C Z → Vec C Z → Result T E → Type 0
FailsToMend state copy_state s block old new copies copies' result = OnErr result (IsUnmended (look_by state copy_state s block old new copies copies'))
