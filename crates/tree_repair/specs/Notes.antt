-- The notes about the blocks that are due, in the forms that functions state.
use Rattle.std.specs.Prelude.{ℕ, List, Option, Result}
use Rattle.program_io.specs.Counted.{CountedRecord}
use Rattle.tree_repair.specs.declared.bad.BadBlocks.{BadBlocks}
use Rattle.tree_repair.specs.declared.fault.RepairFault.{RepairFault}
use Rattle.tree_repair.specs.declared.place.Place.{Place}
use Rattle.tree_repair.specs.declared.place.Repair.{Repair}
use Rattle.tree_repair.specs.declared.place.Row.{Row}
use Rattle.tree_repair.specs.Coverage.{IsBlockAt, IsFromTo, IsFromUp, IsOfRow}
use Rattle.tree_repair.specs.Jobs.{job}
use Rattle.tree_repair.specs.Passes.{Notes}
use Rattle.tree_repair.specs.Worlds.{RepairWorld}

-- the blocks from a height up
abbrev pub NotesFrom : {W T : Type 0} → (W → Option (List ℕ)) → Repair → ℕ → RepairWorld → RepairWorld → BadBlocks → BadBlocks → CountedRecord W → CountedRecord W → Result T RepairFault → Type 0
NotesFrom contents r low w w' a b old new result = Notes contents (job r) (IsFromUp r.shape low) w w' a b old new result

-- the blocks of a height
abbrev pub NotesHeight : {W T : Type 0} → (W → Option (List ℕ)) → Repair → ℕ → RepairWorld → RepairWorld → BadBlocks → BadBlocks → CountedRecord W → CountedRecord W → Result T RepairFault → Type 0
NotesHeight contents r height w w' a b old new result = Notes contents (job r) (IsFromTo height 0 r.shape.blocks) w w' a b old new result

-- the blocks of a row
abbrev pub NotesRow : {W T : Type 0} → (W → Option (List ℕ)) → Repair → Row → RepairWorld → RepairWorld → BadBlocks → BadBlocks → CountedRecord W → CountedRecord W → Result T RepairFault → Type 0
NotesRow contents r row w w' a b old new result = Notes contents (job r) (IsOfRow row) w w' a b old new result

-- one block
abbrev pub NotesAt : {W T : Type 0} → (W → Option (List ℕ)) → Repair → Place → RepairWorld → RepairWorld → BadBlocks → BadBlocks → CountedRecord W → CountedRecord W → Result T RepairFault → Type 0
NotesAt contents r place w w' a b old new result = Notes contents (job r) (IsBlockAt r.shape place) w w' a b old new result
