-- Data blocks that are copied within the data image, or fetched in runs.
use Rattle.std.specs.Prelude.{◌≡◌, ◌⊎◌, ℕ, Bool, true, false, List, Option, None}
use Rattle.program_io.specs.Counted.{CountedRecord}
use Rattle.tree_repair.specs.declared.fault.RepairFault.{RepairFault}
use Rattle.tree_repair.specs.declared.fault.RepairFault.TheVariants.{Write}
use Rattle.tree_repair.specs.declared.repair.Plan.{Plan}
use Rattle.tree_repair.specs.Moves.{MovesBlocks}
use Rattle.tree_repair.specs.Repairs.{IsUnrepairedBy}
use Rattle.tree_repair.specs.Runs.{IsWriterCause}
use Rattle.tree_repair.specs.Worlds.{RepairWorld}

-- the tree was repaired, and data blocks were copied, so many by lists, and fetched; their lines were printed, or nothing with `--json`
abbrev pub MovesListed : Bool → Plan → RepairWorld → RepairWorld → Option (List ℕ) → Option (List ℕ) → ℕ → Type 0
MovesListed true plan w w' old new count = MovesBlocks plan w w' None None count × (new ≡ old)
MovesListed false plan w w' old new count = MovesBlocks plan w w' old new count

-- it ended early
abbrev pub FailsToMove : Plan → RepairWorld → RepairWorld → RepairFault → Type 0
FailsToMove plan w w' fault = IsUnrepairedBy plan true w w' None None fault

-- the moves were made; or they ended because a line couldn't be written, although nothing is printed
abbrev pub MovesUnheard : Plan → RepairWorld → RepairWorld → Type 0
MovesUnheard plan w w' = ((count : ℕ) × MovesBlocks plan w w' None None count) ⊎ FailsToMove plan w w' Write

-- ---- in terms of a writer before and after

-- the writer failed, if lines were printed and one couldn't be
abbrev pub IsCutBy : {W : Type 0} → Bool → CountedRecord W → RepairFault → Type 0
IsCutBy json writer fault = json ≡ false → IsWriterCause writer fault

abbrev pub AreMovedSilently : Plan → RepairWorld → RepairWorld → ℕ → Type 0
AreMovedSilently plan w w' count = MovesBlocks plan w w' None None count

abbrev pub AreListedMoved : {W : Type 0} → (W → Option (List ℕ)) → Bool → Plan → RepairWorld → RepairWorld → CountedRecord W → CountedRecord W → ℕ → Type 0
AreListedMoved contents json plan w w' before behind count = MovesListed json plan w w' (contents before.inner) (contents behind.inner) count
