-- What is noted of a block after a visit.
use Rattle.std.specs.Prelude.{◌≡◌, ◌++◌, ℕ, IsTrue, Bool, true, false, List, [], ◌∷◌, Option, None, Some}
use Rattle.tree_repair.specs.declared.bad.BadBlock.{BadBlock}
use Rattle.tree_repair.specs.declared.bad.BadBlocks.{BadBlocks}
use Rattle.tree_repair.specs.declared.mending.Mended.{Mended}
use Rattle.tree_repair.specs.declared.mending.Mended.TheVariants as mended
use Rattle.tree_repair.specs.declared.outcome.Outcome.{Outcome}
use Rattle.tree_repair.specs.declared.outcome.Outcome.TheVariants.{Partly, Whole}
use Rattle.tree_repair.specs.declared.place.Place.{Place}

-- a block that was found is valid if it was written
abbrev pub unless : Bool → Option Bool
unless true = None
unless false = Some true

-- nothing for a block that is valid now, otherwise whether it was found
abbrev pub found_of : Bool → Mended → Option Bool
found_of write mended.Good = None
found_of write (mended.Copy k) = unless write
found_of write mended.Remade = unless write
found_of write mended.Parity = unless write
found_of write mended.Lost = Some false

-- the block's bytes were written
abbrev pub was_put : Bool → Mended → Bool
was_put write mended.Good = false
was_put write (mended.Copy k) = write
was_put write mended.Remade = write
was_put write mended.Parity = write
was_put write mended.Lost = false

-- the note about a block
abbrev pub bad_blocks : Place → Option Bool → List BadBlock
bad_blocks place None = []
bad_blocks place (Some found) = record { place = place; found = found } ∷ []

abbrev pub IsNoted : BadBlocks → BadBlocks → Place → Option Bool → Type 0
IsNoted old new place found = IsTrue old.asked → new.blocks.items ≡ old.blocks.items ++ bad_blocks place found

-- whether a corrupt block is noted, after the note about a block
abbrev pub any_after : Bool → Option Bool → Bool
any_after any None = any
any_after any (Some found) = true

-- the notes about a block that was written, by whether it was read back
abbrev pub kept_or : Bool → BadBlocks → BadBlocks
kept_or true bad = bad
kept_or false bad = record bad { any = true; unkept = true }

-- some blocks were skipped
abbrev pub passed_some : BadBlocks → BadBlocks
passed_some bad = record bad { passed = true }

-- the outcome for an image of so many data blocks, by whether all of it is known to be valid
abbrev pub pass_outcome : Bool → ℕ → Outcome
pass_outcome true blocks = Whole blocks
pass_outcome false blocks = Partly
