-- How many blocks an update kept, moved and fetched.
use Rattle.std.specs.Prelude.{◌≡◌, ◌⊎◌, ℕ, ◌+◌, ◌-◌, ◌*◌, ◌&&◌, min, Bool, true, false, List, ◌++◌, codes, decimal, None, Option}
use Rattle.std.specs.Io.KnownBytes.{Appends}
use Rattle.block_device.specs.Device.{capped}
use Rattle.program_io.specs.Counted.{CountedRecord}
use Rattle.program_io.specs.JsonLines.{json_line}
use Rattle.repair_commands.specs.declared.counters.Counters.{Counters}
use Rattle.serde_json.specs.Data.{Data, member, no_members, number, object, unsigned}
use Rattle.tree_shape.specs.Shape.{ShapeRecord, area_blocks}
use Rattle.tree_survey.specs.declared.fault.SurveyFault.TheVariants.{Image}
use Rattle.verity_commands.specs.declared.tree_fault.TreeFault.{TreeFault}
use Rattle.verity_commands.specs.declared.tree_fault.TreeFault.TheVariants.{Damaged, Survey, Write}
use Rattle.verity_format.specs.declared.verifying.VerifyFault.TheVariants.{NoMemory}
use Rattle.verity_format.specs.Formatting.{given_blocks}
use Rattle.update_commands.specs.declared.counts.Counts.{Counts}
use Rattle.update_commands.specs.declared.counts.Tally.{Tally}

-- the data blocks and the hash blocks
abbrev pub all_blocks : ShapeRecord → ℕ
all_blocks shape = capped (shape.blocks + area_blocks shape)

-- the data blocks and the hash blocks of so many sectors
abbrev pub blocks_in : ShapeRecord → ℕ → ℕ → ℕ
blocks_in shape data_sectors hash_sectors = capped (given_blocks None shape.data_block data_sectors + given_blocks None shape.hash_block hash_sectors)

-- the blocks that were written between two states of the counters, and those that were read from the last copy, which is the release
abbrev pub blocks_written : ShapeRecord → Counters → Counters → ℕ
blocks_written shape a b = min (blocks_in shape (b.data_written - a.data_written) (b.hash_written - a.hash_written)) (all_blocks shape)

abbrev pub blocks_read : ShapeRecord → Counters → Counters → ℕ
blocks_read shape a b = blocks_in shape (b.data_read - a.data_read) (b.hash_read - a.hash_read)

-- As many of the blocks that were written, except those copied by lists, are the release's as were read from it.
abbrev pub blocks_fetched : ShapeRecord → Tally → Counters → ℕ
blocks_fetched shape tally b = min (blocks_written shape tally.before b - tally.copied) (blocks_read shape tally.before b)

-- The blocks that weren't written were kept. Those that were written and aren't the release's were moved.
abbrev pub counts_of : ShapeRecord → Tally → Counters → Counts
counts_of shape tally b = record {
  kept = all_blocks shape - blocks_written shape tally.before b;
  moved = blocks_written shape tally.before b - blocks_fetched shape tally b;
  fetched = blocks_fetched shape tally b;
  bytes = capped (capped ((b.data_read - tally.before.data_read) + (b.hash_read - tally.before.hash_read)) * 512);
}

-- `kept N moved N fetched N bytes N`
unfoldable pub counts_text : Counts → List ℕ
counts_text c = codes "kept " ++ (decimal c.kept ++ (codes " moved " ++ (decimal c.moved ++ (codes " fetched " ++ (decimal c.fetched ++ (codes " bytes " ++ (decimal c.bytes ++ codes "\n")))))))

abbrev pub counts_json : Counts → Data
counts_json c =
    object
    (member (codes "fetched") (number (unsigned c.fetched))
    (member (codes "fetched_bytes") (number (unsigned c.bytes))
    (member (codes "kept") (number (unsigned c.kept))
    (member (codes "moved") (number (unsigned c.moved))
    no_members))))

-- as a line, or with `--json` as an object
abbrev pub counts_said : Bool → Counts → List ℕ
counts_said true counts = json_line (counts_json counts)
counts_said false counts = counts_text counts

-- why the counts weren't printed: the writer failed, or there was no memory for the object
abbrev pub IsUncounted : Bool → Bool → TreeFault → Type 0
IsUncounted json failed fault = ((fault ≡ Write) × (failed ≡ true)) ⊎ ((fault ≡ Survey (Image NoMemory)) × (json ≡ true))

-- ---- lost blocks

abbrev pub is_damaged : TreeFault → Bool
is_damaged Damaged = true
is_damaged fault = false

-- no block is lost, or no object is wanted: nothing was printed
pub record StaysQuiet (json : Bool) (cause : TreeFault) (old new : Option (List ℕ)) (was failed : Bool) : Type 0 where
  pub other : (json && is_damaged cause) ≡ false
  pub quiet : new ≡ old
  pub same : failed ≡ was

-- blocks are lost, and the object was printed, or couldn't be
pub record CountsLosses (counts : Counts) (json : Bool) (cause : TreeFault) (old new : Option (List ℕ)) (failed : Bool) : Type 0 where
  pub lost : (json && is_damaged cause) ≡ true
  pub counted : Appends old new (counts_said json counts) ⊎ ((unprinted : TreeFault) × IsUncounted json failed unprinted)

abbrev pub EndsWithCounts : Counts → Bool → TreeFault → Option (List ℕ) → Option (List ℕ) → Bool → Bool → Type 0
EndsWithCounts counts json cause old new was failed = StaysQuiet json cause old new was failed ⊎ CountsLosses counts json cause old new failed

-- ---- in terms of a writer before and after

abbrev pub SaysCounts : {W : Type 0} → (W → Option (List ℕ)) → CountedRecord W → CountedRecord W → Bool → Counts → Type 0
SaysCounts contents before behind json counts = Appends (contents before.inner) (contents behind.inner) (counts_said json counts)

abbrev pub SaysLosses : {W : Type 0} → (W → Option (List ℕ)) → Counts → Bool → TreeFault → CountedRecord W → CountedRecord W → Type 0
SaysLosses contents counts json cause before behind =
    EndsWithCounts counts json cause (contents before.inner) (contents behind.inner) before.failed behind.failed
