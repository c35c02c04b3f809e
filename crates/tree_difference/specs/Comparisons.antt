-- What a comparison of two trees finds, reports and reads.
use Rattle.std.specs.Prelude.{◌≡◌, ◌≢◌, ◌⊎◌, ℕ, ◌+◌, ◌-◌, ◌*◌, ◌/◌, ◌%◌, ◌^◌, ◌<◌, ◌≤◌, IsTrue, List, [], ◌∷◌, ◌++◌, length, replicate, Option, Some, None, All}
use Rattle.std.specs.List.{slice_index_or}
use Rattle.std.specs.Io.KnownBytes.{Appends}
use Rattle.block_device.specs.Device.{Device}
use Rattle.tree_shape.specs.Shape.{per_block}
use Rattle.verity_format.specs.Blocks.{IsFullRead}
use Rattle.tree_path.specs.Path.{PathRecord, digest_on}
use Rattle.runs.specs.declared.kind.Kind.TheVariants.{Changed, Removed, Added}
use Rattle.runs.specs.Runs.{runs_of}
use Rattle.runs.specs.Kinds.{is_same, State, count_of}
use Rattle.runs.specs.Texts.{listing_text}
use Rattle.tree_difference.specs.declared.difference.Totals.{Totals}
use Rattle.tree_difference.specs.declared.fault.DifferenceFault.{DifferenceFault}
use Rattle.tree_difference.specs.declared.fault.DifferenceFault.TheVariants.{Hash, Write}
use Rattle.tree_difference.specs.Trees.{Trees, HashImages, AreWays, IsSeenAs, IsStoredAs, common_blocks}

-- two devices before and after, and what was reported, if that is known
pub record DifferenceWorld : Type 0 where
  pub first : Device
  pub second : Device
  pub first' : Device
  pub second' : Device
  pub printed : Option (List ℕ)
  pub printed' : Option (List ℕ)

abbrev pub difference_world : Device → Device → Device → Device → Option (List ℕ) → Option (List ℕ) → DifferenceWorld
difference_world first second first' second' printed printed' = record { first = first; second = second; first' = first'; second' = second'; printed = printed; printed' = printed' }

abbrev pub hash_images : DifferenceWorld → HashImages
hash_images w = record { first_image = w.first.image; second_image = w.second.image }

-- the states of the data blocks that are in one image only
abbrev pub rest_states : Trees → List State
rest_states t = replicate (t.first.blocks - t.second.blocks) (Some Removed) ++ replicate (t.second.blocks - t.first.blocks) (Some Added)

-- the states of the first data blocks, each with the paths that prove it
pub record AreStatesSeen (t : Trees) (w : DifferenceWorld) (compared : List State) : Type 0 where
  pub seen : (i : ℕ) → i < length compared → IsSeenAs t i (slice_index_or compared i None)
  pub stored : IsTrue w.first.steady → IsTrue w.second.steady → (i : ℕ) → i < length compared → IsStoredAs t (hash_images w) i (slice_index_or compared i None)

-- ---- the cost

-- the hash blocks of a level on the path to a data block, in both trees
pub record HashPair : Type 0 where
  pub index : ℕ
  pub level : ℕ

-- the pair was read because the digests differ; the data block is the first below it
pub record IsEntered (t : Trees) (e : HashPair) : Type 0 where
  pub p : PathRecord
  pub q : PathRecord
  pub ways : AreWays t e.index (e.level + 1) p q
  pub differ : digest_on p e.index (e.level + 1) ≢ digest_on q e.index (e.level + 1)
  pub begins : e.index % per_block t.first ^ (e.level + 1) ≡ 0

-- the first pair was read after the second: it is below it, or on the path to a later data block
abbrev pub IsReadAfter : HashPair → HashPair → Type 0
IsReadAfter e f = (f.index < e.index) ⊎ ((f.index ≡ e.index) × (e.level < f.level))

-- the pair comes after all pairs that were read before, so no pair occurs twice
abbrev pub AreBehind : HashPair → List HashPair → Type 0
AreBehind e [] = Unit {0}
AreBehind e (f ∷ more) = IsReadAfter e f × AreBehind e more

abbrev pub AreDistinctPairs : List HashPair → Type 0
AreDistinctPairs [] = Unit {0}
AreDistinctPairs (e ∷ more) = AreBehind e more × AreDistinctPairs more

-- these pairs of hash blocks were read, and no others of the common levels
pub record AreEntered (t : Trees) (entries : List HashPair) : Type 0 where
  pub each : All (IsEntered t) entries
  pub apart : AreDistinctPairs entries

-- Besides so many sectors of each image, the pairs of hash blocks that differ were read, each once.
pub record ReadsDiffering (t : Trees) (w : DifferenceWorld) (first_more second_more : ℕ) : Type 0 where
  pub entries : List HashPair
  pub entered : AreEntered t entries
  pub first_read : IsFullRead w.first (first_more + length entries * (t.first.hash_block / 512)) w.first'
  pub second_read : IsFullRead w.second (second_more + length entries * (t.second.hash_block / 512)) w.second'

-- ---- what is reported before an early end

-- the first data block under the hash block that failed verification
abbrev pub IsBelow : Trees → ℕ → DifferenceFault → Type 0
IsBelow t n (Hash tree level number) = n ≡ number * per_block t.first ^ (level + 1)
IsBelow t n fault = Unit {0}

-- The longest runs of the data blocks that were compared before were reported: the first lines of a whole comparison, of which the
-- last may have a smaller count.
pub record ReportsBefore (t : Trees) (w : DifferenceWorld) (most : Option ℕ) (fault : DifferenceFault) : Type 0 where
  pub compared : List State
  pub few : length compared ≤ common_blocks t
  pub seen : AreStatesSeen t w compared
  pub end : IsBelow t (length compared) fault
  pub printed_are : Appends w.printed w.printed' (listing_text most (runs_of is_same 0 compared))

-- unless a line can't be reported
abbrev pub IsReported : Trees → DifferenceWorld → Option ℕ → DifferenceFault → Type 0
IsReported t w most Write = Unit {0}
IsReported t w most fault = ReportsBefore t w most fault

-- ---- what is found

abbrev pub compared_totals : Trees → List State → Totals
compared_totals t compared = record {
  same = common_blocks t - count_of Changed compared;
  changed = count_of Changed compared;
  removed = t.first.blocks - t.second.blocks;
  added = t.second.blocks - t.first.blocks;
}

-- Each data block of both trees is the same or changed. The longest runs were reported, in rising order.
pub record Compares (t : Trees) (w : DifferenceWorld) (most : Option ℕ) (totals : Totals) : Type 0 where
  pub compared : List State
  pub count : length compared ≡ common_blocks t
  pub seen : AreStatesSeen t w compared
  pub totals_are : totals ≡ compared_totals t compared
  pub printed_are : Appends w.printed w.printed' (listing_text most (runs_of is_same 0 (compared ++ rest_states t)))
