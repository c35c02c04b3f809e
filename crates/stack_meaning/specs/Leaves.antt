-- The effects of reads on the leaves.
use Rattle.std.specs.Prelude.{◌≡◌, ℕ, ◌+◌, ◌<◌, ◌≤◌, Bool, IsTrue, List, [], length, map, sum_by, All, if◌then◌else◌}
use Rattle.std.specs.List.{slice_index_or}
use Rattle.block_device.specs.Device.{Device, HasFailed}
use Rattle.stack_rules.specs.Records.{LeafRecord}
use Rattle.stack_meaning.specs.Outcomes.{Images}

abbrev pub images_of : List Device → Images
images_of leaves = map (λ l. l.image) leaves

-- the images of the steady leaves; those of other leaves are unknown
abbrev pub steady_image : Device → List (List ℕ)
steady_image l = if l.steady then l.image else []

abbrev pub steady_images : List Device → Images
steady_images leaves = map steady_image leaves

abbrev pub sizes_of : List Device → List ℕ
sizes_of leaves = map (λ l. l.size) leaves

abbrev pub flags_of : List Device → List Bool
flags_of leaves = map (λ l. l.may_write) leaves

-- the devices have the sizes and flags of the configuration's leaves, in order
pub record ServeLeaves (wanted : List LeafRecord) (leaves : List Device) : Type 0 where
  pub sizes : sizes_of leaves ≡ map (λ l. l.sectors) wanted
  pub flags : flags_of leaves ≡ map (λ l. l.writable) wanted

-- the sums of the leaves' counters
abbrev pub reads_of : List Device → ℕ
reads_of leaves = sum_by (λ l. l.reads) leaves

abbrev pub writes_of : List Device → ℕ
writes_of leaves = sum_by (λ l. l.writes) leaves

abbrev pub AllSteady : List Device → Type 0
AllSteady leaves = All (λ l. IsTrue l.steady) leaves

-- each leaf in the set is steady
abbrev pub AreSteady : (ℕ → Bool) → List Device → Type 0
AreSteady these leaves = (i : ℕ) (d : Device) → i < length leaves → IsTrue (these i) → IsTrue (slice_index_or leaves i d).steady

-- the properties of a leaf that no call changes
pub record Fixed : Type 0 where
  pub size : ℕ
  pub may_write : Bool
  pub steady : Bool

abbrev pub fixed_part : Device → Fixed
fixed_part l = record { size = l.size; may_write = l.may_write; steady = l.steady }

-- a counter grew by at most `most` in all leaves together, and in none if that is 0; the counters are those of the
-- devices, which stop at the largest u64
pub record Counts (counter : Device → ℕ) (most : ℕ) (old new : List Device) : Type 0 where
  pub sum : sum_by counter new ≤ sum_by counter old + most
  pub none : most ≡ 0 → map counter new ≡ map counter old

-- at most this many sectors were read, and at most this many written
pub record Moves (most_read most_written : ℕ) (old new : List Device) : Type 0 where
  pub fixed : map fixed_part new ≡ map fixed_part old
  pub reads : Counts (λ l. l.reads) most_read old new
  pub writes : Counts (λ l. l.writes) most_written old new
  pub failures : (i : ℕ) (d : Device) → (slice_index_or old i d).failures ≤ (slice_index_or new i d).failures
  pub never_fails : (i : ℕ) (d : Device) → IsTrue (slice_index_or old i d).never_fails → IsTrue (slice_index_or new i d).never_fails

-- each steady leaf keeps its image, whatever the other leaves are
pub record KeepsImages (old new : List Device) : Type 0 where
  pub image : (i : ℕ) (d : Device) → IsTrue (slice_index_or old i d).steady → (slice_index_or new i d).image ≡ (slice_index_or old i d).image

-- reads of at most `most` sectors
pub record AreRead (old : List Device) (most : ℕ) (new : List Device) : Type 0 where
  pub moved : Moves most 0 old new
  pub images : KeepsImages old new

-- leaf i failed, and it isn't one that never fails
pub record LeafFailed (i : ℕ) (old new : List Device) : Type 0 where
  pub inside : i < length old
  pub failed : (d : Device) → HasFailed (slice_index_or old i d) (slice_index_or new i d)
  pub unsure : (d : Device) → IsTrue (slice_index_or old i d).never_fails → ⊥
