-- The effects of writes on the leaves.
use Rattle.std.specs.Prelude.{◌≡◌, ℕ, ◌+◌, ◌≤◌, IsTrue, List, [], length, map, All, Contains}
use Rattle.std.specs.List.{slice_index_or}
use Rattle.block_device.specs.Device.{Device, IsWhole}
use Rattle.stack_meaning.specs.Sectors.{SomeOf}
use Rattle.stack_meaning.specs.Outcomes.{Images, LeafSector, zero_sector}
use Rattle.stack_meaning.specs.Leaves.{Moves}

-- a set of leaf sectors
abbrev pub LeafSectors : Type 1
LeafSectors = LeafSector → Type 0

-- the leaf sectors that n sectors from `first` on reach, given those that each sector reaches
abbrev pub reached : (ℕ → List LeafSector) → ℕ → ℕ → LeafSectors
reached reaches first n p = SomeOf (λ s. Contains (reaches s) p) first n

-- the leaf sectors outside the set are unchanged: a steady leaf keeps them and its size, whatever the other leaves
-- are, and a leaf without sectors in the set is unchanged, including its counters
pub record KeepsOthers (these : LeafSectors) (old new : List Device) : Type 0 where
  pub size : (i : ℕ) (d : Device) → IsTrue (slice_index_or old i d).steady → length (slice_index_or new i d).image ≡ length (slice_index_or old i d).image
  pub sector : (i t : ℕ) (d : Device) → IsTrue (slice_index_or old i d).steady → (these (i, t) → ⊥) → slice_index_or (slice_index_or new i d).image t zero_sector ≡ slice_index_or (slice_index_or old i d).image t zero_sector
  pub leaf : (i : ℕ) (d : Device) → ((t : ℕ) → these (i, t) → ⊥) → slice_index_or new i d ≡ slice_index_or old i d

-- writes within the set and the reads that they need, of at most `most` sectors together
pub record AreWritten (these : LeafSectors) (old : List Device) (most : ℕ) (new : List Device) : Type 0 where
  pub read : ℕ
  pub written : ℕ
  pub within : read + written ≤ most
  pub moved : Moves read written old new
  pub others : KeepsOthers these old new

-- no leaf counted a read
abbrev pub NoneRead : List Device → List Device → Type 0
NoneRead old new = map (λ l. l.reads) new ≡ map (λ l. l.reads) old

-- the images differ only in these leaf sectors
pub record DifferWithin (these : LeafSectors) (old new : Images) : Type 0 where
  pub leaves : length new ≡ length old
  pub sizes : (i : ℕ) → length (slice_index_or new i []) ≡ length (slice_index_or old i [])
  pub sector : (i t : ℕ) → (these (i, t) → ⊥) → slice_index_or (slice_index_or new i []) t zero_sector ≡ slice_index_or (slice_index_or old i []) t zero_sector

-- the image of each leaf has as many sectors as the leaf, each of 512 bytes
abbrev pub AllWhole : List Device → Type 0
AllWhole leaves = All IsWhole leaves
