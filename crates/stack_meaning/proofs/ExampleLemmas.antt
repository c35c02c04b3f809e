-- Worked values of the definitions.
use Rattle.std.proofs.Common.{◌≡◌, ℕ, List, [], ◌∷◌, ◌++◌, ◌-◌, ◌^◌, replicate, refl, codes, true, Ok, Err, Option, Some, None}
use Rattle.tree_shape.specs.Shape.{ShapeRecord, level_blocks, levels, shape_with}
use Rattle.block_device.specs.Device.{filled_sector, ramp_image, zeros_image}
use Rattle.dm_table.specs.Crypt.{sector_size, iv_large_sectors}
use Rattle.dm_table.specs.declared.table.Base.{Base}
use Rattle.dm_table.specs.declared.table.Line.{Line}
use Rattle.dm_table.specs.declared.table.Target.{Target}
use Rattle.dm_table.specs.declared.table.Target.TheVariants.{Linear, Striped, Zero, Error}
use Rattle.stack_rules.specs.Records.{Configuration, DeviceRecord, LeafRecord}
use Rattle.stack_rules.specs.Names.{mapped}
use Rattle.stack_rules.specs.Descend.{descend, read_cost}
use Rattle.stack_meaning.specs.Outcomes.{Outcome, span, error_target, mismatch, zero_sector}
use Rattle.stack_meaning.specs.Meaning.{said_at, sector}
use Rattle.stack_meaning.specs.Puts.{done, stopped, put_on}
use Rattle.stack_meaning.specs.declared.units.CryptUnits.{CryptUnits}
use Rattle.stack_meaning.specs.Erasures.{PathEnd, tree_block}
use Rattle.stack_meaning.specs.Found.{FoundRecord}
use Rattle.stack_meaning.specs.Units.{size_sectors, size_of, units_of, crypt_unit_number}

abbrev leaf_of : List ℕ → ℕ → LeafRecord
leaf_of name sectors = record { name = name; sectors = sectors; writable = true }

abbrev base : List ℕ → ℕ → Base
base name offset = record { device = name; offset = offset }

abbrev line : ℕ → ℕ → Target → Line
line start length target = record { start = start; length = length; target = target }

abbrev dev : List ℕ → List Line → DeviceRecord
dev name lines = record { name = name; writable = true; table = lines }

-- ---- four sectors of a ramp from its third on, and then four of zeros

abbrev ramp_and_zeros : Configuration
ramp_and_zeros = record {
  leaves = leaf_of (codes "D") 8 ∷ [];
  devices = dev (codes "a") (line 0 4 (Linear (base (codes "D") 2)) ∷ line 4 4 Zero ∷ []) ∷ [];
}

abbrev read1 : ℕ → ℕ → Outcome
read1 first n = span (sector ramp_and_zeros (ramp_image 8 ∷ []) (mapped 0)) first n

reads_ramp_and_zeros : (read1 3 2 ≡ Ok (filled_sector 5 ++ filled_sector 0)) × (read1 0 1 ≡ Ok (filled_sector 2)) × (read1 8 1 ≡ Err error_target)
unfolding descend zero_sector
reads_ramp_and_zeros = (refl, refl, refl)

-- whatever the leaf answers
may_ramp_and_zeros : (chains : List FoundRecord) (bytes : List ℕ) → (said_at ramp_and_zeros (mapped 0) 4).may chains bytes ≡ (bytes ≡ zero_sector)
unfolding descend
may_ramp_and_zeros chains bytes = refl

-- ---- chunks of eight on two leaves in turn

abbrev stripes : Configuration
stripes = record {
  leaves = leaf_of (codes "A") 16 ∷ leaf_of (codes "B") 32 ∷ [];
  devices = dev (codes "s") (line 0 32 (Striped 8 (base (codes "A") 0 ∷ base (codes "B") 16 ∷ [])) ∷ []) ∷ [];
}

abbrev read2 : ℕ → ℕ → Outcome
read2 first n = span (sector stripes (ramp_image 16 ∷ ramp_image 32 ∷ []) (mapped 0)) first n

reads_stripes : (read2 7 2 ≡ Ok (filled_sector 7 ++ filled_sector 0x10)) × (read2 16 1 ≡ Ok (filled_sector 8)) × (read2 31 1 ≡ Ok (filled_sector 0x1f))
unfolding descend
reads_stripes = (refl, refl, refl)

-- ---- chunks of one on three offsets of one leaf

abbrev single_chunks : Configuration
single_chunks = record {
  leaves = leaf_of (codes "A") 9 ∷ [];
  devices = dev (codes "s") (line 0 6 (Striped 1 (base (codes "A") 0 ∷ base (codes "A") 3 ∷ base (codes "A") 6 ∷ [])) ∷ []) ∷ [];
}

reads_single_chunks : span (sector single_chunks (ramp_image 9 ∷ []) (mapped 0)) 0 6 ≡ Ok (filled_sector 0 ++ (filled_sector 3 ++ (filled_sector 6 ++ (filled_sector 1 ++ (filled_sector 4 ++ filled_sector 7)))))
unfolding descend
reads_single_chunks = refl

-- ---- a device on a device

abbrev two_levels : Configuration
two_levels = record {
  leaves = leaf_of (codes "D") 16 ∷ [];
  devices = dev (codes "mid") (line 0 16 (Linear (base (codes "D") 0)) ∷ [])
      ∷ dev (codes "top") (line 0 16 (Linear (base (codes "/dev/mapper/mid") 0)) ∷ []) ∷ [];
}

reads_two_levels : (sector two_levels (ramp_image 16 ∷ []) (mapped 1) 15 ≡ Ok (filled_sector 15)) × (read_cost two_levels (mapped 1) ≡ 1)
unfolding descend
reads_two_levels = (refl, refl)

-- ---- four sectors, and then four of an `error` line

abbrev half_failing : Configuration
half_failing = record {
  leaves = leaf_of (codes "D") 8 ∷ [];
  devices = dev (codes "a") (line 0 4 (Linear (base (codes "D") 0)) ∷ line 4 4 Error ∷ [])
      ∷ dev (codes "r") (line 0 8 (Linear (base (codes "D") 0)) ∷ [])
      ∷ dev (codes "t") (line 0 8 (Linear (base (codes "/dev/mapper/a") 0)) ∷ []) ∷ [];
}

abbrev read16 : ℕ → ℕ → Outcome
read16 first n = span (sector half_failing (zeros_image 8 ∷ []) (mapped 2)) first n

reads_half_failing : (read16 2 2 ≡ Ok (filled_sector 0 ++ filled_sector 0)) × (read16 3 2 ≡ Err error_target) × (read16 4 1 ≡ Err error_target)
unfolding descend
reads_half_failing = (refl, refl, refl)

-- only the sectors on the `error` line meet it
meets_half_failing : ((said_at half_failing (mapped 2) 4).meets error_target ≡ (error_target ≡ error_target)) × ((said_at half_failing (mapped 2) 3).meets error_target ≡ ⊥) × ((said_at half_failing (mapped 2) 4).meets mismatch ≡ (mismatch ≡ error_target))
unfolding descend
meets_half_failing = (refl, refl, refl)

-- ---- writes of short sectors

abbrev x : List ℕ
x = 7 ∷ []

abbrev y : List ℕ
y = 8 ∷ []

abbrev z : List ℕ
z = 9 ∷ []

abbrev empty : ℕ → List (List ℕ)
empty n = replicate n []

-- up to the `error` line, where no leaf sector is reached
puts_half_failing : (put_on half_failing (mapped 2) 2 (x ∷ y ∷ z ∷ []) (empty 8 ∷ []) ≡ stopped error_target ((empty 2 ++ (x ∷ y ∷ empty 4)) ∷ []))
    × ((said_at half_failing (mapped 2) 3).reaches ≡ (0, 3) ∷ []) × ((said_at half_failing (mapped 2) 4).reaches ≡ [])
unfolding descend
puts_half_failing = (refl, refl, refl)

-- chunks in turn
puts_single_chunks : put_on single_chunks (mapped 0) 1 (x ∷ y ∷ z ∷ []) (empty 9 ∷ []) ≡ done ((empty 1 ++ (z ∷ empty 1 ++ (x ∷ empty 2 ++ (y ∷ empty 2)))) ∷ [])
unfolding descend
puts_single_chunks = refl

-- two lines over the same sectors: the later one holds
abbrev overlapping : Configuration
overlapping = record {
  leaves = leaf_of (codes "D") 4 ∷ [];
  devices = dev (codes "a") (line 0 2 (Linear (base (codes "D") 0)) ∷ line 2 2 (Linear (base (codes "D") 0)) ∷ []) ∷ [];
}

puts_overlapping : (put_on overlapping (mapped 0) 1 (x ∷ y ∷ []) (empty 4 ∷ []) ≡ done ((y ∷ x ∷ empty 2) ∷ [])) × ((said_at overlapping (mapped 0) 3).reaches ≡ (0, 1) ∷ [])
unfolding descend
puts_overlapping = (refl, refl)

-- ---- units: their numbers count sectors within the line, or units with the flag, and wrap

abbrev key : List ℕ
key = replicate 32 7

abbrev units_at : ℕ → List (List ℕ) → CryptUnits
units_at iv_offset options = units_of (record { key = key; iv_offset = iv_offset; base = base (codes "D") 0; options = options })

abbrev eight : List (List ℕ)
eight = codes "sector_size:4096" ∷ []

abbrev counted : List (List ℕ)
counted = codes "sector_size:4096" ∷ codes "iv_large_sectors" ∷ []

numbers_from_0 : (crypt_unit_number (units_at 0 eight) 0 ≡ 0) × (crypt_unit_number (units_at 0 eight) 1 ≡ 8) × (crypt_unit_number (units_at 0 counted) 0 ≡ 0) × (crypt_unit_number (units_at 0 counted) 1 ≡ 1)
unfolding sector_size iv_large_sectors size_of size_sectors
numbers_from_0 = (refl, refl, refl, refl)

numbers_from_8 : (crypt_unit_number (units_at 8 eight) 0 ≡ 8) × (crypt_unit_number (units_at 8 eight) 1 ≡ 16) × (crypt_unit_number (units_at 8 counted) 0 ≡ 1) × (crypt_unit_number (units_at 8 counted) 1 ≡ 2)
unfolding sector_size iv_large_sectors size_of size_sectors
numbers_from_8 = (refl, refl, refl, refl)

numbers_from_the_last : (crypt_unit_number (units_at (2 ^ 64 - 8) eight) 1 ≡ 0) × (crypt_unit_number (units_at (2 ^ 64 - 8) counted) 0 ≡ 2 ^ 61 - 1) × (crypt_unit_number (units_at (2 ^ 64 - 8) counted) 1 ≡ 0) × (crypt_unit_number (units_at (2 ^ 64 - 1) []) 1 ≡ 0)
unfolding sector_size iv_large_sectors size_of size_sectors
numbers_from_the_last = (refl, refl, refl, refl)

-- ---- the hash blocks of a tree of 300 data blocks of 512 bytes: the top one, two beneath it, and 19 beneath these

abbrev small_shape : ShapeRecord
small_shape = shape_with 512 512 300 0

abbrev tree_end : ℕ → ℕ → Option PathEnd
tree_end index above = Some (record { index = index; above = above })

tree_blocks : (levels small_shape ≡ 3) × (tree_block small_shape 3 0 ≡ tree_end 0 0) × (tree_block small_shape 3 2 ≡ tree_end 256 1) × (tree_block small_shape 3 3 ≡ tree_end 0 2) × (tree_block small_shape 3 21 ≡ tree_end 288 2) × (tree_block small_shape 3 22 ≡ None)
unfolding level_blocks levels tree_block
tree_blocks = (refl, refl, refl, refl, refl, refl)
