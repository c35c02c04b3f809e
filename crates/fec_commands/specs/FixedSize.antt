-- `format --grow --fec` with a block device or a part of a file as parity file, which can't be extended.
use Rattle.std.specs.Prelude.{◌≡◌, ℕ, ◌-◌, ◌^◌, ◌<◌, ◌≤◌, true, false, Option, None, Some}
use Rattle.block_device.specs.Device.{Device}
use Rattle.fec_area.specs.declared.writing.ParityFault.{ParityFault}
use Rattle.fec_area.specs.declared.writing.ParityFault.TheVariants.{TooSmall, ReadOnly, Device as DeviceFailed, NoMemory}
use Rattle.image_files.specs.declared.placed_image.PlacedImage.{PlacedImage}
use Rattle.image_files.specs.Places.{has_own_size}
use Rattle.image_commands.specs.Places.{before, behind}
use Rattle.fec_commands.specs.declared.finding.FoundThree.{FoundThree}
use Rattle.fec_commands.specs.declared.wanted.WantedTree.{WantedTree}
use Rattle.fec_commands.specs.declared.needed.FoundSectors.{FoundSectors}
use Rattle.fec_commands.specs.Images.{end_of_data}
use Rattle.fec_commands.specs.Needed.{AreEnough, IsNeededGrown}

-- where the data end; a HASH that doesn't exist isn't DATA
abbrev pub found_data_end : {D : Type 0} → PlacedImage D → Option (PlacedImage D) → ℕ → ℕ
found_data_end data_image None first = 2 ^ 64 - 1
found_data_end data_image (Some hash_image) first = end_of_data data_image hash_image first

-- how many sectors a file has from `first` on; 0 if it doesn't exist
abbrev pub sectors_behind : {D : Type 0} → (D → Device) → Option (PlacedImage D) → ℕ → ℕ
sectors_behind state None first = 0
sectors_behind state (Some image) first = (behind (state image.device) first).size

-- how many sectors of data there are, and how many HASH has from the hash image's first sector on
abbrev pub found_sectors : {D : Type 0} → (D → Device) → FoundThree D → ℕ → FoundSectors
found_sectors state found first = record {
  «data» = (before (state found.«data».device) (found_data_end found.«data» found.hash first)).size;
  hash = sectors_behind state found.hash first;
}

-- if FILE has a size of its own, it has enough sectors for the parity of what these options make
abbrev pub FitsFixedSize : {D : Type 0} → (D → Device) → FoundThree D → WantedTree → ℕ → ℕ → Type 0
FitsFixedSize {D} state found wanted first roots =
    (parity : PlacedImage D) → found.parity ≡ Some parity → has_own_size parity ≡ true
    → AreEnough (IsNeededGrown wanted (found_sectors state found first) roots) wanted (found_sectors state found first).«data» (state parity.device).size

-- FILE has a size of its own, and fewer sectors
pub record IsFixedShortOf {D : Type 0} (state : D → Device) (found : FoundThree D) (wanted : WantedTree) (first roots needed : ℕ) : Type 0 where
  pub parity : PlacedImage D
  pub there : found.parity ≡ Some parity
  pub fixed : has_own_size parity ≡ true
  pub needs : IsNeededGrown wanted (found_sectors state found first) roots needed
  pub short : (state parity.device).size < needed

abbrev pub IsFixedTooShort : {D : Type 0} → (D → Device) → FoundThree D → WantedTree → ℕ → ℕ → ParityFault → Type 0
IsFixedTooShort state found wanted first roots (TooSmall needed) = IsFixedShortOf state found wanted first roots needed
IsFixedTooShort state found wanted first roots ReadOnly = ⊥
IsFixedTooShort state found wanted first roots DeviceFailed = ⊥
IsFixedTooShort state found wanted first roots NoMemory = ⊥
