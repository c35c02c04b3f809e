-- The parity file of an image, and the layout of the parity by the shape of the tree.
use Rattle.std.specs.Prelude.{◌≡◌, ◌≢◌, ℕ, ◌<◌, ◌≤◌, Bool, false}
use Rattle.block_device.specs.Device.{Device}
use Rattle.command_line.specs.declared.fec_file.FecFile.{FecFile}
use Rattle.command_line.specs.FecFiles.{FecRecord, fec_record}
use Rattle.fec_area.specs.declared.layout.Layout.{Layout}
use Rattle.fec_area.specs.Layouts.{IsLaidOn, IsLayoutOf, parity_sectors}
use Rattle.image_files.specs.declared.opening.UnopenedFile.{UnopenedFile}
use Rattle.image_files.specs.declared.placed_image.PlacedImage.{PlacedImage}
use Rattle.image_files.specs.Opener.{Calls, Opener, calls}
use Rattle.image_files.specs.OpenPlaces.{OpensPlaceApart, RefusesPlaceApart}
use Rattle.verity_commands.specs.declared.tree_fault.TreeFault.TheVariants as trees
use Rattle.tree_shape.specs.Shape.{ShapeRecord}
use Rattle.tree_survey.specs.Causes.{HasRoom, IsCutOff}
use Rattle.repair_commands.specs.declared.fault.ParityRepairFault.{ParityRepairFault}
use Rattle.repair_commands.specs.declared.fault.ParityRepairFault.TheVariants.{BlockSizes, TooSmall, Tree}
use Rattle.repair_commands.specs.declared.opening.Opened.{Opened}
use Rattle.repair_commands.specs.declared.pair.Pair.{Pair}
use Rattle.repair_commands.specs.declared.parity.LaidParity.{LaidParity}
use Rattle.repair_commands.specs.declared.parity.Parity.{Parity}
use Rattle.repair_commands.specs.Pairs.{pair_uses}

-- the parity was opened for reading; if the repair may write, it has no sector in common with the two parts to be repaired
pub record OpensParity {S D : Type 0} (w : Calls S D) (write : Bool) (o : Opened D) (fec : FecRecord) (parity : Parity D) : Type 0 where
  pub image : PlacedImage D
  pub opened : OpensPlaceApart w (pair_uses write o.parts o.pair) fec.path false image
  pub device_is : parity.device ≡ image.device
  pub roots_are : parity.roots ≡ fec.roots

abbrev pub FailsToOpenParity : {S D : Type 0} → Calls S D → Bool → Opened D → FecRecord → UnopenedFile → Type 0
FailsToOpenParity w write o fec file = RefusesPlaceApart w (pair_uses write o.parts o.pair) fec.path false file

-- the parity file was opened, by the opener before and after and the arguments
abbrev pub IsFecOpened : {S D : Type 0} → Opener S D → (D → Device) → S → S → Bool → Opened D → FecFile → Parity D → Type 0
IsFecOpened relations state old new write o fec parity = OpensParity (calls relations state old new) write o (fec_record fec) parity

abbrev pub IsFecUnopened : {S D : Type 0} → Opener S D → (D → Device) → S → S → Bool → Opened D → FecFile → UnopenedFile → Type 0
IsFecUnopened relations state old new write o fec file = FailsToOpenParity (calls relations state old new) write o (fec_record fec) file

-- ---- the layout of the parity

-- the data and a tree of that shape fit on the devices, and this is the layout of the parity with so many bytes in a codeword
pub record LiesAcross (shape : ShapeRecord) (data_dev hash_dev : Device) (roots : ℕ) (layout : Layout) : Type 0 where
  pub room : HasRoom shape data_dev hash_dev
  pub is : IsLayoutOf shape hash_dev.size roots layout
  pub laid : IsLaidOn layout data_dev hash_dev

-- the parity device has enough sectors
pub record LaysOutParity (shape : ShapeRecord) (data_dev hash_dev parity_dev : Device) (roots : ℕ) (layout : Layout) : Type 0 where
  pub lies : LiesAcross shape data_dev hash_dev roots layout
  pub room : parity_sectors layout ≤ parity_dev.size

-- the parity device has too few sectors
pub record IsParityShort (shape : ShapeRecord) (data_dev hash_dev parity_dev : Device) (roots needed : ℕ) : Type 0 where
  pub layout : Layout
  pub lies : LiesAcross shape data_dev hash_dev roots layout
  pub short : parity_dev.size < parity_sectors layout
  pub is : needed ≡ parity_sectors layout

-- why there is no layout: the data or the tree don't fit, their blocks have different sizes, or the parity device is too small
abbrev pub IsUnlaid : ShapeRecord → Device → Device → Device → ℕ → ParityRepairFault → Type 0
IsUnlaid shape data_dev hash_dev parity_dev roots (Tree (trees.Survey fault)) = IsCutOff shape data_dev hash_dev fault
IsUnlaid shape data_dev hash_dev parity_dev roots (Tree fault) = ⊥
IsUnlaid shape data_dev hash_dev parity_dev roots BlockSizes = HasRoom shape data_dev hash_dev × (shape.data_block ≢ shape.hash_block)
IsUnlaid shape data_dev hash_dev parity_dev roots (TooSmall needed) = IsParityShort shape data_dev hash_dev parity_dev roots needed

-- the layout of the parity of open images; the parity device is passed on
abbrev pub LaysAcross : {D P : Type 0} → (D → Device) → (P → Device) → ShapeRecord → Pair D → Parity P → LaidParity P → Type 0
LaysAcross state parity_state shape pair parity laid =
    LaysOutParity shape (state pair.data_image.device) (state pair.hash_image.device) (parity_state parity.device) parity.roots laid.layout × (laid.device ≡ parity.device)

abbrev pub IsUnlaidBy : {D P : Type 0} → (D → Device) → (P → Device) → ShapeRecord → Pair D → Parity P → ParityRepairFault → Type 0
IsUnlaidBy state parity_state shape pair parity = IsUnlaid shape (state pair.data_image.device) (state pair.hash_image.device) (parity_state parity.device) parity.roots
