-- Files that are made as long as a release.
use Rattle.std.specs.Prelude.{◌⊎◌}
use Rattle.block_device.specs.Device.{Device}
use Rattle.image_files.specs.declared.opening.UnopenedFile.{UnopenedFile}
use Rattle.image_files.specs.Opener.{Calls, Opener, calls}
use Rattle.image_files.specs.OpenPlaces.{FailsToResizePlace, ResizesPlace, Resizing}
use Rattle.repair_commands.specs.declared.pair.RepairPlaces.{RepairPlaces}
use Rattle.repair_commands.specs.Pairs.{Places, places_of}
use Rattle.verity_format.specs.Image.{data_sectors, image_sectors}
use Rattle.verity_format.specs.Superblock.{SuperRecord, shape_of}

-- the file of the data was resized to the sectors of the data blocks, and then that of the hashes to those of hash block 0 and the tree
pub record ResizesBoth {S D : Type 0} (resizes : Resizing S) (w : Calls S D) (p : Places) (s : SuperRecord) : Type 0 where
  pub between : S
  pub data_resized : ResizesPlace resizes (record w { new = between }) p.data_path (data_sectors (shape_of s))
  pub hash_resized : ResizesPlace resizes (record w { old = between }) p.hash_path (image_sectors (shape_of s))

-- the file of the data was, and that of the hashes can't be resized
pub record FailsToResizeHash {S D : Type 0} (resizes : Resizing S) (w : Calls S D) (p : Places) (s : SuperRecord) (file : UnopenedFile) : Type 0 where
  pub between : S
  pub data_resized : ResizesPlace resizes (record w { new = between }) p.data_path (data_sectors (shape_of s))
  pub fails : FailsToResizePlace resizes (record w { old = between }) p.hash_path (image_sectors (shape_of s)) file

-- one of the two can't be resized
abbrev pub FailsToResizeBoth : {S D : Type 0} → Resizing S → Calls S D → Places → SuperRecord → UnopenedFile → Type 0
FailsToResizeBoth resizes w p s file = FailsToResizePlace resizes w p.data_path (data_sectors (shape_of s)) file ⊎ FailsToResizeHash resizes w p s file

-- both files have at least these sectors from then on, or one can't be made so long
abbrev pub GrowsBoth : {S D : Type 0} → Calls S D → Places → SuperRecord → Type 0
GrowsBoth w p s = ResizesBoth w.relations.grows w p s

abbrev pub FailsToGrowBoth : {S D : Type 0} → Calls S D → Places → SuperRecord → UnopenedFile → Type 0
FailsToGrowBoth w p s file = FailsToResizeBoth w.relations.grows w p s file

-- both files have at most these sectors from then on, or one can't be made so short
abbrev pub ShrinksBoth : {S D : Type 0} → Calls S D → Places → SuperRecord → Type 0
ShrinksBoth w p s = ResizesBoth w.relations.shrinks w p s

abbrev pub FailsToShrinkBoth : {S D : Type 0} → Calls S D → Places → SuperRecord → UnopenedFile → Type 0
FailsToShrinkBoth w p s file = FailsToResizeBoth w.relations.shrinks w p s file

-- ---- in terms of an opener before and after

abbrev pub AreGrown : {S D : Type 0} → Opener S D → (D → Device) → S → S → RepairPlaces → SuperRecord → Type 0
AreGrown relations state old new places s = GrowsBoth (calls relations state old new) (places_of places) s

abbrev pub AreUngrown : {S D : Type 0} → Opener S D → (D → Device) → S → S → RepairPlaces → SuperRecord → UnopenedFile → Type 0
AreUngrown relations state old new places s file = FailsToGrowBoth (calls relations state old new) (places_of places) s file

abbrev pub AreShrunk : {S D : Type 0} → Opener S D → (D → Device) → S → S → RepairPlaces → SuperRecord → Type 0
AreShrunk relations state old new places s = ShrinksBoth (calls relations state old new) (places_of places) s

abbrev pub AreUnshrunk : {S D : Type 0} → Opener S D → (D → Device) → S → S → RepairPlaces → SuperRecord → UnopenedFile → Type 0
AreUnshrunk relations state old new places s file = FailsToShrinkBoth (calls relations state old new) (places_of places) s file
