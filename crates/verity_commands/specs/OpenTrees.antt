-- The trees of two hash images: the files are opened, the trees found before a hash block is read, and the files closed.
use Rattle.std.specs.Prelude.{◌≡◌, ◌⊎◌}
use Rattle.block_device.specs.Device.{Device}
use Rattle.device_adapters.specs.declared.part.Part.{Part}
use Rattle.device_adapters.specs.Windows.{windowed}
use Rattle.image_files.specs.Opener.{Calls}
use Rattle.image_commands.specs.Places.{behind}
use Rattle.tree_difference.specs.declared.trees.TreePair.{TreePair}
use Rattle.tree_difference.specs.Comparisons.{DifferenceWorld}
use Rattle.verity_commands.specs.declared.paths.PlacedHashes.{PlacedHashes}
use Rattle.verity_commands.specs.declared.paths.TwoHashes.{TwoHashes}
use Rattle.verity_commands.specs.declared.tree_fault.TreeFault.{TreeFault}
use Rattle.verity_commands.specs.declared.tree_fault.TreeFault.TheVariants.{Open}
use Rattle.verity_commands.specs.declared.tree_pair.SoughtTrees.{SoughtTrees}
use Rattle.verity_commands.specs.declared.tree_pair.TreeStarts.{TreeStarts}
use Rattle.verity_commands.specs.Openings.{BothPaths, BothPlaces, ClosesBoth, FailsToOpenBoth, OpensBoth, both_at, hashes_of}
use Rattle.verity_commands.specs.TreePairs.{AreTreesFound, AreTreesMissing}

-- ---- of two devices

-- both trees were found, a superblock by one read; then this holds of the trees, and of the devices from there on
pub record OfTrees (i : DifferenceWorld) (starts : TreeStarts) (sought : SoughtTrees) (P : TreePair → DifferenceWorld → Type 0) : Type 0 where
  pub pair : TreePair
  pub first_read : Device
  pub second_read : Device
  pub found : AreTreesFound i.first i.second first_read second_read starts sought pair
  pub holds : P pair (record i { first = first_read; second = second_read })

-- one image has no tree of its source, or the trees can't be compared, and nothing is printed
abbrev pub AreNoTrees : DifferenceWorld → TreeStarts → SoughtTrees → TreeFault → Type 0
AreNoTrees i starts sought fault = AreTreesMissing i.first i.second i.first' i.second' starts sought fault × (i.printed' ≡ i.printed)

-- that, or the trees were found, and it ends so
abbrev pub IsTreesEnd : DifferenceWorld → TreeStarts → SoughtTrees → (TreePair → DifferenceWorld → TreeFault → Type 0) → TreeFault → Type 0
IsTreesEnd i starts sought Ends fault = AreNoTrees i starts sought fault ⊎ OfTrees i starts sought (λ pair j. Ends pair j fault)

-- ---- of the hash images that begin at sectors of two devices

-- a part of that device
abbrev pub IsPartOf : {D : Type 0} → (D → Device) → D → Device → Type 0
IsPartOf state d device = (part : Part) × (device ≡ windowed (state d) part)

-- this holds of the hash images, before calls and after them; what calls left of them are parts of the devices that they left
pub record OfPlaced {D : Type 0} (state : D → Device) (two two' : TwoHashes D) (starts : TreeStarts) (P : Device → Device → Device → Device → Type 0) : Type 0 where
  pub first' : Device
  pub second' : Device
  pub left : IsPartOf state two'.first.device first' × IsPartOf state two'.second.device second'
  pub holds : P (behind (state two.first.device) starts.first) (behind (state two.second.device) starts.second) first' second'

-- ---- of files

-- both images were opened, this holds of the hash images in them, and then both were closed where they were opened
pub record OfHashes {S D : Type 0} (w : Calls S D) (places : BothPlaces) (P : Device → Device → Device → Device → Type 0) : Type 0 where
  pub between : S
  pub two : PlacedHashes D
  pub two' : TwoHashes D
  pub opened : OpensBoth (record w { new = between }) places.paths two
  pub holds : OfPlaced w.state (hashes_of two) two' places.starts P
  pub closed : ClosesBoth (record w { old = between }) (both_at two) two'

-- one of them isn't opened
abbrev pub AreUnopened : {S D : Type 0} → Calls S D → BothPaths → TreeFault → Type 0
AreUnopened w paths (Open file) = FailsToOpenBoth w paths file
AreUnopened w paths fault = ⊥
