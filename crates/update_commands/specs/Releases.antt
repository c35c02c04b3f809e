-- The release to which an image is brought.
use Rattle.std.specs.Prelude.{◌≡◌, ◌≤◌, ◌<◌, ◌⊎◌, ℕ, List, false, true, Some}
use Rattle.block_device.specs.Device.{Device}
use Rattle.image_files.specs.declared.opening.UnopenedFile.{UnopenedFile}
use Rattle.image_files.specs.declared.placed_image.PlacedImage.{PlacedImage}
use Rattle.image_files.specs.Opener.{Calls, Opener, calls}
use Rattle.image_files.specs.OpenPlaces.{OpensPlace, RefusesPlace}
use Rattle.image_pin.specs.declared.finding.NoTree.{NoTree}
use Rattle.image_pin.specs.declared.pin.Pin.{Pin}
use Rattle.image_pin.specs.Finding.{IsNoTree, ReadsSuper}
use Rattle.tree_difference.specs.declared.fault.DifferenceFault.{DifferenceFault}
use Rattle.tree_difference.specs.declared.fault.DifferenceFault.TheVariants.{Image}
use Rattle.tree_difference.specs.declared.fault.Which.TheVariants.{Second}
use Rattle.tree_difference.specs.RootBlocks.{IsRootCause, IsRootRead}
use Rattle.tree_repair.specs.declared.repair.Plan.{Plan}
use Rattle.verity_commands.specs.declared.tree_fault.TreeFault.{TreeFault}
use Rattle.verity_commands.specs.declared.tree_fault.TreeFault.TheVariants.{Open, Trees}
use Rattle.verity_commands.specs.Surveys.{no_tree_fault}
use Rattle.verity_format.specs.declared.tree.VerityTree.{VerityTree}
use Rattle.verity_format.specs.declared.verifying.VerifyFault.TheVariants.{TooSmall}
use Rattle.verity_format.specs.Blocks.{IsOnlyRead}
use Rattle.verity_format.specs.Image.{tree_sectors}
use Rattle.verity_format.specs.Superblock.{SuperRecord}
use Rattle.verity_format.specs.Trees.{superblock_tree}
use Rattle.update_commands.specs.declared.release.Release.{Release}

-- the tree of the release is repaired, under its root hash, at the beginning of the hash image
abbrev pub plan_of : Release → Plan
plan_of release = record { tree = superblock_tree release.superblock; root = release.root; copy_first = 0; write = true }

-- ---- the root hash block of its hash image

-- The tree fits on the device, and its root hash block was read and has the root hash. A tree of one data block has no hash block.
pub record HasRoot (t : VerityTree) (root : List ℕ) (device : Device) : Type 0 where
  pub fits : tree_sectors t.shape ≤ device.size
  pub verified : IsRootRead t.shape t.salt root device

-- the tree ends after the device
pub record IsTreeCut (t : VerityTree) (device : Device) (fault : TreeFault) : Type 0 where
  pub past : device.size < tree_sectors t.shape
  pub is : fault ≡ Trees (Image Second TooSmall)

-- the root hash block has another digest, the device failed, or an allocation was refused before a read
pub record IsRootUnverified (t : VerityTree) (root : List ℕ) (device device' : Device) (fault : TreeFault) : Type 0 where
  pub cause : DifferenceFault
  pub why : IsRootCause t root device device' Second cause
  pub is : fault ≡ Trees cause

abbrev pub LacksRoot : VerityTree → List ℕ → Device → Device → TreeFault → Type 0
LacksRoot t root device device' fault = IsTreeCut t device fault ⊎ IsRootUnverified t root device device' fault

-- ---- the release

-- The image that the argument names was opened for reading, and its superblock read once. The superblock has the values of the pin,
-- whose root hash is that of the release, and the root hash block has this root hash.
pub record OpensRelease {S D : Type 0} (w : Calls S D) (path : List ℕ) (pin : Pin) (release : Release) : Type 0 where
  pub image : PlacedImage D
  pub looked : D
  pub opened : OpensPlace w path false image
  pub reads : ReadsSuper (w.state image.device) 0 (Some pin) release.superblock
  pub read : IsOnlyRead (w.state image.device) (w.state looked)
  pub rooted : HasRoot (superblock_tree release.superblock) pin.root (w.state looked)
  pub root_is : release.root ≡ pin.root

-- the image can't be opened
pub record IsReleaseUnopened {S D : Type 0} (w : Calls S D) (path : List ℕ) (fault : TreeFault) : Type 0 where
  pub file : UnopenedFile
  pub refused : RefusesPlace w path false file
  pub is : fault ≡ Open file

-- the image was opened, and has no superblock of the pin
pub record IsOtherRelease {S D : Type 0} (w : Calls S D) (path : List ℕ) (pin : Pin) (fault : TreeFault) : Type 0 where
  pub image : PlacedImage D
  pub after : D
  pub cause : NoTree
  pub opened : OpensPlace w path false image
  pub none : IsNoTree (w.state image.device) 0 (Some pin) (w.state after) cause
  pub is : fault ≡ no_tree_fault cause

-- the image was opened, and has a superblock of the pin, whose tree doesn't fit or whose root hash block wasn't verified
pub record IsOtherTree {S D : Type 0} (w : Calls S D) (path : List ℕ) (pin : Pin) (fault : TreeFault) : Type 0 where
  pub image : PlacedImage D
  pub looked : D
  pub after : D
  pub super : SuperRecord
  pub opened : OpensPlace w path false image
  pub reads : ReadsSuper (w.state image.device) 0 (Some pin) super
  pub read : IsOnlyRead (w.state image.device) (w.state looked)
  pub lacks : LacksRoot (superblock_tree super) pin.root (w.state looked) (w.state after) fault

abbrev pub HasNoRelease : {S D : Type 0} → Calls S D → List ℕ → Pin → TreeFault → Type 0
HasNoRelease w path pin fault = IsReleaseUnopened w path fault ⊎ (IsOtherRelease w path pin fault ⊎ IsOtherTree w path pin fault)

-- ---- in terms of an opener before and after

abbrev pub FindsRelease : {S D : Type 0} → Opener S D → (D → Device) → S → S → List ℕ → Pin → Release → Type 0
FindsRelease relations state old new path pin release = OpensRelease (calls relations state old new) path pin release

abbrev pub FindsNoRelease : {S D : Type 0} → Opener S D → (D → Device) → S → S → List ℕ → Pin → TreeFault → Type 0
FindsNoRelease relations state old new path pin fault = HasNoRelease (calls relations state old new) path pin fault
