-- What the two images store after an update.
use Rattle.std.specs.Prelude.{◌≡◌, ◌⊎◌, ◌/◌, ℕ, false, List, [], None, Option, Some, take}
use Rattle.std.specs.List.{slice_index_or}
use Rattle.block_device.specs.Device.{Device, sectors_of}
use Rattle.command_line.specs.declared.image_copies.ImageCopy.{ImageCopy}
use Rattle.image_files.specs.Opener.{Opener, calls}
use Rattle.image_pin.specs.declared.pin.Pin.{Pin}
use Rattle.image_pin.specs.Laws.{IsPinned}
use Rattle.image_pin.specs.PinnedReads.{mismatch_of}
use Rattle.repair_commands.specs.Commands.{opened_world}
use Rattle.tree_path.specs.Laws.{Collide}
use Rattle.tree_repair.specs.Standing.{IsWorldSteady}
use Rattle.tree_repair.specs.Valid.{AreAllValid, HoldsTreeOver}
use Rattle.tree_survey.specs.Passes.{tree_under}
use Rattle.tree_survey.specs.Surveys.{Tree}
use Rattle.verity_commands.specs.Surveyed.{SurveyedDevices, surveyed_devices}
use Rattle.verity_format.specs.Image.{first_block}
use Rattle.verity_format.specs.Superblock.{IsSuperblock, spelling}
use Rattle.verity_format.specs.Trees.{superblock_tree}
use Rattle.update_commands.specs.declared.release.Release.{Release}
use Rattle.update_commands.specs.Commands.{Order, UpdatesParts}

-- the tree of a release, under its root hash
abbrev pub release_tree : Release → Tree
release_tree r = tree_under (superblock_tree r.superblock) r.root

-- the superblock of the release has the values of the pin, whose root hash is that of the release
pub record IsReleaseOf (pin : Pin) (r : Release) : Type 0 where
  pub is_super : IsSuperblock r.superblock
  pub pinned : mismatch_of (Some pin) r.superblock ≡ None
  pub root_is : r.root ≡ pin.root

-- All blocks are valid under the root hash of the release, the first sector of the hash device is its superblock, zeros follow up to hash
-- block 1, as `format` writes them, and all is synced.
pub record HoldsRelease (r : Release) (t : SurveyedDevices) : Type 0 where
  pub valid : AreAllValid (release_tree r) t.data_dev.image t.hash_dev.image
  pub superblock : slice_index_or t.hash_dev.image 0 [] ≡ spelling r.superblock
  pub first : take (r.superblock.hash_block / 512) t.hash_dev.image ≡ sectors_of (r.superblock.hash_block / 512) (first_block r.superblock)
  pub data_clean : t.data_dev.dirty ≡ false
  pub hash_clean : t.hash_dev.dirty ≡ false

-- After an update the two devices that were closed hold the release of the pin, also if a file can't be shortened then, if they were
-- steady when they were opened, whatever the images of the release and the copies returned; or two different inputs have one digest.
abbrev pub UpdatedImagesHoldTheRelease : {S D : Type 0} → Opener S D → (D → Device) → Type 0
UpdatedImagesHoldTheRelease {S} {D} relations state =
    (old new : S) → (o : Order) → (copies : List ImageCopy) → (before behind : Option (List ℕ)) → (u : UpdatesParts (calls relations state old new) o copies before behind)
    → IsWorldSteady (opened_world state u.opened)
    → IsReleaseOf o.pin u.release × (HoldsRelease u.release (surveyed_devices (state u.updates.data_dev) (state u.updates.hash_dev)) ⊎ Collide u.release.superblock.salt)

-- Two devices that hold the release of a pin store any data blocks that have this pin, and the tree over them; or two different
-- inputs have one digest.
abbrev pub ReleasesStorePinnedData : Type 0
ReleasesStorePinnedData = (pin : Pin) → (r : Release) → IsReleaseOf pin r → (t : SurveyedDevices) → HoldsRelease r t → (blocks : List (List ℕ)) → IsPinned pin blocks
    → HoldsTreeOver (release_tree r) blocks t.data_dev.image t.hash_dev.image ⊎ Collide r.superblock.salt
