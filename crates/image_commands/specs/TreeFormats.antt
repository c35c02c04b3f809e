-- What `format --no-superblock` makes and prints, and how it ends early.
use Rattle.std.specs.Prelude.{◌≡◌, ◌⊎◌, ℕ, false, true, min, IsTrue, List, ◌++◌, drop, None, Result, Ok, Err}
use Rattle.rand_core.specs.Stream.{Stream}
use Rattle.block_device.specs.Device.{Device, IsUnsynced, spliced, synced}
use Rattle.device_adapters.specs.Parts.{StandOutside, outside_of, part_behind}
use Rattle.device_adapters.specs.Windows.{windowed}
use Rattle.verity_format.specs.declared.formatting.FormatFault.{FormatFault}
use Rattle.verity_format.specs.declared.formatting.FormatFault.TheVariants.{Device as DeviceFailed}
use Rattle.verity_format.specs.declared.formatting.FormatOptions.{FormatOptions}
use Rattle.verity_format.specs.Blocks.{IsFullRead}
use Rattle.verity_format.specs.Image.{data_sectors, root_over, tree_over}
use Rattle.verity_format.specs.Options.{superblock_with}
use Rattle.verity_format.specs.Superblock.{SuperRecord, shape_of}
use Rattle.verity_format.specs.Trees.{shape_alone, tree_refusal}
use Rattle.command_line.specs.declared.image_options.ImageOptions.{ImageOptions}
use Rattle.image_files.specs.Opener.{Calls, Opener, calls}
use Rattle.image_files.specs.OpenPlaces.{ClosesPlace}
use Rattle.image_commands.specs.declared.fault.ImageFault.{ImageFault}
use Rattle.image_commands.specs.declared.fault.ImageFault.TheVariants.{Format}
use Rattle.image_commands.specs.declared.format.MadeImage.{MadeImage}
use Rattle.image_commands.specs.declared.paths.TwoImages.{TwoImages}
use Rattle.image_commands.specs.declared.places.Bounds.{Bounds}
use Rattle.image_commands.specs.declared.watching.WatchedPlaces.{WatchedPlaces}
use Rattle.image_commands.specs.ClearedTrees.{IsClearedEnd, IsMadeCleared, sectors_alone}
use Rattle.image_commands.specs.Drawing.{AreGiven, Drawing, Gives, drawing}
use Rattle.image_commands.specs.Offsets.{format_fault_from}
use Rattle.image_commands.specs.PlacedFormats.{EndsOverlapping, EndsUnaligned, EndsUndrawnPlaced, EndsUnopenedPlaced}
use Rattle.image_pin.specs.Finding.{is_aligned}
use Rattle.image_commands.specs.Places.{IsPartState, IsStateOf, OpensPlaced, TwoPlaces, before, behind, data_end, overlaps, two_places}
use Rattle.image_commands.specs.SuperblockTexts.{blocks_text, root_text, salt_text}
use Rattle.image_commands.specs.TreePlaces.{HasNoShape, unnamed}

-- a tree's root digest, salt and number of data blocks
unfoldable pub tree_text : MadeImage → List ℕ
tree_text made = root_text made.root ++ (salt_text made.salt ++ blocks_text made.blocks)

-- No refusal applied and no call failed. An old superblock at the tree's first sector was cleared; then the tree was made there
-- and synced. Over steady devices the tree over the data is in the hash image from that sector on, every other sector is as it
-- was, and that is its root hash. `Data` and `Hash` are what holds of the two devices that calls left.
pub record IsTreeMade (Data Hash : Device → Type 0) (s : SuperRecord) (data_dev hash_dev : Device) (first : ℕ) (hash_dev' : Device) (made : MadeImage) : Type 0 where
  pub data_dev' : Device
  pub left : Data data_dev'
  pub written : Device
  pub tree : IsMadeCleared Hash s data_dev (behind hash_dev first) data_dev' written made.root
  pub kept : windowed hash_dev' (part_behind hash_dev first) ≡ synced written
  pub fit : tree_refusal (shape_alone s) data_dev (behind hash_dev first) ≡ None
  pub read : IsFullRead data_dev (data_sectors (shape_of s)) data_dev'
  pub image : IsTrue data_dev.steady → IsTrue hash_dev.steady → hash_dev'.image ≡ spliced hash_dev.image (min first hash_dev.size) (tree_over (shape_alone s) s.salt data_dev.image)
  pub clean : hash_dev'.dirty ≡ false
  pub root : IsTrue data_dev.steady → made.root ≡ root_over (shape_of s) s.salt data_dev.image
  pub salt : made.salt ≡ s.salt
  pub blocks : made.blocks ≡ s.blocks

-- whatever came of it, over a steady device only the sectors of the tree changed
pub record IsTreeKept (s : SuperRecord) (hash_dev : Device) (first : ℕ) (hash_dev' : Device) : Type 0 where
  pub outside : StandOutside hash_dev' (part_behind hash_dev first) (outside_of hash_dev.image (part_behind hash_dev first))
  pub behind : IsTrue hash_dev.steady → drop (sectors_alone s) (windowed hash_dev' (part_behind hash_dev first)).image ≡ drop (sectors_alone s) (windowed hash_dev (part_behind hash_dev first)).image

-- a tree that was made was put on the medium, and that is what is printed of it
pub record IsFinished (s : SuperRecord) (root : Result (List ℕ) FormatFault) (old new : Device) (made : MadeImage) : Type 0 where
  pub root_is : root ≡ Ok made.root
  pub is_synced : new ≡ synced old
  pub salt : made.salt ≡ s.salt
  pub blocks : made.blocks ≡ s.blocks

-- a tree that was made couldn't be put on the medium
pub record IsLeftDirty (root : Result (List ℕ) FormatFault) (old new : Device) (fault : FormatFault) : Type 0 where
  pub made : List ℕ
  pub root_is : root ≡ Ok made
  pub unsynced : IsUnsynced old new
  pub is : fault ≡ DeviceFailed

-- none was made, or it couldn't be put on the medium
abbrev pub IsUnfinished : Result (List ℕ) FormatFault → Device → Device → FormatFault → Type 0
IsUnfinished root old new fault = ((root ≡ Err fault) × (new ≡ old)) ⊎ IsLeftDirty root old new fault

-- the tree was made, but couldn't be put on the medium
pub record IsTreeUnsynced (Hash : Device → Type 0) (s : SuperRecord) (data_dev hash_dev data_dev' hash_dev' : Device) (fault : FormatFault) : Type 0 where
  pub root : List ℕ
  pub written : Device
  pub made : IsMadeCleared Hash s data_dev hash_dev data_dev' written root
  pub unsynced : IsUnsynced written hash_dev'
  pub is : fault ≡ DeviceFailed

-- a refusal applied, an old superblock wasn't cleared, the tree wasn't finished, or it wasn't synced
abbrev pub IsPlacedTreeCause : (Device → Type 0) → (Device → Type 0) → SuperRecord → Device → Device → ℕ → Device → FormatFault → Type 0
IsPlacedTreeCause Data Hash s data_dev hash_dev first hash_dev' fault =
    (data_dev' : Device) × (Data data_dev' × (IsClearedEnd Hash s data_dev (behind hash_dev first) data_dev' (windowed hash_dev' (part_behind hash_dev first)) fault
    ⊎ IsTreeUnsynced Hash s data_dev (behind hash_dev first) data_dev' (windowed hash_dev' (part_behind hash_dev first)) fault))

-- so it ended, and only the sectors of the tree changed
abbrev pub IsTreeUnmade : (Device → Type 0) → (Device → Type 0) → SuperRecord → Device → Device → ℕ → Device → FormatFault → Type 0
IsTreeUnmade Data Hash s data_dev hash_dev first hash_dev' = λ fault. IsPlacedTreeCause Data Hash s data_dev hash_dev first hash_dev' fault × IsTreeKept s hash_dev first hash_dev'

-- there is no tree of that shape, and the hash device wasn't asked; or one of these
abbrev pub IsTreeEnd : (Device → Type 0) → (Device → Type 0) → SuperRecord → Device → Device → ℕ → Device → FormatFault → Type 0
IsTreeEnd Data Hash s data_dev hash_dev first hash_dev' fault =
    (HasNoShape s fault × (hash_dev' ≡ hash_dev)) ⊎ (IsPlacedTreeCause Data Hash s data_dev hash_dev first hash_dev' fault × IsTreeKept s hash_dev first hash_dev')

-- the data of two images
abbrev pub data_of : {S D : Type 0} → Calls S D → TwoImages D → ℕ → Device
data_of w two first = before (w.state two.data.device) (data_end two first)

-- what the options say of a tree over some data
abbrev pub tree_with : FormatOptions → Device → SuperRecord
tree_with options data_dev = superblock_with options data_dev.size

-- What was made of the two images, with the options as they are given or drawn. The hash image was synced and closed
-- where it was opened.
pub record MakesTree {S D T G : Type 0} (w : Calls S D) (d : Drawing T G) (options : ImageOptions) (places : TwoPlaces) (made : MadeImage) : Type 0 where
  pub given : FormatOptions
  pub two : TwoImages D
  pub hash_dev' : D
  pub between : S
  pub aligned : is_aligned places.first options.hash_block ≡ true
  pub opened : OpensPlaced (record w { new = between }) places two
  pub apart : overlaps two places.first options.blocks ≡ false
  pub are_given : AreGiven d (unnamed options) given
  pub tree : IsTreeMade (IsPartState w.state) (IsPartState w.state) (tree_with given (data_of w two places.first)) (data_of w two places.first) (w.state two.hash.device) places.first (w.state hash_dev') made
  pub closed : ClosesPlace (record w { old = between }) two.hash.place hash_dev'

-- a tree of the two images isn't made; the sectors that are needed count from the beginning of HASH
pub record EndsTree {S D T G : Type 0} (w : Calls S D) (d : Drawing T G) (options : ImageOptions) (places : TwoPlaces) (fault : ImageFault) : Type 0 where
  pub given : FormatOptions
  pub two : TwoImages D
  pub hash_dev' : D
  pub cause : FormatFault
  pub opened : OpensPlaced w places two
  pub are_given : AreGiven d (unnamed options) given
  pub ends : IsTreeEnd (IsPartState w.state) (IsPartState w.state) (tree_with given (data_of w two places.first)) (data_of w two places.first) (w.state two.hash.device) places.first (w.state hash_dev') cause
  pub is : fault ≡ Format (format_fault_from places.first cause)

-- one of these
abbrev pub IsMakingTreeEnd : {S D T G : Type 0} → Calls S D → Drawing T G → ImageOptions → TwoPlaces → ImageFault → Type 0
IsMakingTreeEnd w d options places fault =
    EndsUnaligned w d options places fault ⊎ (EndsUnopenedPlaced w d places fault ⊎ (EndsUndrawnPlaced w d (unnamed options) places fault ⊎ (EndsTree w d options places fault
    ⊎ EndsOverlapping w d options places fault)))

-- ---- as a call sees them: an opener's relations and what a proof sees of its devices, and what gives generators and what a proof sees of
-- one, each with its value before and after

abbrev pub MakesTreeAt : {S D T G : Type 0} → Opener S D → (D → Device) → S → S → Gives T G → (G → Stream) → T → T → ImageOptions → WatchedPlaces → MadeImage → Type 0
MakesTreeAt relations state images images' gives stream generators generators' options watched =
    MakesTree (calls relations state images images') (drawing gives stream generators generators') options (two_places watched.places)

abbrev pub FailsToMakeTreeAt : {S D T G : Type 0} → Opener S D → (D → Device) → S → S → Gives T G → (G → Stream) → T → T → ImageOptions → WatchedPlaces → ImageFault → Type 0
FailsToMakeTreeAt relations state images images' gives stream generators generators' options watched =
    IsMakingTreeEnd (calls relations state images images') (drawing gives stream generators generators') options (two_places watched.places)

-- two devices that are open, and the second after the formatting
abbrev pub MakesTreeBehind : {D H : Type 0} → (D → Device) → (H → Device) → D → H → H → Bounds → FormatOptions → MadeImage → Type 0
MakesTreeBehind data_state hash_state data_dev hash_dev hash_dev' bounds options =
    let data_part = before (data_state data_dev) bounds.end in IsTreeMade (IsPartState data_state) (IsPartState hash_state) (tree_with options data_part) data_part (hash_state hash_dev) bounds.first (hash_state hash_dev')

-- the tree of a shape isn't made at a sector
abbrev pub FailsToMakeShape : {D H : Type 0} → SuperRecord → (D → Device) → (H → Device) → D → H → H → ℕ → FormatFault → Type 0
FailsToMakeShape s data_state hash_state data_dev hash_dev hash_dev' first = IsTreeUnmade (IsStateOf data_state) (IsPartState hash_state) s (data_state data_dev) (hash_state hash_dev) first (hash_state hash_dev')

abbrev pub FailsToMakeTree : {D H : Type 0} → (D → Device) → (H → Device) → D → H → H → Bounds → FormatOptions → FormatFault → Type 0
FailsToMakeTree data_state hash_state data_dev hash_dev hash_dev' bounds options =
    let data_part = before (data_state data_dev) bounds.end in IsTreeEnd (IsPartState data_state) (IsPartState hash_state) (tree_with options data_part) data_part (hash_state hash_dev) bounds.first (hash_state hash_dev')
