-- What `format` makes of a hash image that begins at a sector of a file, and how it ends early.
use Rattle.std.specs.Prelude.{◌≡◌, ◌⊎◌, ℕ, Bool, true, false}
use Rattle.rand_core.specs.Stream.{Stream}
use Rattle.block_device.specs.Device.{Device}
use Rattle.device_adapters.specs.Parts.{StandOutside, outside_of, part_behind}
use Rattle.device_adapters.specs.Windows.{windowed}
use Rattle.verity_format.specs.declared.formatting.FormatFault.{FormatFault}
use Rattle.verity_format.specs.declared.formatting.FormatOptions.{FormatOptions}
use Rattle.command_line.specs.declared.image_options.ImageOptions.{ImageOptions}
use Rattle.image_files.specs.Opener.{Calls, Opener, calls}
use Rattle.image_files.specs.OpenPlaces.{ClosesPlace}
use Rattle.image_commands.specs.declared.fault.ImageFault.{ImageFault}
use Rattle.image_commands.specs.declared.fault.ImageFault.TheVariants.{DataOverlapsTree, Format, Random, Unaligned}
use Rattle.image_commands.specs.declared.format.MadeImage.{MadeImage}
use Rattle.image_commands.specs.declared.paths.TwoImages.{TwoImages}
use Rattle.image_commands.specs.declared.places.Bounds.{Bounds}
use Rattle.image_commands.specs.declared.watching.WatchedPlaces.{WatchedPlaces}
use Rattle.image_commands.specs.Drawing.{AreGiven, Drawing, Gives, IsUndrawn, drawing}
use Rattle.image_commands.specs.Endings.{IsUnopened}
use Rattle.image_commands.specs.Formats.{IsFormatEnd, IsMade}
use Rattle.image_commands.specs.Offsets.{format_fault_from}
use Rattle.image_pin.specs.Finding.{is_aligned}
use Rattle.image_commands.specs.Places.{FailsToOpenPlaced, IsPartState, OpensPlaced, TwoPlaces, before, behind, data_end, overlaps, two_places}

-- the two devices before and after a formatting, the sector where the data end, and the one where the hash image begins
pub record Placing : Type 0 where
  pub data_dev : Device
  pub hash_dev : Device
  pub hash_dev' : Device
  pub end : ℕ
  pub first : ℕ

-- the hash image after the formatting
abbrev pub image_behind : Placing → Device
image_behind p = windowed p.hash_dev' (part_behind p.hash_dev p.first)

-- over a steady device all before the hash image is as it was
abbrev pub KeepsBefore : Placing → Type 0
KeepsBefore p = StandOutside p.hash_dev' (part_behind p.hash_dev p.first) (outside_of p.hash_dev.image (part_behind p.hash_dev p.first))

-- the hash image was made of the data that lie before their end; `Data` and `Hash` are what holds of the two devices that calls left
pub record IsMadePlaced (Data Hash : Device → Type 0) (options : FormatOptions) (p : Placing) (image : MadeImage) : Type 0 where
  pub data_dev' : Device
  pub left : Data data_dev'
  pub made : IsMade Hash options (before p.data_dev p.end) (behind p.hash_dev p.first) data_dev' (image_behind p) image
  pub kept : KeepsBefore p

-- it was refused, not finished, or not synced
pub record IsPlacedEnd (Data Hash : Device → Type 0) (options : FormatOptions) (p : Placing) (fault : FormatFault) : Type 0 where
  pub data_dev' : Device
  pub left : Data data_dev'
  pub ends : IsFormatEnd Hash options (before p.data_dev p.end) (behind p.hash_dev p.first) data_dev' (image_behind p) (Format fault)
  pub kept : KeepsBefore p

-- the devices of two images
abbrev pub placing_of : {S D : Type 0} → Calls S D → TwoImages D → ℕ → D → Placing
placing_of w two first hash_dev' = record { data_dev = w.state two.data.device; hash_dev = w.state two.hash.device; hash_dev' = w.state hash_dev'; end = data_end two first; first = first }

-- What was made of the two images, with the options as they are given or drawn. The hash image was synced and closed
-- where it was opened.
pub record MakesPlaced {S D T G : Type 0} (w : Calls S D) (d : Drawing T G) (options : ImageOptions) (places : TwoPlaces) (image : MadeImage) : Type 0 where
  pub given : FormatOptions
  pub two : TwoImages D
  pub hash_dev' : D
  pub between : S
  pub aligned : is_aligned places.first options.hash_block ≡ true
  pub opened : OpensPlaced (record w { new = between }) places two
  pub apart : overlaps two places.first options.blocks ≡ false
  pub are_given : AreGiven d options given
  pub made : IsMadePlaced (IsPartState w.state) (IsPartState w.state) given (placing_of w two places.first hash_dev') image
  pub closed : ClosesPlace (record w { old = between }) two.hash.place hash_dev'

-- no hash block begins there, and nothing was opened or drawn
pub record EndsUnaligned {S D T G : Type 0} (w : Calls S D) (d : Drawing T G) (options : ImageOptions) (places : TwoPlaces) (fault : ImageFault) : Type 0 where
  pub unaligned : is_aligned places.first options.hash_block ≡ false
  pub is : fault ≡ Unaligned
  pub same_images : w.new ≡ w.old
  pub same : d.new ≡ d.old

-- before anything is drawn one of the two isn't opened
pub record EndsUnopenedPlaced {S D T G : Type 0} (w : Calls S D) (d : Drawing T G) (places : TwoPlaces) (fault : ImageFault) : Type 0 where
  pub unopened : IsUnopened (FailsToOpenPlaced w places) fault
  pub same : d.new ≡ d.old

-- both are open, but data and tree are in one image and no number of blocks says where the data end; nothing is drawn
pub record EndsOverlapping {S D T G : Type 0} (w : Calls S D) (d : Drawing T G) (options : ImageOptions) (places : TwoPlaces) (fault : ImageFault) : Type 0 where
  pub two : TwoImages D
  pub opened : OpensPlaced w places two
  pub one : overlaps two places.first options.blocks ≡ true
  pub is : fault ≡ DataOverlapsTree
  pub same : d.new ≡ d.old

-- both are open, and something has to be drawn, but there are no random bytes
pub record EndsUndrawnPlaced {S D T G : Type 0} (w : Calls S D) (d : Drawing T G) (options : ImageOptions) (places : TwoPlaces) (fault : ImageFault) : Type 0 where
  pub two : TwoImages D
  pub opened : OpensPlaced w places two
  pub undrawn : IsUndrawn d options
  pub is : fault ≡ Random

-- a formatting of the two images ends early; the sectors that are needed count from the beginning of HASH
pub record EndsPlaced {S D T G : Type 0} (w : Calls S D) (d : Drawing T G) (options : ImageOptions) (places : TwoPlaces) (fault : ImageFault) : Type 0 where
  pub given : FormatOptions
  pub two : TwoImages D
  pub hash_dev' : D
  pub cause : FormatFault
  pub opened : OpensPlaced w places two
  pub are_given : AreGiven d options given
  pub ends : IsPlacedEnd (IsPartState w.state) (IsPartState w.state) given (placing_of w two places.first hash_dev') cause
  pub is : fault ≡ Format (format_fault_from places.first cause)

-- one of these
abbrev pub IsMakingPlacedEnd : {S D T G : Type 0} → Calls S D → Drawing T G → ImageOptions → TwoPlaces → ImageFault → Type 0
IsMakingPlacedEnd w d options places fault =
    EndsUnaligned w d options places fault ⊎ (EndsUnopenedPlaced w d places fault ⊎ (EndsUndrawnPlaced w d options places fault ⊎ (EndsPlaced w d options places fault
    ⊎ EndsOverlapping w d options places fault)))

-- ---- as a call sees them: an opener's relations and what a proof sees of its devices, what gives generators and what a proof sees of one,
-- and what a proof sees of a writer, each with its value before and after

abbrev pub MakesImagesAt : {S D T G : Type 0} → Opener S D → (D → Device) → S → S → Gives T G → (G → Stream) → T → T → ImageOptions → WatchedPlaces → MadeImage → Type 0
MakesImagesAt relations state images images' gives stream generators generators' options watched =
    MakesPlaced (calls relations state images images') (drawing gives stream generators generators') options (two_places watched.places)

abbrev pub FailsToMakeAt : {S D T G : Type 0} → Opener S D → (D → Device) → S → S → Gives T G → (G → Stream) → T → T → ImageOptions → WatchedPlaces → ImageFault → Type 0
FailsToMakeAt relations state images images' gives stream generators generators' options watched =
    IsMakingPlacedEnd (calls relations state images images') (drawing gives stream generators generators') options (two_places watched.places)

-- two devices that are open, and the second after the formatting
abbrev pub placing : {D H : Type 0} → (D → Device) → (H → Device) → D → H → H → Bounds → Placing
placing data_state hash_state data_dev hash_dev hash_dev' bounds =
    record { data_dev = data_state data_dev; hash_dev = hash_state hash_dev; hash_dev' = hash_state hash_dev'; end = bounds.end; first = bounds.first }

abbrev pub MakesImageAt : {D H : Type 0} → (D → Device) → (H → Device) → D → H → H → Bounds → FormatOptions → MadeImage → Type 0
MakesImageAt data_state hash_state data_dev hash_dev hash_dev' bounds options = IsMadePlaced (IsPartState data_state) (IsPartState hash_state) options (placing data_state hash_state data_dev hash_dev hash_dev' bounds)

abbrev pub IsUnmadeAt : {D H : Type 0} → (D → Device) → (H → Device) → D → H → H → Bounds → FormatOptions → FormatFault → Type 0
IsUnmadeAt data_state hash_state data_dev hash_dev hash_dev' bounds options = IsPlacedEnd (IsPartState data_state) (IsPartState hash_state) options (placing data_state hash_state data_dev hash_dev hash_dev' bounds)
