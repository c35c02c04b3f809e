-- What `format --grow` makes sure of before it makes a file.
use Rattle.std.specs.Prelude.{◌≡◌, ◌⊎◌, ◌<◌, ◌≤◌, true, false, Some, None, IsSome}
use Rattle.rand_core.specs.Stream.{Stream}
use Rattle.block_device.specs.Device.{Device}
use Rattle.tree_shape.specs.Shape.{first_fault}
use Rattle.command_line.specs.declared.image_options.ImageOptions.{ImageOptions}
use Rattle.image_files.specs.declared.placed_image.PlacedImage.{PlacedImage}
use Rattle.image_files.specs.Opener.{Calls, Opener, calls}
use Rattle.image_files.specs.OpenPlaces.{OpensPlace, RefusesPlace}
use Rattle.verity_format.specs.declared.formatting.FormatFault.{FormatFault}
use Rattle.verity_format.specs.declared.formatting.FormatFault.TheVariants.{DataTooSmall, Shape}
use Rattle.verity_format.specs.declared.formatting.FormatOptions.{FormatOptions}
use Rattle.verity_format.specs.Image.{data_sectors}
use Rattle.verity_format.specs.Options.{superblock_with}
use Rattle.verity_format.specs.Superblock.{shape_of}
use Rattle.image_commands.specs.declared.fault.ImageFault.{ImageFault}
use Rattle.image_commands.specs.declared.fault.ImageFault.TheVariants.{Format, Random}
use Rattle.image_commands.specs.declared.places.ImagePlaces.{ImagePlaces}
use Rattle.image_commands.specs.Drawing.{AreGiven, Drawing, Gives, IsUndrawn, drawing}
use Rattle.image_commands.specs.Endings.{IsUnopened}
use Rattle.image_commands.specs.PlacedFormats.{EndsUnaligned}
use Rattle.image_pin.specs.Finding.{is_aligned}
use Rattle.image_commands.specs.Places.{TwoPlaces, two_places}

-- the given options, with none left to be drawn
abbrev pub said_options : FormatOptions → ImageOptions
said_options o = record { data_block = o.data_block; hash_block = o.hash_block; blocks = o.blocks; salt = Some o.salt; uuid = Some o.uuid }

-- there is a tree over the data blocks, and they lie on the device
abbrev pub HasRoom : FormatOptions → Device → Type 0
HasRoom options data_dev =
    (first_fault (shape_of (superblock_with options data_dev.size)) ≡ None) × (data_sectors (shape_of (superblock_with options data_dev.size)) ≤ data_dev.size)

-- there is no tree of such a shape, or the device has fewer sectors
abbrev pub IsNoPlacedTree : FormatOptions → Device → FormatFault → Type 0
IsNoPlacedTree options data_dev Shape = IsSome (first_fault (shape_of (superblock_with options data_dev.size)))
IsNoPlacedTree options data_dev DataTooSmall = data_dev.size < data_sectors (shape_of (superblock_with options data_dev.size))
IsNoPlacedTree options data_dev fault = ⊥

-- A tree may begin at that place. The options are as they are given or drawn, and the data image was opened, and has the data
-- blocks.
pub record IsPrepared {S D T G : Type 0} (w : Calls S D) (d : Drawing T G) (options : ImageOptions) (places : TwoPlaces) (said : ImageOptions) : Type 0 where
  pub given : FormatOptions
  pub image : PlacedImage D
  pub aligned : is_aligned places.first options.hash_block ≡ true
  pub are_given : AreGiven d options given
  pub opened : OpensPlace w places.paths.data_path false image
  pub room : HasRoom given (w.state image.device)
  pub is : said ≡ said_options given

-- something has to be drawn, but there are no random bytes; nothing was opened
pub record IsUnprepared {S D T G : Type 0} (w : Calls S D) (d : Drawing T G) (options : ImageOptions) (fault : ImageFault) : Type 0 where
  pub undrawn : IsUndrawn d options
  pub is : fault ≡ Random
  pub same : w.new ≡ w.old

-- the data image doesn't fit
pub record HasNoRoom {S D : Type 0} (w : Calls S D) (given : FormatOptions) (places : TwoPlaces) (fault : ImageFault) : Type 0 where
  pub image : PlacedImage D
  pub cause : FormatFault
  pub opened : OpensPlace w places.paths.data_path false image
  pub unfit : IsNoPlacedTree given (w.state image.device) cause
  pub is : fault ≡ Format cause

-- the options were given or drawn, but the data image isn't opened or doesn't fit
pub record HasNoData {S D T G : Type 0} (w : Calls S D) (d : Drawing T G) (options : ImageOptions) (places : TwoPlaces) (fault : ImageFault) : Type 0 where
  pub given : FormatOptions
  pub are_given : AreGiven d options given
  pub cause : IsUnopened (RefusesPlace w places.paths.data_path false) fault ⊎ HasNoRoom w given places fault

abbrev pub IsPreparingEnd : {S D T G : Type 0} → Calls S D → Drawing T G → ImageOptions → TwoPlaces → ImageFault → Type 0
IsPreparingEnd w d options places fault = EndsUnaligned w d options places fault ⊎ (IsUnprepared w d options fault ⊎ HasNoData w d options places fault)

-- ---- as a call sees them

abbrev pub PreparesImage : {S D T G : Type 0} → Opener S D → (D → Device) → S → S → Gives T G → (G → Stream) → T → T → ImageOptions → ImagePlaces → ImageOptions → Type 0
PreparesImage relations state images images' gives stream generators generators' options places =
    IsPrepared (calls relations state images images') (drawing gives stream generators generators') options (two_places places)

abbrev pub FailsToPrepare : {S D T G : Type 0} → Opener S D → (D → Device) → S → S → Gives T G → (G → Stream) → T → T → ImageOptions → ImagePlaces → ImageFault → Type 0
FailsToPrepare relations state images images' gives stream generators generators' options places =
    IsPreparingEnd (calls relations state images images') (drawing gives stream generators generators') options (two_places places)
