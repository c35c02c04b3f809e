-- What `format` makes, writes and prints, and how it ends early.
use Rattle.std.specs.Io.KnownBytes.{Appends}
use Rattle.std.specs.Prelude.{◌≡◌, ◌⊎◌, ℕ, ◌/◌, Bool, true, false, List, Option}
use Rattle.block_device.specs.Device.{Device}
use Rattle.program_io.specs.Counted.{CountedRecord}
use Rattle.command_line.specs.declared.image_options.ImageOptions.{ImageOptions}
use Rattle.command_line.specs.declared.option_words.OptionWords.{OptionWords}
use Rattle.command_line.specs.declared.words.format.FormatWords.{FormatWords}
use Rattle.command_line.specs.FormatOptions.{AreSaid, OptionTexts, option_texts}
use Rattle.command_line.specs.words.Format.{FormatRecord, format_record}
use Rattle.image_commands.specs.declared.fault.ImageFault.{ImageFault}
use Rattle.image_commands.specs.declared.fault.ImageFault.TheVariants.{Format}
use Rattle.image_commands.specs.declared.format.MadeImage.{MadeImage}
use Rattle.image_commands.specs.declared.watching.WatchedPlaces.{WatchedPlaces}
use Rattle.image_commands.specs.Drawing.{Drawing}
use Rattle.image_commands.specs.Endings.{IsLineUnwritten}
use Rattle.image_commands.specs.Formats.{made_text}
use Rattle.image_commands.specs.PinFiles.{CanWriteRoot, IsRootRefused, IsRootUnwritten, WritesRoot, pin_of_image}
use Rattle.image_commands.specs.PlacedFormats.{IsMakingPlacedEnd, MakesPlaced}
use Rattle.image_commands.specs.Places.{TwoPlaces, two_places}
use Rattle.image_commands.specs.Preparing.{IsPreparingEnd}
use Rattle.image_commands.specs.TreeFormats.{IsMakingTreeEnd, MakesTree, tree_text}
use Rattle.image_commands.specs.TreePlaces.{unnamed}
use Rattle.image_files.specs.Opener.{Calls, Opener, calls}
use Rattle.verity_commands.specs.declared.verity_fault.VerityFault.{VerityFault}
use Rattle.verity_commands.specs.Endings.{IsImageEnd, IsUnsaid, IsVerityQuiet}
use Rattle.verity_commands.specs.Growing.{FormatsGrowing, IsGrowingEnd, PreparesFirst}
use Rattle.verity_commands.specs.Places.{image_places}
use Rattle.verity_format.specs.declared.formatting.FormatFault.TheVariants.{HashTooSmall}

-- without a superblock (`bare`) a tree is made alone, otherwise an image
abbrev pub MakesOnce : {S D T G : Type 0} → Bool → Calls S D → Drawing T G → ImageOptions → TwoPlaces → MadeImage → Type 0
MakesOnce true w d options places made = MakesTree w d options places made
MakesOnce false w d options places made = MakesPlaced w d options places made

abbrev pub IsMakingOnceEnd : {S D T G : Type 0} → Bool → Calls S D → Drawing T G → ImageOptions → TwoPlaces → ImageFault → Type 0
IsMakingOnceEnd true w d options places fault = IsMakingTreeEnd w d options places fault
IsMakingOnceEnd false w d options places fault = IsMakingPlacedEnd w d options places fault

-- a tree alone has no identifier
abbrev pub options_for : Bool → ImageOptions → ImageOptions
options_for true options = unnamed options
options_for false options = options

-- what is printed of it: its root, salt and number of blocks, and an image's identifier
abbrev pub text_of_made : Bool → MadeImage → List ℕ
text_of_made true made = tree_text made
text_of_made false made = made_text made

-- HASH has too few sectors for what is formatted, which needs so many from the beginning of HASH on
abbrev pub IsTooSmall : {S D T G : Type 0} → Bool → ImageOptions → TwoPlaces → Calls S D → Drawing T G → ℕ → Type 0
IsTooSmall bare options places w d needed = IsMakingOnceEnd bare w d options places (Format (HashTooSmall needed))

-- what was made once HASH had the sectors that are needed
abbrev pub MakesGrown : {S D T G : Type 0} → Bool → TwoPlaces → MadeImage → Calls S D → Drawing T G → ImageOptions → Type 0
MakesGrown bare places made w d options = FormatsGrowing w d places.paths.hash_path (IsTooSmall bare options places) (λ w' d'. MakesOnce bare w' d' options places made)

abbrev pub IsGrownEnd : {S D T G : Type 0} → Bool → TwoPlaces → ImageFault → Calls S D → Drawing T G → ImageOptions → Type 0
IsGrownEnd bare places fault w d options = IsGrowingEnd w d places.paths.hash_path (IsTooSmall bare options places) (λ w' d' f. IsMakingOnceEnd bare w' d' options places f) fault

-- with `--grow`, and without
abbrev pub MakesImage : {S D T G : Type 0} → Bool → Bool → Calls S D → Drawing T G → ImageOptions → TwoPlaces → MadeImage → Type 0
MakesImage true bare w d options places made = PreparesFirst w d (options_for bare options) places (MakesGrown bare places made)
MakesImage false bare w d options places made = MakesOnce bare w d options places made

abbrev pub IsMakingEnd : {S D T G : Type 0} → Bool → Bool → Calls S D → Drawing T G → ImageOptions → TwoPlaces → ImageFault → Type 0
IsMakingEnd true bare w d options places fault =
    IsPreparingEnd w d (options_for bare options) places fault ⊎ PreparesFirst w d (options_for bare options) places (IsGrownEnd bare places fault)
IsMakingEnd false bare w d options places fault = IsMakingOnceEnd bare w d options places fault

-- ---- by the arguments of a format

-- the two images
abbrev pub format_places : FormatRecord → TwoPlaces
format_places f = image_places f.data_path f.hash_path f.hash_offset

abbrev pub MakesSaid : {S D T G : Type 0} → Calls S D → Drawing T G → ImageOptions → FormatRecord → MadeImage → Type 0
MakesSaid w d options f made = MakesImage f.grow f.no_superblock w d options (format_places f) made

abbrev pub IsSaidEnd : {S D T G : Type 0} → Calls S D → Drawing T G → ImageOptions → FormatRecord → ImageFault → Type 0
IsSaidEnd w d options f fault = IsMakingEnd f.grow f.no_superblock w d options (format_places f) fault

-- if a pin or a root hash is to be written to FILE, this is neither DATA nor HASH and can be written; then the image was made
pub record MakesApart {S D T G : Type 0} (w : Calls S D) (d : Drawing T G) (options : ImageOptions) (f : FormatRecord) (made : MadeImage) : Type 0 where
  pub between : S
  pub path : CanWriteRoot (record w { new = between }) f.data_path f.hash_path f.file
  pub makes : MakesSaid (record w { old = between }) d options f made

-- then FILE still was neither DATA nor HASH, and the pin or the root hash replaced what FILE held
pub record MakesPinned {S D T G : Type 0} (w : Calls S D) (d : Drawing T G) (options : ImageOptions) (f : FormatRecord) (made : MadeImage) : Type 0 where
  pub between : S
  pub makes : MakesApart (record w { new = between }) d options f made
  pub writes : WritesRoot (record w { old = between }) f.data_path f.hash_path f.file (pin_of_image options made)

-- and then what was made was printed
abbrev pub FormatsAt : {S D T G : Type 0} → OptionTexts → Calls S D → Drawing T G → FormatRecord → Option (List ℕ) → Option (List ℕ) → Type 0
FormatsAt texts w d f old new =
    (options : ImageOptions) × AreSaid texts options × ((made : MadeImage) × MakesPinned w d options f made × Appends old new (text_of_made f.no_superblock made))

-- the image isn't made
pub record EndsUnmade {S D T G : Type 0} (w : Calls S D) (d : Drawing T G) (options : ImageOptions) (f : FormatRecord) (fault : ImageFault) : Type 0 where
  pub between : S
  pub path : CanWriteRoot (record w { new = between }) f.data_path f.hash_path f.file
  pub ends : IsSaidEnd (record w { old = between }) d options f fault

-- it was made, but FILE isn't written
pub record EndsUnpinned {S D T G : Type 0} (w : Calls S D) (d : Drawing T G) (options : ImageOptions) (f : FormatRecord) (fault : ImageFault) : Type 0 where
  pub between : S
  pub made : MadeImage
  pub makes : MakesApart (record w { new = between }) d options f made
  pub unwritten : IsRootUnwritten (record w { old = between }) f.data_path f.hash_path f.file (pin_of_image options made) fault

-- FILE is one of the images or can't be written, and nothing was made; one of these; or the text of what was made can't be written
abbrev pub IsFormatCause : {S D T G : Type 0} → Calls S D → Drawing T G → ImageOptions → FormatRecord → Bool → ImageFault → Type 0
IsFormatCause w d options f failed fault =
    (IsRootRefused w f.data_path f.hash_path f.file fault × (d.new ≡ d.old))
    ⊎ (EndsUnmade w d options f fault ⊎ (EndsUnpinned w d options f fault ⊎ ((made : MadeImage) × MakesPinned w d options f made × IsLineUnwritten failed fault)))

-- a word of the options says no value, or memory ran out while they were read, and nothing was opened; or it ended so
abbrev pub IsSaidFormatEnd : {S D T G : Type 0} → OptionTexts → Calls S D → Drawing T G → FormatRecord → Option (List ℕ) → Option (List ℕ) → Bool → VerityFault → Type 0
IsSaidFormatEnd texts w d f old new failed fault =
    ((IsUnsaid texts fault × (w.new ≡ w.old))
    ⊎ ((options : ImageOptions) × AreSaid texts options × IsImageEnd (IsFormatCause w d options f failed) fault))
    × IsVerityQuiet fault old new

-- ---- as a call sees them

-- at once
abbrev pub MakesAtOnce : {S D T G : Type 0} → Bool → Opener S D → (D → Device) → S → S → Drawing T G → ImageOptions → WatchedPlaces → MadeImage → Type 0
MakesAtOnce bare relations state images images' d options watched = MakesOnce bare (calls relations state images images') d options (two_places watched.places)

abbrev pub FailsAtOnce : {S D T G : Type 0} → Bool → Opener S D → (D → Device) → S → S → Drawing T G → ImageOptions → WatchedPlaces → ImageFault → Type 0
FailsAtOnce bare relations state images images' d options watched = IsMakingOnceEnd bare (calls relations state images images') d options (two_places watched.places)

-- once HASH has the sectors that are needed
abbrev pub MakesGrownImage : {S D T G : Type 0} → Bool → Opener S D → (D → Device) → S → S → Drawing T G → ImageOptions → WatchedPlaces → MadeImage → Type 0
MakesGrownImage bare relations state images images' d options watched made =
    MakesGrown bare (two_places watched.places) made (calls relations state images images') d options

abbrev pub FailsGrownImage : {S D T G : Type 0} → Bool → Opener S D → (D → Device) → S → S → Drawing T G → ImageOptions → WatchedPlaces → ImageFault → Type 0
FailsGrownImage bare relations state images images' d options watched fault =
    IsGrownEnd bare (two_places watched.places) fault (calls relations state images images') d options

-- the places of the two images that words name
abbrev pub places_of : FormatWords → WatchedPlaces
places_of words = record { places = record { «data» = words.data_path; hash = words.hash_path; hash_first = words.hash_offset / 512 }; progress = words.progress }

-- by the program's own words
abbrev pub MakesSaidImage : {S D T G : Type 0} → Opener S D → (D → Device) → S → S → Drawing T G → ImageOptions → FormatWords → MadeImage → Type 0
MakesSaidImage relations state images images' d options words = MakesSaid (calls relations state images images') d options (format_record words)

abbrev pub FailsSaidImage : {S D T G : Type 0} → Opener S D → (D → Device) → S → S → Drawing T G → ImageOptions → FormatWords → ImageFault → Type 0
FailsSaidImage relations state images images' d options words = IsSaidEnd (calls relations state images images') d options (format_record words)

-- what was made was printed
abbrev pub PrintsMade : {W : Type 0} → (W → Option (List ℕ)) → CountedRecord W → CountedRecord W → Bool → MadeImage → Type 0
PrintsMade contents writer writer' bare made = Appends (contents writer.inner) (contents writer'.inner) (text_of_made bare made)

abbrev pub FormatsByWords : {S D T G W : Type 0} → Opener S D → (D → Device) → S → S → Drawing T G → (W → Option (List ℕ)) → CountedRecord W → CountedRecord W → OptionWords → FormatWords → Type 0
FormatsByWords relations state images images' d contents writer writer' options words =
    FormatsAt (option_texts options) (calls relations state images images') d (format_record words) (contents writer.inner) (contents writer'.inner)

abbrev pub FailsToFormat : {S D T G W : Type 0} → Opener S D → (D → Device) → S → S → Drawing T G → (W → Option (List ℕ)) → CountedRecord W → CountedRecord W → OptionWords → FormatWords → VerityFault → Type 0
FailsToFormat relations state images images' d contents writer writer' options words =
    IsSaidFormatEnd (option_texts options) (calls relations state images images') d (format_record words) (contents writer.inner) (contents writer'.inner) writer'.failed
