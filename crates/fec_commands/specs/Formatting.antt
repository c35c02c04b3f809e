-- What `format --fec` does and prints, and how it ends early.
use Rattle.std.specs.Prelude.{◌≡◌, ◌⊎◌, ℕ, Bool, true, false, List, Option}
use Rattle.std.specs.Io.KnownBytes.{Appends}
use Rattle.block_device.specs.Device.{Device}
use Rattle.command_line.specs.declared.image_options.ImageOptions.{ImageOptions}
use Rattle.command_line.specs.declared.option_words.OptionWords.{OptionWords}
use Rattle.command_line.specs.declared.words.fec_format.FecFormatWords.{FecFormatWords}
use Rattle.command_line.specs.FormatOptions.{AreSaid, OptionTexts, option_texts}
use Rattle.command_line.specs.words.FecFormat.{FecFormatRecord, fec_format_record}
use Rattle.program_io.specs.Counted.{CountedRecord}
use Rattle.image_commands.specs.declared.fault.ImageFault.{ImageFault}
use Rattle.image_commands.specs.declared.format.MadeImage.{MadeImage}
use Rattle.image_commands.specs.Drawing.{Drawing}
use Rattle.image_commands.specs.Endings.{IsLineUnwritten}
use Rattle.image_commands.specs.PinFiles.{CanWriteRoot, IsOtherFile, IsRootRefused, IsRootUnwritten, IsSameFile, WritesRoot, pin_of_image}
use Rattle.image_files.specs.Opener.{Calls, Opener, calls}
use Rattle.verity_commands.specs.declared.verity_fault.VerityFault.{VerityFault}
use Rattle.verity_commands.specs.declared.verity_fault.VerityFault.TheVariants.{Image, Usage}
use Rattle.verity_commands.specs.Endings.{IsUnsaid}
use Rattle.verity_commands.specs.Formatting.{IsSaidEnd, MakesSaid, format_places, text_of_made}
use Rattle.fec_commands.specs.declared.fault.FecFault.{FecFault}
use Rattle.fec_commands.specs.declared.fault.FecFault.TheVariants.{BlockSizes, Verity}
use Rattle.fec_commands.specs.declared.wanted.WantedTree.{WantedTree}
use Rattle.fec_commands.specs.Fitting.{FitsFile, IsUnfit}
use Rattle.fec_commands.specs.Growing.{IsProtectionEnd, Protects}
use Rattle.fec_commands.specs.Layings.{is_roots}
use Rattle.fec_commands.specs.Sizes.{says_two_sizes}
use Rattle.fec_commands.specs.Verifying.{IsFecQuiet}
use Rattle.fec_commands.specs.Wanted.{made_source}

-- what options state of the tree that is to be made
abbrev pub wanted_tree : ImageOptions → FecFormatRecord → WantedTree
wanted_tree options f = record { options = options; bare = f.format.no_superblock }

-- ---- before the image is made: images were opened, and none was written, created or extended, except that FILE of the parity may
-- have been created at once

-- FILE of the parity is large enough; that of the pin or the root hash, if there is one, is none of the other files and can be written
pub record ChecksFiles {S D : Type 0} (wanted : WantedTree) (w : Calls S D) (f : FecFormatRecord) : Type 0 where
  pub measured : S
  pub told : S
  pub fits : FitsFile f.format.grow wanted (record w { new = measured }) (format_places f.format) f.fec
  pub other : IsOtherFile (record w { old = measured; new = told }) f.fec.path f.format.file
  pub path : CanWriteRoot (record w { old = told }) f.format.data_path f.format.hash_path f.format.file

-- FILE of the pin or the root hash is FILE of the parity
pub record IsOneFileEnd {S D : Type 0} (wanted : WantedTree) (w : Calls S D) (f : FecFormatRecord) (fault : FecFault) : Type 0 where
  pub measured : S
  pub cause : ImageFault
  pub fits : FitsFile f.format.grow wanted (record w { new = measured }) (format_places f.format) f.fec
  pub same : IsSameFile (record w { old = measured }) f.fec.path f.format.file cause
  pub is : fault ≡ Verity (Image cause)

-- it is one of the images, or can't be written
pub record IsRootPathEnd {S D : Type 0} (wanted : WantedTree) (w : Calls S D) (f : FecFormatRecord) (fault : FecFault) : Type 0 where
  pub measured : S
  pub told : S
  pub cause : ImageFault
  pub fits : FitsFile f.format.grow wanted (record w { new = measured }) (format_places f.format) f.fec
  pub other : IsOtherFile (record w { old = measured; new = told }) f.fec.path f.format.file
  pub refused : IsRootRefused (record w { old = told }) f.format.data_path f.format.hash_path f.format.file cause
  pub is : fault ≡ Verity (Image cause)

-- FILE of the parity isn't large enough for what the options make, or one of these
abbrev pub IsCheckEnd : {S D : Type 0} → WantedTree → Calls S D → FecFormatRecord → FecFault → Type 0
IsCheckEnd wanted w f fault =
    IsUnfit f.format.grow wanted w (format_places f.format) f.fec fault ⊎ (IsOneFileEnd wanted w f fault ⊎ IsRootPathEnd wanted w f fault)

-- ---- after it was made

-- its parity was written and synced; then FILE of the pin or the root hash, if there is one, still was none of the other files, and
-- the pin or the root hash replaced what it held
pub record Finishes {S D : Type 0} (wanted : WantedTree) (made : MadeImage) (w : Calls S D) (f : FecFormatRecord) : Type 0 where
  pub sealed : S
  pub told : S
  pub protects : Protects (made_source wanted made) f.format.grow (record w { new = sealed }) (format_places f.format) f.fec
  pub other : IsOtherFile (record w { old = sealed; new = told }) f.fec.path f.format.file
  pub writes : WritesRoot (record w { old = told }) f.format.data_path f.format.hash_path f.format.file (pin_of_image wanted.options made)

-- FILE of the pin or the root hash became FILE of the parity
pub record IsMergedEnd {S D : Type 0} (wanted : WantedTree) (made : MadeImage) (w : Calls S D) (f : FecFormatRecord) (fault : FecFault) : Type 0 where
  pub sealed : S
  pub cause : ImageFault
  pub protects : Protects (made_source wanted made) f.format.grow (record w { new = sealed }) (format_places f.format) f.fec
  pub same : IsSameFile (record w { old = sealed }) f.fec.path f.format.file cause
  pub is : fault ≡ Verity (Image cause)

-- it isn't written
pub record IsRootEnd {S D : Type 0} (wanted : WantedTree) (made : MadeImage) (w : Calls S D) (f : FecFormatRecord) (fault : FecFault) : Type 0 where
  pub sealed : S
  pub told : S
  pub cause : ImageFault
  pub protects : Protects (made_source wanted made) f.format.grow (record w { new = sealed }) (format_places f.format) f.fec
  pub other : IsOtherFile (record w { old = sealed; new = told }) f.fec.path f.format.file
  pub unwritten : IsRootUnwritten (record w { old = told }) f.format.data_path f.format.hash_path f.format.file (pin_of_image wanted.options made) cause
  pub is : fault ≡ Verity (Image cause)

-- its parity isn't synced, or one of these
abbrev pub IsFinishEnd : {S D : Type 0} → WantedTree → MadeImage → Calls S D → FecFormatRecord → FecFault → Type 0
IsFinishEnd wanted made w f fault =
    IsProtectionEnd (made_source wanted made) f.format.grow w (format_places f.format) f.fec fault ⊎ (IsMergedEnd wanted made w f fault ⊎ IsRootEnd wanted made w f fault)

-- ---- the whole command

-- the files were checked, and the image was made as without parity
pub record MakesChecked {S D T G : Type 0} (w : Calls S D) (d : Drawing T G) (options : ImageOptions) (f : FecFormatRecord) (made : MadeImage) : Type 0 where
  pub checked : S
  pub checks : ChecksFiles (wanted_tree options f) (record w { new = checked }) f
  pub makes : MakesSaid (record w { old = checked }) d options f.format made

-- then parity and pin or root hash were written
pub record MakesFec {S D T G : Type 0} (w : Calls S D) (d : Drawing T G) (options : ImageOptions) (f : FecFormatRecord) (made : MadeImage) : Type 0 where
  pub between : S
  pub makes : MakesChecked (record w { new = between }) d options f made
  pub finishes : Finishes (wanted_tree options f) made (record w { old = between }) f

-- and then what was made was printed
pub record FormatsFec {S D T G : Type 0} (texts : OptionTexts) (w : Calls S D) (d : Drawing T G) (f : FecFormatRecord) (old new : Option (List ℕ)) : Type 0 where
  pub options : ImageOptions
  pub said : AreSaid texts options
  pub made : MadeImage
  pub makes : MakesFec w d options f made
  pub printed : Appends old new (text_of_made f.format.no_superblock made)

-- a codeword can't have so many bytes of parity, or an option states no value; and nothing was opened
pub record EndsUnsaid {S D : Type 0} (texts : OptionTexts) (w : Calls S D) (f : FecFormatRecord) (fault : FecFault) : Type 0 where
  pub cause : VerityFault
  pub unsaid : ((cause ≡ Usage) × (is_roots f.fec.roots ≡ false)) ⊎ IsUnsaid texts cause
  pub is : fault ≡ Verity cause
  pub same : w.new ≡ w.old

-- the arguments give values, two block sizes among them, and nothing was opened
pub record EndsUnlike {S D : Type 0} (texts : OptionTexts) (w : Calls S D) (fault : FecFault) : Type 0 where
  pub options : ImageOptions
  pub said : AreSaid texts options
  pub two : says_two_sizes texts ≡ true
  pub is : fault ≡ BlockSizes
  pub same : w.new ≡ w.old

-- the files were checked, and the image couldn't be made
pub record EndsUnmade {S D T G : Type 0} (w : Calls S D) (d : Drawing T G) (options : ImageOptions) (f : FecFormatRecord) (fault : FecFault) : Type 0 where
  pub checked : S
  pub cause : ImageFault
  pub checks : ChecksFiles (wanted_tree options f) (record w { new = checked }) f
  pub ends : IsSaidEnd (record w { old = checked }) d options f.format cause
  pub is : fault ≡ Verity (Image cause)

-- the image was made, and parity or pin or root hash wasn't written
pub record EndsUnfinished {S D T G : Type 0} (w : Calls S D) (d : Drawing T G) (options : ImageOptions) (f : FecFormatRecord) (fault : FecFault) : Type 0 where
  pub between : S
  pub made : MadeImage
  pub makes : MakesChecked (record w { new = between }) d options f made
  pub ends : IsFinishEnd (wanted_tree options f) made (record w { old = between }) f fault

-- all were written, and the text can't be
pub record EndsUntold {S D T G : Type 0} (w : Calls S D) (d : Drawing T G) (options : ImageOptions) (f : FecFormatRecord) (failed : Bool) (fault : FecFault) : Type 0 where
  pub made : MadeImage
  pub cause : ImageFault
  pub makes : MakesFec w d options f made
  pub unwritten : IsLineUnwritten failed cause
  pub is : fault ≡ Verity (Image cause)

-- the options give values, and one of these
abbrev pub IsFormatFecCause : {S D T G : Type 0} → Calls S D → Drawing T G → ImageOptions → FecFormatRecord → Bool → FecFault → Type 0
IsFormatFecCause w d options f failed fault =
    IsCheckEnd (wanted_tree options f) w f fault ⊎ (EndsUnmade w d options f fault ⊎ (EndsUnfinished w d options f fault ⊎ EndsUntold w d options f failed fault))

-- one of these; nothing is printed, unless the writer is what failed
abbrev pub IsFormatFecEnd : {S D T G : Type 0} → OptionTexts → Calls S D → Drawing T G → FecFormatRecord → Option (List ℕ) → Option (List ℕ) → Bool → FecFault → Type 0
IsFormatFecEnd texts w d f old new failed fault =
    (EndsUnsaid texts w f fault ⊎ (EndsUnlike texts w fault ⊎ ((options : ImageOptions) × AreSaid texts options × IsFormatFecCause w d options f failed fault)))
    × IsFecQuiet fault old new

-- ---- in terms of the program's arguments, the opener and the writer, each before and after, and the source of generators

abbrev pub ChecksFilesFor : {S D : Type 0} → WantedTree → Opener S D → (D → Device) → S → S → FecFormatWords → Type 0
ChecksFilesFor wanted relations state old new words = ChecksFiles wanted (calls relations state old new) (fec_format_record words)

abbrev pub FailsToCheckFiles : {S D : Type 0} → WantedTree → Opener S D → (D → Device) → S → S → FecFormatWords → FecFault → Type 0
FailsToCheckFiles wanted relations state old new words = IsCheckEnd wanted (calls relations state old new) (fec_format_record words)

abbrev pub FinishesFor : {S D : Type 0} → WantedTree → MadeImage → Opener S D → (D → Device) → S → S → FecFormatWords → Type 0
FinishesFor wanted made relations state old new words = Finishes wanted made (calls relations state old new) (fec_format_record words)

abbrev pub FailsToFinish : {S D : Type 0} → WantedTree → MadeImage → Opener S D → (D → Device) → S → S → FecFormatWords → FecFault → Type 0
FailsToFinish wanted made relations state old new words = IsFinishEnd wanted made (calls relations state old new) (fec_format_record words)

abbrev pub FormatsFecByWords : {S D T G W : Type 0} → OptionWords → FecFormatWords → Opener S D → (D → Device) → S → S → Drawing T G → (W → Option (List ℕ)) → CountedRecord W → CountedRecord W → Type 0
FormatsFecByWords options words relations state old new d contents writer writer' =
    FormatsFec (option_texts options) (calls relations state old new) d (fec_format_record words) (contents writer.inner) (contents writer'.inner)

abbrev pub FailsToFormatFec : {S D T G W : Type 0} → OptionWords → FecFormatWords → Opener S D → (D → Device) → S → S → Drawing T G → (W → Option (List ℕ)) → CountedRecord W → CountedRecord W → FecFault → Type 0
FailsToFormatFec options words relations state old new d contents writer writer' =
    IsFormatFecEnd (option_texts options) (calls relations state old new) d (fec_format_record words) (contents writer.inner) (contents writer'.inner) writer'.failed
