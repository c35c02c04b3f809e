-- `store` of a file, and how it ends early.
use Rattle.std.specs.Prelude.{◌≡◌, ◌⊎◌, ℕ, Bool, true, false, List, Option, Ok, Err}
use Rattle.std.specs.Io.KnownBytes.{Appends}
use Rattle.block_device.specs.Device.{Device}
use Rattle.block_device.specs.declared.open_fault.OpenFault.{OpenFault}
use Rattle.image_files.specs.declared.images.OpenImage.{OpenImage}
use Rattle.image_files.specs.Opener.{Calls}
use Rattle.stack_engine.specs.Stacks.{StackRecord}
use Rattle.stack_files.specs.declared.stack_file.OpenStack.{OpenStack}
use Rattle.stack_files.specs.declared.stack_file.StackFile.{StackFile}
use Rattle.stack_files.specs.OpenStacks.{FailsToOpenInput, OpensInput}
use Rattle.transfer_commands.specs.declared.device_in.Target.{Target}
use Rattle.transfer_commands.specs.declared.stream_fault.StoreCause.TheVariants.{Length}
use Rattle.transfer_commands.specs.declared.stream_fault.StoreFault.{StoreFault}
use Rattle.transfer_commands.specs.Images.{IsStoredEnd, StoresImage}
use Rattle.transfer_commands.specs.declared.stream_fault.StreamFault.{StreamFault}
use Rattle.transfer_commands.specs.declared.stream_fault.StreamFault.TheVariants.{Store}
use Rattle.transfer_commands.specs.Streaming.{IsStackless, IsStreamUnwritten, words_to}
use Rattle.transfer_commands.specs.StreamTexts.{stored_text}
use Rattle.stack_files.specs.declared.stack_fault.StackFault.{StackFault}
use Rattle.stack_files.specs.declared.stack_fault.StackFault.TheVariants.{Open}
use Rattle.stack_files.specs.Closings.{IsGivenBack}
use Rattle.stack_files.specs.Endings.{IsOpeningEnd}
use Rattle.stack_files.specs.NamedDevices.{DeviceWords, FailsToFind, HasDevice, DevicePlace, device_place}
use Rattle.stack_files.specs.Unchecked.{NotesStack}
use Rattle.stack_files.specs.Warnings.{Notes}

-- a stack file, the name of one of its devices, bindings, the source, and the first sector to be written
pub record FileWords : Type 0 where
  pub words : DeviceWords
  pub source : List ℕ
  pub first : ℕ

abbrev pub file_words : DeviceWords → List ℕ → ℕ → FileWords
file_words words source first = record { words = words; source = source; first = first }

abbrev pub words_to_store : StackFile → Target → List ℕ → FileWords
words_to_store file target source = file_words (words_to file target) source target.first

-- all files were opened, SOURCE read-only; `part` is whether SOURCE ends inside a sector
pub record OpensSourceFile {S D : Type 0} (w : Calls S D) (words : FileWords) (over : OpenStack D) (image : OpenImage D) (part : Bool) : Type 0 where
  pub between : S
  pub opened : OpensInput (record w { new = between }) words.words.words words.source over image
  pub measured : w.relations.measures between words.source (Ok part) w.new

-- all files were opened, and there is such a device
pub record FindsTarget {S D : Type 0} (w : Calls S D) (words : FileWords) (at : DevicePlace) (image : OpenImage D) (part : Bool) : Type 0 where
  pub over : OpenStack D
  pub opened : OpensSourceFile w words over image part
  pub has : HasDevice w.state words.words.name over words.words.cache at

-- All n sectors of SOURCE, which ends with a whole one, were written to the device and synced. Then the images of the bindings
-- were closed.
pub record StoresFile {S D : Type 0} (w : Calls S D) (words : FileWords) (n : ℕ) : Type 0 where
  pub at : DevicePlace
  pub image : OpenImage D
  pub left : StackRecord
  pub between : S
  pub found : FindsTarget (record w { new = between }) words at image false
  pub stored : StoresImage at.d words.first at.stack (w.state image.device) left n
  pub back : IsGivenBack (record w { old = between }) words.words.words.bindings left.leaves

pub record PrintsFileStored {S D : Type 0} (w : Calls S D) (words : FileWords) (old new : Option (List ℕ)) : Type 0 where
  pub n : ℕ
  pub stored : StoresFile w words n
  pub printed : Appends old new (stored_text n)

-- a source that ends inside a sector is refused, and nothing is done; or not all sectors of a source were stored
abbrev pub IsWholeEnd : Bool → ℕ → ℕ → StackRecord → Device → StackRecord → Device → StoreFault → Type 0
IsWholeEnd true d first old source new source' fault = (fault ≡ record { written = 0; cause = Length }) × (new ≡ old) × (source' ≡ source)
IsWholeEnd false d first old source new source' fault = IsStoredEnd d first old source new source' fault

abbrev pub IsFileFault : (StoreFault → Type 0) → StreamFault → Type 0
IsFileFault Ends (Store fault) = Ends fault
IsFileFault Ends fault = ⊥

-- Not all sectors were stored, and the images were closed. What the calls left of SOURCE is a device of the opener's type, so that a
-- failure of it isn't made up.
pub record FailsToStoreFile {S D : Type 0} (w : Calls S D) (words : FileWords) (old new : Option (List ℕ)) (fault : StreamFault) : Type 0 where
  pub at : DevicePlace
  pub image : OpenImage D
  pub part : Bool
  pub left : StackRecord
  pub source : D
  pub between : S
  pub found : FindsTarget (record w { new = between }) words at image part
  pub fails : IsFileFault (IsWholeEnd part at.d words.first at.stack (w.state image.device) left (w.state source)) fault
  pub quiet : new ≡ old
  pub back : IsGivenBack (record w { old = between }) words.words.words.bindings left.leaves

-- all files were opened, but the size of SOURCE isn't known
abbrev pub IsOpenEnd : List ℕ → (OpenFault → Type 0) → StackFault → Type 0
IsOpenEnd path Fails (Open file) = (file.path.now ≡ path) × Fails file.fault
IsOpenEnd path Fails fault = ⊥

pub record FailsToMeasureSource {S D : Type 0} (w : Calls S D) (words : FileWords) (fault : StackFault) : Type 0 where
  pub over : OpenStack D
  pub image : OpenImage D
  pub between : S
  pub opened : OpensInput (record w { new = between }) words.words.words words.source over image
  pub fails : IsOpenEnd words.source (λ cause. w.relations.measures between words.source (Err cause) w.new) fault

-- the text makes no stack, or there is no such device
pub record FindsNoTarget {S D : Type 0} (w : Calls S D) (words : FileWords) (fault : StackFault) : Type 0 where
  pub over : OpenStack D
  pub image : OpenImage D
  pub part : Bool
  pub opened : OpensSourceFile w words over image part
  pub fails : FailsToFind words.words.name over fault

-- nothing is written if the transfer doesn't begin
abbrev pub IsUnstored : {S D : Type 0} → Calls S D → FileWords → StackFault → Type 0
IsUnstored w words fault =
    IsOpeningEnd (FailsToOpenInput w words.words.words words.source) fault ⊎ (FailsToMeasureSource w words fault ⊎ FindsNoTarget w words fault)

abbrev pub IsFileEnd : {S D : Type 0} → Calls S D → FileWords → Option (List ℕ) → Option (List ℕ) → Bool → StreamFault → Type 0
IsFileEnd w words old new failed fault =
    ((new ≡ old) × IsStackless (IsUnstored w words) fault) ⊎ (FailsToStoreFile w words old new fault ⊎ ((n : ℕ) × StoresFile w words n × IsStreamUnwritten failed fault))

-- the stack that SOURCE is written to
pub record LoadsTarget {S D : Type 0} (w : Calls S D) (words : FileWords) (stack : StackRecord) : Type 0 where
  pub d : ℕ
  pub image : OpenImage D
  pub part : Bool
  pub between : S
  pub found : FindsTarget (record w { new = between }) words (device_place stack d) image part

-- what is printed among the errors of that stack
abbrev pub NotesTarget : {S D : Type 0} → Calls S D → FileWords → Notes → Type 0
NotesTarget w words = NotesStack (LoadsTarget w words) ((fault : StackFault) × IsUnstored w words fault)

-- ---- in terms of the arguments of a call

-- why not all sectors of a source were stored, by the states of the source
abbrev pub EndsWhole : {T : Type 0} → (T → Device) → Bool → ℕ → ℕ → StackRecord → T → StackRecord → T → StoreFault → Type 0
EndsWhole state part d first stack source stack' source' = IsWholeEnd part d first stack (state source) stack' (state source')
