-- What the commands on trees without a superblock print if they succeed, and how they end early.
use Rattle.std.specs.Borrow.{Bor}
use Rattle.std.specs.Prelude.{◌≡◌, ◌⊎◌, ℕ, ◌/◌, Bool, true, false, List, Option, Some}
use Rattle.block_device.specs.Device.{Device}
use Rattle.program_io.specs.Counted.{CountedRecord}
use Rattle.command_line.specs.declared.image_options.ImageOptions.{ImageOptions}
use Rattle.command_line.specs.declared.option_words.OptionWords.{OptionWords}
use Rattle.command_line.specs.declared.words.tree_table.TreeTableWords.{TreeTableWords}
use Rattle.command_line.specs.declared.words.tree_verify.TreeVerifyWords.{TreeVerifyWords}
use Rattle.command_line.specs.declared.values.RootOrPin.{RootOrPin}
use Rattle.command_line.specs.declared.values.RootWord.{RootWord}
use Rattle.command_line.specs.Values.{RootOrPinRecord, RootRecord, pin_file, root_or_pin_record, root_record, root_word}
use Rattle.command_line.specs.FormatOptions.{AreSaid, OptionTexts, option_texts, text_of}
use Rattle.command_line.specs.words.TreeTable.{TreeTableRecord, tree_table_record}
use Rattle.command_line.specs.words.TreeVerify.{TreeVerifyRecord, tree_verify_record}
use Rattle.image_commands.specs.declared.fault.ImageFault.{ImageFault}
use Rattle.image_commands.specs.declared.table.LineWords.{LineWords}
use Rattle.image_commands.specs.declared.tree_source.SoughtTree.{SoughtTree}
use Rattle.image_commands.specs.declared.tree_source.TreeSource.TheVariants.{Options}
use Rattle.image_commands.specs.TreeImages.{IsTreeLineEnd, PrintsTreeLine, tree_room}
use Rattle.image_commands.specs.TreePlaces.{given_options}
use Rattle.image_commands.specs.TreeSources.{stored_source}
use Rattle.image_commands.specs.Verifying.{IsMatchesEnd, PrintsMatches}
use Rattle.image_files.specs.Opener.{Calls, Opener, calls}
use Rattle.image_pin.specs.declared.trusted.TrustedRoot.{TrustedRoot}
use Rattle.verity_format.specs.declared.formatting.FormatOptions.{FormatOptions}
use Rattle.verity_commands.specs.declared.verity_fault.VerityFault.{VerityFault}
use Rattle.verity_commands.specs.declared.verity_fault.VerityFault.TheVariants.{Usage}
use Rattle.verity_commands.specs.Endings.{IsImageEnd, IsTreeUnsaid, IsVerityQuiet}
use Rattle.verity_commands.specs.Places.{IsRootEnd, IsTrustedEnd, TellsRoot, TellsTrusted, image_places}

-- the values of the options, whose salt is given
pub record SaysTree (texts : OptionTexts) (given : FormatOptions) : Type 0 where
  pub options : ImageOptions
  pub said : AreSaid texts options
  pub is : given_options options ≡ Some given

-- the tree that options state was told, and its root
pub record TellsTree {S D : Type 0} (texts : OptionTexts) (w : Calls S D) (root : RootRecord) (sought : SoughtTree) : Type 0 where
  pub given : FormatOptions
  pub said : SaysTree texts given
  pub told : TellsRoot w root sought.root
  pub is : sought.source ≡ Options given

abbrev pub IsTreeUntold : {S D : Type 0} → OptionTexts → Calls S D → RootRecord → VerityFault → Type 0
IsTreeUntold texts w root fault = (IsTreeUnsaid texts fault × (w.new ≡ w.old)) ⊎ IsImageEnd (IsRootEnd w root) fault

-- `verify`: the tree was told, and then the images compared
pub record VerifiesSaidTree {S D : Type 0} (texts : OptionTexts) (w : Calls S D) (v : TreeVerifyRecord) (old new : Option (List ℕ)) : Type 0 where
  pub between : S
  pub found : SoughtTree
  pub told : TellsTree texts (record w { new = between }) v.root found
  pub matches : PrintsMatches (record w { old = between }) (image_places v.data_path v.hash_path v.hash_offset) found old new

pub record EndsVerifiedTree {S D : Type 0} (texts : OptionTexts) (w : Calls S D) (v : TreeVerifyRecord) (failed : Bool) (fault : ImageFault) : Type 0 where
  pub between : S
  pub found : SoughtTree
  pub told : TellsTree texts (record w { new = between }) v.root found
  pub ends : IsMatchesEnd (record w { old = between }) (image_places v.data_path v.hash_path v.hash_offset) found failed fault

abbrev pub IsVerifyTreeEnd : {S D : Type 0} → OptionTexts → Calls S D → TreeVerifyRecord → Option (List ℕ) → Option (List ℕ) → Bool → VerityFault → Type 0
IsVerifyTreeEnd texts w v old new failed fault = (IsTreeUntold texts w v.root fault ⊎ IsImageEnd (EndsVerifiedTree texts w v failed) fault) × IsVerityQuiet fault old new

-- the superblock's tree was told, with the values of the pin, if there is one, and its root
pub record TellsStored {S D : Type 0} (w : Calls S D) (root : RootOrPinRecord) (sought : SoughtTree) : Type 0 where
  pub trusted : TrustedRoot
  pub told : TellsTrusted w root trusted
  pub is : sought ≡ stored_source trusted

-- the options' tree, which has no pin
abbrev pub TellsStated : {S D : Type 0} → OptionTexts → Calls S D → RootOrPinRecord → SoughtTree → Type 0
TellsStated texts w (root_word word) sought = TellsTree texts w word sought
TellsStated texts w (pin_file path) sought = ⊥

abbrev pub IsStatedUntold : {S D : Type 0} → OptionTexts → Calls S D → RootOrPinRecord → VerityFault → Type 0
IsStatedUntold texts w (root_word word) fault = IsTreeUntold texts w word fault
IsStatedUntold texts w (pin_file path) fault = (fault ≡ Usage) × (w.new ≡ w.old)

-- with a superblock or without one
abbrev pub TellsEither : {S D : Type 0} → OptionTexts → Calls S D → Bool → RootOrPinRecord → SoughtTree → Type 0
TellsEither texts w bare root sought = ((bare ≡ true) × TellsStated texts w root sought) ⊎ ((bare ≡ false) × TellsStored w root sought)

abbrev pub IsEitherUntold : {S D : Type 0} → OptionTexts → Calls S D → Bool → RootOrPinRecord → VerityFault → Type 0
IsEitherUntold texts w bare root fault = ((bare ≡ true) × IsStatedUntold texts w root fault) ⊎ ((bare ≡ false) × IsImageEnd (IsTrustedEnd w root) fault)

-- `table`: the root was told, and then the line printed that the words give
pub record PrintsTreeEntry {S D : Type 0} (texts : OptionTexts) (w : Calls S D) (t : TreeTableRecord) (old new : Option (List ℕ)) : Type 0 where
  pub given : FormatOptions
  pub words : LineWords
  pub name : Option (Bor (List ℕ))
  pub said : SaysTree texts given
  pub told : TellsRoot w t.root words.root.now.root
  pub names : (words.data_name.now ≡ t.data_name) × (words.hash_name.now ≡ t.hash_name)
  pub entry : text_of name ≡ t.name
  pub prints : PrintsTreeLine (t.hash_offset / 512) name words given old new

pub record EndsTreeEntry {S D : Type 0} (texts : OptionTexts) (w : Calls S D) (t : TreeTableRecord) (failed : Bool) (fault : ImageFault) : Type 0 where
  pub given : FormatOptions
  pub found : List ℕ
  pub said : SaysTree texts given
  pub told : TellsRoot w t.root found
  pub ends : IsTreeLineEnd (tree_room (t.hash_offset / 512) given t.data_name t.hash_name found) (t.hash_offset / 512) given failed fault

abbrev pub IsTableTreeEnd : {S D : Type 0} → OptionTexts → Calls S D → TreeTableRecord → Option (List ℕ) → Option (List ℕ) → Bool → VerityFault → Type 0
IsTableTreeEnd texts w t old new failed fault =
    ((IsTreeUnsaid texts fault × (w.new ≡ w.old)) ⊎ IsImageEnd (λ f. IsRootEnd w t.root f ⊎ EndsTreeEntry texts w t failed f) fault) × IsVerityQuiet fault old new

-- ---- as a call sees them, as in `Placed`

abbrev pub VerifiesTreeByWords : {S D W : Type 0} → Opener S D → (D → Device) → S → S → (W → Option (List ℕ)) → CountedRecord W → CountedRecord W → OptionWords → TreeVerifyWords → Type 0
VerifiesTreeByWords relations state images images' contents writer writer' options words =
    VerifiesSaidTree (option_texts options) (calls relations state images images') (tree_verify_record words) (contents writer.inner) (contents writer'.inner)

abbrev pub FailsToVerifySaidTree : {S D W : Type 0} → Opener S D → (D → Device) → S → S → (W → Option (List ℕ)) → CountedRecord W → CountedRecord W → OptionWords → TreeVerifyWords → VerityFault → Type 0
FailsToVerifySaidTree relations state images images' contents writer writer' options words =
    IsVerifyTreeEnd (option_texts options) (calls relations state images images') (tree_verify_record words) (contents writer.inner) (contents writer'.inner) writer'.failed

abbrev pub SeeksTree : {S D : Type 0} → Opener S D → (D → Device) → S → S → OptionWords → RootWord → SoughtTree → Type 0
SeeksTree relations state images images' options root = TellsTree (option_texts options) (calls relations state images images') (root_record root)

abbrev pub FailsToSeek : {S D : Type 0} → Opener S D → (D → Device) → S → S → OptionWords → RootWord → VerityFault → Type 0
FailsToSeek relations state images images' options root = IsTreeUntold (option_texts options) (calls relations state images images') (root_record root)

abbrev pub SeeksStored : {S D : Type 0} → Opener S D → (D → Device) → S → S → RootOrPin → SoughtTree → Type 0
SeeksStored relations state images images' root = TellsStored (calls relations state images images') (root_or_pin_record root)

abbrev pub FailsToSeekStored : {S D : Type 0} → Opener S D → (D → Device) → S → S → RootOrPin → VerityFault → Type 0
FailsToSeekStored relations state images images' root = IsImageEnd (IsTrustedEnd (calls relations state images images') (root_or_pin_record root))

abbrev pub SeeksStated : {S D : Type 0} → Opener S D → (D → Device) → S → S → OptionWords → RootOrPin → SoughtTree → Type 0
SeeksStated relations state images images' options root = TellsStated (option_texts options) (calls relations state images images') (root_or_pin_record root)

abbrev pub FailsToSeekStated : {S D : Type 0} → Opener S D → (D → Device) → S → S → OptionWords → RootOrPin → VerityFault → Type 0
FailsToSeekStated relations state images images' options root = IsStatedUntold (option_texts options) (calls relations state images images') (root_or_pin_record root)

abbrev pub SeeksEither : {S D : Type 0} → Opener S D → (D → Device) → S → S → OptionWords → Bool → RootOrPin → SoughtTree → Type 0
SeeksEither relations state images images' options bare root = TellsEither (option_texts options) (calls relations state images images') bare (root_or_pin_record root)

abbrev pub FailsToSeekEither : {S D : Type 0} → Opener S D → (D → Device) → S → S → OptionWords → Bool → RootOrPin → VerityFault → Type 0
FailsToSeekEither relations state images images' options bare root = IsEitherUntold (option_texts options) (calls relations state images images') bare (root_or_pin_record root)

abbrev pub PrintsTreeByWords : {S D W : Type 0} → Opener S D → (D → Device) → S → S → (W → Option (List ℕ)) → CountedRecord W → CountedRecord W → OptionWords → TreeTableWords → Type 0
PrintsTreeByWords relations state images images' contents writer writer' options words =
    PrintsTreeEntry (option_texts options) (calls relations state images images') (tree_table_record words) (contents writer.inner) (contents writer'.inner)

abbrev pub FailsToPrintTree : {S D W : Type 0} → Opener S D → (D → Device) → S → S → (W → Option (List ℕ)) → CountedRecord W → CountedRecord W → OptionWords → TreeTableWords → VerityFault → Type 0
FailsToPrintTree relations state images images' contents writer writer' options words =
    IsTableTreeEnd (option_texts options) (calls relations state images images') (tree_table_record words) (contents writer.inner) (contents writer'.inner) writer'.failed
