-- What `verify --fec` does and prints, and how it ends early.
use Rattle.std.specs.Prelude.{◌≡◌, ◌⊎◌, ℕ, ◌/◌, Bool, true, false, List, Option}
use Rattle.block_device.specs.Device.{Device}
use Rattle.command_line.specs.declared.option_words.OptionWords.{OptionWords}
use Rattle.command_line.specs.declared.words.fec_verify.FecVerifyWords.{FecVerifyWords}
use Rattle.command_line.specs.FormatOptions.{OptionTexts, option_texts}
use Rattle.command_line.specs.Values.{RootOrPinRecord}
use Rattle.command_line.specs.words.Verify.{VerifyRecord}
use Rattle.program_io.specs.Counted.{CountedRecord}
use Rattle.image_commands.specs.declared.fault.ImageFault.TheVariants.{Unaligned}
use Rattle.image_commands.specs.declared.tree_source.SoughtTree.{SoughtTree}
use Rattle.image_commands.specs.Places.{TwoPlaces}
use Rattle.image_commands.specs.TreeSources.{may_seek}
use Rattle.image_files.specs.Opener.{Calls, Opener, calls}
use Rattle.verity_commands.specs.declared.verity_fault.VerityFault.{VerityFault}
use Rattle.verity_commands.specs.declared.verity_fault.VerityFault.TheVariants.{Image, Usage}
use Rattle.verity_commands.specs.Places.{image_places}
use Rattle.verity_commands.specs.Trees.{IsEitherUntold, TellsEither}
use Rattle.image_files.specs.declared.opening.UnopenedFile.{UnopenedFile}
use Rattle.fec_commands.specs.declared.fault.FecFault.{FecFault}
use Rattle.fec_commands.specs.declared.image.ThreeImages.{ThreeImages}
use Rattle.fec_commands.specs.declared.fault.FecFault.TheVariants.{Verity}
use Rattle.fec_commands.specs.FecFaults.{unopened}
use Rattle.command_line.specs.words.FecVerify.{FecVerifyRecord, fec_verify_record}
use Rattle.fec_commands.specs.Images.{FailsToOpenThree, OpensThree}
use Rattle.fec_commands.specs.Layings.{is_roots}
use Rattle.fec_commands.specs.Verifying.{IsVerifyThreeEnd, VerifiesThree}

-- where the images are, by the arguments
abbrev pub verify_places : VerifyRecord → TwoPlaces
verify_places v = image_places v.data_path v.hash_path v.hash_offset

-- where a tree is stated and its root told: in a superblock or, without one, in options; and the sector of the hash image
pub record TreeWords : Type 0 where
  pub no_superblock : Bool
  pub root : RootOrPinRecord
  pub first : ℕ

abbrev pub verify_tree : FecVerifyRecord → TreeWords
verify_tree v = record { no_superblock = v.no_superblock; root = v.verify.root; first = v.verify.hash_offset / 512 }

-- the tree and its root were told, the tree may begin at its sector, and then this was done
pub record SeeksThen {S D : Type 0} (texts : OptionTexts) (w : Calls S D) (t : TreeWords) (Then : Calls S D → SoughtTree → Type 0) : Type 0 where
  pub told_at : S
  pub sought : SoughtTree
  pub told : TellsEither texts (record w { new = told_at }) t.no_superblock t.root sought
  pub aligned : may_seek sought.source t.first ≡ true
  pub follows : Then (record w { old = told_at }) sought

-- all three files were opened for reading; the image was compared with its tree, and then its parity with the file's
pub record VerifiesSought {S D : Type 0} (v : FecVerifyRecord) (old new : Option (List ℕ)) (w : Calls S D) (sought : SoughtTree) : Type 0 where
  pub three : ThreeImages D
  pub opened : OpensThree w (verify_places v.verify) v.fec false three
  pub verifies : VerifiesThree w.state three v sought old new

-- `--all` wasn't given
pub record VerifiesFec {S D : Type 0} (texts : OptionTexts) (w : Calls S D) (v : FecVerifyRecord) (old new : Option (List ℕ)) : Type 0 where
  pub one : v.verify.all ≡ false
  pub sought : SeeksThen texts w (verify_tree v) (VerifiesSought v old new)

-- a file can't be opened
pub record IsVerifyUnopened {S D : Type 0} (v : FecVerifyRecord) (old new : Option (List ℕ)) (w : Calls S D) (fault : FecFault) : Type 0 where
  pub file : UnopenedFile
  pub refused : FailsToOpenThree w (verify_places v.verify) v.fec false file
  pub is : fault ≡ unopened file
  pub quiet : new ≡ old

-- all three files were opened, and then the command ended in this fault
pub record EndsOpened {S D : Type 0} (v : FecVerifyRecord) (old new : Option (List ℕ)) (failed : Bool) (w : Calls S D) (sought : SoughtTree) (fault : FecFault) : Type 0 where
  pub three : ThreeImages D
  pub opened : OpensThree w (verify_places v.verify) v.fec false three
  pub ends : IsVerifyThreeEnd w.state three v sought old new failed fault

abbrev pub IsSoughtEnd : {S D : Type 0} → FecVerifyRecord → Option (List ℕ) → Option (List ℕ) → Bool → FecFault → Calls S D → SoughtTree → Type 0
IsSoughtEnd v old new failed fault w sought = IsVerifyUnopened v old new w fault ⊎ EndsOpened v old new failed w sought fault

-- `--all` was given, which doesn't go with parity, or a codeword can't have so many bytes of it; and nothing was opened
pub record EndsMisused {S D : Type 0} (w : Calls S D) (v : FecVerifyRecord) (fault : FecFault) : Type 0 where
  pub misused : (v.verify.all ≡ true) ⊎ (is_roots v.fec.roots ≡ false)
  pub is : fault ≡ Verity Usage
  pub same : w.new ≡ w.old

-- the tree or its root isn't told
pub record EndsUnsought {S D : Type 0} (texts : OptionTexts) (w : Calls S D) (t : TreeWords) (fault : FecFault) : Type 0 where
  pub cause : VerityFault
  pub untold : IsEitherUntold texts w t.no_superblock t.root cause
  pub is : fault ≡ Verity cause

-- the tree and its root were told, and no hash block begins at the sector; no image was opened
pub record EndsUnaligned {S D : Type 0} (texts : OptionTexts) (w : Calls S D) (t : TreeWords) (fault : FecFault) : Type 0 where
  pub sought : SoughtTree
  pub told : TellsEither texts w t.no_superblock t.root sought
  pub unaligned : may_seek sought.source t.first ≡ false
  pub is : fault ≡ Verity (Image Unaligned)

-- one of these, before an image was opened and anything was printed
abbrev pub IsUnbegun : {S D : Type 0} → OptionTexts → Calls S D → FecVerifyRecord → FecFault → Type 0
IsUnbegun texts w v fault = EndsMisused w v fault ⊎ (EndsUnsought texts w (verify_tree v) fault ⊎ EndsUnaligned texts w (verify_tree v) fault)

abbrev pub IsVerifyFecEnd : {S D : Type 0} → OptionTexts → Calls S D → FecVerifyRecord → Option (List ℕ) → Option (List ℕ) → Bool → FecFault → Type 0
IsVerifyFecEnd texts w v old new failed fault = (IsUnbegun texts w v fault × (new ≡ old)) ⊎ SeeksThen texts w (verify_tree v) (IsSoughtEnd v old new failed fault)

-- ---- in terms of the program's arguments, the opener and the writer, each before and after

abbrev pub VerifiesFecByWords : {S D W : Type 0} → OptionWords → FecVerifyWords → Opener S D → (D → Device) → S → S → (W → Option (List ℕ)) → CountedRecord W → CountedRecord W → Type 0
VerifiesFecByWords options words relations state old new contents writer writer' =
    VerifiesFec (option_texts options) (calls relations state old new) (fec_verify_record words) (contents writer.inner) (contents writer'.inner)

abbrev pub FailsToVerifyFec : {S D W : Type 0} → OptionWords → FecVerifyWords → Opener S D → (D → Device) → S → S → (W → Option (List ℕ)) → CountedRecord W → CountedRecord W → FecFault → Type 0
FailsToVerifyFec options words relations state old new contents writer writer' =
    IsVerifyFecEnd (option_texts options) (calls relations state old new) (fec_verify_record words) (contents writer.inner) (contents writer'.inner) writer'.failed
