-- The files of a command on a stack file, beside a file in use that the command replaces: the stack text, an image to copy to, and
-- the bindings.
use Rattle.std.specs.Prelude.{◌≡◌, ◌⊎◌, ℕ, true, false, List, [], ◌∷◌}
use Rattle.block_device.specs.Device.{Device}
use Rattle.block_device.specs.declared.open_fault.OpenFault.TheVariants.{SameFile}
use Rattle.image_files.specs.Apart.{OpensApart, RefusesApart}
use Rattle.image_files.specs.declared.file_use.FileUse.{FileUse}
use Rattle.image_files.specs.declared.images.FileText.{FileText}
use Rattle.image_files.specs.declared.images.OpenImage.{OpenImage}
use Rattle.image_files.specs.declared.opening.UnopenedFile.{UnopenedFile}
use Rattle.image_files.specs.FileUses.{has_clash, image_use, text_use}
use Rattle.image_files.specs.Opener.{Calls, Opener, calls}
use Rattle.stack_files.specs.declared.opening_fault.OpeningFault.{OpeningFault}
use Rattle.stack_files.specs.declared.stack_file.OpenStack.{OpenStack}
use Rattle.stack_files.specs.declared.stack_file.StackFile.{StackFile}
use Rattle.stack_files.specs.Bindings.{AreBound}
use Rattle.stack_files.specs.Openings.{IsBindingEnd, IsFileUnopened, IsTextEnd, TellsStack}
use Rattle.stack_files.specs.OpenStacks.{StackWords, stack_words}

-- STACK's text was read, and its file doesn't clash with the file in use
pub record TellsApart {S D : Type 0} (w : Calls S D) (used : FileUse) (stack : List ℕ) (text : FileText) : Type 0 where
  pub told : TellsStack w stack text
  pub apart : has_clash (used ∷ []) (text_use text) ≡ false

-- the text was read, and its file clashes with the file in use
pub record IsStackUsed {S D : Type 0} (w : Calls S D) (used : FileUse) (stack : List ℕ) (unopened : UnopenedFile) : Type 0 where
  pub text : FileText
  pub told : TellsStack w stack text
  pub clash : has_clash (used ∷ []) (text_use text) ≡ true
  pub is : (unopened.fault ≡ SameFile) × (unopened.path.now ≡ stack)

-- that, or the text is too long or couldn't be read
abbrev pub IsTextEndApart : {S D : Type 0} → Calls S D → FileUse → List ℕ → OpeningFault → Type 0
IsTextEndApart w used stack fault = IsTextEnd w stack fault ⊎ IsFileUnopened (IsStackUsed w used stack) fault

-- STACK's text was read, and then the images of the bindings were opened next to it and the file in use
pub record OpensStackApart {S D : Type 0} (w : Calls S D) (used : FileUse) (words : StackWords) (over : OpenStack D) : Type 0 where
  pub between : S
  pub told : TellsApart (record w { new = between }) used words.stack over.text
  pub bound : AreBound (record w { old = between }) (text_use over.text ∷ used ∷ []) words.bindings over.leaves.items over.devices.items

-- the text was read, and then the bindings weren't all opened
pub record FailsToBindApart {S D : Type 0} (w : Calls S D) (used : FileUse) (words : StackWords) (fault : OpeningFault) : Type 0 where
  pub text : FileText
  pub between : S
  pub told : TellsApart (record w { new = between }) used words.stack text
  pub fails : IsBindingEnd (record w { old = between }) (text_use text ∷ used ∷ []) words.bindings fault

-- the first of the files that the opener refuses
abbrev pub FailsToOpenApart : {S D : Type 0} → Calls S D → FileUse → StackWords → OpeningFault → Type 0
FailsToOpenApart w used words fault = IsTextEndApart w used words.stack fault ⊎ FailsToBindApart w used words fault

-- ---- with an image to copy to

-- STACK's text was read, and then OUT was opened for writing, which is neither its file nor the one in use
pub record TellsBefore {S D : Type 0} (w : Calls S D) (used : FileUse) (stack out : List ℕ) (text : FileText) (image : OpenImage D) : Type 0 where
  pub between : S
  pub told : TellsApart (record w { new = between }) used stack text
  pub opened : OpensApart (record w { old = between }) (text_use text ∷ used ∷ []) out true image

-- and then the images of the bindings were opened next to these
pub record OpensOutput {S D : Type 0} (w : Calls S D) (used : FileUse) (words : StackWords) (out : List ℕ) (over : OpenStack D) (image : OpenImage D) : Type 0 where
  pub between : S
  pub told : TellsBefore (record w { new = between }) used words.stack out over.text image
  pub bound : AreBound (record w { old = between }) (text_use over.text ∷ used ∷ image_use true image ∷ []) words.bindings over.leaves.items over.devices.items

-- STACK's text was read, and OUT can't be opened
pub record FailsAtOutput {S D : Type 0} (w : Calls S D) (used : FileUse) (stack out : List ℕ) (fault : OpeningFault) : Type 0 where
  pub text : FileText
  pub between : S
  pub told : TellsApart (record w { new = between }) used stack text
  pub fails : IsFileUnopened (RefusesApart (record w { old = between }) (text_use text ∷ used ∷ []) out true) fault

-- OUT is open, and then the bindings weren't all opened
pub record FailsBehindOutput {S D : Type 0} (w : Calls S D) (used : FileUse) (words : StackWords) (out : List ℕ) (fault : OpeningFault) : Type 0 where
  pub text : FileText
  pub image : OpenImage D
  pub between : S
  pub told : TellsBefore (record w { new = between }) used words.stack out text image
  pub fails : IsBindingEnd (record w { old = between }) (text_use text ∷ used ∷ image_use true image ∷ []) words.bindings fault

abbrev pub FailsToOpenOutput : {S D : Type 0} → Calls S D → FileUse → StackWords → List ℕ → OpeningFault → Type 0
FailsToOpenOutput w used words out fault =
    IsTextEndApart w used words.stack fault ⊎ (FailsAtOutput w used words.stack out fault ⊎ FailsBehindOutput w used words out fault)

-- ---- in terms of the opener, before and after its calls, and the program's arguments

-- STACK and the bindings are opened
abbrev pub OpensApartBy : {S D : Type 0} → Opener S D → (D → Device) → S → S → FileUse → StackFile → OpenStack D → Type 0
OpensApartBy relations state old new used file = OpensStackApart (calls relations state old new) used (stack_words file)

-- STACK or a binding can't be opened
abbrev pub FailsApartBy : {S D : Type 0} → Opener S D → (D → Device) → S → S → FileUse → StackFile → OpeningFault → Type 0
FailsApartBy relations state old new used file = FailsToOpenApart (calls relations state old new) used (stack_words file)

-- STACK, OUT for writing, and the bindings are opened
abbrev pub OpensWithOutput : {S D : Type 0} → Opener S D → (D → Device) → S → S → FileUse → StackFile → List ℕ → OpenStack D × OpenImage D → Type 0
OpensWithOutput relations state old new used file out = λ both. OpensOutput (calls relations state old new) used (stack_words file) out both.0 both.1

-- one of these can't be opened
abbrev pub FailsWithOutput : {S D : Type 0} → Opener S D → (D → Device) → S → S → FileUse → StackFile → List ℕ → OpeningFault → Type 0
FailsWithOutput relations state old new used file out = FailsToOpenOutput (calls relations state old new) used (stack_words file) out
