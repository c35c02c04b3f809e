-- The files of a command on a stack file, opened in this order: the stack text, a file that is only read, and the bindings.
use Rattle.std.specs.Prelude.{◌⊎◌, ℕ, List, [], ◌∷◌, map, false}
use Rattle.block_device.specs.Device.{Device}
use Rattle.command_line.specs.Bindings.{BindingRecord, binding_record}
use Rattle.image_files.specs.Apart.{OpensApart, RefusesApart}
use Rattle.image_files.specs.declared.images.FileText.{FileText}
use Rattle.image_files.specs.declared.images.OpenImage.{OpenImage}
use Rattle.image_files.specs.FileUses.{image_use, text_use}
use Rattle.image_files.specs.Opened.{RefusesText, TellsFile}
use Rattle.image_files.specs.Opener.{Calls, Opener, calls}
use Rattle.stack_files.specs.declared.opening_fault.OpeningFault.{OpeningFault}
use Rattle.stack_files.specs.declared.stack_file.OpenStack.{OpenStack}
use Rattle.stack_files.specs.declared.stack_file.StackFile.{StackFile}
use Rattle.stack_files.specs.Bindings.{AreBound}
use Rattle.stack_files.specs.Openings.{IsBindingEnd, IsTextEnd, IsFileUnopened, TellsStack, most_source}

-- the path of a stack file, and bindings
pub record StackWords : Type 0 where
  pub stack : List ℕ
  pub bindings : List BindingRecord

abbrev pub stack_words : StackFile → StackWords
stack_words file = record { stack = file.path.now; bindings = map binding_record file.bindings.now }

-- STACK's text and then SOURCE's were read
pub record TellsBoth {S D : Type 0} (w : Calls S D) (stack source : List ℕ) (text source_text : FileText) : Type 0 where
  pub between : S
  pub told : TellsStack (record w { new = between }) stack text
  pub source_told : TellsFile (record w { old = between }) source most_source source_text

-- and then the images of the bindings were opened next to both
pub record OpensSource {S D : Type 0} (w : Calls S D) (words : StackWords) (source : List ℕ) (over : OpenStack D) (source_text : FileText) : Type 0 where
  pub between : S
  pub told : TellsBoth (record w { new = between }) words.stack source over.text source_text
  pub bound : AreBound (record w { old = between }) (text_use over.text ∷ text_use source_text ∷ []) words.bindings over.leaves.items over.devices.items

-- STACK's text was read, and SOURCE's couldn't be
pub record FailsAtSource {S D : Type 0} (w : Calls S D) (stack source : List ℕ) (fault : OpeningFault) : Type 0 where
  pub text : FileText
  pub between : S
  pub told : TellsStack (record w { new = between }) stack text
  pub fails : IsFileUnopened (RefusesText (record w { old = between }) source most_source) fault

-- both were read, and then the bindings weren't all opened
pub record FailsBehindSource {S D : Type 0} (w : Calls S D) (words : StackWords) (source : List ℕ) (fault : OpeningFault) : Type 0 where
  pub text : FileText
  pub source_text : FileText
  pub between : S
  pub told : TellsBoth (record w { new = between }) words.stack source text source_text
  pub fails : IsBindingEnd (record w { old = between }) (text_use text ∷ text_use source_text ∷ []) words.bindings fault

abbrev pub FailsToOpenSource : {S D : Type 0} → Calls S D → StackWords → List ℕ → OpeningFault → Type 0
FailsToOpenSource w words source fault =
    IsTextEnd w words.stack fault ⊎ (FailsAtSource w words.stack source fault ⊎ FailsBehindSource w words source fault)

-- STACK's text was read, and then an image was opened for reading
pub record TellsAndOpens {S D : Type 0} (w : Calls S D) (stack source : List ℕ) (text : FileText) (image : OpenImage D) : Type 0 where
  pub between : S
  pub told : TellsStack (record w { new = between }) stack text
  pub opened : OpensApart (record w { old = between }) (text_use text ∷ []) source false image

-- and then the images of the bindings were opened next to both
pub record OpensInput {S D : Type 0} (w : Calls S D) (words : StackWords) (source : List ℕ) (over : OpenStack D) (image : OpenImage D) : Type 0 where
  pub between : S
  pub told : TellsAndOpens (record w { new = between }) words.stack source over.text image
  pub bound : AreBound (record w { old = between }) (text_use over.text ∷ image_use false image ∷ []) words.bindings over.leaves.items over.devices.items

-- STACK's text was read, and the image can't be opened
pub record FailsAtInput {S D : Type 0} (w : Calls S D) (stack source : List ℕ) (fault : OpeningFault) : Type 0 where
  pub text : FileText
  pub between : S
  pub told : TellsStack (record w { new = between }) stack text
  pub fails : IsFileUnopened (RefusesApart (record w { old = between }) (text_use text ∷ []) source false) fault

-- the image is open, and then the bindings weren't all opened
pub record FailsBehindInput {S D : Type 0} (w : Calls S D) (words : StackWords) (source : List ℕ) (fault : OpeningFault) : Type 0 where
  pub text : FileText
  pub image : OpenImage D
  pub between : S
  pub told : TellsAndOpens (record w { new = between }) words.stack source text image
  pub fails : IsBindingEnd (record w { old = between }) (text_use text ∷ image_use false image ∷ []) words.bindings fault

abbrev pub FailsToOpenInput : {S D : Type 0} → Calls S D → StackWords → List ℕ → OpeningFault → Type 0
FailsToOpenInput w words source fault =
    IsTextEnd w words.stack fault ⊎ (FailsAtInput w words.stack source fault ⊎ FailsBehindInput w words source fault)

-- ---- in terms of the opener, before and after its calls, and the program's arguments

-- STACK, SOURCE's text and the bindings are opened
abbrev pub OpensWithSource : {S D : Type 0} → Opener S D → (D → Device) → S → S → StackFile → List ℕ → OpenStack D × FileText → Type 0
OpensWithSource relations state old new file source = λ both. OpensSource (calls relations state old new) (stack_words file) source both.0 both.1

-- one of these can't be opened
abbrev pub FailsWithSource : {S D : Type 0} → Opener S D → (D → Device) → S → S → StackFile → List ℕ → OpeningFault → Type 0
FailsWithSource relations state old new file source = FailsToOpenSource (calls relations state old new) (stack_words file) source

-- STACK, an image that is only read, and the bindings are opened
abbrev pub OpensWithInput : {S D : Type 0} → Opener S D → (D → Device) → S → S → StackFile → List ℕ → OpenStack D × OpenImage D → Type 0
OpensWithInput relations state old new file source = λ both. OpensInput (calls relations state old new) (stack_words file) source both.0 both.1

-- one of these can't be opened
abbrev pub FailsWithInput : {S D : Type 0} → Opener S D → (D → Device) → S → S → StackFile → List ℕ → OpeningFault → Type 0
FailsWithInput relations state old new file source = FailsToOpenInput (calls relations state old new) (stack_words file) source
