-- The stack that a text makes of open backing devices, and that a stack file makes of its bindings.
use Rattle.std.specs.Prelude.{◌≡◌, ◌⊎◌, ℕ, map, Ok, Err}
use Rattle.block_device.specs.Device.{Device}
use Rattle.image_files.specs.FileUses.{no_use}
use Rattle.image_files.specs.Opener.{Calls, Opener, calls}
use Rattle.stack_rules.specs.Records.{Configuration}
use Rattle.stack_engine.specs.Pieces.{stack_over}
use Rattle.stack_engine.specs.Stacks.{StackRecord}
use Rattle.stack_files.specs.declared.stack_file.OpenStack.{OpenStack}
use Rattle.stack_files.specs.OpenStacks.{StackWords, stack_words}
use Rattle.stack_files.specs.declared.stack_file.StackFile.{StackFile}
use Rattle.stack_files.specs.declared.stack_fault.StackFault.{StackFault}
use Rattle.stack_files.specs.Configuration.{IsRefusal, configuration_of}
use Rattle.stack_files.specs.Endings.{IsOpeningEnd}
use Rattle.stack_files.specs.StacksApart.{FailsToOpenApart, OpensStackApart}
use Rattle.stack_files.specs.Unchecked.{NotesStack}
use Rattle.stack_files.specs.Warnings.{Notes}

-- the stack of the configuration that the text makes of the open backing devices, with an empty cache for so many hash blocks
pub record IsStackOf {D : Type 0} (state : D → Device) (over : OpenStack D) (cache : ℕ) (stack : StackRecord) : Type 0 where
  pub config : Configuration
  pub makes : configuration_of over.leaves.items over.text.bytes.items ≡ Ok config
  pub is : stack ≡ stack_over config (map state over.devices.items) cache

-- the text makes no stack, or an allocation was refused
abbrev pub FailsToLoad : {D : Type 0} → OpenStack D → StackFault → Type 0
FailsToLoad over fault = (configuration_of over.leaves.items over.text.bytes.items ≡ Err fault) ⊎ IsRefusal fault

-- ---- with a stack file

-- the configuration that STACK's text makes of the bindings' backing devices
pub record Configures {S D : Type 0} (w : Calls S D) (words : StackWords) (config : Configuration) : Type 0 where
  pub over : OpenStack D
  pub opened : OpensStackApart w no_use words over
  pub makes : configuration_of over.leaves.items over.text.bytes.items ≡ Ok config

-- the stack that STACK's text makes of the bindings' backing devices
pub record Loads {S D : Type 0} (w : Calls S D) (words : StackWords) (cache : ℕ) (stack : StackRecord) : Type 0 where
  pub over : OpenStack D
  pub opened : OpensStackApart w no_use words over
  pub made : IsStackOf w.state over cache stack

-- a file can't be opened, or `Fails` holds of the open files
abbrev pub FailsBehind : {S D : Type 0} → Calls S D → StackWords → (OpenStack D → StackFault → Type 0) → StackFault → Type 0
FailsBehind {S} {D} w words Fails fault =
    IsOpeningEnd (FailsToOpenApart w no_use words) fault ⊎ ((over : OpenStack D) × OpensStackApart w no_use words over × Fails over fault)

abbrev pub FailsToLoadFile : {S D : Type 0} → Calls S D → StackWords → StackFault → Type 0
FailsToLoadFile w words fault = FailsBehind w words FailsToLoad fault

-- what is printed among the errors of a stack file's stack
abbrev pub NotesFile : {S D : Type 0} → Calls S D → StackWords → ℕ → Notes → Type 0
NotesFile w words cache = NotesStack (Loads w words cache) ((fault : StackFault) × FailsToLoadFile w words fault)

-- ---- in terms of the opener, before and after its calls, and the program's arguments

-- the configuration that the text makes
abbrev pub ConfiguresBy : {S D : Type 0} → Opener S D → (D → Device) → S → S → StackFile → Configuration → Type 0
ConfiguresBy relations state old new file = λ config. Configures (calls relations state old new) (stack_words file) config

-- the stack that it makes
abbrev pub LoadsBy : {S D : Type 0} → Opener S D → (D → Device) → S → S → StackFile → ℕ → StackRecord → Type 0
LoadsBy relations state old new file cache = Loads (calls relations state old new) (stack_words file) cache

-- the text makes no configuration or stack
abbrev pub FailsLoading : {S D : Type 0} → Opener S D → (D → Device) → S → S → StackFile → StackFault → Type 0
FailsLoading relations state old new file = FailsToLoadFile (calls relations state old new) (stack_words file)

-- what is printed among the errors of it
abbrev pub NotesFileBy : {S D : Type 0} → Opener S D → (D → Device) → S → S → StackFile → ℕ → Notes → Type 0
NotesFileBy relations state old new file cache = NotesFile (calls relations state old new) (stack_words file) cache
