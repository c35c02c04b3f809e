-- How the commands on verity images end early.
use Rattle.std.specs.Prelude.{◌≡◌, ◌⊎◌, ℕ, List, Option, None, Err}
use Rattle.allocation.specs.Refusal.{IsOutOfMemory}
use Rattle.command_line.specs.CommandWords.{largest_allocation}
use Rattle.command_line.specs.declared.image_options.ImageOptions.{ImageOptions}
use Rattle.command_line.specs.FormatOptions.{AreSaid, OptionTexts}
use Rattle.command_line.specs.ImageValues.{options_read}
use Rattle.command_line.specs.Misuses.{MisuseRecord}
use Rattle.command_line.specs.declared.fault.WordsFault.{WordsFault}
use Rattle.command_line.specs.declared.fault.WordsFault.TheVariants as words
use Rattle.image_commands.specs.declared.fault.ImageFault.{ImageFault}
use Rattle.image_commands.specs.declared.fault.ImageFault.TheVariants as image
use Rattle.image_commands.specs.Endings as images
use Rattle.image_commands.specs.TreePlaces.{given_options}
use Rattle.verity_commands.specs.declared.verity_fault.VerityFault.{VerityFault}
use Rattle.verity_commands.specs.declared.verity_fault.VerityFault.TheVariants.{Image, Usage}

-- where the words are none
abbrev pub words_ending : WordsFault → VerityFault
words_ending (words.Usage misuse) = Usage
words_ending words.NoMemory = Image image.NoMemory

-- an option states no value, or an allocation was refused while the options were read
abbrev pub IsUnsaid : OptionTexts → VerityFault → Type 0
IsUnsaid texts Usage = (misuse : MisuseRecord) × (options_read texts ≡ Err misuse)
IsUnsaid texts (Image image.NoMemory) = IsOutOfMemory largest_allocation
IsUnsaid texts (Image fault) = ⊥

-- the options give no salt, which a tree without a superblock needs
pub record LacksSalt (texts : OptionTexts) (fault : VerityFault) : Type 0 where
  pub options : ImageOptions
  pub said : AreSaid texts options
  pub none : given_options options ≡ None
  pub is : fault ≡ Usage

-- why the options say no tree
abbrev pub IsTreeUnsaid : OptionTexts → VerityFault → Type 0
IsTreeUnsaid texts fault = IsUnsaid texts fault ⊎ LacksSalt texts fault

-- what was done with images ended so
abbrev pub IsImageEnd : (ImageFault → Type 0) → VerityFault → Type 0
IsImageEnd Ends (Image fault) = Ends fault
IsImageEnd Ends Usage = ⊥

-- nothing is written ahead of what ends a command, unless it is the writing that fails
abbrev pub IsVerityQuiet : VerityFault → Option (List ℕ) → Option (List ℕ) → Type 0
IsVerityQuiet Usage old new = new ≡ old
IsVerityQuiet (Image fault) old new = images.IsQuiet fault old new

-- 2 for words that are no command, 3 for images that differ, else 1
abbrev pub verity_status : VerityFault → ℕ
verity_status Usage = 2
verity_status (Image (image.Differs verdict)) = 3
verity_status (Image fault) = 1
