-- How the commands on verity images end early.
use Rattle.std.specs.Prelude.{◌≡◌, ℕ, Bool, true, List, Option}
use Rattle.image_files.specs.declared.opening.UnopenedFile.{UnopenedFile}
use Rattle.verity_format.specs.declared.verifying.VerifyFault.{VerifyFault}
use Rattle.image_commands.specs.declared.fault.ImageFault.{ImageFault}
use Rattle.image_commands.specs.declared.fault.ImageFault.TheVariants.{NoMemory, Open, Verify, Write}

-- an image isn't opened, as is said of it
abbrev pub IsUnopened : (UnopenedFile → Type 0) → ImageFault → Type 0
IsUnopened Refused (Open file) = Refused file
IsUnopened Refused fault = ⊥

-- a line can't be written: the writer failed
abbrev pub IsLineUnwritten : Bool → ImageFault → Type 0
IsLineUnwritten failed Write = failed ≡ true
IsLineUnwritten failed fault = ⊥

-- memory ran out for that cause, or a line can't be written
abbrev pub IsCommonEnd : Type 0 → Bool → ImageFault → Type 0
IsCommonEnd memory failed NoMemory = memory
IsCommonEnd memory failed Write = failed ≡ true
IsCommonEnd memory failed fault = ⊥

-- a fault of reading a superblock with its cause, or one of these
abbrev pub IsVerifyEnd : Type 0 → (VerifyFault → Type 0) → Bool → ImageFault → Type 0
IsVerifyEnd memory Cause failed (Verify fault) = Cause fault
IsVerifyEnd memory Cause failed fault = IsCommonEnd memory failed fault

-- nothing is written ahead of what ends a command, unless it is the writing that fails
abbrev pub IsQuiet : ImageFault → Option (List ℕ) → Option (List ℕ) → Type 0
IsQuiet Write old new = Unit {0}
IsQuiet fault old new = new ≡ old
