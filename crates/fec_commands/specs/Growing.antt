-- `format --grow --fec`: the parity file is created if it doesn't exist, and extended if it has too few sectors.
use Rattle.std.specs.Prelude.{◌≡◌, ◌⊎◌, ℕ, Bool, true, false, List, Option, Some, None, Result, Ok, Err}
use Rattle.fec_area.specs.declared.writing.ParityFault.TheVariants.{TooSmall}
use Rattle.image_files.specs.declared.opening.UnopenedFile.{UnopenedFile}
use Rattle.block_device.specs.Device.{Device}
use Rattle.image_files.specs.Opener.{Calls, Opener, calls}
use Rattle.image_files.specs.OpenPlaces.{FailsToGrowPlace, GrowsPlace}
use Rattle.image_commands.specs.declared.places.ImagePlaces.{ImagePlaces}
use Rattle.image_commands.specs.declared.tree_source.TreeSource.{TreeSource}
use Rattle.image_commands.specs.Places.{TwoPlaces, two_places}
use Rattle.fec_commands.specs.declared.fault.FecFault.{FecFault}
use Rattle.fec_commands.specs.declared.fault.FecFault.TheVariants.{Parity}
use Rattle.fec_commands.specs.FecFaults.{unopened}
use Rattle.command_line.specs.declared.fec_file.FecFile.{FecFile}
use Rattle.command_line.specs.FecFiles.{FecRecord, fec_record}
use Rattle.fec_commands.specs.Protecting.{IsProtectEnd, ProtectsImage}

-- how many sectors the parity file must have, if a command ended because it has fewer
abbrev pub needed_in : FecFault → Option ℕ
needed_in (Parity (TooSmall needed)) = Some needed
needed_in fault = None

abbrev pub needed_of : {T : Type 0} → Result T FecFault → Option ℕ
needed_of (Ok done) = None
needed_of (Err fault) = needed_in fault

-- the file couldn't be extended to so many sectors, and the command ends in this fault
pub record EndsUngrown {S D : Type 0} (w : Calls S D) (path : List ℕ) (sectors : ℕ) (fault : FecFault) : Type 0 where
  pub file : UnopenedFile
  pub unmade : FailsToGrowPlace w path sectors file
  pub is : fault ≡ unopened file

-- the file was created if it didn't exist, and then `Then` was done
pub record GrowsThen {S D : Type 0} (w : Calls S D) (fec : FecRecord) (Then : Calls S D → Type 0) : Type 0 where
  pub between : S
  pub made : GrowsPlace (record w { new = between }) fec.path 0
  pub follows : Then (record w { old = between })

-- the file had too few sectors, was extended to as many as needed, and then `Then` was done
pub record GrowsTwiceThen {S D : Type 0} (source : TreeSource) (w : Calls S D) (places : TwoPlaces) (fec : FecRecord) (Then : Calls S D → Type 0) : Type 0 where
  pub tried : S
  pub room : S
  pub needed : ℕ
  pub vain : GrowsThen (record w { new = tried }) fec (λ v. IsProtectEnd source v places fec (Parity (TooSmall needed)))
  pub grown : GrowsPlace (record w { old = tried; new = room }) fec.path needed
  pub follows : Then (record w { old = room })

-- the file had too few sectors, and couldn't be extended
pub record FailsToGrowParity {S D : Type 0} (source : TreeSource) (w : Calls S D) (places : TwoPlaces) (fec : FecRecord) (fault : FecFault) : Type 0 where
  pub tried : S
  pub needed : ℕ
  pub vain : GrowsThen (record w { new = tried }) fec (λ v. IsProtectEnd source v places fec (Parity (TooSmall needed)))
  pub ungrown : EndsUngrown (record w { old = tried }) fec.path needed fault

-- with `--grow` and without
abbrev pub Protects : {S D : Type 0} → TreeSource → Bool → Calls S D → TwoPlaces → FecRecord → Type 0
Protects source true w places fec = GrowsThen w fec (λ v. ProtectsImage source v places fec) ⊎ GrowsTwiceThen source w places fec (λ v. ProtectsImage source v places fec)
Protects source false w places fec = ProtectsImage source w places fec

-- Why there is no parity. With `--grow` a file that has too few sectors is extended, so that this isn't the end of the first trial.
abbrev pub IsProtectionEnd : {S D : Type 0} → TreeSource → Bool → Calls S D → TwoPlaces → FecRecord → FecFault → Type 0
IsProtectionEnd source true w places fec fault =
    EndsUngrown w fec.path 0 fault ⊎ (FailsToGrowParity source w places fec fault
    ⊎ (((needed_in fault ≡ None) × GrowsThen w fec (λ v. IsProtectEnd source v places fec fault)) ⊎ GrowsTwiceThen source w places fec (λ v. IsProtectEnd source v places fec fault)))
IsProtectionEnd source false w places fec fault = IsProtectEnd source w places fec fault

-- why there is no parity, by the program's arguments and the opener before and after
abbrev pub FailsToProtect : {S D : Type 0} → TreeSource → Bool → Opener S D → (D → Device) → S → S → ImagePlaces → FecFile → FecFault → Type 0
FailsToProtect source grow relations state old new places fec fault = IsProtectionEnd source grow (calls relations state old new) (two_places places) (fec_record fec) fault
