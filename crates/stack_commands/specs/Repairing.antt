-- What `repair` does and prints, and how it ends early.
use Rattle.std.specs.Prelude.{◌≡◌, ◌⊎◌, ℕ, ◌/◌, ◌<◌, Bool, not, List, None, Option, Some, map}
use Rattle.command_line.specs.declared.image_copies.ImageCopy.{ImageCopy}
use Rattle.command_line.specs.FecFiles.{FecRecord}
use Rattle.command_line.specs.FormatOptions.{OptionTexts}
use Rattle.command_line.specs.ImageCopies.{image_copy_record}
use Rattle.command_line.specs.words.Repair.{RepairRecord}
use Rattle.fec_area.specs.declared.writing.ParityFault.TheVariants.{TooSmall as ParityTooSmall}
use Rattle.fec_commands.specs.declared.fault.FecFault.TheVariants as fec
use Rattle.image_commands.specs.declared.tree_source.SoughtTree.{SoughtTree}
use Rattle.image_files.specs.Opener.{Calls}
use Rattle.repair_commands.specs.declared.fault.ParityRepairFault.{ParityRepairFault}
use Rattle.repair_commands.specs.declared.fault.ParityRepairFault.TheVariants.{BlockSizes, TooSmall, Tree}
use Rattle.repair_commands.specs.ByParity.{IsParityRepairEnd, RepairsByParity}
use Rattle.repair_commands.specs.Commands.{IsRepairEnd, RepairsFiles}
use Rattle.repair_commands.specs.Pairs.{Places}
use Rattle.verity_commands.specs.Trees.{IsEitherUntold, TellsEither}
use Rattle.stack_commands.specs.declared.fault.CommandFault.{CommandFault}
use Rattle.stack_commands.specs.declared.fault.CommandFault.TheVariants.{Fec, Trees, Usage}
use Rattle.stack_commands.specs.Uses.{IsTreesEnd, IsVerityEnd}

-- where the images of the words are, and whether they may be written
abbrev pub places : RepairRecord → Places
places r = record { data_path = r.data_path; hash_path = r.hash_path; first = r.hash_offset / 512; write = not r.check }

-- the fault of a repair by parity is reported as those of the other commands on parity
abbrev pub parity_fault : ParityRepairFault → CommandFault
parity_fault (Tree fault) = Trees fault
parity_fault BlockSizes = Fec fec.BlockSizes
parity_fault (TooSmall needed) = Fec (fec.Parity (ParityTooSmall needed))

-- with parity a codeword may have 2 to 24 bytes of it, else nothing was printed; and then it ends as that repair does
abbrev pub IsParityWordsEnd : {S D : Type 0} → Calls S D → Places → FecRecord → List ImageCopy → SoughtTree → Option (List ℕ) → Option (List ℕ) → Bool → CommandFault → Type 0
IsParityWordsEnd w p file copies sought old new failed fault =
    ((fault ≡ Usage None) × (((file.roots < 2) ⊎ (24 < file.roots)) × (new ≡ old)))
    ⊎ ((cause : ParityRepairFault) × ((fault ≡ parity_fault cause) × IsParityRepairEnd w p file copies sought old new failed cause))

-- by copies, or by parity too
abbrev pub RepairsBy : {S D : Type 0} → Option FecRecord → Calls S D → Places → List ImageCopy → SoughtTree → Option (List ℕ) → Option (List ℕ) → Type 0
RepairsBy None w p copies sought old new = RepairsFiles w p copies sought old new
RepairsBy (Some file) w p copies sought old new = RepairsByParity w p file copies sought old new

abbrev pub IsEndBy : {S D : Type 0} → Option FecRecord → Calls S D → Places → List ImageCopy → SoughtTree → Option (List ℕ) → Option (List ℕ) → Bool → CommandFault → Type 0
IsEndBy None w p copies sought old new failed fault = IsTreesEnd (IsRepairEnd w p copies sought old new failed) fault
IsEndBy (Some file) w p copies sought old new failed fault = IsParityWordsEnd w p file copies sought old new failed fault

-- the tree and its root were told, and then the image repaired by what the words name, and all of it is good under that root
pub record RepairsImage {S D : Type 0} (texts : OptionTexts) (w : Calls S D) (r : RepairRecord) (old new : Option (List ℕ)) : Type 0 where
  pub between : S
  pub found : SoughtTree
  pub copies : List ImageCopy
  pub are : map image_copy_record copies ≡ r.copies
  pub told : TellsEither texts (record w { new = between }) r.no_superblock r.root found
  pub repairs : RepairsBy r.fec (record w { old = between }) (places r) copies found old new

-- the tree and its root were told, and then the image isn't read to its end, or some of its blocks aren't valid
pub record EndsRepairing {S D : Type 0} (texts : OptionTexts) (w : Calls S D) (r : RepairRecord) (old new : Option (List ℕ)) (failed : Bool) (fault : CommandFault) : Type 0 where
  pub between : S
  pub found : SoughtTree
  pub copies : List ImageCopy
  pub are : map image_copy_record copies ≡ r.copies
  pub told : TellsEither texts (record w { new = between }) r.no_superblock r.root found
  pub ends : IsEndBy r.fec (record w { old = between }) (places r) copies found old new failed fault

-- that, or they aren't told, and nothing is printed
abbrev pub IsRepairWordsEnd : {S D : Type 0} → OptionTexts → Calls S D → RepairRecord → Option (List ℕ) → Option (List ℕ) → Bool → CommandFault → Type 0
IsRepairWordsEnd texts w r old new failed fault =
    (IsVerityEnd (IsEitherUntold texts w r.no_superblock r.root) fault × (new ≡ old)) ⊎ EndsRepairing texts w r old new failed fault
