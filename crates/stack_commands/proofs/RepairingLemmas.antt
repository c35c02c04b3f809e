-- A repair with parity or without, by what the words say.
use Rattle.std.proofs.Common.{◌≡◌, Bool, List, Option, ℕ, subst, sym}
use Rattle.std.specs.Prelude.{option_map}
use Rattle.command_line.specs.declared.fec_file.FecFile.{FecFile}
use Rattle.command_line.specs.declared.image_copies.ImageCopy.{ImageCopy}
use Rattle.command_line.specs.FecFiles.{fec_record}
use Rattle.image_commands.specs.declared.tree_source.SoughtTree.{SoughtTree}
use Rattle.image_files.specs.Opener.{Calls}
use Rattle.repair_commands.specs.Pairs.{Places}
use Rattle.stack_commands.specs.declared.fault.CommandFault.{CommandFault}
use Rattle.stack_commands.specs.Repairing.{IsEndBy, RepairsBy}

pub repairs-by : {S D : Type 0} (said found : Option FecFile) (w : Calls S D) (p : Places) (copies : List ImageCopy) (sought : SoughtTree) (old new : Option (List ℕ)) → said ≡ found
    → RepairsBy (option_map fec_record found) w p copies sought old new → RepairsBy (option_map fec_record said) w p copies sought old new
repairs-by said found w p copies sought old new same = subst (λ (fec : Option FecFile). RepairsBy (option_map fec_record fec) w p copies sought old new) (sym same)

pub ends-by : {S D : Type 0} (said found : Option FecFile) (w : Calls S D) (p : Places) (copies : List ImageCopy) (sought : SoughtTree) (old new : Option (List ℕ)) (failed : Bool) (fault : CommandFault) → said ≡ found
    → IsEndBy (option_map fec_record found) w p copies sought old new failed fault → IsEndBy (option_map fec_record said) w p copies sought old new failed fault
ends-by said found w p copies sought old new failed fault same = subst (λ (fec : Option FecFile). IsEndBy (option_map fec_record fec) w p copies sought old new failed fault) (sym same)
