-- The numbers and names of the rules, as they are printed.
use Rattle.std.specs.Prelude.{ℕ, List, codes}
use Rattle.linux_rules.specs.declared.refusal.LinuxKind.{LinuxKind}
use Rattle.linux_rules.specs.declared.refusal.LinuxKind.TheVariants as kinds

abbrev pub linux_number : LinuxKind → ℕ
linux_number kinds.LinuxSize = 51
linux_number kinds.VerityBesideOthers = 52
linux_number kinds.SmallBlock = 53
linux_number kinds.BeginBeyondDevice = 54
linux_number kinds.PartBlock = 55
linux_number kinds.DividedBlock = 56
linux_number kinds.UnitStart = 57
linux_number kinds.DividedChunk = 58
linux_number kinds.PartSize = 59

abbrev pub linux_name : LinuxKind → List ℕ
linux_name kinds.LinuxSize = codes "LinuxSize"
linux_name kinds.VerityBesideOthers = codes "VerityBesideOthers"
linux_name kinds.SmallBlock = codes "SmallBlock"
linux_name kinds.BeginBeyondDevice = codes "BeginBeyondDevice"
linux_name kinds.PartBlock = codes "PartBlock"
linux_name kinds.DividedBlock = codes "DividedBlock"
linux_name kinds.UnitStart = codes "UnitStart"
linux_name kinds.DividedChunk = codes "DividedChunk"
linux_name kinds.PartSize = codes "PartSize"
