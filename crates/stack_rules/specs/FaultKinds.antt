-- The kinds of refusals, with the numbers and names that are printed.
use Rattle.std.specs.Prelude.{ℕ, List, codes}
use Rattle.stack_rules.specs.declared.refusal.ConfigFault.{ConfigFault}
use Rattle.stack_rules.specs.declared.refusal.ConfigFault.TheVariants as leaves
use Rattle.stack_rules.specs.declared.refusal.LoadKind.{LoadKind}
use Rattle.stack_rules.specs.declared.refusal.LoadKind.TheVariants as kinds
use Rattle.stack_rules.specs.declared.refusal.RemoveFault.{RemoveFault}
use Rattle.stack_rules.specs.declared.refusal.RemoveFault.TheVariants as removals

abbrev pub config_number : ConfigFault → ℕ
config_number leaves.DuplicateLeaf = 1
config_number leaves.TooMany = 2
config_number leaves.BadName = 3
config_number leaves.TooLarge = 4
config_number leaves.NoMemory = 5

abbrev pub config_name : ConfigFault → List ℕ
config_name leaves.DuplicateLeaf = codes "DuplicateLeaf"
config_name leaves.TooMany = codes "TooMany"
config_name leaves.BadName = codes "BadName"
config_name leaves.TooLarge = codes "TooLarge"
config_name leaves.NoMemory = codes "NoMemory"

abbrev pub load_number : LoadKind → ℕ
load_number kinds.DuplicateName = 1
load_number kinds.TooMany = 2
load_number kinds.NoSuchDevice = 3
load_number kinds.StandsOnItself = 4
load_number kinds.ZeroLength = 5
load_number kinds.Gap = 6
load_number kinds.TooLarge = 7
load_number kinds.StripesDontDivide = 8
load_number kinds.BeyondDevice = 9
load_number kinds.LineBeyondTree = 10
load_number kinds.TreeBeyondDevice = 11
load_number kinds.NeedsReadOnly = 12
load_number kinds.LowerReadOnly = 13
load_number kinds.TooDeep = 14
load_number kinds.CostTooLarge = 15
load_number kinds.UnitDoesntDivide = 16
load_number kinds.IvOffset = 17
load_number kinds.ParityDoesntCover = 61

abbrev pub load_name : LoadKind → List ℕ
load_name kinds.DuplicateName = codes "DuplicateName"
load_name kinds.TooMany = codes "TooMany"
load_name kinds.NoSuchDevice = codes "NoSuchDevice"
load_name kinds.StandsOnItself = codes "StandsOnItself"
load_name kinds.ZeroLength = codes "ZeroLength"
load_name kinds.Gap = codes "Gap"
load_name kinds.TooLarge = codes "TooLarge"
load_name kinds.StripesDontDivide = codes "StripesDontDivide"
load_name kinds.BeyondDevice = codes "BeyondDevice"
load_name kinds.LineBeyondTree = codes "LineBeyondTree"
load_name kinds.TreeBeyondDevice = codes "TreeBeyondDevice"
load_name kinds.NeedsReadOnly = codes "NeedsReadOnly"
load_name kinds.LowerReadOnly = codes "LowerReadOnly"
load_name kinds.TooDeep = codes "TooDeep"
load_name kinds.CostTooLarge = codes "CostTooLarge"
load_name kinds.UnitDoesntDivide = codes "UnitDoesntDivide"
load_name kinds.IvOffset = codes "IvOffset"
load_name kinds.ParityDoesntCover = codes "ParityDoesntCover"

abbrev pub removal_number : RemoveFault → ℕ
removal_number removals.NoSuchDevice = 1
removal_number removals.InUse = 2

abbrev pub removal_name : RemoveFault → List ℕ
removal_name removals.NoSuchDevice = codes "NoSuchDevice"
removal_name removals.InUse = codes "InUse"
