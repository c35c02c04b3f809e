-- The configuration that a stack text makes of backing devices.
use Rattle.std.specs.Prelude.{◌≡◌, ◌⊎◌, ℕ, List, [], Option, Some, None, Result, Ok, Err}
use Rattle.allocation.specs.Refusal.{IsOutOfMemory}
use Rattle.dm_table.specs.declared.stack.Entry.{Entry}
use Rattle.dm_table.specs.declared.fault.TextFault.{TextFault}
use Rattle.dm_table.specs.StackText.{stack_of}
use Rattle.stack_rules.specs.declared.refusal.ConfigFault.{ConfigFault}
use Rattle.stack_rules.specs.declared.refusal.Refusal.{Refusal}
use Rattle.stack_rules.specs.Records.{Configuration, LeafRecord}
use Rattle.stack_rules.specs.Leaves.{first_leaf_fault}
use Rattle.stack_rules.specs.Passing.{largest_load_allocation}
use Rattle.stack_rules.specs.Rules.{first_refusal, after_load}
use Rattle.stack_files.specs.declared.stack_fault.StackFault.{StackFault}
use Rattle.stack_files.specs.declared.stack_fault.StackFault.TheVariants.{Leaves, Load, NoMemory, Text}

-- backing devices without mapped devices
abbrev pub leaves_alone : List LeafRecord → Configuration
leaves_alone leaves = record { leaves = leaves; devices = [] }

-- the mapped devices of a text over backing devices, or the first refusal
abbrev pub with_entries : Configuration → List Entry → Option Refusal → Result Configuration StackFault
with_entries c entries None = Ok (after_load c entries)
with_entries c entries (Some refusal) = Err (Load refusal)

abbrev pub with_text : Configuration → Result (List Entry) TextFault → Result Configuration StackFault
with_text c (Ok entries) = with_entries c entries (first_refusal c entries)
with_text c (Err fault) = Err (Text fault)

-- the configuration of a text over backing devices, unless they have a fault
abbrev pub with_leaves : List LeafRecord → Option ConfigFault → Result (List Entry) TextFault → Result Configuration StackFault
with_leaves leaves None entries = with_text (leaves_alone leaves) entries
with_leaves leaves (Some fault) entries = Err (Leaves fault)

-- the configuration that a stack text makes of backing devices, or the first fault: of the backing devices, the text, the load
unfoldable pub configuration_of : List LeafRecord → List ℕ → Result Configuration StackFault
configuration_of leaves text = with_leaves leaves (first_leaf_fault leaves) (stack_of text)

-- an allocation of at most so many elements was refused, for the text or for the load
abbrev pub IsRefusal : StackFault → Type 0
IsRefusal fault = (fault ≡ NoMemory) × IsOutOfMemory largest_load_allocation

-- the first fault, or an allocation was refused
abbrev pub FailsToConfigure : List LeafRecord → List ℕ → StackFault → Type 0
FailsToConfigure leaves text = λ fault. (configuration_of leaves text ≡ Err fault) ⊎ IsRefusal fault
