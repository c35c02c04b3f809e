-- Stacks without mapped devices over the backing devices of bindings.
use Rattle.std.specs.Prelude.{◌≡◌, ◌⊎◌, ℕ, List, [], map, Some}
use Rattle.block_device.specs.Device.{Device}
use Rattle.command_line.specs.Bindings.{BindingRecord, binding_record}
use Rattle.command_line.specs.declared.bindings.Binding.{Binding}
use Rattle.image_files.specs.Opener.{Calls, Opener, calls}
use Rattle.stack_rules.specs.Leaves.{first_leaf_fault}
use Rattle.stack_rules.specs.Records.{LeafRecord}
use Rattle.stack_engine.specs.Pieces.{stack_over}
use Rattle.stack_engine.specs.Stacks.{StackRecord}
use Rattle.stack_files.specs.declared.leaves.OpenLeaves.{OpenLeaves}
use Rattle.stack_files.specs.Bindings.{AreBound}
use Rattle.stack_files.specs.Openings.{IsBindingEnd}
use Rattle.stack_files.specs.declared.stack_fault.StackFault.{StackFault}
use Rattle.stack_files.specs.declared.stack_fault.StackFault.TheVariants.{Leaves}
use Rattle.stack_files.specs.Configuration.{leaves_alone}
use Rattle.stack_files.specs.Endings.{IsOpeningEnd}

-- the bindings' images were opened, and the stack uses them as backing devices, with a cache of so many hash blocks
pub record StandsOnLeaves {S D : Type 0} (w : Calls S D) (bindings : List BindingRecord) (cache : ℕ) (stack : StackRecord) : Type 0 where
  pub over : OpenLeaves D
  pub bound : AreBound w [] bindings over.leaves.items over.devices.items
  pub is : stack ≡ stack_over (leaves_alone over.leaves.items) (map w.state over.devices.items) cache

-- the backing devices are refused
abbrev pub RefusesLeaves : List LeafRecord → StackFault → Type 0
RefusesLeaves leaves (Leaves fault) = first_leaf_fault leaves ≡ Some fault
RefusesLeaves leaves fault = ⊥

-- the bindings were opened, and their backing devices are refused
pub record FailsToTake {S D : Type 0} (w : Calls S D) (bindings : List BindingRecord) (fault : StackFault) : Type 0 where
  pub over : OpenLeaves D
  pub bound : AreBound w [] bindings over.leaves.items over.devices.items
  pub refused : RefusesLeaves over.leaves.items fault

-- the backing devices are refused, or an image can't be opened
abbrev pub FailsToStand : {S D : Type 0} → Calls S D → List BindingRecord → StackFault → Type 0
FailsToStand w bindings fault = IsOpeningEnd (IsBindingEnd w [] bindings) fault ⊎ FailsToTake w bindings fault

-- ---- in terms of the opener, before and after its calls, and the program's arguments

-- the stack over the backing devices of bindings
abbrev pub StandsBy : {S D : Type 0} → Opener S D → (D → Device) → S → S → List Binding → ℕ → StackRecord → Type 0
StandsBy relations state old new bindings cache = StandsOnLeaves (calls relations state old new) (map binding_record bindings) cache

-- there is no such stack
abbrev pub FailsStanding : {S D : Type 0} → Opener S D → (D → Device) → S → S → List Binding → StackFault → Type 0
FailsStanding relations state old new bindings = FailsToStand (calls relations state old new) (map binding_record bindings)
