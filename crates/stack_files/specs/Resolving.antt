-- Bindings that name partitions, as bindings of the parts of disks that these are.
use Rattle.std.specs.Global.{Global}
use Rattle.std.specs.Prelude.{◌≡◌, ℕ, Bool, List, [], ◌∷◌, ◌++◌, map, Vec}
use Rattle.allocation.specs.Refusal.{IsOutOfMemory}
use Rattle.block_device.specs.Device.{Device}
use Rattle.command_line.specs.Bindings.{BackingRecord, BindingRecord, backing_record, binding_record, part, partition}
use Rattle.command_line.specs.declared.bindings.Backing.{Backing}
use Rattle.command_line.specs.declared.bindings.Binding.{Binding}
use Rattle.command_line.specs.FilePlaces.{NamedPartitionRecord}
use Rattle.command_line.specs.PartBindings.{PartRecord}
use Rattle.device_adapters.specs.declared.part.Part.{Part}
use Rattle.image_files.specs.declared.opening.UnopenedFile.{UnopenedFile}
use Rattle.image_files.specs.Opener.{Calls, Opener, calls}
use Rattle.image_files.specs.OpenPlaces.{FailsToFindPartition, FindsPartition}
use Rattle.stack_files.specs.declared.opening_fault.OpeningFault.{OpeningFault}
use Rattle.stack_files.specs.declared.opening_fault.OpeningFault.TheVariants.{NoMemory, Open}
use Rattle.stack_files.specs.declared.stack_fault.StackFault.{StackFault}
use Rattle.stack_files.specs.Endings.{IsOpeningEnd}

-- a part of a device as a command line names it
abbrev pub file_part : Part → PartRecord
file_part at = record { first = at.first; count = at.count }

-- the disk under a path was opened for reading, and the partition of that name, which may be bound so, is the part of it that is bound then
pub record FindsPart {S D : Type 0} (w : Calls S D) (path : List ℕ) (writable : Bool) (named : NamedPartitionRecord) (resolved : BackingRecord) : Type 0 where
  pub at : Part
  pub found : FindsPartition w path named writable at
  pub is : resolved ≡ part path writable (file_part at)

-- a partition becomes a part; all else stays
abbrev pub ResolvesBacking : {S D : Type 0} → Calls S D → BackingRecord → BackingRecord → Type 0
ResolvesBacking w (partition path writable named) resolved = FindsPart w path writable named resolved
ResolvesBacking w backing resolved = (w.new ≡ w.old) × (resolved ≡ backing)

pub record ResolvesBinding {S D : Type 0} (w : Calls S D) (binding resolved : BindingRecord) : Type 0 where
  pub same_name : resolved.name ≡ binding.name
  pub looked_up : ResolvesBacking w binding.backing resolved.backing

-- in order
abbrev pub ResolvesEach : {S D : Type 0} → Calls S D → List BindingRecord → List BindingRecord → Type 0
ResolvesEach w [] [] = w.new ≡ w.old
ResolvesEach w [] (found ∷ resolved) = ⊥
ResolvesEach w (binding ∷ bindings) [] = ⊥
ResolvesEach {S} w (binding ∷ bindings) (found ∷ resolved) =
    (between : S) × ResolvesBinding (record w { new = between }) binding found × ResolvesEach (record w { old = between }) bindings resolved

-- the disk under a path can't be opened, or has no such partition that may be bound so
pub record FailsToFindPart {S D : Type 0} (w : Calls S D) (path : List ℕ) (writable : Bool) (named : NamedPartitionRecord) (unopened : UnopenedFile) : Type 0 where
  pub path_is : unopened.path.now ≡ path
  pub cause : FailsToFindPartition w path named writable unopened.fault

abbrev pub IsBackingUnresolved : {S D : Type 0} → Calls S D → BackingRecord → UnopenedFile → Type 0
IsBackingUnresolved w (partition path writable named) unopened = FailsToFindPart w path writable named unopened
IsBackingUnresolved w backing unopened = ⊥

-- the first of the bindings were resolved, and the next one couldn't be
pub record IsBindingUnresolved {S D : Type 0} (w : Calls S D) (bindings : List BindingRecord) (unopened : UnopenedFile) : Type 0 where
  pub first : List BindingRecord
  pub binding : BindingRecord
  pub more : List BindingRecord
  pub resolved : List BindingRecord
  pub between : S
  pub are : bindings ≡ first ++ binding ∷ more
  pub so_far : ResolvesEach (record w { new = between }) first resolved
  pub refused : IsBackingUnresolved (record w { old = between }) binding.backing unopened

-- the first of the bindings were resolved, and then an allocation was refused
pub record RunsOutResolving {S D : Type 0} (w : Calls S D) (bindings : List BindingRecord) : Type 0 where
  pub first : List BindingRecord
  pub more : List BindingRecord
  pub resolved : List BindingRecord
  pub are : bindings ≡ first ++ more
  pub so_far : ResolvesEach w first resolved

-- the bindings weren't all resolved
abbrev pub FailsToResolve : {S D : Type 0} → Calls S D → List BindingRecord → OpeningFault → Type 0
FailsToResolve w bindings NoMemory = RunsOutResolving w bindings × IsOutOfMemory 1
FailsToResolve w bindings (Open unopened) = IsBindingUnresolved w bindings unopened
FailsToResolve w bindings fault = ⊥

-- ---- in terms of the opener, before and after its calls, and the program's arguments

-- a partition that a name is bound to is found
abbrev pub ResolvesTo : {S D : Type 0} → Opener S D → (D → Device) → S → S → List ℕ → Bool → NamedPartitionRecord → Backing → Type 0
ResolvesTo relations state old new path writable named = λ resolved. FindsPart (calls relations state old new) path writable named (backing_record resolved)

-- what a name is bound to is resolved
abbrev pub ResolvesBy : {S D : Type 0} → Opener S D → (D → Device) → S → S → Backing → Backing → Type 0
ResolvesBy relations state old new backing = λ resolved. ResolvesBacking (calls relations state old new) (backing_record backing) (backing_record resolved)

-- it can't be
abbrev pub UnresolvedBy : {S D : Type 0} → Opener S D → (D → Device) → S → S → Backing → UnopenedFile → Type 0
UnresolvedBy relations state old new backing = IsBackingUnresolved (calls relations state old new) (backing_record backing)

-- the bindings are resolved
abbrev pub ResolvesAll : {S D : Type 0} → Opener S D → (D → Device) → S → S → List Binding → Vec Binding Global → Type 0
ResolvesAll relations state old new bindings =
    λ resolved. ResolvesEach (calls relations state old new) (map binding_record bindings) (map binding_record resolved.items)

-- one of them can't be
abbrev pub FailsToResolveEach : {S D : Type 0} → Opener S D → (D → Device) → S → S → List Binding → OpeningFault → Type 0
FailsToResolveEach relations state old new bindings = FailsToResolve (calls relations state old new) (map binding_record bindings)

abbrev pub FailsResolving : {S D : Type 0} → Opener S D → (D → Device) → S → S → List Binding → StackFault → Type 0
FailsResolving relations state old new bindings = IsOpeningEnd (FailsToResolve (calls relations state old new) (map binding_record bindings))
