-- Stack texts that `load` takes over the disk alone, and why others aren't printed.
use Rattle.std.specs.Prelude.{◌≡◌, ◌⊎◌, ℕ, ◌≤◌, ◌<◌, ◌^◌, Bool, true, List, [], ◌∷◌, length, codes, Option, Ok, Err}
use Rattle.std.specs.Io.KnownBytes.{Appends}
use Rattle.allocation.specs.Refusal.{IsOutOfMemory}
use Rattle.program_io.specs.Counted.{CountedRecord}
use Rattle.partition_table.specs.declared.partition.Partition.{Partition}
use Rattle.partition_table.specs.declared.sector_size.SectorSize.{SectorSize}
use Rattle.stack_rules.specs.Descend.{most_devices}
use Rattle.stack_rules.specs.Records.{Configuration, LeafRecord}
use Rattle.stack_files.specs.declared.stack_fault.StackFault.{StackFault}
use Rattle.stack_files.specs.declared.stack_fault.StackFault.TheVariants as stack_fault
use Rattle.stack_files.specs.Configuration.{configuration_of}
use Rattle.partition_commands.specs.declared.fault.PartitionsFault.{PartitionsFault}
use Rattle.partition_commands.specs.declared.fault.PartitionsFault.TheVariants.{NoMemory, NotLoadable, Write}
use Rattle.partition_commands.specs.Stacks.{stack_text}

-- the backing device DISK, which is writable if a device of the stack is
abbrev pub disk_leaves : Bool → ℕ → List LeafRecord
disk_leaves writable sectors = record { name = codes "DISK"; sectors = sectors; writable = writable } ∷ []

-- the text is one that `load` reads, and over a disk of so many sectors it makes a configuration of it
pub record Loads (writable : Bool) (sectors : ℕ) (text : List ℕ) : Type 0 where
  pub config : Configuration
  pub short : length text ≤ 2 ^ 20
  pub makes : configuration_of (disk_leaves writable sectors) text ≡ Ok config

-- memory ran out, as room for at most n elements was refused
abbrev pub IsRefusedRoom : ℕ → PartitionsFault → Type 0
IsRefusedRoom n fault = (fault ≡ NoMemory) × IsOutOfMemory n

-- the text is too long for `load`, or has a fault, or the disk or the load is refused
abbrev pub IsUnloadable : Bool → ℕ → List ℕ → Type 0
IsUnloadable writable sectors text = (2 ^ 20 < length text) ⊎ ((fault : StackFault) × (configuration_of (disk_leaves writable sectors) text ≡ Err fault))

-- there are more partitions than a stack has devices, or their text isn't one that loads
abbrev pub IsStackUnloadable : Bool → ℕ → SectorSize → List Partition → Type 0
IsStackUnloadable writable sectors size partitions = (most_devices < length partitions) ⊎ IsUnloadable writable sectors (stack_text writable size partitions)

-- no allocation for the entries of a stack text, or for its check, has more elements
abbrev pub stack_room : ℕ
stack_room = 511

-- how a command ends if the text makes no configuration
abbrev pub load_end : StackFault → PartitionsFault
load_end stack_fault.NoMemory = NoMemory
load_end fault = NotLoadable

-- a stack text isn't printed: memory ran out for that cause, it doesn't load, or it can't be written
abbrev pub IsTextEnd : Type 0 → Type 0 → Bool → PartitionsFault → Type 0
IsTextEnd memory unloadable failed NoMemory = memory
IsTextEnd memory unloadable failed NotLoadable = unloadable
IsTextEnd memory unloadable failed Write = failed ≡ true
IsTextEnd memory unloadable failed fault = ⊥

-- a command that ends early printed nothing, unless its writer failed
abbrev pub IsQuiet : Option (List ℕ) → Option (List ℕ) → PartitionsFault → Type 0
IsQuiet old new fault = (fault ≡ Write) ⊎ (new ≡ old)

-- of a text
abbrev pub IsLoadableEnd : Bool → ℕ → List ℕ → Bool → PartitionsFault → Type 0
IsLoadableEnd writable sectors text failed fault = IsTextEnd (IsOutOfMemory stack_room) (IsUnloadable writable sectors text) failed fault

-- of the text of these partitions
abbrev pub IsStackEnd : Bool → ℕ → SectorSize → List Partition → Bool → PartitionsFault → Type 0
IsStackEnd writable sectors size partitions failed fault = IsTextEnd (IsOutOfMemory stack_room) (IsStackUnloadable writable sectors size partitions) failed fault

-- ---- as a call sees them

-- the text loads and was written
abbrev pub SaysLoadable : {W : Type 0} → (W → Option (List ℕ)) → CountedRecord W → CountedRecord W → Bool → ℕ → List ℕ → Type 0
SaysLoadable contents writer writer' writable sectors text = Loads writable sectors text × Appends (contents writer.inner) (contents writer'.inner) text

abbrev pub EndsQuiet : {W : Type 0} → (W → Option (List ℕ)) → CountedRecord W → CountedRecord W → PartitionsFault → Type 0
EndsQuiet contents writer writer' = IsQuiet (contents writer.inner) (contents writer'.inner)
