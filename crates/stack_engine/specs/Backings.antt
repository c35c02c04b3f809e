-- What is beneath the lines of a configuration, as the clauses of reads and writes see it.
use Rattle.std.specs.Prelude.{ℕ, Bool, List, Result, map}
use Rattle.block_device.specs.Device.{Device}
use Rattle.stack_rules.specs.Records.{Configuration}
use Rattle.stack_meaning.specs.declared.fault.IoFault.{IoFault}
use Rattle.stack_meaning.specs.Found.{FoundRecord}
use Rattle.stack_meaning.specs.Places.{LeafRead}
use Rattle.stack_lines.specs.Caches.{StackCache, KeepsCache}
use Rattle.stack_lines.specs.Touches.{AsksOnly}
use Rattle.stack_engine.specs.Healing.{HasNoParity}
use Rattle.stack_engine.specs.Restored.{Served, serving}
use Rattle.stack_engine.specs.Stacks.{IsStack}
use Rattle.stack_engine.specs.declared.backing.Backing.{Backing}

-- the leaves, where a device's state is what a proof sees of it
abbrev pub leaves_in : {D : Type 0} → (D → Device) → Backing D → List Device
leaves_in state backing = map state backing.devices.items

-- the leaves, the blocks that are kept, and how many blocks were restored
pub record BackingRecord : Type 0 where
  pub leaves : List Device
  pub cache : StackCache
  pub restored : ℕ

abbrev pub backing_of : {D : Type 0} → (D → Device) → Backing D → BackingRecord
backing_of state backing = record { leaves = leaves_in state backing; cache = backing.cache; restored = backing.restored }

-- the devices, and how many blocks were restored
abbrev pub served : {D : Type 0} → Backing D → Served D
served backing = serving backing.devices.items backing.restored

-- it serves the configuration, and the blocks that are kept are sound
abbrev pub IsBacking : {D : Type 0} → (D → Device) → Configuration → Backing D → Type 0
IsBacking state c backing = IsStack c (leaves_in state backing) backing.cache

-- ---- what any step leaves of it

-- the kept blocks are sound over the leaves that it leaves
abbrev pub StaysSound : {D : Type 0} → (D → Device) → Configuration → Backing D → Backing D → Type 0
StaysSound state c old new = KeepsCache c (leaves_in state new) old.cache new.cache

-- without parity it ends at the first device call that fails, and it accesses only these leaves
abbrev pub Asks : {D A : Type 0} → (D → Device) → Configuration → (ℕ → Bool) → Backing D → Backing D → Result A IoFault → Type 0
Asks state c these old new result = AsksOnly (HasNoParity c) these (leaves_in state old) (leaves_in state new) result

-- a read: the leaves and the chains that were found, before and after it
abbrev pub did : {D : Type 0} → (D → Device) → Backing D → List FoundRecord → Backing D → List FoundRecord → LeafRead
did state old before new after = record { old = leaves_in state old; new = leaves_in state new; before = before; after = after }
