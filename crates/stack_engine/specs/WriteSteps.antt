-- What the steps of a write say of the bytes that they put: to a source, from its first sector on; to a leaf or a device, from
-- sector `first` on.
use Rattle.std.specs.Prelude.{◌≡◌, ℕ, ◌/◌, Bool, List, Result, length}
use Rattle.block_device.specs.Call.{Call}
use Rattle.block_device.specs.Device.{Device}
use Rattle.stack_rules.specs.declared.lower.Lower.{Lower}
use Rattle.stack_rules.specs.Records.{Configuration}
use Rattle.stack_meaning.specs.declared.fault.IoFault.{IoFault}
use Rattle.stack_meaning.specs.Changes.{NoneRead}
use Rattle.stack_lines.specs.declared.source.Source.{Source}
use Rattle.stack_lines.specs.Caches.{KeepsCache}
use Rattle.stack_lines.specs.Forgetting.{DropsLast, Forgets}
use Rattle.stack_lines.specs.Touches.{leaves_of, source_leaves}
use Rattle.stack_lines.specs.WriteBudgets.{Counter, CountsAtMost, write_budget, source_write_budget}
use Rattle.stack_lines.specs.Writing.{sectors_in, destination_of, WritesSectors, source_destination}
use Rattle.stack_engine.specs.declared.backing.Backing.{Backing}
use Rattle.stack_engine.specs.Backings.{BackingRecord, backing_of, leaves_in}
use Rattle.stack_engine.specs.Premises.{CanWrite}
use Rattle.stack_engine.specs.SectorCalls.{Hands}
use Rattle.stack_engine.specs.Uncut.{CutsNone, SourceCutsNone}

-- those bytes can be put
abbrev pub CanPut : {D : Type 0} → (D → Device) → Configuration → Backing D → Source → List ℕ → Type 0
CanPut state c backing source bytes = CanWrite c (leaves_in state backing) backing.cache source bytes

-- ---- what any write leaves

-- sectors that are written: that no unit of them is cut, how much each counter counts for them at most, and the leaves beneath
pub record WriteRun : Type 1 where
  pub cuts_none : Type 0
  pub most : Counter → ℕ
  pub leaves : ℕ → Bool

-- the first n of a source
abbrev pub write_to : Configuration → Source → ℕ → WriteRun
write_to c source n = record { cuts_none = SourceCutsNone c source n; most = λ k. source_write_budget c k source n; leaves = source_leaves c source }

-- n of a leaf or a device
abbrev pub write_beneath : Configuration → Lower → ℕ → ℕ → WriteRun
write_beneath c lower first n = record { cuts_none = CutsNone c lower first n; most = λ k. write_budget c k lower first n; leaves = leaves_of c lower }

-- What a write leaves, whatever it answers. No more is read or written than what it costs, nothing is read if no unit is cut, and
-- nothing is restored.
-- Kept hash blocks stay sound, and are forgotten only of lines whose hash device is one of these leaves or is stacked on one. The data
-- block that is kept is dropped if a leaf is written.
pub record IsWriteStep (c : Configuration) (run : WriteRun) (old new : BackingRecord) : Type 0 where
  pub uncut : run.cuts_none → NoneRead old.leaves new.leaves
  pub paid : (k : Counter) → CountsAtMost k (run.most k) old.leaves new.leaves
  pub cached : KeepsCache c new.leaves old.cache new.cache
  pub uncounted : new.restored ≡ old.restored
  pub forgets : Forgets c run.leaves old.leaves new.leaves old.cache.blocks.blocks new.cache.blocks.blocks
  pub drops : DropsLast old.leaves new.leaves old.cache.last new.cache.last

-- ---- to a source

abbrev pub PutTo : {D : Type 0} → (D → Device) → Configuration → Source → List ℕ → Backing D → Backing D → Result Unit IoFault → Type 0
PutTo state c source bytes old new result = WritesSectors (source_destination c source) 0 (sectors_in bytes) (leaves_in state old) (leaves_in state new) result

abbrev pub WriteStepTo : {D : Type 0} → (D → Device) → Configuration → Source → List ℕ → Backing D → Backing D → Type 0
WriteStepTo state c source bytes old new = IsWriteStep c (write_to c source (length bytes / 512)) (backing_of state old) (backing_of state new)

-- ---- to a leaf or a device

abbrev pub PutAt : {D : Type 0} → (D → Device) → Configuration → Lower → ℕ → List ℕ → Backing D → Backing D → Result Unit IoFault → Type 0
PutAt state c lower first bytes old new result = WritesSectors (destination_of c lower) first (sectors_in bytes) (leaves_in state old) (leaves_in state new) result

abbrev pub WriteStepAt : {D : Type 0} → (D → Device) → Configuration → Lower → ℕ → List ℕ → Backing D → Backing D → Type 0
WriteStepAt state c lower first bytes old new = IsWriteStep c (write_beneath c lower first (length bytes / 512)) (backing_of state old) (backing_of state new)

-- ---- whatever the devices answer

-- the calls on the devices that hand these bytes over to a source
abbrev pub HandsOver : {D : Type 0} → (D → Call → D → Type 0) → Configuration → Source → List ℕ → Backing D → Backing D → Result Unit IoFault → Type 0
HandsOver does c source bytes old new result = Hands does c source bytes old.devices.items new.devices.items result
