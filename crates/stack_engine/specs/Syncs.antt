-- Leaves that are synced.
use Rattle.std.specs.Prelude.{◌≡◌, ℕ, suc, ◌-◌, ◌≤◌, Bool, true, false, List, [], ◌∷◌, ◌++◌, IsTrue, All, map, set, take, drop, Result, Ok, Err, if◌then◌else◌}
use Rattle.std.specs.List.{slice_index_or}
use Rattle.block_device.specs.Call.{Call, DeviceDoes, Sync}
use Rattle.block_device.specs.Device.{Device, IsUnsynced, synced}
use Rattle.stack_meaning.specs.declared.fault.IoFault.{IoFault}
use Rattle.stack_meaning.specs.declared.fault.IoFault.TheVariants as io
use Rattle.stack_meaning.specs.Leaves.{LeafFailed}
use Rattle.stack_engine.specs.LeafCalls.{LeafCall, ServesCalls}

-- the first i leaves are synced
abbrev pub synced_first : ℕ → List Device → List Device
synced_first i leaves = map synced (take i leaves) ++ drop i leaves

-- Leaf i, which was dirty, couldn't be synced; the leaves before it were synced.
-- Nothing else changed.
pub record LeafUnsynced (i : ℕ) (old new : List Device) : Type 0 where
  pub failed : LeafFailed i old new
  pub dirty : (d : Device) → IsTrue (slice_index_or old i d).dirty
  pub after : Device
  pub unsynced : (d : Device) → IsUnsynced (slice_index_or old i d) after
  pub leaves : new ≡ set (synced_first i old) i after

-- a leaf, whose number counts from 1, isn't synced
abbrev pub FailsToSync : List Device → List Device → IoFault → Type 0
FailsToSync old new (io.Device i) = (1 ≤ i) × LeafUnsynced (i - 1) old new
FailsToSync old new fault = ⊥

-- no leaf ever fails
abbrev pub NeverFail : List Device → Type 0
NeverFail leaves = All (λ l. IsTrue l.never_fails) leaves

-- ---- the calls, whatever the devices answer

-- a sync of leaf i
abbrev pub sync_of : ℕ → Bool → LeafCall
sync_of i ok = record { leaf = i; call = Sync ok }

-- one sync of each dirty leaf, in order, which succeeds; the first of the leaves is leaf i
abbrev pub syncs_from : ℕ → List Device → List LeafCall
syncs_from i [] = []
syncs_from i (leaf ∷ more) = if leaf.dirty then sync_of i true ∷ syncs_from (suc i) more else syncs_from (suc i) more

-- These calls sync the leaves, and this is answered: those of each dirty leaf; or of those before the leaf that the fault names,
-- and the one that failed.
abbrev pub AreSyncCalls : List Device → Result Unit IoFault → List LeafCall → Type 0
AreSyncCalls leaves (Ok done) calls = calls ≡ syncs_from 0 leaves
AreSyncCalls leaves (Err (io.Device i)) calls = calls ≡ syncs_from 0 (take (i - 1) leaves) ++ (sync_of (i - 1) false ∷ [])
AreSyncCalls leaves (Err fault) calls = ⊥

-- of the leaves' devices, and no others
abbrev pub MakesSyncs : {D : Type 0} → (D → Device) → (D → Call → D → Type 0) → List Device → Result Unit IoFault → List Device → Type 0
MakesSyncs state does old result new = ServesCalls state (DeviceDoes state does) (AreSyncCalls old result) old new

-- ---- on the way

-- a device is called if it is dirty, and else stays as it is
abbrev pub CallsIf : {D : Type 0} → (D → Call → D → Type 0) → Bool → D → Call → D → Type 0
CallsIf does true old call new = does old call new
CallsIf does false old call new = new ≡ old
