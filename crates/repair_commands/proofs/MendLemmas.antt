-- Devices that are synced.
use Rattle.std.proofs.Common.{◌≡◌, ◌≤◌, Bool, false, IsTrue, Result, Ok, Err, ap, arith, inl, inr, refl}
use Rattle.std.specs.Prelude.{OnErr, OnOk}
use Rattle.block_device.specs.Device.{Device, HasFailed, IsUnsynced, synced}
use Rattle.tree_repair.specs.Worlds.{RepairWorld}
use Rattle.repair_commands.specs.Mends.{IsSyncTried, KeepsBothImages, KeepsImage}

-- a sync leaves the image as it is, whether it ends well or not
pub sync-image : {T E : Type 0} (a b : Device) (r : Result T E) → OnOk r (b ≡ synced a) → OnErr r (IsUnsynced a b) → KeepsImage a b
sync-image a b (Ok x) done fails = record {
  image = ap (λ (d : Device). d.image) done;
  size = ap (λ (d : Device). d.size) done;
  may_write = ap (λ (d : Device). d.may_write) done;
  steady = ap (λ (d : Device). d.steady) done;
}
sync-image a b (Err e) done fails = record {
  image = ap (λ (d : Device). d.image) fails.moved;
  size = ap (λ (d : Device). d.size) fails.moved;
  may_write = ap (λ (d : Device). d.may_write) fails.moved;
  steady = ap (λ (d : Device). d.steady) fails.moved;
}

-- a device that wasn't synced stores the same
pub keeps-image : (d : Device) → KeepsImage d d
keeps-image d = record { image = refl; size = refl; may_write = refl; steady = refl }

-- and takes no failure back
unsynced-more : (a b : Device) → IsUnsynced a b → HasFailed a b → a.failures ≤ b.failures
unsynced-more a b un (inl less) = omega (arith, less)
unsynced-more a b un (inr most) = omega (arith, most, ap (λ (d : Device). d.failures) un.moved)

pub sync-more : {T E : Type 0} (a b : Device) (r : Result T E) → OnOk r (b ≡ synced a) → OnErr r (IsUnsynced a b) → a.failures ≤ b.failures
sync-more a b (Ok x) done fails = omega (arith, ap (λ (d : Device). d.failures) done)
sync-more a b (Err e) done fails = unsynced-more a b fails fails.failed

-- a device that was to be synced was synced, or its own sync failed
pub sync-tried : {T E : Type 0} (write : Bool) (a b : Device) (r : Result T E) → IsTrue write → OnOk r (IsTrue write → b.dirty ≡ false) → OnErr r (IsTrue write × IsUnsynced a b) → IsSyncTried a b
sync-tried write a b (Ok x) may done fails = inl (done may)
sync-tried write a b (Err e) may done fails = inr fails.1

-- what isn't synced stays as it is
pub keeps-all : (w : RepairWorld) → KeepsBothImages w w
keeps-all w = record { data_image = keeps-image w.data_dev; hash_image = keeps-image w.hash_dev; data_more = omega arith; hash_more = omega arith; data_copies_are = refl; hash_copies_are = refl }

pub on_err-weaker : {T E : Type 0} {P Q : Type 0} (r : Result T E) → (P → Q) → OnErr r P → OnErr r Q
on_err-weaker (Ok x) weaker holds = tt
on_err-weaker (Err e) weaker holds = weaker holds
