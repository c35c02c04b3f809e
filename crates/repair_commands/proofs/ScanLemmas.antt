-- Devices that are only read after their writes were synced.
use Rattle.std.proofs.Common.{◌≡◌, ℕ, Bool, List, Option, Some, ap, refl, subst, sym, ◌∙◌}
use Rattle.std.proofs.Math.Path.{subst₂}
use Rattle.block_device.specs.Device.{Device, IsRead}
use Rattle.block_device.specs.Failing.{IsInnerRead}
use Rattle.verity_commands.specs.declared.tree_fault.TreeFault.{TreeFault}
use Rattle.verity_commands.specs.Surveyed.{SurveyedDevices, surveyed_devices}
use Rattle.verity_format.specs.Blocks.{IsOnlyRead}
use Rattle.tree_repair.specs.declared.outcome.Outcome.{Outcome}
use Rattle.tree_repair.specs.declared.outcome.Outcome.TheVariants.{Partly, Whole}
use Rattle.tree_repair.specs.declared.repair.Plan.{Plan}
use Rattle.repair_commands.specs.Mends.{IsOnMedium}
use Rattle.repair_commands.specs.OnlyRead.{IsReadAlone, KeepsFlags, read_only}
use Rattle.repair_commands.specs.Rest.{IsRestEnd, IsScanned, TellsRest}

-- a read, as a read of a device that may not be written
pub read-only-read : (d d' : Device) (n : ℕ) (ok : Bool) → IsRead d n ok d' → IsRead (read_only d) n ok (read_only d')
read-only-read d d' n ok m = record {
  same = record { size = m.same.size; may_write = refl; steady = m.same.steady; never_fails = m.same.never_fails };
  reads = m.reads;
  writes = m.writes;
  failures = m.failures;
  dirty = m.dirty;
  image = m.image;
}

pub read-only-call : (d d' : Device) (first n : ℕ) (ok : Bool) (bytes : List ℕ) → IsInnerRead d first n ok d' bytes → IsInnerRead (read_only d) first n ok (read_only d') bytes
read-only-call d d' first n ok bytes r = record { moved = read-only-read d d' n ok r.moved; answer = r.answer; sure = r.sure }

-- a device is what it was, by its name
pub flags-known : (o : Option Device) (d former : Device) → o ≡ Some d → o ≡ Some former → KeepsFlags former d
flags-known o d former e f = let same : d ≡ former = cc in record { may_write = ap (λ (v : Device). v.may_write) same; dirty = ap (λ (v : Device). v.dirty) same }

-- what was read as a device that may not be written, and kept its flags
read-as : (d d' : Device) → IsOnlyRead (read_only d) (read_only d') → KeepsFlags d d' → IsReadAlone d d'
read-as d d' r k = record {
  read = record {
    same = record { size = r.same.size; may_write = k.may_write; steady = r.same.steady; never_fails = r.same.never_fails };
    writes = r.writes;
    image = r.image;
  };
  dirty = k.dirty;
}

pub read-alone : (d a b d' : Device) → a ≡ d → b ≡ d' → IsOnlyRead (read_only a) (read_only b) → KeepsFlags d d' → IsReadAlone d d'
read-alone d a b d' e f r k = read-as d d' (subst₂ (λ (x y : Device). IsOnlyRead (read_only x) (read_only y)) e f r) k

-- the states of two devices
pub two-same : (d d' h h' : Device) → d ≡ d' → h ≡ h' → surveyed_devices d h ≡ surveyed_devices d' h'
two-same d d' h h' e f = ap (λ (x : Device). surveyed_devices x h) e ∙ ap (λ (x : Device). surveyed_devices d' x) f

-- ---- what was synced stays so

medium-scanned : (write : Bool) (t t' : SurveyedDevices) → IsScanned t t' → IsOnMedium write t.data_dev t.hash_dev → IsOnMedium write t'.data_dev t'.hash_dev
medium-scanned write t t' scanned m = record { data_clean = λ w. scanned.data_read.dirty ∙ m.data_clean w; hash_clean = λ w. scanned.hash_read.dirty ∙ m.hash_clean w }

medium-same : (write : Bool) (t t' : SurveyedDevices) → t' ≡ t → IsOnMedium write t.data_dev t.hash_dev → IsOnMedium write t'.data_dev t'.hash_dev
medium-same write t t' same m = subst (λ (v : SurveyedDevices). IsOnMedium write v.data_dev v.hash_dev) (sym same) m

-- if all of the image is valid
pub medium-told : (outcome : Outcome) (plan : Plan) (t t' : SurveyedDevices) (old new : Option (List ℕ)) → TellsRest outcome plan t t' old new → IsOnMedium plan.write t.data_dev t.hash_dev → IsOnMedium plan.write t'.data_dev t'.hash_dev
medium-told (Whole count) plan t t' old new (same, printed) m = medium-same plan.write t t' same m
medium-told Partly plan t t' old new (scanned, says) m = medium-scanned plan.write t t' scanned m

-- if not, or if the scan ended early
pub medium-ended : (outcome : Outcome) (plan : Plan) (t t' : SurveyedDevices) (old new : Option (List ℕ)) (failed : Bool) (fault : TreeFault) → IsRestEnd outcome plan t t' old new failed fault
    → IsOnMedium plan.write t.data_dev t.hash_dev → IsOnMedium plan.write t'.data_dev t'.hash_dev
medium-ended (Whole count) plan t t' old new failed fault (same, ends) m = medium-same plan.write t t' same m
medium-ended Partly plan t t' old new failed fault (scanned, ends) m = medium-scanned plan.write t t' scanned m
