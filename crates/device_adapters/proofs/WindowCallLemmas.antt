-- A call on the whole device, as one on its part.
use Rattle.std.proofs.Common.{Bool, ◌≡◌, ℕ, ◌+◌, ◌/◌, ◌≤◌, List, length, ap, refl, sym, ◌∙◌, arith}
use Rattle.std.specs.List.{concat}
use Rattle.block_device.specs.Call.{Call, IsCall, Read, Sync, Write, moved_by}
use Rattle.block_device.specs.Device.{Device, IsWhole, run_of, sectors_of}
use Rattle.block_device.specs.Whole.{length-sectors_of}
use Rattle.device_adapters.specs.declared.part.Part.{Part}
use Rattle.device_adapters.specs.Parts.{LiesInside}
use Rattle.device_adapters.specs.Windows.{windowed}
use Rattle.device_adapters.proofs.PartLemmas.{after-run_of, before-run_of, run_of-run_of, run_of-spliced}

pub read-windowed : (old new : Device) (part : Part) (first : ℕ) (bytes : List ℕ) (ok : Bool) → first + length bytes / 512 ≤ part.count
    → IsCall old (moved_by part.first (Read first bytes ok)) new → IsCall (windowed old part) (Read first bytes ok) (windowed new part)
read-windowed old new part first bytes ok few h = record {
  moved = record {
    same = record { size = refl; may_write = h.moved.same.may_write; steady = h.moved.same.steady; never_fails = h.moved.same.never_fails };
    reads = h.moved.reads;
    writes = h.moved.writes;
    failures = h.moved.failures;
    dirty = h.moved.dirty;
    image = λ steady. ap (λ image. run_of image part.first part.count) (h.moved.image steady);
  };
  answer = λ good steady. h.answer good steady ∙ ap concat (sym (run_of-run_of old.image part.first part.count first (length bytes / 512) few));
  sure = h.sure;
}

pub write-windowed : (old new : Device) (part : Part) (first : ℕ) (bytes : List ℕ) (ok : Bool) → LiesInside old part → IsWhole old → first + length bytes / 512 ≤ part.count
    → IsCall old (moved_by part.first (Write first bytes ok)) new → IsCall (windowed old part) (Write first bytes ok) (windowed new part)
write-windowed old new part first bytes ok inside whole few h =
    let n : ℕ = length bytes / 512 in
    record {
      moved = record {
        same = record { size = refl; may_write = h.moved.same.may_write; steady = h.moved.same.steady; never_fails = h.moved.same.never_fails };
        reads = h.moved.reads;
        writes = h.moved.writes;
        failures = h.moved.failures;
        dirty = h.moved.dirty;
        before = λ steady. before-run_of old.image new.image part.first part.count first (omega arith) (h.moved.before steady);
        after = λ steady. after-run_of old.image new.image part.first part.count first n few (h.moved.after steady);
      };
      image = λ good steady. ap (λ image. run_of image part.first part.count) (h.image good steady)
          ∙ run_of-spliced old.image (sectors_of n bytes) part.first part.count first (omega (arith, whole.length)) (omega (arith, length-sectors_of n bytes));
      sure = h.sure;
    }
