-- A device that lacks some of its sectors.
use Rattle.std.specs.Global.{Global}
use Rattle.std.specs.Prelude.{◌≡◌, ℕ, ◌+◌, ◌-◌, ◌/◌, ◌^◌, ◌≤◌, ◌==◌, ◌&&◌, Bool, true, false, List, [], length, Option, None, Some, Vec}
use Rattle.std.specs.List.{list_any}
use Rattle.std.proofs.Common.{arith}
use Rattle.block_device.specs.Call.{Call, Read, Sync, Write}
use Rattle.block_device.specs.Device.{CountersFit, Device, capped}
use Rattle.device_adapters.specs.declared.part.Part.{Part}
use Rattle.device_adapters.specs.Parts.{overlaps}

-- the parts that a device lacks, if any
abbrev pub parts_in : Option (Vec Part Global) → List Part
parts_in None = []
parts_in (Some parts) = parts.items

-- one of the parts has a sector in common with so many sectors from the first on
abbrev pub lacks : List Part → ℕ → ℕ → Bool
lacks lost first count = list_any (λ part. overlaps part (record { first = first; count = count })) lost

-- Over an inner device: it may fail if it lacks a part. What failed reads asked for is counted on top of what the inner device counts.
abbrev pub lacking : Device → List Part → ℕ → ℕ → Device
lacking inner lost sectors_of_failed_reads failed_reads = record inner {
  never_fails = (length lost == 0) && inner.never_fails;
  reads = capped (inner.reads + sectors_of_failed_reads);
  failures = capped (inner.failures + failed_reads);
}

-- A read of a sector that it lacks is no call of the inner device; every other call is one with the same bytes.
abbrev pub LackingDoes : {D : Type 0} → (D → Call → D → Type 0) → List Part → D → Call → D → Type 0
LackingDoes does lost old (Read first bytes ok) new = (lacks lost first (length bytes / 512) ≡ false → does old (Read first bytes ok) new) × (lacks lost first (length bytes / 512) ≡ true → new ≡ old)
LackingDoes does lost old (Write first bytes ok) new = does old (Write first bytes ok) new
LackingDoes does lost old (Sync ok) new = does old (Sync ok) new

pub lacking-fits : (inner : Device) (lost : List Part) (sectors calls : ℕ) → CountersFit inner → CountersFit (lacking inner lost sectors calls)
lacking-fits inner lost sectors calls fits = record { reads = omega arith; writes = fits.writes; failures = omega arith }
