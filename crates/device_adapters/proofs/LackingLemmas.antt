-- Devices that lack no sector.
use Rattle.std.proofs.Common.{◌≡◌, ℕ, ◌+◌, false, List, [], length, ap, ap₂, refl, ◌∙◌, arith}
use Rattle.std.specs.List.{list_any}
use Rattle.std.proofs.lemmas.List.{nil_from_length}
use Rattle.block_device.specs.Device.{CountersFit, Device, capped}
use Rattle.device_adapters.specs.declared.part.Part.{Part}
use Rattle.device_adapters.specs.Lacking.{lacking, lacks}

pub lacks-none : (lost : List Part) (first count : ℕ) → length lost ≡ 0 → lacks lost first count ≡ false
lacks-none lost first count none = ap (λ (parts : List Part). lacks parts first count) (nil_from_length lost none)

-- it is the inner device
pub lacking-none : (inner : Device) → CountersFit inner → lacking inner [] 0 0 ≡ inner
lacking-none inner fits =
    let reads : capped (inner.reads + 0) ≡ inner.reads = omega (arith, fits.reads) in
    let failures : capped (inner.failures + 0) ≡ inner.failures = omega (arith, fits.failures) in
    ap₂ (λ (r f : ℕ). record inner { reads = r; failures = f }) reads failures
