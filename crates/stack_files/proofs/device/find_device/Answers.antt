use Rattle.std.proofs.Common.{ℕ, List, inr, refl, subst, ◌≡◌, None}
use Rattle.stack_rules.specs.Names.{device_named}
use Rattle.stack_files.proofs.DeviceLemmas.{none-mapped}
use Rattle.stack_files.proofs.device.find_device.Goals as goal

pub returns-clause-err : goal.returns-clause-err
returns-clause-err g c =
    let none : device_named c.in-Ok.config c.as_bytes.result.now ≡ None = none-mapped _ _ c.in-None.ensures in
    inr (record {
      config = c.in-Ok.config;
      makes = rw c.as_slice.ensures.value at c.in-Ok.ensures.ok;
      none = subst (λ (name : List ℕ). device_named c.in-Ok.config name ≡ None) c.as_bytes.ensures.value none;
      is = refl;
    })
