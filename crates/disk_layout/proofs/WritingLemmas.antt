-- A device after bytes were written and synced.
use Rattle.std.proofs.Common.{◌≡◌, ◌⊎◌, ◌<◌, ◌-◌, ◌^◌, ◌∙◌, ℕ, IsTrue, List, Result, Ok, Err, ap, arith, subst, sym}
use Rattle.std.specs.Prelude.{OnErr}
use Rattle.block_device.specs.Device.{Device, HasFailed, IsInside}
use Rattle.disk_layout.specs.Writing.{PutsSynced}

pub ended-on : {T E : Type 0} {X : Type 0} (r : Result T E) → X → OnErr r X
ended-on (Ok done) holds = tt
ended-on (Err fault) holds = holds

-- a failure after calls that didn't fail
pub failed-then : (old mid new : Device) → mid.failures ≡ old.failures → HasFailed mid new → HasFailed old new
failed-then old mid new same failed = subst (λ (n : ℕ). (n < new.failures) ⊎ (n ≡ 2 ^ 64 - 1)) same failed

module _ (old new : Device) (first : ℕ) (bytes : List ℕ) (put : PutsSynced old first bytes new) where
  pub size-after : new.size ≡ old.size
  size-after = ap (λ (d : Device). d.size) put.kept ∙ put.written.same.size

  pub failures-after : new.failures ≡ old.failures
  failures-after = ap (λ (d : Device). d.failures) put.kept ∙ put.written.failures

  pub allowed-after : IsTrue old.may_write → IsTrue new.may_write
  allowed-after allowed = subst IsTrue (sym (ap (λ (d : Device). d.may_write) put.kept ∙ put.written.same.may_write)) allowed

  pub inside-after : (at len : ℕ) → IsInside old at len → IsInside new at len
  inside-after at len inside = record { some = inside.some; whole = inside.whole; inside = omega (arith, inside.inside, size-after) }
