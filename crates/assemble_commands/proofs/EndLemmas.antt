-- Faults that are handed on.
use Rattle.std.proofs.Common.{◌≡◌, ◌⊎◌, ◌<◌, ◌-◌, ◌^◌, ℕ, sym, subst, Result, Ok, Err, inl, inr}
use Rattle.std.specs.Prelude.{IfErr, IsErrAnd, OnErr}
use Rattle.block_device.specs.Device.{Device, HasFailed}
use Rattle.fec_area.specs.declared.layout.Layout.{Layout}
use Rattle.fec_area.specs.declared.writing.ParityFault.{ParityFault}
use Rattle.fec_commands.specs.Protecting.{IsSealed, IsSealingEnd}
use Rattle.image_commands.specs.Places.{IsStateOf}
use Rattle.device_adapters.specs.Copying.{AreCopied, FailsToCopy}

-- what holds of a fault holds of the result that hands it on
pub err-from : {T E : Type 0} (r : Result T E) (P : E → Type 0) (fault : E) → IsErrAnd r (λ e. e ≡ fault) → P fault → IfErr r P
err-from (Ok done) P fault is holds = tt
err-from (Err e) P fault is holds = subst P (sym is) holds

pub ended-on : {T E : Type 0} {X : Type 0} (r : Result T E) → X → OnErr r X
ended-on (Ok done) holds = tt
ended-on (Err fault) holds = holds

-- a failure of the copy after all was copied
pub failed-copied : (from to from' mid to' : Device) (n : ℕ) → AreCopied from to 0 n from' mid → HasFailed mid to' → FailsToCopy from to from' to'
failed-copied from to from' mid to' n copied failed = inr (subst (λ (m : ℕ). (m < to'.failures) ⊎ (m ≡ 2 ^ 64 - 1)) copied.to_failures failed)

-- ---- parity of data that are read through another device

module _ {D W : Type 0} (state : D → Device) (inner : W → D) (Hash : Device → Type 0) (l : Layout) (data_dev hash_dev parity_dev parity_dev' : Device) where
  pub sealed-inner : IsSealed (IsStateOf (λ (w : W). state (inner w))) Hash l data_dev hash_dev parity_dev parity_dev' → IsSealed (IsStateOf state) Hash l data_dev hash_dev parity_dev parity_dev'
  sealed-inner s = record {
    data_dev' = s.data_dev';
    hash_dev' = s.hash_dev';
    left = ((inner s.left.0.0, s.left.0.1), s.left.1);
    written_dev = s.written_dev;
    written = s.written;
    only = s.only;
    is_synced = s.is_synced;
  }

  pub sealing-inner : (fault : ParityFault) → IsSealingEnd (IsStateOf (λ (w : W). state (inner w))) Hash l data_dev hash_dev parity_dev parity_dev' fault → IsSealingEnd (IsStateOf state) Hash l data_dev hash_dev parity_dev parity_dev' fault
  sealing-inner fault (inl u) = inl (record { data_dev' = u.data_dev'; hash_dev' = u.hash_dev'; left = ((inner u.left.0.0, u.left.0.1), u.left.1); cause = u.cause; only = u.only })
  sealing-inner fault (inr u) = inr (record {
    data_dev' = u.data_dev';
    hash_dev' = u.hash_dev';
    left = ((inner u.left.0.0, u.left.0.1), u.left.1);
    written_dev = u.written_dev;
    written = u.written;
    only = u.only;
    failed = u.failed;
    is = u.is;
  })
