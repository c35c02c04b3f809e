-- Readers and writers that are called one time after another.
use Rattle.std.proofs.Common.{◌≡◌, ◌≢◌, ◌≤◌, ℕ, ◌+◌, ◌-◌, ◌^◌, min, true, ◌∙◌, refl, arith, inr, Option, Some, None, List, Result, Ok, Err}
use Rattle.program_io.specs.Counted.{CountedRecord}
use Rattle.nbd_protocol.specs.declared.fault.ServiceFault.{ServiceFault}
use Rattle.nbd_protocol.specs.declared.fault.ServiceFault.TheVariants as fault
use Rattle.nbd_protocol.specs.Streaming.{HasRead, HasWritten, Stops, result_fault}

no-fault : (x : ServiceFault) → None ≢ Some x
no-fault x is = cc

-- ---- readers

module _ {R : Type 0} where
  -- no call was made
  pub read-none : (at : CountedRecord R) → HasRead 0 at at None
  read-none at = record { calls = omega arith; kept = λ other. refl; failed = λ is. (cc) }

  pub read-then : {n m : ℕ} {old mid new : CountedRecord R} {f : Option ServiceFault} → HasRead n old mid None → HasRead m mid new f → HasRead (n + m) old new f
  read-then p q = record {
    calls = omega (arith, p.calls, q.calls);
    kept = λ other. q.kept other ∙ p.kept (no-fault fault.ReadFault);
    failed = q.failed;
  }

  pub read-fewer : {n : ℕ} (m : ℕ) {old new : CountedRecord R} {f : Option ServiceFault} → HasRead n old new f → m ≤ n → HasRead m old new f
  read-fewer m p few = record { calls = omega (arith, p.calls); kept = p.kept; failed = p.failed }

  -- one call that didn't fail
  pub read-turn : {n : ℕ} {old mid : CountedRecord R} (new : CountedRecord R) → HasRead n old mid None → new.calls ≡ min (mid.calls + 1) (2 ^ 64 - 1) → new.failed ≡ mid.failed → HasRead (n + 1) old new None
  read-turn new p calls kept = record { calls = omega (arith, p.calls); kept = λ other. kept ∙ p.kept other; failed = λ is. (cc) }

  -- as many as a reader is called
  pub read-over : {n : ℕ} {old new : CountedRecord R} → HasRead n old new None → 2 ^ 64 - 1 ≤ n → HasRead n old new (Some fault.ReadFault)
  read-over p many = record { calls = p.calls; kept = λ other. absurd (other refl); failed = λ is. inr (omega (arith, p.calls)) }

  -- the fault is another one
  pub read-other : {n : ℕ} {old new : CountedRecord R} (x : ServiceFault) → HasRead n old new None → Some x ≢ Some fault.ReadFault → HasRead n old new (Some x)
  read-other x p other = record { calls = p.calls; kept = λ is. p.kept (no-fault fault.ReadFault); failed = λ is. absurd (other is) }

-- ---- writers

module _ {W : Type 0} where
  -- the writer wasn't called
  pub written-same : (at : CountedRecord W) (f : Option ServiceFault) → f ≢ Some fault.WriteFault → HasWritten at at f
  written-same at f other = record { kept = λ is. refl; failed = λ is. absurd (other is) }

  pub written-then : {old mid new : CountedRecord W} {f : Option ServiceFault} → HasWritten old mid None → HasWritten mid new f → HasWritten old new f
  written-then p q = record { kept = λ other. q.kept other ∙ p.kept (no-fault fault.WriteFault); failed = q.failed }

  pub written-ok : {old new : CountedRecord W} → new.failed ≡ old.failed → HasWritten old new None
  written-ok kept = record { kept = λ other. kept; failed = λ is. (cc) }

  -- the fault is another one
  pub written-other : {old new : CountedRecord W} (x : ServiceFault) → HasWritten old new None → Some x ≢ Some fault.WriteFault → HasWritten old new (Some x)
  written-other x p other = record { kept = λ is. p.kept (no-fault fault.WriteFault); failed = λ is. absurd (other is) }

  pub written-failed : {old new : CountedRecord W} → new.failed ≡ true → HasWritten old new (Some fault.WriteFault)
  written-failed failed = record { kept = λ other. absurd (other refl); failed = λ is. failed }

-- where bytes don't come, no writer failed
pub stops-reading : (input : Option (List ℕ)) (x : ServiceFault) → Stops input x → Some x ≢ Some fault.WriteFault
stops-reading input fault.Lost stops is = cc
stops-reading input fault.Magic stops is = cc
stops-reading input fault.Flags stops is = cc
stops-reading input fault.NoSuchExport stops is = cc
stops-reading input fault.TooManyOptions stops is = cc
stops-reading input fault.ReadFault stops is = cc
stops-reading input fault.WriteFault stops is = stops

pub of-fault : {T : Type 0} (result : Result T ServiceFault) (x : ServiceFault) → result_fault result ≡ Some x → result ≡ Err x
of-fault (Ok value) x is = cc
of-fault (Err y) x is = cc
