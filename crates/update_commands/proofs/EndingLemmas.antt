-- Faults that are handed on.
use Rattle.std.proofs.Common.{◌≡◌, sym, subst, Result, Ok, Err}
use Rattle.std.specs.Prelude.{IfErr, IsErrAnd, OnErr}

-- what holds of a fault holds of the result that hands it on
pub err-from : {T E : Type 0} (r : Result T E) (P : E → Type 0) (fault : E) → IsErrAnd r (λ e. e ≡ fault) → P fault → IfErr r P
err-from (Ok done) P fault is holds = tt
err-from (Err e) P fault is holds = subst P (sym is) holds

pub ended-on : {T E : Type 0} {X : Type 0} (r : Result T E) → X → OnErr r X
ended-on (Ok done) holds = tt
ended-on (Err fault) holds = holds
