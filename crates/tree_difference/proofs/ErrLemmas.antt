-- Results that are handed on.
use Rattle.std.proofs.Common.{◌≡◌, sym, subst, Result, Ok, Err}
use Rattle.std.specs.Prelude.{IfErr, IfOk, OnOk, IsErrAnd}

-- what holds of a fault holds of the result that hands it on
pub err-from : {T E : Type 0} (r : Result T E) (P : E → Type 0) (fault : E) → IsErrAnd r (λ e. e ≡ fault) → P fault → IfErr r P
err-from (Ok done) P fault is holds = tt
err-from (Err e) P fault is holds = subst P (sym is) holds

-- two facts on one outcome
pub ok-both : {T E : Type 0} (r : Result T E) (P R : T → Type 0) (Q : Type 0) → IfOk r P → OnOk r Q → ((x : T) → P x → Q → R x) → IfOk r R
ok-both (Ok x) P R Q p q f = f x p q
ok-both (Err e) P R Q p q f = tt
