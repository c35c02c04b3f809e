-- What holds of a result's fault.
use Rattle.std.proofs.Common.{Result, Ok, Err, IfErr}

-- what holds of each fault holds of that of a result
pub on_err-any : {T E : Type 0} (r : Result T E) (P : E → Type 0) → ((fault : E) → P fault) → IfErr r P
on_err-any (Ok done) P holds = tt
on_err-any (Err fault) P holds = holds fault

-- two facts of a result's fault are one
pub on_err-both : {T E : Type 0} (r : Result T E) (P Q : E → Type 0) → IfErr r P → IfErr r Q → IfErr r (λ fault. P fault × Q fault)
on_err-both (Ok done) P Q one other = tt
on_err-both (Err fault) P Q one other = (one, other)
