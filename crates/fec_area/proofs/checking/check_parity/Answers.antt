use Rattle.std.proofs.Common.{refl}
use Rattle.std.proofs.lemmas.Result.{err_from_is_err_and}
use Rattle.fec_area.proofs.checking.check_parity.Goals as goal

pub returns-then-sectors-needed-clause-calls : goal.returns-then-sectors-needed-clause-calls
returns-then-sectors-needed-clause-calls g c = (refl, refl, refl)

pub returns-in_err-products-clause-calls : goal.returns-in_err-products-clause-calls
returns-in_err-products-clause-calls g c =
    let p = err_from_is_err_and c.from_residual.result c.from_residual.ensures.1 in
    rw (p.1, p.2) (refl, refl, refl)

pub returns-in_err-block-clause-calls : goal.returns-in_err-block-clause-calls
returns-in_err-block-clause-calls g c =
    let p = err_from_is_err_and c.from_residual-in_err-block.result c.from_residual-in_err-block.ensures.1 in
    rw (p.1, p.2) (refl, refl, refl)

pub returns-in_err-parity-clause-calls : goal.returns-in_err-parity-clause-calls
returns-in_err-parity-clause-calls g c =
    let p = err_from_is_err_and c.from_residual-in_err-parity.result c.from_residual-in_err-parity.ensures.1 in
    rw (p.1, p.2) (refl, refl, refl)

pub returns-in_err-stored-clause-calls : goal.returns-in_err-stored-clause-calls
returns-in_err-stored-clause-calls g c =
    let p = err_from_is_err_and c.from_residual-in_err-stored.result c.from_residual-in_err-stored.ensures.1 in
    rw (p.1, p.2) (refl, refl, refl)

pub returns-in_err-found-clause-calls : goal.returns-in_err-found-clause-calls
returns-in_err-found-clause-calls g c =
    let p = err_from_is_err_and c.from_residual-in_err-found.result c.from_residual-in_err-found.ensures.1 in
    rw (p.1, p.2) c.in_err-found.ensures.calls
