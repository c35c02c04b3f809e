use Rattle.std.proofs.Common.{arith}
use Rattle.std.proofs.lemmas.Result.{err_from_is_err_and}
use Rattle.nbd_server.proofs.prefetch.prefetch.Goals as goal

pub prefetch_range-requires : goal.prefetch_range-requires
prefetch_range-requires g c = record { export = c.requires.export; within = omega (arith, c.requires.within, c.min.ensures) }

pub returns-in_err-prefetch_range-clause-value : goal.returns-in_err-prefetch_range-clause-value
returns-in_err-prefetch_range-clause-value g c =
    let p = err_from_is_err_and c.from_residual.result c.from_residual.ensures.1 in
    rw (p.1, p.2) (rw c.min.ensures at c.in_err-prefetch_range.ensures.err)

pub returns-clause-value : goal.returns-clause-value
returns-clause-value g c = (c.none.ensures.value, rw c.min.ensures at c.in_ok-prefetch_range.ensures.ok)
