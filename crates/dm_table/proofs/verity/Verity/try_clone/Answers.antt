use Rattle.std.proofs.Common.{ℕ, List, length, ap, arith}
use Rattle.std.proofs.lemmas.Result.{err_from_is_err_and}
use Rattle.dm_table.proofs.lemmas.NameLengthLemmas.{device-length}
use Rattle.dm_table.proofs.verity.Verity.try_clone.Goals as goal

pub returns-in_err-data-clause-err : goal.returns-in_err-data-clause-err
returns-in_err-data-clause-err c =
    let p = err_from_is_err_and c.from_residual.result c.from_residual.ensures.1 in
    let same = ap (λ (bytes : List ℕ). length bytes) c.as_slice.ensures in
    rw (p.1, p.2) (omega (arith, c.in_err-data.ensures.err.0, same, device-length c.args.self.now.data c.requires.devices.below))

pub returns-in_err-hash-clause-err : goal.returns-in_err-hash-clause-err
returns-in_err-hash-clause-err c =
    let p = err_from_is_err_and c.from_residual-in_err-hash.result c.from_residual-in_err-hash.ensures.1 in
    let same = ap (λ (bytes : List ℕ). length bytes) c.as_slice-2.ensures in
    rw (p.1, p.2) (omega (arith, c.in_err-hash.ensures.err.0, same, device-length c.args.self.now.hash c.requires.devices.hash))
