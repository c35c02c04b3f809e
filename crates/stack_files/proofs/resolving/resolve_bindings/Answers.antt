use Rattle.std.proofs.Common.{refl}
use Rattle.stack_files.specs.Endings.{opening_ending}
use Rattle.stack_files.proofs.OpeningLemmas.{err-from}
use Rattle.stack_files.proofs.resolving.resolve_bindings.Goals as goal

pub returns-in_err-resolve_each-clause-err : goal.returns-in_err-resolve_each-clause-err
returns-in_err-resolve_each-clause-err g c =
    err-from c.from_residual.result _ (opening_ending c.in_err-resolve_each.field-0.0) c.from_residual.ensures.1 (c.in_err-resolve_each.field-0.0, refl, c.in_err-resolve_each.ensures.err)

pub returns-clause-ok : goal.returns-clause-ok
returns-clause-ok g c = c.in_ok-resolve_each.ensures.ok
