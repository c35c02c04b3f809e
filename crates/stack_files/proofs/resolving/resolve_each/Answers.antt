use Rattle.std.proofs.Common.{arith, refl}
use Rattle.std.proofs.lemmas.List.{take_all}
use Rattle.command_line.specs.Bindings.{backing_record}
use Rattle.stack_files.specs.declared.opening_fault.OpeningFault.TheVariants.{NoMemory, Open}
use Rattle.stack_files.proofs.OpeningLemmas.{err-from}
use Rattle.stack_files.proofs.ResolvingLemmas.{ResolvesEach-more, runs_out-at, unresolved-at}
use Rattle.stack_files.proofs.resolving.resolve_each.Goals as goal

pub bindings-preserved : goal.bindings-preserved
bindings-preserved g c =
    ResolvesEach-more g.I.Images.relations g.I.Dev.BlockDev.state c.args.images.now c.bindings.images c.resolve_backing.new.images
    c.args.bindings.now c.bindings.binding-index _ c.bindings.resolved.items c.push.new.v.items _ c.bindings-test.true c.bindings.invariant
    c.in_ok-push.ensures.ok (record { same_name = refl; looked_up = c.in_ok-backing.ensures.ok })

pub returns-in_err-backing-clause-err : goal.returns-in_err-backing-clause-err
returns-in_err-backing-clause-err g c =
    err-from c.from_residual.result _ (Open c.in_err-backing.field-0.0) c.from_residual.ensures.1
    (unresolved-at g.I.Images.relations g.I.Dev.BlockDev.state c.args.images.now c.bindings.images c.resolve_backing.new.images
    c.args.bindings.now c.bindings.binding-index _ c.bindings.resolved.items c.in_err-backing.field-0.0 c.bindings-test.true c.bindings.invariant c.in_err-backing.ensures.err)

pub returns-in_err-push-clause-err : goal.returns-in_err-push-clause-err
returns-in_err-push-clause-err g c =
    err-from c.from_residual-in_err-push.result _ NoMemory c.from_residual-in_err-push.ensures.1 (
      runs_out-at g.I.Images.relations g.I.Dev.BlockDev.state c.args.images.now c.bindings.images c.resolve_backing.new.images
          c.args.bindings.now c.bindings.binding-index _ c.bindings.resolved.items (record { name = _; backing = backing_record c.in_ok-backing.backing }) c.bindings-test.true c.bindings.invariant
          (record { same_name = refl; looked_up = c.in_ok-backing.ensures.ok }),
      (1, omega arith, c.in_err-push.ensures.err.1),
    )

pub returns-clause-ok : goal.returns-clause-ok
returns-clause-ok g c = rw (take_all c.bindings.binding-index c.args.bindings.now c.bindings-test.false) at c.bindings.invariant
