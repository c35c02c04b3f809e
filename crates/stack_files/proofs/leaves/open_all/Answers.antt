use Rattle.std.proofs.Common.{arith, length}
use Rattle.stack_files.specs.declared.opening_fault.OpeningFault.TheVariants.{NoMemory}
use Rattle.stack_files.proofs.OpeningLemmas.{AreOpen-more, IsBindingEnd-at, IsBindingEnd-first, IsBindingEnd-memory, err-from}
use Rattle.stack_files.proofs.leaves.open_all.Goals as goal

pub bindings-preserved : goal.bindings-preserved
bindings-preserved g c =
    AreOpen-more g.I.Images.relations g.I.Dev.BlockDev.state c.args.images.now c.bindings.images c.open_backing.new.images c.args.files.now c.bindings.open_files.items c.open_backing.new.files.items
    c.args.bindings.now c.bindings.binding-index _ c.bindings.open_leaves c.bind.new.self c.in_ok-device.device c.bindings-test.true c.bindings.invariant
    c.in_ok-bind.ensures.more.0 c.in_ok-bind.ensures.more.1 c.in_ok-device.ensures.ok c.in_ok-bind.ensures.served

pub returns-in_err-open_files-clause-err : goal.returns-in_err-open_files-clause-err
returns-in_err-open_files-clause-err g c =
    err-from c.from_residual.result _ NoMemory c.from_residual.ensures.1
    (IsBindingEnd-first g.I.Images.relations g.I.Dev.BlockDev.state c.args.images.now c.args.files.now c.args.bindings.now (length c.args.files.now, omega arith, c.in_err-open_files.ensures.err.1))

pub returns-in_err-device-clause-err : goal.returns-in_err-device-clause-err
returns-in_err-device-clause-err g c =
    err-from c.from_residual-in_err-device.result _ c.in_err-device.field-0.0 c.from_residual-in_err-device.ensures.1
    (IsBindingEnd-at g.I.Images.relations g.I.Dev.BlockDev.state c.args.images.now c.bindings.images c.open_backing.new.images c.args.files.now c.bindings.open_files.items
    c.args.bindings.now c.bindings.binding-index _ c.bindings.open_leaves c.in_err-device.field-0.0 c.bindings-test.true c.bindings.invariant c.in_err-device.ensures.err)

pub returns-in_err-bind-clause-err : goal.returns-in_err-bind-clause-err
returns-in_err-bind-clause-err g c =
    err-from c.from_residual-in_err-bind.result _ NoMemory c.from_residual-in_err-bind.ensures.1
    (IsBindingEnd-memory g.I.Images.relations g.I.Dev.BlockDev.state c.args.images.now c.bindings.images c.open_backing.new.images c.args.files.now c.bindings.open_files.items c.open_backing.new.files.items
    c.args.bindings.now c.bindings.binding-index _ c.bindings.open_leaves c.in_ok-device.device c.bindings-test.true c.bindings.invariant c.in_ok-device.ensures.ok
    (c.in_err-bind.field-0.0.asked, c.in_err-bind.ensures.err, c.in_err-bind.field-0.0.refused))
