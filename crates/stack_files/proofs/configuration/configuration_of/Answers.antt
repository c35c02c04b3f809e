use Rattle.std.proofs.Common.{Err, ap}
use Rattle.stack_files.specs.declared.stack_fault.StackFault.TheVariants.{Leaves}
use Rattle.stack_files.specs.Configuration.{configuration_of}
use Rattle.stack_files.proofs.ConfigurationLemmas.{configuration_of-leaves, configuration_of-passes, err-is, err-text, err-load}
use Rattle.stack_files.proofs.configuration.configuration_of.Goals as goal

pub returns-in_err-config-clause-err : goal.returns-in_err-config-clause-err
returns-in_err-config-clause-err c =
    let fault = c.in_err-config.field-0.0 in
    err-is c.from_residual.result (configuration_of c.args.leaves.items c.args.text.now) (Leaves fault) c.from_residual.ensures.1
    (configuration_of-leaves c.args.leaves.items c.args.text.now fault c.in_err-config.ensures.err)

pub returns-in_err-entries-clause-err : goal.returns-in_err-entries-clause-err
returns-in_err-entries-clause-err c =
    err-text c.from_residual-in_err-entries.result c.args.leaves.items c.args.text.now c.in_err-entries.field-0.0 c.from_residual-in_err-entries.ensures.1
    c.in_ok-config.ensures.leaves c.in_err-entries.ensures

pub returns-in_err-load-clause-err : goal.returns-in_err-load-clause-err
returns-in_err-load-clause-err c =
    err-load c.from_residual-in_err-load.result c.args.leaves.items c.args.text.now c.in_ok-entries.entries c.in_ok-config.config c.in_err-load.field-0.0
    c.from_residual-in_err-load.ensures.1 c.in_ok-config.ensures.ok c.in_ok-config.ensures.leaves c.in_ok-entries.ensures
    (λ refusal is. (c.in_err-load.ensures.refused refusal (ap (λ e. Err e) is)).first) (λ is. c.in_err-load.ensures.memory (ap (λ e. Err e) is))

pub returns-clause-ok : goal.returns-clause-ok
returns-clause-ok c =
    configuration_of-passes c.args.leaves.items c.args.text.now c.in_ok-entries.entries c.in_ok-config.config c.load.new.config c.in_ok-config.ensures.ok c.in_ok-config.ensures.leaves
    c.in_ok-entries.ensures c.in_ok-load.ensures.ok c.in_ok-load.ensures.after
