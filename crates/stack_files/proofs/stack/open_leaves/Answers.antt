use Rattle.std.proofs.Common.{inl, inr, refl, ap, map, ◌∙◌}
use Rattle.stack_engine.specs.Pieces.{stack_over}
use Rattle.stack_rules.specs.Records.{Configuration}
use Rattle.stack_files.specs.declared.stack_fault.StackFault.TheVariants.{Leaves}
use Rattle.stack_files.specs.Endings.{opening_ending}
use Rattle.stack_files.proofs.OpeningLemmas.{err-from}
use Rattle.stack_files.proofs.stack.open_leaves.Goals as goal

pub returns-in_err-leaves-clause-err : goal.returns-in_err-leaves-clause-err
returns-in_err-leaves-clause-err g c =
    err-from c.from_residual.result _ (opening_ending c.in_err-leaves.field-0.0) c.from_residual.ensures.1 (inl (c.in_err-leaves.field-0.0, refl, c.in_err-leaves.ensures.err))

pub returns-in_err-config-clause-err : goal.returns-in_err-config-clause-err
returns-in_err-config-clause-err g c =
    err-from c.from_residual-in_err-config.result _ (Leaves c.in_err-config.field-0.0) c.from_residual-in_err-config.ensures.1
    (inr (record { over = c.in_ok-leaves.field-0; bound = c.in_ok-leaves.ensures.ok; refused = c.in_err-config.ensures.err }))

pub returns-clause-ok : goal.returns-clause-ok
returns-clause-ok g c = record {
  over = c.in_ok-leaves.field-0;
  bound = c.in_ok-leaves.ensures.ok;
  is = c.over.ensures ∙ ap (λ (config : Configuration). stack_over config (map g.I.Dev.BlockDev.state c.in_ok-leaves.field-0.devices.items) c.args.cache) c.in_ok-config.ensures.ok;
}
