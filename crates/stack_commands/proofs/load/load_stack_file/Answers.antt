use Rattle.std.proofs.Common.{inl, inr, refl}
use Rattle.std.proofs.lemmas.Result.{IfErr-weaker, on_ok_weaker}
use Rattle.stack_commands.specs.declared.fault.CommandFault.TheVariants.{Stack}
use Rattle.stack_commands.specs.Endings.{linux_ending}
use Rattle.stack_commands.proofs.LinuxLemmas.{linux-end, linux-taken, late-end}
use Rattle.stack_commands.proofs.OpeningLemmas.{err-from}
use Rattle.stack_commands.proofs.load.load_stack_file.Goals as goal

pub returns-in_err-config-clause-err : goal.returns-in_err-config-clause-err
returns-in_err-config-clause-err g c =
    err-from c.from_residual.result _ (Stack c.in_err-config.field-0.0) c.from_residual.ensures.1 (inl (c.in_err-config.ensures.err, refl))

pub returns-in_err-check_rules-clause-err : goal.returns-in_err-check_rules-clause-err
returns-in_err-check_rules-clause-err g c =
    let fault = c.in_err-check_rules.field-0.0 in
    let ends = linux-end c.args.linux c.in_ok-config.config fault c.in_err-check_rules.ensures in
    err-from c.from_residual-in_err-check_rules.result _ (linux_ending fault) c.from_residual-in_err-check_rules.ensures.1
    (inr (record { config = c.in_ok-config.config; made = c.in_ok-config.ensures.ok; noted = c.note_unchecked.ensures.noted; why = inr (inl ends) }))

pub returns-clause-ok : goal.returns-clause-ok
returns-clause-ok g c =
    let taken = linux-taken c.args.linux c.in_ok-config.config _ c.in_ok-check_rules.ensures in
    on_ok_weaker c.say_configuration.result (λ printed. record { config = c.in_ok-config.config; made = c.in_ok-config.ensures.ok; noted = c.note_unchecked.ensures.noted; taken = taken; printed = printed }) c.say_configuration.ensures.ok

pub returns-clause-err : goal.returns-clause-err
returns-clause-err g c =
    let taken = linux-taken c.args.linux c.in_ok-config.config _ c.in_ok-check_rules.ensures in
    IfErr-weaker c.say_configuration.result _ _
    (λ fault fails. inr (record { config = c.in_ok-config.config; made = c.in_ok-config.ensures.ok; noted = c.note_unchecked.ensures.noted; why = late-end taken fails })) c.say_configuration.ensures.err
