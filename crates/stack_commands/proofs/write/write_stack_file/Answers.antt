use Rattle.std.proofs.Common.{inl, inr, refl}
use Rattle.stack_session.specs.declared.fault.SessionFault.TheVariants.{WriteFault}
use Rattle.stack_commands.specs.declared.fault.CommandFault.TheVariants.{Request, Session}
use Rattle.stack_commands.proofs.OpeningLemmas.{err-from}
use Rattle.stack_commands.proofs.write.write_stack_file.Goals as goal

pub returns-in_err-write_source-clause-err : goal.returns-in_err-write_source-clause-err
returns-in_err-write_source-clause-err g c =
    err-from c.from_residual.result _ (Request c.in_err-write_source.field-0.0) c.from_residual.ensures.1 (inl c.in_err-write_source.ensures.err)

pub returns-in_err-say_written-clause-err : goal.returns-in_err-say_written-clause-err
returns-in_err-say_written-clause-err g c =
    err-from c.from_residual-in_err-say_written.result _ (Session WriteFault) c.from_residual-in_err-say_written.ensures.1
    (inr (c.in_ok-write_source.ensures.ok, (refl, c.in_err-say_written.ensures.failed)))
