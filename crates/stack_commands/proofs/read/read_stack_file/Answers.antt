use Rattle.std.proofs.Common.{inl, inr, refl}
use Rattle.stack_session.specs.declared.fault.SessionFault.TheVariants.{WriteFault}
use Rattle.stack_commands.specs.declared.fault.CommandFault.TheVariants.{Request, Session}
use Rattle.stack_commands.proofs.OpeningLemmas.{err-from}
use Rattle.stack_commands.proofs.read.read_stack_file.Goals as goal

pub returns-in_err-reply-clause-err : goal.returns-in_err-reply-clause-err
returns-in_err-reply-clause-err g c =
    err-from c.from_residual.result _ (Request c.in_err-reply.field-0.0) c.from_residual.ensures.1 (inl c.in_err-reply.ensures.err)

pub returns-in_err-say_reply-clause-err : goal.returns-in_err-say_reply-clause-err
returns-in_err-say_reply-clause-err g c =
    err-from c.from_residual-in_err-say_reply.result _ (Session WriteFault) c.from_residual-in_err-say_reply.ensures.1
    (inr (c.in_ok-reply.reply, c.in_ok-reply.ensures.ok, (refl, c.in_err-say_reply.ensures.failed)))
