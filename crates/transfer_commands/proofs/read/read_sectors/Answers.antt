use Rattle.std.proofs.Common.{inl, inr, refl, subst}
use Rattle.std.proofs.lemmas.Result.{IfErr-weaker, IfOk-weaker}
use Rattle.request_queue.specs.World.{World}
use Rattle.transfer_commands.specs.declared.request_fault.RequestFault.TheVariants.{Stack}
use Rattle.transfer_commands.specs.Requests.{FailsToServe, HasReply, read_request}
use Rattle.transfer_commands.proofs.RequestOpeningLemmas.{err-from}
use Rattle.transfer_commands.proofs.read.read_sectors.Goals as goal

pub returns-in_err-stack-clause-err : goal.returns-in_err-stack-clause-err
returns-in_err-stack-clause-err g c =
    err-from c.from_residual.result _ (Stack c.in_err-stack.field-0.0) c.from_residual.ensures.1 (inl c.in_err-stack.ensures.err)

pub returns-clause-ok : goal.returns-clause-ok
returns-clause-ok g c =
    IfOk-weaker c.fetch.result _ _
    (λ reply served. record {
      stack = c.in_ok-stack.stack;
      after = c.fetch.new.queue;
      loaded = c.in_ok-stack.ensures.ok;
      served = subst (λ (q : World). HasReply q (read_request c.args.sectors) reply c.fetch.new.queue) c.new-queue.ensures.value served;
    }) c.fetch.ensures.ok

pub returns-clause-err : goal.returns-clause-err
returns-clause-err g c =
    IfErr-weaker c.fetch.result _ _
    (λ fault fails. inr (record {
      stack = c.in_ok-stack.stack;
      after = c.fetch.new.queue;
      loaded = c.in_ok-stack.ensures.ok;
      fails = subst (λ (q : World). FailsToServe q (read_request c.args.sectors) fault c.fetch.new.queue) c.new-queue.ensures.value fails;
    })) c.fetch.ensures.err

-- ---- what is printed among the errors

pub returns-in_err-stack-clause-noted : goal.returns-in_err-stack-clause-noted
returns-in_err-stack-clause-noted g c = inr ((c.in_err-stack.field-0.0, c.in_err-stack.ensures.err), refl)

pub returns-clause-noted : goal.returns-clause-noted
returns-clause-noted g c = inl (c.in_ok-stack.stack, c.in_ok-stack.ensures.ok, rw c.config.ensures.value at c.note_unchecked.ensures.noted)
