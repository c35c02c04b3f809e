use Rattle.std.proofs.Common.{map, ap, refl, Err, inl, inr}
use Rattle.command_line.specs.Bindings.{binding_record}
use Rattle.stack_session.specs.declared.fault.SessionFault.{SessionFault}
use Rattle.stack_commands.specs.declared.fault.CommandFault.TheVariants.{Io, Session, Stack}
use Rattle.stack_commands.proofs.OpeningLemmas.{err-from}
use Rattle.stack_commands.proofs.ServeLemmas.{session-served}
use Rattle.stack_commands.proofs.serve.invoke_session.Goals as goal

pub returns-in_err-stack-clause-err : goal.returns-in_err-stack-clause-err
returns-in_err-stack-clause-err g c =
    err-from c.from_residual.result _ (Stack c.in_err-stack.field-0.0) c.from_residual.ensures.1 (refl, rw c.as_slice-bindings.ensures.value at c.in_err-stack.ensures.err)

pub returns-in_err-outcome-clause-err : goal.returns-in_err-outcome-clause-err
returns-in_err-outcome-clause-err g c =
    err-from c.from_residual-in_err-outcome.result _ (Session c.in_err-outcome.field-0.0) c.from_residual-in_err-outcome.ensures.1 (
      (
        c.sync_and_close-synced.result,
        session-served _ c.args.words.cache c.open_leaves.new.images (map binding_record c.args.words.bindings.items) c.in_ok-stack.stack c.new-queue.result c.session-outcome.new.queue _ _ _ _
            (rw c.as_slice-bindings.ensures.value at c.in_ok-stack.ensures.ok) c.new-queue.ensures.value c.in_err-outcome.ensures.session (rw (c.into_stack.ensures, c.as_slice-bindings.ensures.value) at c.sync_and_close-synced.ensures),
      ),
      λ is. c.in_err-outcome.ensures.ending.write_fault (ap (λ (x : SessionFault). Err x) is),
    )

pub returns-in_err-synced-clause-err : goal.returns-in_err-synced-clause-err
returns-in_err-synced-clause-err g c =
    err-from c.from_residual-in_err-synced.result _ (Io c.in_err-synced.field-0.0) c.from_residual-in_err-synced.ensures.1
    (session-served _ c.args.words.cache c.open_leaves.new.images (map binding_record c.args.words.bindings.items) c.in_ok-stack.stack c.new-queue.result c.session-outcome.new.queue _ _ _ _
    (rw c.as_slice-bindings.ensures.value at c.in_ok-stack.ensures.ok) c.new-queue.ensures.value c.in_ok-outcome.ensures.session (rw (c.into_stack.ensures, c.as_slice-bindings.ensures.value) at c.in_err-synced.ensures))

pub returns-clause-ok : goal.returns-clause-ok
returns-clause-ok g c =
    session-served _ c.args.words.cache c.open_leaves.new.images (map binding_record c.args.words.bindings.items) c.in_ok-stack.stack c.new-queue.result c.session-outcome.new.queue _ _ _ _
    (rw c.as_slice-bindings.ensures.value at c.in_ok-stack.ensures.ok) c.new-queue.ensures.value c.in_ok-outcome.ensures.session (rw (c.into_stack.ensures, c.as_slice-bindings.ensures.value) at c.in_ok-synced.ensures)

-- ---- what is printed among the errors

pub returns-in_err-stack-clause-noted : goal.returns-in_err-stack-clause-noted
returns-in_err-stack-clause-noted g c = inr ((c.in_err-stack.field-0.0, rw c.as_slice-bindings.ensures.value at c.in_err-stack.ensures.err), refl)

pub returns-in_err-outcome-clause-noted : goal.returns-in_err-outcome-clause-noted
returns-in_err-outcome-clause-noted g c = inl (
  c.session-outcome.new.queue.stack,
  record {
    first = c.in_ok-stack.stack;
    last = c.session-outcome.new.queue;
    between = c.open_leaves.new.images;
    outcome = c.session-outcome.result;
    stands = rw c.as_slice-bindings.ensures.value at c.in_ok-stack.ensures.ok;
    served = rw c.new-queue.ensures.value at c.session-outcome.ensures.session;
    is = refl;
  },
  rw (c.config.ensures.value, c.stack.ensures) at c.note_unchecked.ensures.noted,
)

pub returns-in_err-synced-clause-noted : goal.returns-in_err-synced-clause-noted
returns-in_err-synced-clause-noted g c = inl (
  c.session-outcome.new.queue.stack,
  record {
    first = c.in_ok-stack.stack;
    last = c.session-outcome.new.queue;
    between = c.open_leaves.new.images;
    outcome = c.session-outcome.result;
    stands = rw c.as_slice-bindings.ensures.value at c.in_ok-stack.ensures.ok;
    served = rw c.new-queue.ensures.value at c.session-outcome.ensures.session;
    is = refl;
  },
  rw (c.config.ensures.value, c.stack.ensures) at c.note_unchecked.ensures.noted,
)

pub returns-clause-noted : goal.returns-clause-noted
returns-clause-noted g c = inl (
  c.session-outcome.new.queue.stack,
  record {
    first = c.in_ok-stack.stack;
    last = c.session-outcome.new.queue;
    between = c.open_leaves.new.images;
    outcome = c.session-outcome.result;
    stands = rw c.as_slice-bindings.ensures.value at c.in_ok-stack.ensures.ok;
    served = rw c.new-queue.ensures.value at c.session-outcome.ensures.session;
    is = refl;
  },
  rw (c.config.ensures.value, c.stack.ensures) at c.note_unchecked.ensures.noted,
)
