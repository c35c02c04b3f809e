use Rattle.std.proofs.Common.{inl, inr, refl, subst}
use Rattle.request_queue.specs.World.{World}
use Rattle.stack_files.specs.Endings.{opening_ending}
use Rattle.transfer_commands.specs.declared.request_fault.RequestFault.TheVariants.{Io, Stack}
use Rattle.transfer_commands.specs.Requests.{FailsToServe, write_request}
use Rattle.transfer_commands.proofs.RequestOpeningLemmas.{err-from}
use Rattle.transfer_commands.proofs.WriteLemmas.{puts}
use Rattle.transfer_commands.proofs.write.write_source.Goals as goal

pub returns-in_err-over-clause-err : goal.returns-in_err-over-clause-err
returns-in_err-over-clause-err g c =
    err-from c.from_residual.result _ (Stack (opening_ending c.in_err-over.field-0.0)) c.from_residual.ensures.1 (inl (inl (c.in_err-over.field-0.0, refl, c.in_err-over.ensures.err)))

pub returns-in_err-stack-clause-err : goal.returns-in_err-stack-clause-err
returns-in_err-stack-clause-err g c =
    err-from c.from_residual-in_err-stack.result _ (Stack c.in_err-stack.field-0.0) c.from_residual-in_err-stack.ensures.1
    (inl (inr (record { over = c.in_ok-over.over; source = c.in_ok-over.source; opened = c.in_ok-over.ensures.ok; fails = c.in_err-stack.ensures.err })))

pub returns-in-Err-clause-err : goal.returns-in-Err-clause-err
returns-in-Err-clause-err g c =
    inr (inl (record {
      over = c.in_ok-over.over;
      source = c.in_ok-over.source;
      stack = c.in_ok-stack.stack;
      after = c.store-outcome.new.queue;
      between = c.open_with_source.new.images;
      opened = c.in_ok-over.ensures.ok;
      made = c.in_ok-stack.ensures.ok;
      fails = subst (λ (w : World). FailsToServe w (write_request c.args.transfer c.in_ok-over.source.bytes.items) c.in-Err.fault c.store-outcome.new.queue) c.new-queue.ensures.value c.in-Err.ensures.err;
      synced = c.sync_and_close-synced.result;
      back = rw c.into_stack-stack.ensures at c.sync_and_close-synced.ensures;
    }))

pub returns-in_err-synced-in-Ok-clause-err : goal.returns-in_err-synced-in-Ok-clause-err
returns-in_err-synced-in-Ok-clause-err g c =
    err-from c.from_residual-in_err-synced-in-Ok.result _ (Io c.in_err-synced-in-Ok.field-0.0) c.from_residual-in_err-synced-in-Ok.ensures.1
    (inr (inr (record {
      after = c.store-outcome.new.queue;
      between = c.open_with_source.new.images;
      put = puts _ _ c.in_ok-over.over c.in_ok-over.source c.in_ok-stack.stack c.new-queue.result c.store-outcome.new.queue c.in-Ok._reply
          c.in_ok-over.ensures.ok c.in_ok-stack.ensures.ok c.new-queue.ensures.value c.in-Ok.ensures.ok;
      back = rw c.into_stack-stack.ensures at c.in_err-synced-in-Ok.ensures;
    })))

pub returns-in_ok-synced-in-Ok-clause-ok : goal.returns-in_ok-synced-in-Ok-clause-ok
returns-in_ok-synced-in-Ok-clause-ok g c = record {
  after = c.store-outcome.new.queue;
  between = c.open_with_source.new.images;
  put = puts _ _ c.in_ok-over.over c.in_ok-over.source c.in_ok-stack.stack c.new-queue.result c.store-outcome.new.queue c.in-Ok._reply
      c.in_ok-over.ensures.ok c.in_ok-stack.ensures.ok c.new-queue.ensures.value c.in-Ok.ensures.ok;
  back = rw c.into_stack-stack.ensures at c.in_ok-synced-in-Ok.ensures;
}

-- ---- what is printed among the errors

pub returns-in_err-over-clause-noted : goal.returns-in_err-over-clause-noted
returns-in_err-over-clause-noted g c = inr ((opening_ending c.in_err-over.field-0.0, inl (c.in_err-over.field-0.0, refl, c.in_err-over.ensures.err)), refl)

pub returns-in_err-stack-clause-noted : goal.returns-in_err-stack-clause-noted
returns-in_err-stack-clause-noted g c =
    inr ((c.in_err-stack.field-0.0, inr (record { over = c.in_ok-over.over; source = c.in_ok-over.source; opened = c.in_ok-over.ensures.ok; fails = c.in_err-stack.ensures.err })), refl)

pub returns-in-Err-clause-noted : goal.returns-in-Err-clause-noted
returns-in-Err-clause-noted g c = inl (
  c.in_ok-stack.stack,
  record { over = c.in_ok-over.over; source = c.in_ok-over.source; between = c.open_with_source.new.images; opened = c.in_ok-over.ensures.ok; made = c.in_ok-stack.ensures.ok },
  rw c.config.ensures.value at c.note_unchecked.ensures.noted,
)

pub returns-in_err-synced-in-Ok-clause-noted : goal.returns-in_err-synced-in-Ok-clause-noted
returns-in_err-synced-in-Ok-clause-noted g c = inl (
  c.in_ok-stack.stack,
  record { over = c.in_ok-over.over; source = c.in_ok-over.source; between = c.open_with_source.new.images; opened = c.in_ok-over.ensures.ok; made = c.in_ok-stack.ensures.ok },
  rw c.config.ensures.value at c.note_unchecked.ensures.noted,
)

pub returns-in_ok-synced-in-Ok-clause-noted : goal.returns-in_ok-synced-in-Ok-clause-noted
returns-in_ok-synced-in-Ok-clause-noted g c = inl (
  c.in_ok-stack.stack,
  record { over = c.in_ok-over.over; source = c.in_ok-over.source; between = c.open_with_source.new.images; opened = c.in_ok-over.ensures.ok; made = c.in_ok-stack.ensures.ok },
  rw c.config.ensures.value at c.note_unchecked.ensures.noted,
)
