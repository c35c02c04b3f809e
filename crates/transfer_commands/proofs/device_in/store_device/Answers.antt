use Rattle.std.proofs.Common.{inl, inr, refl}
use Rattle.transfer_commands.specs.declared.stream_fault.StreamFault.TheVariants.{Stack, Write}
use Rattle.stack_files.specs.NamedDevices.{device_place}
use Rattle.transfer_commands.specs.Streaming.{place_from}
use Rattle.transfer_commands.proofs.StreamOpeningLemmas.{err-from}
use Rattle.transfer_commands.proofs.StreamingLemmas.{end-cause, end-told}
use Rattle.transfer_commands.proofs.device_in.store_device.Goals as goal
use Rattle.transfer_commands.proofs.device_in.store_device.Goals.{in-Ok+in_ok-say_stored-in-Ok, in-Err}

pub returns-in_err-stack-clause-err : goal.returns-in_err-stack-clause-err
returns-in_err-stack-clause-err g c =
    err-from c.from_residual.result _ (Stack c.in_err-stack.field-0.0) c.from_residual.ensures.1 (inl (refl, rw c.no_use.ensures at c.in_err-stack.ensures.err))

pub returns-in_err-say_stored-in-Ok-clause-err : goal.returns-in_err-say_stored-in-Ok-clause-err
returns-in_err-say_stored-in-Ok-clause-err g c =
    err-from c.from_residual-in_err-say_stored-in-Ok.result _ Write c.from_residual-in_err-say_stored-in-Ok.ensures.1
    (inr (inr (
      c.in-Ok.written,
      record {
        at = device_place c.in_ok-stack.stack c.in_ok-stack.device.0;
        left = c.store-outcome.new.stack;
        between = c.open_device_apart.new.images;
        found = rw c.no_use.ensures at c.in_ok-stack.ensures.ok;
        stored = c.in-Ok.ensures.ok;
        back = c.close_stack.ensures;
      },
      c.in_err-say_stored-in-Ok.ensures.failed,
    )))

pub returns-clause-ok : goal.returns-clause-ok
returns-clause-ok g c = elim c.match-outcome.branch [
  | in-Ok+in_ok-say_stored-in-Ok w ↦ rw (w.result-is, w.writer-is) (record {
    n = w.in-Ok.written;
    stored = record {
      at = device_place c.in_ok-stack.stack c.in_ok-stack.device.0;
      left = c.store-outcome.new.stack;
      between = c.open_device_apart.new.images;
      found = rw c.no_use.ensures at c.in_ok-stack.ensures.ok;
      stored = w.in-Ok.ensures.ok;
      back = c.close_stack.ensures;
    };
    printed = w.in_ok-say_stored-in-Ok.ensures.ok;
  })
  | in-Err w ↦ rw w.result-is tt
]

pub returns-clause-err : goal.returns-clause-err
returns-clause-err g c = elim c.match-outcome.branch [
  | in-Ok+in_ok-say_stored-in-Ok w ↦ rw w.result-is tt
  | in-Err w ↦ rw (w.result-is, w.writer-is) (inr (inl (record {
    at = device_place c.in_ok-stack.stack c.in_ok-stack.device.0;
    left = c.store-outcome.new.stack;
    between = c.open_device_apart.new.images;
    found = rw c.no_use.ensures at c.in_ok-stack.ensures.ok;
    fails = end-told c.in_ok-stack.device.0 (place_from c.args.target.first) _ _ _ w.in-Err.fault w.in-Err.ensures.err;
    quiet = refl;
    back = c.close_stack.ensures;
  })))
]

pub returns-clause-noted : goal.returns-clause-noted
returns-clause-noted g c = inl (
  c.in_ok-stack.stack,
  record { d = c.in_ok-stack.device.0; between = c.open_device_apart.new.images; found = rw c.no_use.ensures at c.in_ok-stack.ensures.ok },
  rw c.config.ensures.value at c.note_unchecked.ensures.noted,
)

pub returns-clause-broken : goal.returns-clause-broken
returns-clause-broken g c = elim c.match-outcome.branch [
  | in-Ok+in_ok-say_stored-in-Ok w ↦ rw w.result-is tt
  | in-Err w ↦ rw w.result-is (end-cause c.in_ok-stack.device.0 (place_from c.args.target.first) _ _ _ w.in-Err.fault w.in-Err.ensures.err)
]

pub returns-in_err-stack-clause-broken : goal.returns-in_err-stack-clause-broken
returns-in_err-stack-clause-broken g c = err-from c.from_residual.result _ (Stack c.in_err-stack.field-0.0) c.from_residual.ensures.1 tt

pub returns-in_err-say_stored-in-Ok-clause-broken : goal.returns-in_err-say_stored-in-Ok-clause-broken
returns-in_err-say_stored-in-Ok-clause-broken g c = err-from c.from_residual-in_err-say_stored-in-Ok.result _ Write c.from_residual-in_err-say_stored-in-Ok.ensures.1 tt

-- ---- what is printed among the errors

pub returns-in_err-stack-clause-noted : goal.returns-in_err-stack-clause-noted
returns-in_err-stack-clause-noted g c = inr ((c.in_err-stack.field-0.0, rw c.no_use.ensures at c.in_err-stack.ensures.err), refl)

pub returns-in_err-say_stored-in-Ok-clause-noted : goal.returns-in_err-say_stored-in-Ok-clause-noted
returns-in_err-say_stored-in-Ok-clause-noted g c = inl (
  c.in_ok-stack.stack,
  record { d = c.in_ok-stack.device.0; between = c.open_device_apart.new.images; found = rw c.no_use.ensures at c.in_ok-stack.ensures.ok },
  rw c.config.ensures.value at c.note_unchecked.ensures.noted,
)
