use Rattle.std.proofs.Common.{inl, inr, refl, ap, ◌∙◌}
use Rattle.stack_rules.specs.Names.{mapped, size}
use Rattle.stack_rules.specs.Records.{Configuration}
use Rattle.stack_files.specs.NamedDevices.{device_place}
use Rattle.transfer_commands.specs.declared.stream_fault.StreamFault.TheVariants.{Stack}
use Rattle.transfer_commands.specs.Streaming.{count_from}
use Rattle.transfer_commands.proofs.StreamOpeningLemmas.{err-from}
use Rattle.transfer_commands.proofs.StreamingLemmas.{bytes-printed, cat-ends}
use Rattle.transfer_commands.proofs.device_out.cat_device.Goals as goal
use Rattle.transfer_commands.proofs.device_out.cat_device.Goals.{in-Some-4, in-None-4}

pub returns-in_err-stack-clause-err : goal.returns-in_err-stack-clause-err
returns-in_err-stack-clause-err g c =
    err-from c.from_residual.result _ (Stack c.in_err-stack.field-0.0) c.from_residual.ensures.1 (inl (refl, rw c.no_use.ensures at c.in_err-stack.ensures.err))

pub returns-in-Ok-clause-ok : goal.returns-in-Ok-clause-ok
returns-in-Ok-clause-ok g c =
    bytes-printed _ _ (device_place c.in_ok-stack.stack c.in_ok-stack.device.0) (rw c.no_use.ensures at c.in_ok-stack.ensures.ok) _ c.count_from-count.result _
    (c.count_from-count.ensures ∙ ap (count_from c.args.wanted.count c.args.wanted.first) (c.sectors.ensures ∙ ap (λ (x : Configuration). size x (mapped c.in_ok-stack.device.0)) c.config-2.ensures.value)) _ _ _ c.in-Ok.ensures.ok

pub returns-clause-err : goal.returns-clause-err
returns-clause-err g c =
    inr (cat-ends _ _ (device_place c.in_ok-stack.stack c.in_ok-stack.device.0) (rw c.no_use.ensures at c.in_ok-stack.ensures.ok) _ c.count_from-count.result _
    (c.count_from-count.ensures ∙ ap (count_from c.args.wanted.count c.args.wanted.first) (c.sectors.ensures ∙ ap (λ (x : Configuration). size x (mapped c.in_ok-stack.device.0)) c.config-2.ensures.value)) _ _ _ _ _ c.in-Err.ensures.err)

-- ---- what is printed among the errors

pub returns-in_err-stack-clause-noted : goal.returns-in_err-stack-clause-noted
returns-in_err-stack-clause-noted g c = inr ((c.in_err-stack.field-0.0, rw c.no_use.ensures at c.in_err-stack.ensures.err), refl)

pub returns-in-Ok-clause-noted : goal.returns-in-Ok-clause-noted
returns-in-Ok-clause-noted g c = inl (
  c.in_ok-stack.stack,
  record { d = c.in_ok-stack.device.0; between = c.open_device_apart.new.images; found = rw c.no_use.ensures at c.in_ok-stack.ensures.ok },
  rw c.config.ensures.value at c.note_unchecked.ensures.noted,
)

pub returns-clause-noted : goal.returns-clause-noted
returns-clause-noted g c = elim c.match-stack-4.branch [
  | in-Some-4 w ↦ rw w.output-is (inl (
    c.in_ok-stack.stack,
    record { d = c.in_ok-stack.device.0; between = c.open_device_apart.new.images; found = rw c.no_use.ensures at c.in_ok-stack.ensures.ok },
    rw c.config.ensures.value at c.note_unchecked.ensures.noted,
  ))
  | in-None-4 w ↦ rw w.output-is (inl (
    c.in_ok-stack.stack,
    record { d = c.in_ok-stack.device.0; between = c.open_device_apart.new.images; found = rw c.no_use.ensures at c.in_ok-stack.ensures.ok },
    rw c.config.ensures.value at c.note_unchecked.ensures.noted,
  ))
]
