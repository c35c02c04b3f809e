use Rattle.std.proofs.Common.{inl, inr, ap, ◌∙◌, arith}
use Rattle.stack_rules.specs.Names.{mapped, size}
use Rattle.stack_rules.specs.Records.{Configuration}
use Rattle.stack_files.specs.NamedDevices.{device_place}
use Rattle.scan_commands.specs.declared.recovering_fault.RecoveringFault.TheVariants.{Stack}
use Rattle.scan_commands.proofs.OpeningLemmas.{err-from}
use Rattle.scan_commands.proofs.output.open_with_room.Goals as goal

pub returns-in_err-stack-clause-err : goal.returns-in_err-stack-clause-err
returns-in_err-stack-clause-err g c =
    err-from c.from_residual.result _ (Stack c.in_err-stack.field-0.0) c.from_residual.ensures.1 (inl c.in_err-stack.ensures.err)

pub returns-then-sectors-needed-clause-err : goal.returns-then-sectors-needed-clause-err
returns-then-sectors-needed-clause-err g c =
    let needed = c.sectors-needed.ensures ∙ ap (λ (x : Configuration). size x (mapped c.in_ok-stack.device.0)) c.config.ensures.value in
    inr (record {
      at = device_place c.in_ok-stack.stack c.in_ok-stack.device.0;
      image = c.in_ok-stack.image;
      found = c.in_ok-stack.ensures.ok;
      small = (needed, omega (arith, needed, c.sectors.ensures, c.if-sectors-needed.true));
    })
