use Rattle.std.proofs.Common.{inl, inr, refl, ap, ◌∙◌, arith}
use Rattle.std.proofs.lemmas.Result.{IfErr-weaker, on_ok_weaker}
use Rattle.stack_rules.specs.Names.{mapped, size}
use Rattle.stack_rules.specs.Records.{Configuration}
use Rattle.stack_config.proofs.lemmas.LoadedLineLemmas.{size-most}
use Rattle.stack_files.specs.NamedDevices.{device_place}
use Rattle.scan_commands.specs.declared.recovering_fault.RecoveringFault.TheVariants.{Pass, Stack}
use Rattle.scan_commands.proofs.OpeningLemmas.{err-from}
use Rattle.scan_commands.proofs.ReportLemmas.{reports-more, unreported-more}
use Rattle.scan_commands.proofs.scan.scan_device.Goals as goal
use Rattle.scan_commands.proofs.scan.scan_device.Goals.{in-Some-2, in-None-2}

pub new-out-requires : goal.new-out-requires
new-out-requires g c =
    let config : Configuration = c.in_ok-stack.stack.config in
    let is = c.sectors.ensures ∙ ap (λ (x : Configuration). size x (mapped c.in_ok-stack.device.0)) c.config-2.ensures.value in
    omega (arith, is, size-most config c.config-2.ensures.sound.loaded (mapped c.in_ok-stack.device.0))

pub report_scan-requires : goal.report_scan-requires
report_scan-requires g c =
    let is = c.sectors.ensures ∙ ap (λ (x : Configuration). size x (mapped c.in_ok-stack.device.0)) c.config-2.ensures.value in
    record {
      device = c.in_ok-stack.ensures.there;
      room = omega (arith, is, c.new-out.ensures.size);
      allowed = c.new-out.ensures.may_write;
    }

pub returns-in_err-used-clause-err : goal.returns-in_err-used-clause-err
returns-in_err-used-clause-err g c =
    err-from c.from_residual.result _ (Pass c.in_err-used.field-0.0) c.from_residual.ensures.1 (inl (refl, inl (rw c.map_plan.ensures at c.in_err-used.ensures.err)))

pub returns-in_err-stack-clause-err : goal.returns-in_err-stack-clause-err
returns-in_err-stack-clause-err g c =
    err-from c.from_residual-in_err-stack.result _ (Stack c.in_err-stack.field-0.0) c.from_residual-in_err-stack.ensures.1
    (inl (refl, inr (record { used = c.in_ok-used.used; first = c.use_map.new.images; map_used = rw c.map_plan.ensures at c.in_ok-used.ensures.ok; fails = c.in_err-stack.ensures.err })))

pub returns-clause-ok : goal.returns-clause-ok
returns-clause-ok g c = on_ok_weaker c.report_scan.result (λ told. reports-more _ _ _ _ _ (λ before counts told passed. record {
  at = device_place c.in_ok-stack.stack c.in_ok-stack.device.0;
  out = _;
  out' = _;
  left = _;
  used = c.in_ok-used.used;
  first = c.use_map.new.images;
  between = c.open_source.new.images;
  map_used = rw c.map_plan.ensures at c.in_ok-used.ensures.ok;
  found = c.in_ok-stack.ensures.ok;
  passed = passed;
}) told) c.report_scan.ensures.ok

pub returns-clause-err : goal.returns-clause-err
returns-clause-err g c = IfErr-weaker c.report_scan.result _ _ (λ fault ends. inr (unreported-more _ _ _ _ _ _ _ _ fault
    (λ before told stops. record {
      at = device_place c.in_ok-stack.stack c.in_ok-stack.device.0;
      out = _;
      out' = _;
      left = _;
      used = c.in_ok-used.used;
      first = c.use_map.new.images;
      between = c.open_source.new.images;
      map_used = rw c.map_plan.ensures at c.in_ok-used.ensures.ok;
      found = c.in_ok-stack.ensures.ok;
      sure = refl;
      stops = stops;
    })
    (λ before counts told passed. record {
      at = device_place c.in_ok-stack.stack c.in_ok-stack.device.0;
      out = _;
      out' = _;
      left = _;
      used = c.in_ok-used.used;
      first = c.use_map.new.images;
      between = c.open_source.new.images;
      map_used = rw c.map_plan.ensures at c.in_ok-used.ensures.ok;
      found = c.in_ok-stack.ensures.ok;
      passed = passed;
    })
    ends)) c.report_scan.ensures.err

-- ---- what is printed among the errors

pub returns-in_err-used-clause-noted : goal.returns-in_err-used-clause-noted
returns-in_err-used-clause-noted g c = inr ((Pass c.in_err-used.field-0.0, inl (rw c.map_plan.ensures at c.in_err-used.ensures.err)), refl)

pub returns-in_err-stack-clause-noted : goal.returns-in_err-stack-clause-noted
returns-in_err-stack-clause-noted g c =
    inr ((Stack c.in_err-stack.field-0.0, inr (record { used = c.in_ok-used.used; first = c.use_map.new.images; map_used = rw c.map_plan.ensures at c.in_ok-used.ensures.ok; fails = c.in_err-stack.ensures.err })), refl)

pub returns-clause-noted : goal.returns-clause-noted
returns-clause-noted g c = elim c.match-passing-2.branch [
  | in-Some-2 w ↦ rw w.output-is (inl (
    c.in_ok-stack.stack,
    record {
      d = c.in_ok-stack.device.0;
      used = c.in_ok-used.used;
      first = c.use_map.new.images;
      between = c.open_source.new.images;
      map_used = rw c.map_plan.ensures at c.in_ok-used.ensures.ok;
      found = c.in_ok-stack.ensures.ok;
    },
    rw c.config.ensures.value at c.note_unchecked.ensures.noted,
  ))
  | in-None-2 w ↦ rw w.output-is (inl (
    c.in_ok-stack.stack,
    record {
      d = c.in_ok-stack.device.0;
      used = c.in_ok-used.used;
      first = c.use_map.new.images;
      between = c.open_source.new.images;
      map_used = rw c.map_plan.ensures at c.in_ok-used.ensures.ok;
      found = c.in_ok-stack.ensures.ok;
    },
    rw c.config.ensures.value at c.note_unchecked.ensures.noted,
  ))
]
