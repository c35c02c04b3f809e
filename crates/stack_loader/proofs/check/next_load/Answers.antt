use Rattle.std.proofs.Common.{◌≤◌, List, [], ◌++◌, All, length, sym, subst, ◌∙◌, arith}
use Rattle.std.proofs.lemmas.Result.{err_from_is_err_and}
use Rattle.stack_rules.specs.Descend.{most_devices}
use Rattle.stack_rules.specs.Records.{Configuration, DeviceRecord, configuration}
use Rattle.stack_config.specs.Facts.{AreFacts}
use Rattle.stack_loader.specs.Next.{IsNext}
use Rattle.stack_rules.specs.Passing.{largest_load_allocation}
use Rattle.stack_rules.specs.Rules.{rules, duplicate_names, after_load, most_lines}
use Rattle.stack_loader.proofs.LoadLemmas.{checked-moved, fault-moved, few-checked, lines-checked}
use Rattle.stack_loader.proofs.AfterLoadLemmas.{mapped-after}
use Rattle.stack_rules.proofs.lemmas.PassingLemmas.{IsFirst-passed, out_of_memory, passed-IsFirst}
use Rattle.stack_rules.proofs.lemmas.FirstRefusalLemmas.{first-none, first-some}
use Rattle.stack_loader.proofs.RuleOrderLemmas.{right}
use Rattle.stack_loader.proofs.check.next_load.Goals as goal

pub returns-in-Some : goal.returns-in-Some
returns-in-Some c =
    let c' : Configuration = configuration c.args.leaves.now c.args.devices.now in
    first-some (duplicate_names [] c.args.entries.now) (rules (after_load c' c.args.entries.now)) c.in-Some.refusal (sym c.in_ok-refusal.ensures.ok ∙ c.in-Some.is)

pub returns-in_err-facts : goal.returns-in_err-facts
returns-in_err-facts c =
    let c' : Configuration = configuration c.args.leaves.now c.args.devices.now in
    let fresh = sym c.in_ok-refusal.ensures.ok ∙ c.in-None.is in
    let here = c.as_slice.ensures.value ∙ c.in_ok-planned.ensures.ok in
    let p = err_from_is_err_and c.from_residual-in_err-facts.result c.from_residual-in_err-facts.ensures.1 in
    rw (p.1, p.2) (passed-IsFirst (IsNext c' c.args.entries.now) c.in_err-facts.field-0.0 (duplicate_names [] c.args.entries.now ++ rules (after_load c' c.args.entries.now))
    (right c.in_err-facts.field-0.0 (duplicate_names [] c.args.entries.now) (rules (after_load c' c.args.entries.now)) fresh
    (fault-moved c' c.as_slice.result.now (after_load c' c.args.entries.now).devices c.in_err-facts.field-0.0 here
    (IsFirst-passed (AreFacts (configuration c.args.leaves.now c.as_slice.result.now)) c.in_err-facts.field-0.0 (rules (configuration c.args.leaves.now c.as_slice.result.now)) c.in_err-facts.ensures))))

pub returns-in_err-refusal : goal.returns-in_err-refusal
returns-in_err-refusal c =
    let p = err_from_is_err_and c.from_residual.result c.from_residual.ensures.1 in
    rw (p.1, p.2) (out_of_memory largest_load_allocation c.in_err-refusal.field-0.0 (omega (arith, c.in_err-refusal.ensures.err.0)))

pub returns-in_err-planned : goal.returns-in_err-planned
returns-in_err-planned c =
    let p = err_from_is_err_and c.from_residual-in_err-planned.result c.from_residual-in_err-planned.ensures.1 in
    rw (p.1, p.2) (out_of_memory largest_load_allocation c.in_err-planned.field-0.0 (omega (arith, c.in_err-planned.ensures.err, c.requires.devices)))

pub returns-in_err-devices : goal.returns-in_err-devices
returns-in_err-devices c =
    let p = err_from_is_err_and c.from_residual-in_err-devices.result c.from_residual-in_err-devices.ensures.1 in
    rw (p.1, p.2) (out_of_memory largest_load_allocation c.in_err-devices.field-0.0 c.in_err-devices.ensures.err)

pub copied_devices-requires-clause-few : goal.copied_devices-requires-clause-few
copied_devices-requires-clause-few c =
    rw c.as_slice-2.ensures.value
    (subst (λ (devices : List DeviceRecord). length devices ≤ most_devices) c.as_slice.ensures.value (few-checked c.args.leaves.now c.as_slice.result.now c.in_ok-facts.ensures.0))

pub copied_devices-requires-clause-names : goal.copied_devices-requires-clause-names
copied_devices-requires-clause-names c =
    let c' : Configuration = configuration c.args.leaves.now c.args.devices.now in
    rw (c.as_slice-2.ensures.value, c.in_ok-planned.ensures.ok) (mapped-after c' c.args.entries.now c.requires.names c.requires.grammar)

pub copied_devices-requires-clause-lines : goal.copied_devices-requires-clause-lines
copied_devices-requires-clause-lines c =
    rw c.as_slice-2.ensures.value
    (subst (λ (devices : List DeviceRecord). All (λ d. length d.table ≤ most_lines) devices) c.as_slice.ensures.value (lines-checked c.args.leaves.now c.as_slice.result.now c.in_ok-facts.ensures.0))

pub returns : goal.returns
returns c =
    let c' : Configuration = configuration c.args.leaves.now c.args.devices.now in
    let fresh = sym c.in_ok-refusal.ensures.ok ∙ c.in-None.is in
    let here = c.as_slice.ensures.value ∙ c.in_ok-planned.ensures.ok in
    let checked = checked-moved c' c.as_slice.result.now (after_load c' c.args.entries.now).devices c.in_ok-facts.facts here c.in_ok-facts.ensures in (
      first-none (duplicate_names [] c.args.entries.now) (rules (after_load c' c.args.entries.now)) fresh ∙ checked.0,
      record { devices = c.in_ok-devices.ensures.ok ∙ c.as_slice-2.ensures.value ∙ c.in_ok-planned.ensures.ok; facts = checked.1; fresh = fresh; valid = checked.0 },
    )
