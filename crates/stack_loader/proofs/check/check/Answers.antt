use Rattle.std.proofs.Common.{ℕ, List, ◌+◌, refl, sym, ap, ◌∙◌, length, arith}
use Rattle.std.specs.Borrow.{Bor}
use Rattle.std.proofs.lemmas.Bool.{ltb-false}
use Rattle.std.proofs.lemmas.Result.{err_from_is_err_and}
use Rattle.stack_rules.specs.declared.refusal.LoadFault.TheVariants.{Refused}
use Rattle.stack_rules.specs.declared.refusal.LoadKind.TheVariants.{CostTooLarge}
use Rattle.stack_rules.specs.Records.{Configuration, configuration}
use Rattle.stack_rules.specs.Descend.{most_devices, depth, read_cost, write_cost}
use Rattle.stack_rules.specs.Kept.{AreLowers}
use Rattle.stack_rules.specs.Passing.{above, largest_load_allocation}
use Rattle.stack_rules.specs.Rules.{IsValid, first, rules, unknown_names, most_cost, most_lines}
use Rattle.stack_rules.proofs.lemmas.KeptLemmas.{length-each_mapped, length-lowers}
use Rattle.stack_rules.proofs.lemmas.PassingLemmas.{IsFirst-passed, passed-IsFirst, out_of_memory-more}
use Rattle.stack_rules.proofs.lemmas.ValidLemmas.{costs-low}
use Rattle.stack_rules.proofs.lemmas.ValidLineLemmas.{or-false}
use Rattle.stack_loader.specs.declared.cost.Direction.TheVariants.{Read, Write}
use Rattle.stack_loader.specs.Costs.{AreMeasured, capped_cost, cost}
use Rattle.stack_loader.proofs.lemmas.CappedLemmas.{each-exact}
use Rattle.stack_loader.proofs.lemmas.CostLemmas.{lowers-rows, write_cost-given}
use Rattle.stack_config.specs.Facts.{AreFacts}
use Rattle.stack_config.proofs.lemmas.WriteCostLemmas.{write_cost-low}
use Rattle.stack_loader.proofs.FactsLemmas.{facts-are}
use Rattle.stack_loader.proofs.RuleOrderLemmas.{inner_rules, outer-none, unknown-first, inner-first, costs-first, none-first, costs-above}
use Rattle.stack_loader.proofs.check.check.Goals as goal

pub returns-in_err-lowers : goal.returns-in_err-lowers
returns-in_err-lowers c =
    let c' : Configuration = configuration c.args.leaves.now c.args.devices.now in
    let few = sym c.is_too_many.ensures ∙ c.if-is_too_many.false in
    let p = err_from_is_err_and c.from_residual.result c.from_residual.ensures.1 in
    rw (p.1, p.2) (passed-IsFirst (AreFacts c') c.in_err-lowers.field-0.0 (rules c') (unknown-first c' c.in_err-lowers.field-0.0 few (IsFirst-passed (λ lowers. AreLowers c' lowers.items) c.in_err-lowers.field-0.0 (unknown_names c') c.in_err-lowers.ensures)))

pub checked_depths-requires-clause-few : goal.checked_depths-requires-clause-few
checked_depths-requires-clause-few c = ltb-false most_devices (length c.args.devices.now) (or-false _ _ (sym c.is_too_many.ensures ∙ c.if-is_too_many.false)).0

pub returns-in_err-depths : goal.returns-in_err-depths
returns-in_err-depths c =
    let c' : Configuration = configuration c.args.leaves.now c.args.devices.now in
    let outer = outer-none c' (sym c.is_too_many.ensures ∙ c.if-is_too_many.false) c.in_ok-lowers.ensures.0 in
    let fault = c.in_err-depths.field-0.0 in
    let p = err_from_is_err_and c.from_residual-in_err-depths.result c.from_residual-in_err-depths.ensures.1 in
    rw (p.1, p.2) (passed-IsFirst (AreFacts c') fault (rules c') (inner-first c' fault outer (IsFirst-passed (λ depths. AreMeasured c' c.as_slice-rows.result.now depths.items) fault (inner_rules c') c.in_err-depths.ensures)))

pub costs-requires-clause-rows : goal.costs-requires-clause-rows
costs-requires-clause-rows c =
    rw c.as_slice-rows.ensures.value (lowers-rows (configuration c.args.leaves.now c.args.devices.now) c.in_ok-lowers.lowers.items c.args.devices.now c.in_ok-lowers.ensures.1)

pub costs-requires-clause-depths : goal.costs-requires-clause-depths
costs-requires-clause-depths c =
    rw c.as_slice-levels.ensures.value (length-each_mapped (depth (configuration c.args.leaves.now c.args.devices.now)) (length c.args.devices.now) c.in_ok-depths.depths.items c.in_ok-depths.ensures.1.depths)

pub costs-requires-2-clause-rows : goal.costs-requires-2-clause-rows
costs-requires-2-clause-rows c =
    rw c.as_slice-rows.ensures.value (lowers-rows (configuration c.args.leaves.now c.args.devices.now) c.in_ok-lowers.lowers.items c.args.devices.now c.in_ok-lowers.ensures.1)

pub costs-requires-2-clause-depths : goal.costs-requires-2-clause-depths
costs-requires-2-clause-depths c =
    rw c.as_slice-levels.ensures.value (length-each_mapped (depth (configuration c.args.leaves.now c.args.devices.now)) (length c.args.devices.now) c.in_ok-depths.depths.items c.in_ok-depths.ensures.1.depths)

pub returns-in_err-read_costs : goal.returns-in_err-read_costs
returns-in_err-read_costs c =
    let p = err_from_is_err_and c.from_residual-in_err-read_costs.result c.from_residual-in_err-read_costs.ensures.1 in
    let low = ltb-false most_devices (length c.args.devices.now) (or-false _ _ (sym c.is_too_many.ensures ∙ c.if-is_too_many.false)).0 in
    rw (p.1, p.2) (out_of_memory-more (length c.args.devices.now) largest_load_allocation (omega (arith, low)) c.in_err-read_costs.ensures.err)

pub returns-in_err-write_costs : goal.returns-in_err-write_costs
returns-in_err-write_costs c =
    let p = err_from_is_err_and c.from_residual-in_err-write_costs.result c.from_residual-in_err-write_costs.ensures.1 in
    let low = ltb-false most_devices (length c.args.devices.now) (or-false _ _ (sym c.is_too_many.ensures ∙ c.if-is_too_many.false)).0 in
    rw (p.1, p.2) (out_of_memory-more (length c.args.devices.now) largest_load_allocation (omega (arith, low)) c.in_err-write_costs.ensures.err)

pub returns-in_err-devices : goal.returns-in_err-devices
returns-in_err-devices c =
    let p = err_from_is_err_and c.from_residual-in_err-devices.result c.from_residual-in_err-devices.ensures.1 in
    let low = ltb-false most_devices (length c.args.devices.now) (or-false _ _ (sym c.is_too_many.ensures ∙ c.if-is_too_many.false)).0 in
    rw (p.1, p.2) (out_of_memory-more (length c.args.devices.now + most_lines) largest_load_allocation (omega (arith, low)) c.in_err-devices.ensures.err)

pub first_above-requires : goal.first_above-requires
first_above-requires c =
    let c' : Configuration = configuration c.args.leaves.now c.args.devices.now in
    let low = ltb-false most_devices (length c.args.devices.now) (or-false _ _ (sym c.is_too_many.ensures ∙ c.if-is_too_many.false)).0 in
    let reads = c.in_ok-read_costs.ensures.ok c'.leaves (rw c.as_slice-levels.ensures.value c.in_ok-depths.ensures.1) in
    rw c.as_slice-reads.ensures.value (omega (arith, low, length-each_mapped (λ x. capped_cost Read (read_cost c' x)) (length c.args.devices.now) c.in_ok-read_costs.read_costs.items reads))

pub returns-in-Some : goal.returns-in-Some
returns-in-Some c =
    let c' : Configuration = configuration c.args.leaves.now c.args.devices.now in
    let outer = outer-none c' (sym c.is_too_many.ensures ∙ c.if-is_too_many.false) c.in_ok-lowers.ensures.0 in
    let reads = c.in_ok-read_costs.ensures.ok c'.leaves (rw c.as_slice-levels.ensures.value c.in_ok-depths.ensures.1) in
    let dear = ap first (ap (above CostTooLarge most_cost) c.as_slice-reads.ensures.value ∙ costs-above c' c.in_ok-read_costs.read_costs.items reads) in
    costs-first c' (Refused c.in-Some.refusal) outer c.in_ok-depths.ensures.0 (sym dear ∙ sym c.in-Some.ensures)

pub device_facts-requires-clause-lengths : goal.device_facts-requires-clause-lengths
device_facts-requires-clause-lengths c =
    let c' : Configuration = configuration c.args.leaves.now c.args.devices.now in
    let n = length c.args.devices.now in
    let given : Bor (List ℕ) = c.as_slice-reads.result in
    let reads = c.in_ok-read_costs.ensures.ok c'.leaves (rw c.as_slice-levels.ensures.value c.in_ok-depths.ensures.1) in
    let writes = c.in_ok-write_costs.ensures.ok c'.leaves (rw c.as_slice-levels.ensures.value c.in_ok-depths.ensures.1) in
    rw (c.as_slice-levels.ensures.value, c.as_slice-reads.ensures.value, c.as_slice-writes.ensures.value) (
      length-each_mapped (depth c') n c.in_ok-depths.depths.items c.in_ok-depths.ensures.1.depths,
      length-each_mapped (λ x. capped_cost Read (read_cost c' x)) n c.in_ok-read_costs.read_costs.items reads,
      length-each_mapped (λ x. capped_cost (Write given) (cost c' (Write given) x)) n c.in_ok-write_costs.write_costs.items writes,
      length-lowers c' c.in_ok-lowers.lowers.items c.in_ok-lowers.ensures.1,
    )

pub returns : goal.returns
unfolding IsValid
returns c =
    let c' : Configuration = configuration c.args.leaves.now c.args.devices.now in
    let n = length c.args.devices.now in
    let outer = outer-none c' (sym c.is_too_many.ensures ∙ c.if-is_too_many.false) c.in_ok-lowers.ensures.0 in
    let measured = c.in_ok-depths.ensures.1 in
    let reads = c.in_ok-read_costs.ensures.ok c'.leaves (rw c.as_slice-levels.ensures.value measured) in
    let dear = ap first (ap (above CostTooLarge most_cost) c.as_slice-reads.ensures.value ∙ costs-above c' c.in_ok-read_costs.read_costs.items reads) in
    let no_cost = sym dear ∙ sym c.in-None.ensures in
    let valid = none-first c' outer c.in_ok-depths.ensures.0 no_cost in
    let exact = c.as_slice-reads.ensures.value ∙ reads ∙ each-exact Read (read_cost c') (read_cost c') (λ x. refl) (λ x. omega (arith, costs-low c' no_cost x)) n in
    let given : Bor (List ℕ) = c.as_slice-reads.result in
    let writes = c.as_slice-writes.ensures.value ∙ c.in_ok-write_costs.ensures.ok c'.leaves (rw c.as_slice-levels.ensures.value measured)
    ∙ each-exact (Write given) (cost c' (Write given)) (write_cost c') (write_cost-given c' given exact) (write_cost-low c' valid) n in
    (valid, facts-are c' c.as_slice-levels.result.now c.as_slice-reads.result.now c.as_slice-writes.result.now c.in_ok-lowers.lowers.items _ c.in_ok-devices.ensures.ok (c.as_slice-levels.ensures.value ∙ measured.depths) exact writes c.in_ok-lowers.ensures.1)
