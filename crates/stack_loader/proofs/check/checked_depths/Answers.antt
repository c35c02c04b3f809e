use Rattle.std.proofs.Common.{◌++◌, sym, ap, ◌∙◌, length, arith}
use Rattle.std.proofs.lemmas.Result.{err_from_is_err_and}
use Rattle.stack_rules.specs.declared.refusal.LoadFault.TheVariants.{Refused}
use Rattle.stack_rules.specs.declared.refusal.LoadKind.TheVariants.{TooDeep}
use Rattle.stack_rules.specs.Records.{Configuration, configuration}
use Rattle.stack_rules.specs.Descend.{most_devices, depth}
use Rattle.stack_rules.specs.Passing.{above, largest_load_allocation}
use Rattle.stack_rules.specs.Rules.{first, cycles, each_device, table_rules, depth_rules, most_depth}
use Rattle.stack_rules.proofs.lemmas.FirstRefusalLemmas.{first-none}
use Rattle.stack_rules.proofs.lemmas.KeptLemmas.{length-each_mapped, length-lowers}
use Rattle.stack_rules.proofs.lemmas.PassingLemmas.{out_of_memory-more}
use Rattle.stack_loader.specs.Depths.{depth_rounds}
use Rattle.stack_loader.proofs.lemmas.DepthLemmas.{rounds-depths}
use Rattle.stack_loader.proofs.RuleOrderLemmas.{left, right, depths-above, measured-of}
use Rattle.stack_loader.proofs.check.checked_depths.Goals as goal

pub returns-in_err-named : goal.returns-in_err-named
returns-in_err-named c =
    let p = err_from_is_err_and c.from_residual.result c.from_residual.ensures.1 in
    let same = length-lowers (configuration c.args.leaves.now c.args.devices.now) c.args.lowers.now c.requires.lowers in
    rw (p.1, p.2) (out_of_memory-more (length c.args.lowers.now) largest_load_allocation (omega (arith, same, c.requires.few)) c.in_err-named.ensures.err)

pub returns-in_err-cycle : goal.returns-in_err-cycle
returns-in_err-cycle c =
    let p = err_from_is_err_and c.from_residual-in_err-cycle.result c.from_residual-in_err-cycle.ensures.1 in
    let sets = c.in_ok-named.ensures.ok (configuration c.args.leaves.now c.args.devices.now) c.requires.lowers in
    let few = rw c.as_slice-sets.ensures.value at c.in_err-cycle.ensures.err in
    rw (p.1, p.2) (out_of_memory-more (length c.in_ok-named.named.items) largest_load_allocation (omega (arith, sets.count, c.requires.few)) few)

pub returns-in_err-depths : goal.returns-in_err-depths
returns-in_err-depths c =
    let p = err_from_is_err_and c.from_residual-in_err-depths.result c.from_residual-in_err-depths.ensures.1 in
    let sets = c.in_ok-named.ensures.ok (configuration c.args.leaves.now c.args.devices.now) c.requires.lowers in
    let few = rw c.as_slice-sets.ensures.value at c.in_err-depths.ensures.err in
    rw (p.1, p.2) (out_of_memory-more (length c.in_ok-named.named.items) largest_load_allocation (omega (arith, sets.count, c.requires.few)) few)

pub cycle_refusal-requires : goal.cycle_refusal-requires
cycle_refusal-requires c =
    let sets = c.in_ok-named.ensures.ok (configuration c.args.leaves.now c.args.devices.now) c.requires.lowers in
    rw c.as_slice-sets.ensures.value (omega (arith, c.requires.few, sets.count))

pub depths-requires : goal.depths-requires
depths-requires c =
    let sets = c.in_ok-named.ensures.ok (configuration c.args.leaves.now c.args.devices.now) c.requires.lowers in
    rw c.as_slice-sets.ensures.value (omega (arith, c.requires.few, sets.count))

pub returns-in-Some : goal.returns-in-Some
returns-in-Some c =
    let c' : Configuration = configuration c.args.leaves.now c.args.devices.now in
    let sets = rw (← c.as_slice-sets.ensures.value) at (c.in_ok-named.ensures.ok c' c.requires.lowers) in
    left (Refused c.in-Some.refusal) (cycles c' ++ each_device c' (table_rules c')) (depth_rules c') (left (Refused c.in-Some.refusal) (cycles c') (each_device c' (table_rules c')) (sym (c.in_ok-cycle.ensures.ok c' sets) ∙ c.in-Some.is))

pub returns-in-Some-lines_refusal : goal.returns-in-Some-lines_refusal
returns-in-Some-lines_refusal c =
    let c' : Configuration = configuration c.args.leaves.now c.args.devices.now in
    let sets = rw (← c.as_slice-sets.ensures.value) at (c.in_ok-named.ensures.ok c' c.requires.lowers) in
    let fault = Refused c.in-Some-lines_refusal.refusal in
    left fault (cycles c' ++ each_device c' (table_rules c')) (depth_rules c')
    (right fault (cycles c') (each_device c' (table_rules c')) (sym (c.in_ok-cycle.ensures.ok c' sets) ∙ c.in-None.is) (sym c.in-Some-lines_refusal.ensures))

pub first_above-requires : goal.first_above-requires
first_above-requires c =
    let c' : Configuration = configuration c.args.leaves.now c.args.devices.now in
    let depths = c.in_ok-depths.ensures.ok ∙ ap (λ t. depth_rounds t most_devices) c.as_slice-sets.ensures.value ∙ rounds-depths c' c.in_ok-named.named.items (c.in_ok-named.ensures.ok c' c.requires.lowers) in
    rw c.as_slice.ensures.value (omega (arith, c.requires.few, length-each_mapped (depth c') (length c.args.devices.now) c.in_ok-depths.depths.items depths))

pub returns-in-Some-first_above : goal.returns-in-Some-first_above
returns-in-Some-first_above c =
    let c' : Configuration = configuration c.args.leaves.now c.args.devices.now in
    let depths = c.in_ok-depths.ensures.ok ∙ ap (λ t. depth_rounds t most_devices) c.as_slice-sets.ensures.value ∙ rounds-depths c' c.in_ok-named.named.items (c.in_ok-named.ensures.ok c' c.requires.lowers) in
    let sets = rw (← c.as_slice-sets.ensures.value) at (c.in_ok-named.ensures.ok c' c.requires.lowers) in
    let lines = first-none (cycles c') (each_device c' (table_rules c')) (sym (c.in_ok-cycle.ensures.ok c' sets) ∙ c.in-None.is) ∙ sym c.in-None-lines_refusal.ensures in
    let deep = ap first (ap (above TooDeep most_depth) c.as_slice.ensures.value ∙ depths-above c' c.in_ok-depths.depths.items depths) in
    right (Refused c.in-Some-first_above.refusal) (cycles c' ++ each_device c' (table_rules c')) (depth_rules c') lines (sym deep ∙ sym c.in-Some-first_above.ensures)

pub returns : goal.returns
returns c =
    let c' : Configuration = configuration c.args.leaves.now c.args.devices.now in
    let depths = c.in_ok-depths.ensures.ok ∙ ap (λ t. depth_rounds t most_devices) c.as_slice-sets.ensures.value ∙ rounds-depths c' c.in_ok-named.named.items (c.in_ok-named.ensures.ok c' c.requires.lowers) in
    let sets = rw (← c.as_slice-sets.ensures.value) at (c.in_ok-named.ensures.ok c' c.requires.lowers) in
    let lines = first-none (cycles c') (each_device c' (table_rules c')) (sym (c.in_ok-cycle.ensures.ok c' sets) ∙ c.in-None.is) ∙ sym c.in-None-lines_refusal.ensures in
    let measured = measured-of c' c.args.lowers.now c.in_ok-depths.depths.items c.as_slice.result.now c.requires.lowers depths c.as_slice.ensures.value c.in-None-first_above.ensures in
    (first-none (cycles c' ++ each_device c' (table_rules c')) (depth_rules c') lines ∙ measured.low, measured)
