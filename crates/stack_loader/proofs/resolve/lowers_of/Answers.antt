use Rattle.std.proofs.Common.{◌≡◌, ◌+◌, take, length, refl, ap, ◌∙◌, arith}
use Rattle.std.proofs.lemmas.List.{take_all}
use Rattle.std.proofs.lemmas.Result.{err_from_is_err_and}
use Rattle.stack_rules.specs.Records.{Configuration, configuration}
use Rattle.stack_rules.specs.Kept.{AreLowers}
use Rattle.stack_rules.specs.Passing.{RowsMean}
use Rattle.stack_rules.specs.Rules.{first, unknown_in, unknown_names}
use Rattle.stack_rules.proofs.lemmas.NameMeaningLemmas.{tables_more}
use Rattle.stack_rules.specs.Passing.{largest_load_allocation}
use Rattle.stack_rules.proofs.lemmas.PassingLemmas.{out_of_memory, passed_found}
use Rattle.stack_rules.proofs.lemmas.FirstRefusalLemmas.{scan_more, scan_end}
use Rattle.stack_loader.proofs.resolve.lowers_of.Goals as goal

pub returns-in_err-rows : goal.returns-in_err-rows
returns-in_err-rows c =
    let c' : Configuration = configuration c.args.leaves.now c.args.devices.now in
    let p = err_from_is_err_and c.from_residual-in_err-rows.result c.from_residual-in_err-rows.ensures.1 in
    let f = rw (c.lines.ensures.value, c.table.ensures) at (c.in_err-rows.ensures c' c.in_ok-index.ensures.ok) in
    rw (p.1, p.2) (passed_found (λ rows. RowsMean c' rows c.index-devices-i.result.table) (λ lowers. AreLowers c' lowers.items) (λ d x. unknown_in c' d x.table) c.args.devices.now c.loop-i.i (c.loop-i.i + 1) c.index-devices-i.result
    c.in_err-rows.field-0.0 (unknown_names c') c.loop-i-test.true c.index-devices-i.is f c.loop-i.invariant.1)

pub returns-in_err-index : goal.returns-in_err-index
returns-in_err-index c =
    let p = err_from_is_err_and c.from_residual.result c.from_residual.ensures.1 in
    rw (p.1, p.2) (out_of_memory largest_load_allocation c.in_err-index.field-0.0 (omega (arith, c.in_err-index.ensures.err.0)))

pub returns-in_err-lowers : goal.returns-in_err-lowers
returns-in_err-lowers c =
    let p = err_from_is_err_and c.from_residual-in_err-lowers.result c.from_residual-in_err-lowers.ensures.1 in
    rw (p.1, p.2) (out_of_memory largest_load_allocation c.in_err-lowers.field-0.0 (omega (arith, c.in_err-lowers.ensures.err.0, c.requires.devices)))

pub returns-in_err-push : goal.returns-in_err-push
returns-in_err-push c =
    let p = err_from_is_err_and c.from_residual-in_err-push.result c.from_residual-in_err-push.ensures.1 in
    rw (p.1, p.2) (out_of_memory largest_load_allocation c.in_err-push.field-0.0 (omega (arith, c.in_err-push.ensures.err.0)))

pub device_lowers-requires-clause-few : goal.device_lowers-requires-clause-few
device_lowers-requires-clause-few c =
    let short = c.requires.lines c.loop-i.i c.index-devices-i.result c.loop-i-test.true in
    let same = ap length (c.lines.ensures.value ∙ c.table.ensures) in
    let here = ap (λ (x : Rattle.stack_rules.specs.Records.DeviceRecord). length x.table) c.index-devices-i.is in
    omega (arith, short, same, here)

pub loop-i-preserved : goal.loop-i-preserved
loop-i-preserved c =
    let c' : Configuration = configuration c.args.leaves.now c.args.devices.now in
    let f = rw (c.lines.ensures.value, c.table.ensures) at (c.in_ok-rows.ensures c' c.in_ok-index.ensures.ok) in
    let inv = c.loop-i.invariant in (
      rw c.in_ok-push.ensures.ok (tables_more c' c.loop-i.lowers.items c.args.devices.now c.loop-i.i c.index-devices-i.result c.in_ok-rows.rows c.loop-i-test.true c.index-devices-i.is f.1 inv.0),
      scan_more (λ d x. unknown_in c' d x.table) c.args.devices.now c.loop-i.i (c.loop-i.i + 1) c.index-devices-i.result (first (unknown_names c')) c.loop-i-test.true c.index-devices-i.is refl f.0 inv.1,
    )

pub returns : goal.returns
returns c =
    let c' : Configuration = configuration c.args.leaves.now c.args.devices.now in
    let all : take c.loop-i.i c.args.devices.now ≡ c.args.devices.now = take_all c.loop-i.i c.args.devices.now c.loop-i-test.false in
    (scan_end (λ d x. unknown_in c' d x.table) c.args.devices.now c.loop-i.i (c.loop-i.i + 1) (first (unknown_names c')) c.loop-i-test.false c.loop-i.invariant.1, rw all at c.loop-i.invariant.0)
