use Rattle.std.proofs.Common.{◌+◌, ◌<◌, Some, ap, ◌∙◌, sym, length, arith}
use Rattle.std.specs.Prelude.{slice_get}
use Rattle.stack_rules.specs.Records.{DeviceRecord}
use Rattle.stack_rules.specs.Names.{lines_of}
use Rattle.stack_rules.specs.Descend.{by_name}
use Rattle.stack_rules.proofs.lemmas.KeptLemmas.{lines_of-read}
use Rattle.stack_rules.proofs.lemmas.ListLemmas.{slice_get-some}
use Rattle.stack_rules.proofs.lemmas.ValidLineLemmas.{few}
use Rattle.linux_rules.specs.Blocks.{block_in}
use Rattle.linux_rules.specs.Rules.{device_block, device_refusal, stack_refusal}
use Rattle.linux_rules.proofs.FirstLemmas.{first_more, first_found, first_end, read-of}
use Rattle.linux_rules.proofs.rules.stack_refusal.Goals as goal

pub overflow_cast-d : goal.overflow_cast-d
overflow_cast-d c = omega (arith, few c.args.config.now c.count-d-end.ensures.loaded.valid)

pub returns-in-Some : goal.returns-in-Some
returns-in-Some c =
    let config = c.args.config.now in
    let below = by_name config 0 (block_in c.args.blocks.now) in
    let d = c.loop-d.d in
    let inside : d < length config.devices = omega (arith, c.loop-d-test.true, c.count-d-end.ensures.value) in
    let x = slice_get-some config.devices d inside in
    let here = ap (λ table. device_refusal config below (device_block (block_in c.args.blocks.now) (d + 1)) (d + 1) table) (sym (lines_of-read config d x.0 x.1)) ∙ sym c.in-Some.ensures in
    sym (first_found (λ d (x : DeviceRecord). device_refusal config below (device_block (block_in c.args.blocks.now) d) d x.table) config.devices d (d + 1) x.0 c.in-Some.refusal (stack_refusal config (block_in c.args.blocks.now))
    inside (read-of config.devices d x.0 x.1) here c.loop-d.invariant)

pub loop-d-preserved : goal.loop-d-preserved
loop-d-preserved c =
    let config = c.args.config.now in
    let below = by_name config 0 (block_in c.args.blocks.now) in
    let d = c.loop-d.d in
    let inside : d < length config.devices = omega (arith, c.loop-d-test.true, c.count-d-end.ensures.value) in
    let x = slice_get-some config.devices d inside in
    let here = ap (λ table. device_refusal config below (device_block (block_in c.args.blocks.now) (d + 1)) (d + 1) table) (sym (lines_of-read config d x.0 x.1)) ∙ sym c.in-None.ensures in
    first_more (λ d (x : DeviceRecord). device_refusal config below (device_block (block_in c.args.blocks.now) d) d x.table) config.devices d (d + 1) x.0 (stack_refusal config (block_in c.args.blocks.now))
    inside (read-of config.devices d x.0 x.1) here c.loop-d.invariant

pub returns : goal.returns
returns c =
    let config = c.args.config.now in
    let below = by_name config 0 (block_in c.args.blocks.now) in
    sym (first_end (λ d (x : DeviceRecord). device_refusal config below (device_block (block_in c.args.blocks.now) d) d x.table) config.devices c.loop-d.d (c.loop-d.d + 1) (stack_refusal config (block_in c.args.blocks.now))
    (omega (arith, c.loop-d-test.false, c.count-d-end.ensures.value)) c.loop-d.invariant)
