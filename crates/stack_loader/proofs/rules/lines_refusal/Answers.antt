use Rattle.std.proofs.Common.{◌+◌, sym, refl}
use Rattle.stack_rules.specs.Records.{Configuration, configuration}
use Rattle.stack_rules.specs.Rules.{first, each_device, table_rules}
use Rattle.stack_rules.proofs.lemmas.NameMeaningLemmas.{table-at}
use Rattle.stack_rules.proofs.lemmas.FirstRefusalLemmas.{scan_found, scan_more, scan_end}
use Rattle.stack_loader.proofs.rules.lines_refusal.Goals as goal

pub table_refusal-requires-clause-rows : goal.table_refusal-requires-clause-rows
table_refusal-requires-clause-rows c = rw c.lines-rows.ensures (table-at (configuration c.args.leaves.now c.args.devices.now) c.args.lowers.now c.args.devices.now c.loop-i.i c.index-devices-i.result c.index-lowers-i.result c.requires.lowers c.loop-i-test.true c.index-devices-i.is c.index-lowers-i.is)

pub returns-in-Some : goal.returns-in-Some
returns-in-Some c =
    let c' : Configuration = configuration c.args.leaves.now c.args.devices.now in
    sym (scan_found (table_rules c') c.args.devices.now c.loop-i.i (c.loop-i.i + 1) c.index-devices-i.result c.in-Some.refusal (first (each_device c' (table_rules c'))) c.loop-i-test.true c.index-devices-i.is (sym c.in-Some.ensures) c.loop-i.invariant)

pub loop-i-preserved : goal.loop-i-preserved
loop-i-preserved c =
    let c' : Configuration = configuration c.args.leaves.now c.args.devices.now in
    scan_more (table_rules c') c.args.devices.now c.loop-i.i (c.loop-i.i + 1) c.index-devices-i.result (first (each_device c' (table_rules c'))) c.loop-i-test.true c.index-devices-i.is refl (sym c.in-None.ensures) c.loop-i.invariant

pub returns : goal.returns
returns c =
    let c' : Configuration = configuration c.args.leaves.now c.args.devices.now in
    sym (scan_end (table_rules c') c.args.devices.now c.loop-i.i (c.loop-i.i + 1) (first (each_device c' (table_rules c'))) c.loop-i-test.false c.loop-i.invariant)
