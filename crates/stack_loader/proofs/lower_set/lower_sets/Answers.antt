use Rattle.std.proofs.Common.{ap, ◌∙◌}
use Rattle.std.specs.List.{list_any}
use Rattle.stack_rules.specs.Cycles.{is_mapped}
use Rattle.stack_loader.proofs.LowerSetLemmas.{sets_none, sets_more, lower_sets-named}
use Rattle.stack_loader.proofs.lower_set.lower_sets.Goals as goal

pub loop-device-init : goal.loop-device-init
loop-device-init c = sets_none c.args.lowers.now c.in_ok-sets.sets.items c.in_ok-sets.ensures.ok.0

pub loop-device-preserved : goal.loop-device-preserved
loop-device-preserved c =
    sets_more c.args.lowers.now c.loop-device.device-index c.device-item.result c.named_by.result c.loop-device.sets.items c.push.new.v.items c.loop-device-test.true c.device-item.is
    (λ e few. c.named_by.ensures e few ∙ ap (list_any (list_any (is_mapped e))) c.lines.ensures) c.in_ok-push.ensures.ok c.loop-device.invariant

pub returns-clause-ok : goal.returns-clause-ok
returns-clause-ok c = λ c' are. lower_sets-named c' c.args.lowers.now c.loop-device.device-index c.loop-device.sets.items are c.requires c.loop-device-test.false c.loop-device.auto.device-index-end c.loop-device.invariant
