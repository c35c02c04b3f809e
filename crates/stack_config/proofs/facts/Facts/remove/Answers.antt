use Rattle.std.proofs.Common.{List, get_or, set, sym, ap, ◌∙◌}
use Rattle.std.proofs.lemmas.List.Edits.{map_over_more}
use Rattle.stack_config.specs.declared.facts.DeviceFacts.{DeviceFacts}
use Rattle.stack_config.specs.Facts.{fact_after}
use Rattle.stack_config.proofs.facts.Facts.remove.Goals as goal

pub loop-device-preserved : goal.loop-device-preserved
loop-device-preserved c =
    let items : List DeviceFacts = c.loop-device.device-items in
    ap (λ rows. set items c.loop-device.device-index (record (get_or items c.loop-device.device-index c.device-item.result) { lowers = rows })) c.remove-in-loop-device.ensures
    ∙ ap (λ (f : DeviceFacts). set items c.loop-device.device-index (fact_after c.args.place f)) (sym c.device-item.is)
    ∙ map_over_more (fact_after c.args.place) c.as_mut_slice-device-items.result.now items c.loop-device.device-index c.device-item.result c.loop-device-test.true c.loop-device.invariant c.device-item.is
