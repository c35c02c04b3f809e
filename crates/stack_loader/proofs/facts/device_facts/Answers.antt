use Rattle.std.proofs.Common.{◌≡◌, ◌<◌, [], length, map, arith, refl, sym, ap, ◌∙◌}
use Rattle.std.specs.List.{range_with_len}
use Rattle.std.specs.Vec.Iter.{into_iter_items}
use Rattle.std.proofs.lemmas.List.{length-drop}
use Rattle.std.proofs.lemmas.Result.{err_from_is_err_and}
use Rattle.stack_config.specs.Keys.{keys_from, zero_digests_of}
use Rattle.stack_rules.specs.Records.{DeviceRecord}
use Rattle.stack_loader.specs.Facts.{facts_at}
use Rattle.stack_loader.proofs.FactsLemmas.{rest-head, range-push, device-at}
use Rattle.stack_loader.proofs.facts.device_facts.Goals as goal

pub loop-i-init : goal.loop-i-init
loop-i-init c = rw (c.into_iter-i-iterator.ensures.into_iter_gives, c.enumerate-i-items.ensures.source, c.enumerate-i-items.ensures.count, c.in_ok-facts.ensures.ok.0) (omega arith, c.into_iter.ensures.rest, refl)

pub loop-i-preserved : goal.loop-i-preserved
loop-i-preserved c =
    let steps = c.in-Some.ensures.steps in
    let k = c.loop-i.i-iterator.count in
    let head = rest-head c.args.lowers.items (into_iter_items c.next.new.self.iter) k c.in-Some.lowers [] (sym steps.0.0 ∙ c.loop-i.invariant.1) in
    let low : k < length c.args.devices.now = omega (arith, head.0, c.requires.lengths.3) in
    let lines = c.lines-lines.ensures.value ∙ c.table.ensures in
    let here = rw steps.1 at c.index-devices-i.is in
    let keys = rw lines at c.in_ok-line_keys.ensures.ok ∙ device-at (λ (d : DeviceRecord). keys_from 0 d.table) c.args.devices.now k c.index-devices-i.result [] low here in
    let digests = rw lines at c.in_ok-line_digests.ensures.ok ∙ device-at (λ (d : DeviceRecord). zero_digests_of d.table) c.args.devices.now k c.index-devices-i.result [] low here in
    rw (steps.2, c.in_ok-push.ensures.ok)
    (omega (arith, head.0), head.2, range-push (facts_at c.args.devices.now c.args.depths.now c.args.read_costs.now c.args.write_costs.now c.args.lowers.items) k c.loop-i.facts.items _ c.loop-i.invariant.2 (rw (steps.1, head.1, keys, digests) refl))

pub returns-clause-ok : goal.returns-clause-ok
returns-clause-ok c =
    let inv = c.loop-i.invariant in
    let all : c.loop-i.i-iterator.count ≡ length c.args.devices.now = omega (arith, c.loop-i.i-iterator.iter.rest.ok.0, c.in-None.ensures.steps.0.0, ap (λ l. length l) inv.1, length-drop c.loop-i.i-iterator.count c.args.lowers.items, inv.0, c.requires.lengths.3) in
    rw (← all) inv.2

pub returns-in_err-line_keys-clause-err : goal.returns-in_err-line_keys-clause-err
returns-in_err-line_keys-clause-err c =
    let was = err_from_is_err_and c.from_residual-in_err-line_keys.result c.from_residual-in_err-line_keys.ensures.1 in
    let refused = c.in_err-line_keys.ensures.err in
    rw was.1 (refused.0, omega (arith, refused.1), refused.2)

pub returns-in_err-line_digests-clause-err : goal.returns-in_err-line_digests-clause-err
returns-in_err-line_digests-clause-err c =
    let was = err_from_is_err_and c.from_residual-in_err-line_digests.result c.from_residual-in_err-line_digests.ensures.1 in
    let refused = c.in_err-line_digests.ensures.err in
    let steps = c.in-Some.ensures.steps in
    let k = c.loop-i.i-iterator.count in
    let head = rest-head c.args.lowers.items (into_iter_items c.next.new.self.iter) k c.in-Some.lowers [] (sym steps.0.0 ∙ c.loop-i.invariant.1) in
    let few = c.requires.lines k c.index-devices-i.result (omega (arith, head.0, c.requires.lengths.3)) in
    let same = ap (λ l. length l) (c.lines-lines.ensures.value ∙ c.table.ensures) ∙ ap (λ (d : DeviceRecord). length d.table) (rw steps.1 at c.index-devices-i.is) in
    rw was.1 (refused.0, omega (arith, refused.1, same, few), refused.2)
