use Rattle.std.proofs.Common.{◌≡◌, length, sym, ap, ◌∙◌}
use Rattle.stack_loader.proofs.ClosureLemmas.{closes-of, taken, cycle-found, cycle-more, cycle-end}
use Rattle.stack_loader.proofs.cycles.cycle_refusal.Goals as goal

pub loop-d-preserved : goal.loop-d-preserved
loop-d-preserved c = λ c' are.
    let long : length c.close.new.sets ≡ c.in_ok-closed.closed.len = c.close.auto.sets ∙ ap length c.as_mut_slice.ensures.value ∙ sym c.in_ok-closed.closed.ok.0 in
    let closes = closes-of c' c.args.sets.now c.as_mut_slice.result.now c.close.new.sets c.deref-set-items.result.now are (c.as_mut_slice.ensures.value ∙ c.in_ok-closed.ensures.ok)
    (c.deref-set-items.ensures.value ∙ taken _ _ _ long) c.close.auto.sets c.close.ensures in
    cycle-more c' c.args.sets.now c.deref-set-items.result.now closes c.loop-d.d c.contains.result c.loop-d-test.true c.contains.ensures c.if-contains.false (c.loop-d.invariant c' are)

pub returns-then-contains-clause-ok : goal.returns-then-contains-clause-ok
returns-then-contains-clause-ok c = λ c' are.
    let long : length c.close.new.sets ≡ c.in_ok-closed.closed.len = c.close.auto.sets ∙ ap length c.as_mut_slice.ensures.value ∙ sym c.in_ok-closed.closed.ok.0 in
    let closes = closes-of c' c.args.sets.now c.as_mut_slice.result.now c.close.new.sets c.deref-set-items.result.now are (c.as_mut_slice.ensures.value ∙ c.in_ok-closed.ensures.ok)
    (c.deref-set-items.ensures.value ∙ taken _ _ _ long) c.close.auto.sets c.close.ensures in
    cycle-found c' c.args.sets.now c.deref-set-items.result.now closes c.loop-d.d c.contains.result c.loop-d-test.true c.contains.ensures c.if-contains.true (c.loop-d.invariant c' are)

pub returns-clause-ok : goal.returns-clause-ok
returns-clause-ok c = λ c' are.
    let long : length c.close.new.sets ≡ c.in_ok-closed.closed.len = c.close.auto.sets ∙ ap length c.as_mut_slice.ensures.value ∙ sym c.in_ok-closed.closed.ok.0 in
    let closes = closes-of c' c.args.sets.now c.as_mut_slice.result.now c.close.new.sets c.deref-set-items.result.now are (c.as_mut_slice.ensures.value ∙ c.in_ok-closed.ensures.ok)
    (c.deref-set-items.ensures.value ∙ taken _ _ _ long) c.close.auto.sets c.close.ensures in
    cycle-end c' c.args.sets.now c.deref-set-items.result.now closes c.loop-d.d c.loop-d-test.false (c.loop-d.invariant c' are)
