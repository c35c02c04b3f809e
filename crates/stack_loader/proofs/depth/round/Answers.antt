use Rattle.std.proofs.Common.{◌+◌, ap, arith}
use Rattle.stack_rules.specs.Descend.{most_devices}
use Rattle.stack_loader.specs.DeviceSet.{set_at}
use Rattle.stack_loader.proofs.lemmas.DepthLemmas.{greatest_in-low, round_more}
use Rattle.stack_loader.proofs.depth.round.Goals as goal

pub overflow_add-greatest_in : goal.overflow_add-greatest_in
overflow_add-greatest_in c =
    let low = greatest_in-low (set_at c.args.sets.now c.loop-set.set-index) most_devices c.args.values.now c.requires.low in
    record { fits = omega (arith, low, c.greatest_in.ensures) }

pub loop-set-preserved : goal.loop-set-preserved
loop-set-preserved c =
    rw c.in_ok-push.ensures.ok (round_more c.args.sets.now c.loop-set.set-index (1 + c.greatest_in.result) c.args.values.now c.loop-set.next.items c.loop-set-test.true (ap (λ n. 1 + n) c.greatest_in.ensures) c.loop-set.invariant)
