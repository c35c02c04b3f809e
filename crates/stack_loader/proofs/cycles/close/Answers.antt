use Rattle.std.proofs.Common.{◌≡◌, length, subst, arith, ℕ}
use Rattle.stack_rules.specs.Cycles.{leads_below}
use Rattle.stack_loader.specs.DeviceSet.{AreSets}
use Rattle.stack_loader.proofs.ClosureLemmas.{closed_none, closed_more}
use Rattle.stack_loader.proofs.cycles.close.Goals as goal

pub loop-k-init : goal.loop-k-init
loop-k-init c = λ test are. closed_none test c.args.sets.now are

pub loop-k-preserved : goal.loop-k-preserved
loop-k-preserved c = λ test are.
    closed_more test c.loop-k.k c.loop-k.sets c.join.new.sets (omega (arith, c.loop-k-test.true, c.loop-k.auto.sets)) c.join.auto.sets c.join.ensures (c.loop-k.invariant test are)

pub returns : goal.returns
returns c = λ test are.
    let all : c.loop-k.k ≡ length c.args.sets.now = omega (arith, c.loop-k-test.false, c.loop-k.auto.k-end) in
    let P : ℕ → Type 0 = λ n. AreSets (leads_below test n) c.loop-k.sets in
    subst P all (c.loop-k.invariant test are)
