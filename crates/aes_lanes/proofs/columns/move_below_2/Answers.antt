use Rattle.std.proofs.Common.{◌≡◌, ap, ◌∙◌, arith}
use Rattle.aes_lanes.specs.Planes.{lane, lane_below}
use Rattle.aes_lanes.proofs.columns.move_below_2.Goals as goal

pub returns-then-shifts-eq0 : goal.returns-then-shifts-eq0
returns-then-shifts-eq0 c = record {
  planes = λ k h. (c.each.ensures k h).1.0;
  lanes = λ k p hk hp.
      let same : lane_below 2 0 p ≡ lane_below 2 c.args.shifts p = omega (arith, c.if-shifts-eq0.true) in
      (c.each.ensures k hk).1.1 p hp ∙ ap (lane c.args.q.now k) same;
}

pub returns-else-shifts-eq0 : goal.returns-else-shifts-eq0
returns-else-shifts-eq0 c = record {
  planes = λ k h. (c.each-else-shifts-eq0.ensures k h).1.0;
  lanes = λ k p hk hp.
      let same : lane_below 2 1 p ≡ lane_below 2 c.args.shifts p = omega (arith, c.if-shifts-eq0.false) in
      (c.each-else-shifts-eq0.ensures k hk).1.1 p hp ∙ ap (lane c.args.q.now k) same;
}
