use Rattle.std.proofs.Common.{◌≡◌, sym, ap, ◌∙◌, arith}
use Rattle.aes_lanes.specs.Planes.{lane, lane_below}
use Rattle.aes_lanes.proofs.columns.move_below_1.Goals as goal

pub returns-then-shifts-eq0 : goal.returns-then-shifts-eq0
returns-then-shifts-eq0 c = record {
  planes = λ k h. (c.each.ensures k h).1.0;
  lanes = λ k p hk hp. (c.each.ensures k hk).1.1 p hp ∙ ap (λ s. lane c.args.q.now k (lane_below 1 s p)) (sym c.if-shifts-eq0.true);
}

pub returns-then-shifts-eq1 : goal.returns-then-shifts-eq1
returns-then-shifts-eq1 c = record {
  planes = λ k h. (c.each-then-shifts-eq1.ensures k h).1.0;
  lanes = λ k p hk hp. (c.each-then-shifts-eq1.ensures k hk).1.1 p hp ∙ ap (λ s. lane c.args.q.now k (lane_below 1 s p)) (sym c.if-shifts-eq1.true);
}

pub returns-then-shifts-eq2 : goal.returns-then-shifts-eq2
returns-then-shifts-eq2 c = record {
  planes = λ k h. (c.each-then-shifts-eq2.ensures k h).1.0;
  lanes = λ k p hk hp. (c.each-then-shifts-eq2.ensures k hk).1.1 p hp ∙ ap (λ s. lane c.args.q.now k (lane_below 1 s p)) (sym c.if-shifts-eq2.true);
}

pub returns-else-shifts-eq2 : goal.returns-else-shifts-eq2
returns-else-shifts-eq2 c =
    let three : 3 ≡ c.args.shifts = omega (arith, c.requires, c.if-shifts-eq0.false, c.if-shifts-eq1.false, c.if-shifts-eq2.false) in
    record {
      planes = λ k h. (c.each-else-shifts-eq2.ensures k h).1.0;
      lanes = λ k p hk hp. (c.each-else-shifts-eq2.ensures k hk).1.1 p hp ∙ ap (λ s. lane c.args.q.now k (lane_below 1 s p)) three;
    }
