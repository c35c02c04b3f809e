use Rattle.std.proofs.Common.{◌<◌, ◌≢◌, length, ◌∙◌, arith, get_or-set_other, get_or-set_same, below_more}
use Rattle.std.proofs.Math.ListN.{length-set}
use Rattle.stack_lines.proofs.units.unit_numbers.Goals as goal

pub loop-j-preserved : goal.loop-j-preserved
loop-j-preserved c =
    let so_far = c.loop-j.invariant in
    let lt : c.loop-j.j < length c.loop-j.numbers = omega (arith, so_far.long) in
    record {
      long = length-set c.loop-j.numbers c.loop-j.j c.unit_number.result ∙ so_far.long;
      made = below_more _ _
          (λ i h. let ne : i ≢ c.loop-j.j = omega arith in rw get_or-set_other (so_far.made i h))
          (rw get_or-set_same c.unit_number.ensures);
    }
