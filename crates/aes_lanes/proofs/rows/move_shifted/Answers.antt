use Rattle.aes_lanes.proofs.rows.move_shifted.Goals as goal

pub returns : goal.returns
returns c = record { planes = λ k h. (c.each.ensures k h).1.0; lanes = λ k p hk hp. (c.each.ensures k hk).1.1 p hp }
