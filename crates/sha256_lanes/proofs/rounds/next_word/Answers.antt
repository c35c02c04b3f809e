use Rattle.std.proofs.Common.{◌-◌, arith, refl}
use Rattle.sha2.proofs.Schedule256.{slice_index-schedule_next}
use Rattle.sha256_lanes.proofs.rounds.next_word.Goals as goal

pub returns : goal.returns
returns c = λ j lt b held.
    let t = c.args.t in
    rw (
      slice_index-schedule_next b 48 t c.requires.low (omega (arith, c.requires.high)),
      ← held (t - 2) (omega (arith, c.requires.low)),
      ← held (t - 7) (omega (arith, c.requires.low)),
      ← held (t - 15) (omega (arith, c.requires.low)),
      ← held (t - 16) (omega (arith, c.requires.low)),
      c.add-3.ensures j lt,
      c.add-2.ensures j lt,
      c.add.ensures j lt,
      c.small_sigma1-a.ensures j lt,
      c.small_sigma0-b.ensures j lt,
    ) refl
