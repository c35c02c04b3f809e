use Rattle.std.proofs.Common.{List, ℕ, ap, sym, ◌∙◌, slice_index}
use Rattle.sha2.specs.Sha256.{round, round_constants, rounds, schedule}
use Rattle.sha2.proofs.Schedule256.{rounds_next}
use Rattle.sha256_lanes.specs.Lanes.{word_of_lane}
use Rattle.sha256_lanes.proofs.rounds.step.Goals as goal

pub returns : goal.returns
returns c = λ j lt b h words held.
    let t = c.args.t in
    let k = slice_index round_constants t in
    c.round.ensures j lt
    ∙ ap (λ (v : List ℕ). round v k (word_of_lane c.args.w.now t j)) held
    ∙ ap (round (rounds h (schedule b 48) t) k) (words t c.requires)
    ∙ sym (rounds_next h (schedule b 48) t)
