use Rattle.std.proofs.Common.{◌≡◌, ℕ, ◌+◌, ◌*◌, ap, arith, ◌∙◌}
use Rattle.sha2.specs.Sha256.{word_at}
use Rattle.sha256_lanes.specs.Lanes.{word_of_lane}
use Rattle.sha256_lanes.proofs.LaneLemmas.{below_eight}
use Rattle.sha256_lanes.proofs.big_endian.four_words.Goals as goal

pub returns : goal.returns
returns c = λ k j hk hj.
    let at = λ (n : ℕ). word_at c.args.bytes.now n in
    let low = λ (r : ℕ). c.turned.ensures.low k r hk in
    let high = λ (r : ℕ). c.turned.ensures.high k r hk in
    below_eight (λ j. word_of_lane c.turned.result k j ≡ word_at c.args.bytes.now (c.args.at + 4 * k + j * c.args.stride))
    (low 0 (omega arith) ∙ c.two_fours.ensures.low k hk ∙ ap at (omega arith))
    (low 1 (omega arith) ∙ c.two_fours-2.ensures.low k hk ∙ ap at (omega arith))
    (low 2 (omega arith) ∙ c.two_fours-3.ensures.low k hk ∙ ap at (omega arith))
    (low 3 (omega arith) ∙ c.two_fours-4.ensures.low k hk ∙ ap at (omega arith))
    (high 0 (omega arith) ∙ c.two_fours.ensures.high k hk ∙ ap at (omega arith))
    (high 1 (omega arith) ∙ c.two_fours-2.ensures.high k hk ∙ ap at (omega arith))
    (high 2 (omega arith) ∙ c.two_fours-3.ensures.high k hk ∙ ap at (omega arith))
    (high 3 (omega arith) ∙ c.two_fours-4.ensures.high k hk ∙ ap at (omega arith))
    j hj
