use Rattle.std.proofs.Common.{ℕ, ◌<◌, ap, arith, ◌∙◌}
use Rattle.sha2.specs.Sha256.{word_at}
use Rattle.sha256_lanes.proofs.LaneLemmas.{below_sixteen}
use Rattle.sha256_lanes.proofs.big_endian.words.Goals as goal

pub returns : goal.returns
returns c = λ j hj.
    let at = λ (n : ℕ). word_at c.args.bytes.now n in
    let a = λ (i : ℕ) (h : i < 4). c.four_words-a.ensures i j h hj in
    below_sixteen _ (a 0 (omega arith)) (a 1 (omega arith)) (a 2 (omega arith)) (a 3 (omega arith))
    (c.four_words-b.ensures 0 j (omega arith) hj ∙ ap at (omega arith)) (c.four_words-b.ensures 1 j (omega arith) hj ∙ ap at (omega arith))
    (c.four_words-b.ensures 2 j (omega arith) hj ∙ ap at (omega arith)) (c.four_words-b.ensures 3 j (omega arith) hj ∙ ap at (omega arith))
    (c.four_words-c.ensures 0 j (omega arith) hj ∙ ap at (omega arith)) (c.four_words-c.ensures 1 j (omega arith) hj ∙ ap at (omega arith))
    (c.four_words-c.ensures 2 j (omega arith) hj ∙ ap at (omega arith)) (c.four_words-c.ensures 3 j (omega arith) hj ∙ ap at (omega arith))
    (c.four_words-d.ensures 0 j (omega arith) hj ∙ ap at (omega arith)) (c.four_words-d.ensures 1 j (omega arith) hj ∙ ap at (omega arith))
    (c.four_words-d.ensures 2 j (omega arith) hj ∙ ap at (omega arith)) (c.four_words-d.ensures 3 j (omega arith) hj ∙ ap at (omega arith))
