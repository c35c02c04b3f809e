use Rattle.std.proofs.Common.{ℕ, ◌-◌, ◌*◌, length, take, drop, ap, ◌∙◌, arith}
use Rattle.sha2.specs.Sha256.{compress}
use Rattle.sha256_lanes.specs.Lanes.{state_of_lane}
use Rattle.sha256_lanes.proofs.PaddingLemmas.{part_of_message}
use Rattle.sha256_lanes.proofs.hashing.take_in.Goals as goal

pub returns-then-at-prefix : goal.returns-then-at-prefix
returns-then-at-prefix c = λ j lt.
    let at : ℕ = c.args.index * 64 in
    c.compress.ensures j lt
    ∙ ap (compress (state_of_lane j c.args.state.now)) (part_of_message c.args.prefix.now c.args.blocks.now c.args.size j at (at - length c.args.prefix.now) lt c.requires.blocks (omega arith) (omega arith))

pub returns-else-prefix-at : goal.returns-else-prefix-at
returns-else-prefix-at c = λ j lt.
    c.compress-else-prefix-at.ensures j lt
    ∙ ap (λ (n : ℕ). compress (state_of_lane j c.args.state.now) (take 64 (drop n c.message_blocks-bytes.result))) (omega arith)
    ∙ ap (compress (state_of_lane j c.args.state.now)) (c.message_blocks-bytes.ensures j lt)
