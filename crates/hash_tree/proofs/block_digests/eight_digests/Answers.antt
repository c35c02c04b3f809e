use Rattle.std.proofs.Common.{ℕ, ◌+◌, ◌-◌, ◌*◌, List, take, drop, ap, ◌∙◌, arith}
use Rattle.sha2.specs.Sha256.{sha256}
use Rattle.sha256_lanes.specs.Lanes.{message}
use Rattle.hash_tree.proofs.GroupLemmas.{digests_of_group}
use Rattle.hash_tree.proofs.block_digests.eight_digests.Goals as goal

pub returns : goal.returns
returns c =
    let size : ℕ = c.args.size in
    let at : ℕ = 8 * c.args.g * size in
    let n : ℕ = (8 * c.args.g + 8) * size - at in
    c.whole.ensures ∙ digests_of_group c.digest_eight-made.result c.args.salt.now c.args.blocks.now size c.args.g n
    (omega arith) c.requires.some c.requires.whole c.requires.inside (omega arith)
    (λ j lt. c.digest_eight-made.ensures j lt ∙ ap (λ (salt : List ℕ). sha256 (message salt (take n (drop at c.args.blocks.now)) size j)) c.bytes.ensures.value)
