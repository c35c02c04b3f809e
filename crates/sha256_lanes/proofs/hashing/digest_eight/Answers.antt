use Rattle.std.proofs.Common.{◌≡◌, ℕ, ◌+◌, ◌*◌, ◌/◌, List, length, take, drop, refl, sym, ap, ◌∙◌, arith}
use Rattle.sha2.specs.Sha256.{hash_after, sha256, padded_message, digest_bytes, initial_hash_256, compress}
use Rattle.sha2.proofs.Absorbing256.{hash_after_next}
use Rattle.sha256_lanes.specs.Lanes.{message}
use Rattle.sha256_lanes.proofs.LaneLemmas.{below_eight}
use Rattle.sha256_lanes.proofs.PaddingLemmas.{length-padded_message, length-message}
use Rattle.sha256_lanes.proofs.hashing.digest_eight.Goals as goal

pub loop-index-init : goal.loop-index-init
unfolding hash_after
loop-index-init c = below_eight _ refl refl refl refl refl refl refl refl

pub loop-index-preserved : goal.loop-index-preserved
loop-index-preserved c = λ j lt.
    let i : ℕ = c.loop-index.index in
    let p : List ℕ = padded_message (message c.args.prefix.now c.args.blocks.now c.args.size j) in
    c.take_in.ensures j lt
    ∙ ap (λ (h : List ℕ). compress h (take 64 (drop (i * 64) p))) (c.loop-index.invariant j lt)
    ∙ sym (hash_after_next initial_hash_256 p i)

pub returns : goal.returns
unfolding sha256
returns c = λ j lt.
    let m : List ℕ = message c.args.prefix.now c.args.blocks.now c.args.size j in
    let long : length m ≡ length c.args.prefix.now + c.args.size = length-message c.args.prefix.now c.args.blocks.now c.args.size j lt c.requires in
    let done : c.loop-index.index ≡ length (padded_message m) / 64 = omega (arith, length-padded_message m) in
    c.digests.ensures j lt
    ∙ ap (λ (h : List ℕ). digest_bytes h 8) (c.loop-index.invariant j lt ∙ ap (hash_after initial_hash_256 (padded_message m)) done)
