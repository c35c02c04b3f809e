use Rattle.std.proofs.Common.{◌≡◌, ℕ, ◌+◌, ◌*◌, List, [], ◌∷◌, slice_index}
use Rattle.aes_lanes.specs.Planes.{lane}
use Rattle.aes_lanes.proofs.LaneLemmas.{below_eight}
use Rattle.aes_lanes.proofs.VectorLemmas.{block_of-vectors}
use Rattle.aes_lanes.proofs.planes.planes_of.Goals as goal

pub returns-clause-planes : goal.returns-clause-planes
returns-clause-planes c = λ k h. (c.turn.ensures.vectors k h).len

pub returns-clause-blocks : goal.returns-clause-blocks
returns-clause-blocks c =
    block_of-vectors c.args.blocks.now _ _ c.requires (λ i. (c.type_inv.blocks i).fits) c.turn.ensures
    (λ k p hk hp.
    let vectors : List (List ℕ) = c.vector_at-v0.result ∷ c.vector_at-v1.result ∷ c.vector_at-v2.result ∷ c.vector_at-v3.result ∷ c.vector_at-v4.result ∷ c.vector_at-v5.result ∷ c.vector_at-v6.result ∷ c.vector_at-v7.result ∷ [] in
    below_eight (λ k. lane vectors k p ≡ slice_index c.args.blocks.now (32 * k + p)) (c.vector_at-v0.ensures.lanes p hp) (c.vector_at-v1.ensures.lanes p hp) (c.vector_at-v2.ensures.lanes p hp) (c.vector_at-v3.ensures.lanes p hp)
    (c.vector_at-v4.ensures.lanes p hp) (c.vector_at-v5.ensures.lanes p hp) (c.vector_at-v6.ensures.lanes p hp) (c.vector_at-v7.ensures.lanes p hp) k hk)
