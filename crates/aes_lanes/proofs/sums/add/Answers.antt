use Rattle.std.proofs.Common.{◌≡◌, ℕ, List, [], ◌∷◌, bit_xor}
use Rattle.aes_lanes.specs.Planes.{lane}
use Rattle.aes_lanes.proofs.LaneLemmas.{below_eight}
use Rattle.aes_lanes.proofs.sums.add.Goals as goal

pub returns : goal.returns
returns c = record {
  planes = below_eight _ c.xor-s0.ensures.len c.xor-s1.ensures.len c.xor-s2.ensures.len c.xor-s3.ensures.len c.xor-s4.ensures.len c.xor-s5.ensures.len c.xor-s6.ensures.len c.xor-s7.ensures.len;
  lanes = λ k p hk hp.
      let sums : List (List ℕ) = c.xor-s0.result ∷ c.xor-s1.result ∷ c.xor-s2.result ∷ c.xor-s3.result ∷ c.xor-s4.result ∷ c.xor-s5.result ∷ c.xor-s6.result ∷ c.xor-s7.result ∷ [] in
      below_eight (λ k. lane sums k p ≡ bit_xor (lane c.args.a.now k p) (lane c.args.b.now k p)) (c.xor-s0.ensures.lanes p hp) (c.xor-s1.ensures.lanes p hp) (c.xor-s2.ensures.lanes p hp) (c.xor-s3.ensures.lanes p hp) (c.xor-s4.ensures.lanes p hp) (c.xor-s5.ensures.lanes p hp) (c.xor-s6.ensures.lanes p hp) (c.xor-s7.ensures.lanes p hp) k hk;
}
