use Rattle.std.proofs.Common.{◌≡◌, ℕ, ◌/◌, ◌%◌, ◌≤◌, List, [], ◌∷◌, refl, ap, ◌∙◌, arith}
use Rattle.std.specs.Int.{bit_at}
use Rattle.aes_lanes.specs.Planes.{plane, lane, exchanged}
use Rattle.aes_lanes.proofs.LaneLemmas.{below_eight}
use Rattle.aes_lanes.proofs.ExchangeLemmas.{Swaps_4, first_of_pair, second_of_pair}
use Rattle.aes_lanes.proofs.planes.exchange_4.Goals as goal

reach : (i : ℕ) → i / 4 % 2 ≡ 1 → 4 ≤ i
reach i h = omega (arith, h)

pub returns : goal.returns
returns c = record {
  vectors = below_eight _ c.swap_bits-ae.ensures.vectors.0 c.swap_bits-bf.ensures.vectors.0 c.swap_bits-cg.ensures.vectors.0 c.swap_bits-dh.ensures.vectors.0 c.swap_bits-ae.ensures.vectors.1 c.swap_bits-bf.ensures.vectors.1 c.swap_bits-cg.ensures.vectors.1 c.swap_bits-dh.ensures.vectors.1;
  bits = λ p k i hp hk hi.
      let new : List (List ℕ) = plane c.swap_bits-ae.result 0 ∷ plane c.swap_bits-bf.result 0 ∷ plane c.swap_bits-cg.result 0 ∷ plane c.swap_bits-dh.result 0 ∷ plane c.swap_bits-ae.result 1 ∷ plane c.swap_bits-bf.result 1 ∷ plane c.swap_bits-cg.result 1 ∷ plane c.swap_bits-dh.result 1 ∷ [] in
      below_eight (λ k. bit_at (lane new k p) i ≡ bit_at (lane c.args.q.now (exchanged 4 k i) p) (exchanged 4 i k))
      (ap (λ n. bit_at n i) (c.swap_bits-ae.ensures.first p hp) ∙ first_of_pair 4 _ _ Swaps_4 reach (λ k. lane c.args.q.now k p) 0 4 i refl refl hi)
      (ap (λ n. bit_at n i) (c.swap_bits-bf.ensures.first p hp) ∙ first_of_pair 4 _ _ Swaps_4 reach (λ k. lane c.args.q.now k p) 1 5 i refl refl hi)
      (ap (λ n. bit_at n i) (c.swap_bits-cg.ensures.first p hp) ∙ first_of_pair 4 _ _ Swaps_4 reach (λ k. lane c.args.q.now k p) 2 6 i refl refl hi)
      (ap (λ n. bit_at n i) (c.swap_bits-dh.ensures.first p hp) ∙ first_of_pair 4 _ _ Swaps_4 reach (λ k. lane c.args.q.now k p) 3 7 i refl refl hi)
      (ap (λ n. bit_at n i) (c.swap_bits-ae.ensures.second p hp) ∙ second_of_pair 4 _ _ Swaps_4 reach (λ k. lane c.args.q.now k p) 4 0 i refl refl hi)
      (ap (λ n. bit_at n i) (c.swap_bits-bf.ensures.second p hp) ∙ second_of_pair 4 _ _ Swaps_4 reach (λ k. lane c.args.q.now k p) 5 1 i refl refl hi)
      (ap (λ n. bit_at n i) (c.swap_bits-cg.ensures.second p hp) ∙ second_of_pair 4 _ _ Swaps_4 reach (λ k. lane c.args.q.now k p) 6 2 i refl refl hi)
      (ap (λ n. bit_at n i) (c.swap_bits-dh.ensures.second p hp) ∙ second_of_pair 4 _ _ Swaps_4 reach (λ k. lane c.args.q.now k p) 7 3 i refl refl hi)
      k hk;
}
