use Rattle.std.proofs.Common.{◌≡◌, ℕ, ◌/◌, ◌%◌, ◌≤◌, List, [], ◌∷◌, refl, ap, ◌∙◌, arith}
use Rattle.std.specs.Int.{bit_at}
use Rattle.aes_lanes.specs.Planes.{plane, lane, exchanged}
use Rattle.aes_lanes.proofs.LaneLemmas.{below_eight}
use Rattle.aes_lanes.proofs.ExchangeLemmas.{Swaps_2, first_of_pair, second_of_pair}
use Rattle.aes_lanes.proofs.planes.exchange_2.Goals as goal

reach : (i : ℕ) → i / 2 % 2 ≡ 1 → 2 ≤ i
reach i h = omega (arith, h)

pub returns : goal.returns
returns c = record {
  vectors = below_eight _ c.swap_bits-ac.ensures.vectors.0 c.swap_bits-bd.ensures.vectors.0 c.swap_bits-ac.ensures.vectors.1 c.swap_bits-bd.ensures.vectors.1 c.swap_bits-eg.ensures.vectors.0 c.swap_bits-fh.ensures.vectors.0 c.swap_bits-eg.ensures.vectors.1 c.swap_bits-fh.ensures.vectors.1;
  bits = λ p k i hp hk hi.
      let new : List (List ℕ) = plane c.swap_bits-ac.result 0 ∷ plane c.swap_bits-bd.result 0 ∷ plane c.swap_bits-ac.result 1 ∷ plane c.swap_bits-bd.result 1 ∷ plane c.swap_bits-eg.result 0 ∷ plane c.swap_bits-fh.result 0 ∷ plane c.swap_bits-eg.result 1 ∷ plane c.swap_bits-fh.result 1 ∷ [] in
      below_eight (λ k. bit_at (lane new k p) i ≡ bit_at (lane c.args.q.now (exchanged 2 k i) p) (exchanged 2 i k))
      (ap (λ n. bit_at n i) (c.swap_bits-ac.ensures.first p hp) ∙ first_of_pair 2 _ _ Swaps_2 reach (λ k. lane c.args.q.now k p) 0 2 i refl refl hi)
      (ap (λ n. bit_at n i) (c.swap_bits-bd.ensures.first p hp) ∙ first_of_pair 2 _ _ Swaps_2 reach (λ k. lane c.args.q.now k p) 1 3 i refl refl hi)
      (ap (λ n. bit_at n i) (c.swap_bits-ac.ensures.second p hp) ∙ second_of_pair 2 _ _ Swaps_2 reach (λ k. lane c.args.q.now k p) 2 0 i refl refl hi)
      (ap (λ n. bit_at n i) (c.swap_bits-bd.ensures.second p hp) ∙ second_of_pair 2 _ _ Swaps_2 reach (λ k. lane c.args.q.now k p) 3 1 i refl refl hi)
      (ap (λ n. bit_at n i) (c.swap_bits-eg.ensures.first p hp) ∙ first_of_pair 2 _ _ Swaps_2 reach (λ k. lane c.args.q.now k p) 4 6 i refl refl hi)
      (ap (λ n. bit_at n i) (c.swap_bits-fh.ensures.first p hp) ∙ first_of_pair 2 _ _ Swaps_2 reach (λ k. lane c.args.q.now k p) 5 7 i refl refl hi)
      (ap (λ n. bit_at n i) (c.swap_bits-eg.ensures.second p hp) ∙ second_of_pair 2 _ _ Swaps_2 reach (λ k. lane c.args.q.now k p) 6 4 i refl refl hi)
      (ap (λ n. bit_at n i) (c.swap_bits-fh.ensures.second p hp) ∙ second_of_pair 2 _ _ Swaps_2 reach (λ k. lane c.args.q.now k p) 7 5 i refl refl hi)
      k hk;
}
