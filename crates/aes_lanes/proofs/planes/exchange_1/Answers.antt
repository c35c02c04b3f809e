use Rattle.std.proofs.Common.{◌≡◌, ℕ, ◌/◌, ◌%◌, ◌≤◌, List, [], ◌∷◌, refl, ap, ◌∙◌, arith}
use Rattle.std.specs.Int.{bit_at}
use Rattle.aes_lanes.specs.Planes.{plane, lane, exchanged}
use Rattle.aes_lanes.proofs.LaneLemmas.{below_eight}
use Rattle.aes_lanes.proofs.ExchangeLemmas.{Swaps_1, first_of_pair, second_of_pair}
use Rattle.aes_lanes.proofs.planes.exchange_1.Goals as goal

reach : (i : ℕ) → i / 1 % 2 ≡ 1 → 1 ≤ i
reach i h = omega (arith, h)

pub returns : goal.returns
returns c = record {
  vectors = below_eight _ c.swap_bits-ab.ensures.vectors.0 c.swap_bits-ab.ensures.vectors.1 c.swap_bits-cd.ensures.vectors.0 c.swap_bits-cd.ensures.vectors.1 c.swap_bits-ef.ensures.vectors.0 c.swap_bits-ef.ensures.vectors.1 c.swap_bits-gh.ensures.vectors.0 c.swap_bits-gh.ensures.vectors.1;
  bits = λ p k i hp hk hi.
      let new : List (List ℕ) = plane c.swap_bits-ab.result 0 ∷ plane c.swap_bits-ab.result 1 ∷ plane c.swap_bits-cd.result 0 ∷ plane c.swap_bits-cd.result 1 ∷ plane c.swap_bits-ef.result 0 ∷ plane c.swap_bits-ef.result 1 ∷ plane c.swap_bits-gh.result 0 ∷ plane c.swap_bits-gh.result 1 ∷ [] in
      below_eight (λ k. bit_at (lane new k p) i ≡ bit_at (lane c.args.q.now (exchanged 1 k i) p) (exchanged 1 i k))
      (ap (λ n. bit_at n i) (c.swap_bits-ab.ensures.first p hp) ∙ first_of_pair 1 _ _ Swaps_1 reach (λ k. lane c.args.q.now k p) 0 1 i refl refl hi)
      (ap (λ n. bit_at n i) (c.swap_bits-ab.ensures.second p hp) ∙ second_of_pair 1 _ _ Swaps_1 reach (λ k. lane c.args.q.now k p) 1 0 i refl refl hi)
      (ap (λ n. bit_at n i) (c.swap_bits-cd.ensures.first p hp) ∙ first_of_pair 1 _ _ Swaps_1 reach (λ k. lane c.args.q.now k p) 2 3 i refl refl hi)
      (ap (λ n. bit_at n i) (c.swap_bits-cd.ensures.second p hp) ∙ second_of_pair 1 _ _ Swaps_1 reach (λ k. lane c.args.q.now k p) 3 2 i refl refl hi)
      (ap (λ n. bit_at n i) (c.swap_bits-ef.ensures.first p hp) ∙ first_of_pair 1 _ _ Swaps_1 reach (λ k. lane c.args.q.now k p) 4 5 i refl refl hi)
      (ap (λ n. bit_at n i) (c.swap_bits-ef.ensures.second p hp) ∙ second_of_pair 1 _ _ Swaps_1 reach (λ k. lane c.args.q.now k p) 5 4 i refl refl hi)
      (ap (λ n. bit_at n i) (c.swap_bits-gh.ensures.first p hp) ∙ first_of_pair 1 _ _ Swaps_1 reach (λ k. lane c.args.q.now k p) 6 7 i refl refl hi)
      (ap (λ n. bit_at n i) (c.swap_bits-gh.ensures.second p hp) ∙ second_of_pair 1 _ _ Swaps_1 reach (λ k. lane c.args.q.now k p) 7 6 i refl refl hi)
      k hk;
}
