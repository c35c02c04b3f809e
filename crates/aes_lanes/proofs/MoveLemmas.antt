-- Lanes that are moved: ShiftRows, and the rows that MixColumns sums.
use Rattle.std.proofs.Common.{◌≡◌, ℕ, ◌+◌, ◌-◌, ◌*◌, ◌/◌, ◌%◌, ◌<◌, true, List, nat_eq, bit_xor, refl, sym, ap, ◌∙◌, arith}
use Rattle.aes_block.specs.Field.{xtimes, product_low, product}
use Rattle.aes_block.specs.Rounds.{shift_rows, inv_shift_rows, mix_columns, mixed_byte, add_round_key}
use Rattle.aes_block.specs.State.{byte_at}
use Rattle.aes_block.proofs.lemmas.ByteLemmas.{all_below, same_below}
use Rattle.aes_block.proofs.lemmas.FieldLemmas.{xtimes-xor}
use Rattle.std.specs.Int.Bits.{xor_assoc}
use Rattle.aes_lanes.specs.Planes.{byte_of, lane_block, shifted, AreMoved, AreSums, lane_below, lane_shifted, lane_unshifted}
use Rattle.aes_lanes.specs.Keys.{AreOneBlock}
use Rattle.aes_lanes.proofs.ShiftLemmas.{below_four, lane_ahead, lane_ahead_lt, byte_at-ahead, ahead-is}
use Rattle.aes_lanes.proofs.PlaneLemmas.{byte_of_lt, byte_of-moved, byte_of-sums, lane_lt, byte_at-block_of, block_of-is}

-- ---- ShiftRows

pub block_of-shifted : (q r : List (List ℕ)) → AreMoved lane_shifted q r → (j : ℕ) → j < 16 → lane_block r j ≡ shift_rows (lane_block q j)
unfolding shift_rows
block_of-shifted q r moved j h =
    block_of-is r (λ r c. byte_at (lane_block q j) r ((c + r) % 4)) j (λ row c hr hc.
    let p = 16 * (j % 2) + (4 * c + row) in
    let column = (c + row) % 4 in
    let from : lane_shifted p ≡ 16 * (j % 2) + (4 * column + row) = omega arith in
    byte_of-moved q r p (lane_shifted p) (j / 2) (λ k hk. moved.lanes k p hk (lane_lt j row c hr hc))
    ∙ ap (λ n. byte_of q n (j / 2)) from
    ∙ sym (byte_at-block_of q j row column hr (omega arith)))

pub block_of-unshifted : (q r : List (List ℕ)) → AreMoved lane_unshifted q r → (j : ℕ) → j < 16 → lane_block r j ≡ inv_shift_rows (lane_block q j)
unfolding inv_shift_rows
block_of-unshifted q r moved j h =
    block_of-is r (λ r c. byte_at (lane_block q j) r ((c + 4 - r) % 4)) j (λ row c hr hc.
    let p = 16 * (j % 2) + (4 * c + row) in
    let column = (c + 4 - row) % 4 in
    let from : lane_unshifted p ≡ 16 * (j % 2) + (4 * column + row) = omega arith in
    byte_of-moved q r p (lane_unshifted p) (j / 2) (λ k hk. moved.lanes k p hk (lane_lt j row c hr hc))
    ∙ ap (λ n. byte_of q n (j / 2)) from
    ∙ sym (byte_at-block_of q j row column hr (omega arith)))

-- ---- MixColumns

times_2-computed : all_below 256 (λ a. nat_eq (xtimes a) (product a 2)) ≡ true
unfolding product product_low
times_2-computed = refl

times_3-computed : all_below 256 (λ b. nat_eq (bit_xor (xtimes b) b) (product b 3)) ≡ true
unfolding product product_low
times_3-computed = refl

-- twice the sum of two, and then the second, and the two others
pub mixed_byte-is : (a b c d : ℕ) → a < 256 → b < 256 → bit_xor (bit_xor (xtimes (bit_xor a b)) b) (bit_xor c d) ≡ mixed_byte a b c d
mixed_byte-is a b c d ha hb =
    let linear = xtimes-xor a b ha hb in
    let assoc = xor_assoc (xtimes a) (xtimes b) b in
    let two = same_below 256 xtimes (λ x. product x 2) times_2-computed a ha in
    let three = same_below 256 (λ x. bit_xor (xtimes x) x) (λ x. product x 3) times_3-computed b hb in
    ap (λ x. bit_xor (bit_xor x b) (bit_xor c d)) linear
    ∙ ap (λ x. bit_xor x (bit_xor c d)) (assoc ∙ ap (λ x. bit_xor (xtimes a) x) three ∙ ap (λ x. bit_xor x (product b 3)) two)

-- the byte n rows below, in a block that is s ShiftRows ahead
below-lane : (s n m j r c : ℕ) → r < 4 → n < 4 → m ≡ (r + n) % 4 → lane_below n s (lane_ahead s j r c) ≡ lane_ahead s j m c
below-lane s n m j r c hr hn row =
    below_four (λ n. m ≡ (r + n) % 4 → lane_below n s (lane_ahead s j r c) ≡ lane_ahead s j m c)
    (λ row. rw row (below_four (λ r. lane_below 0 s (lane_ahead s j r c) ≡ lane_ahead s j ((r + 0) % 4) c) (omega arith) (omega arith) (omega arith) (omega arith) r hr))
    (λ row. rw row (below_four (λ r. lane_below 1 s (lane_ahead s j r c) ≡ lane_ahead s j ((r + 1) % 4) c) (omega arith) (omega arith) (omega arith) (omega arith) r hr))
    (λ row. rw row (below_four (λ r. lane_below 2 s (lane_ahead s j r c) ≡ lane_ahead s j ((r + 2) % 4) c) (omega arith) (omega arith) (omega arith) (omega arith) r hr))
    (λ row. rw row (below_four (λ r. lane_below 3 s (lane_ahead s j r c) ≡ lane_ahead s j ((r + 3) % 4) c) (omega arith) (omega arith) (omega arith) (omega arith) r hr))
    n hn row

pub below-at : (q : List (List ℕ)) (s n m j r c : ℕ) → r < 4 → c < 4 → n < 4 → m ≡ (r + n) % 4 → byte_of q (lane_below n s (lane_ahead s j r c)) (j / 2) ≡ byte_at (shifted s (lane_block q j)) m c
below-at q s n m j r c hr hc hn row = ap (λ x. byte_of q x (j / 2)) (below-lane s n m j r c hr hn row) ∙ sym (byte_at-ahead q s j m c (omega (arith, row)) hc)

module _ (s : ℕ) (q next pairs doubled three others mixed : List (List ℕ)) (moved_1 : AreMoved (lane_below 1 s) q next) (paired : AreSums q next pairs)
    (twice : (p b : ℕ) → p < 32 → b < 8 → byte_of doubled p b ≡ xtimes (byte_of pairs p b)) (thrice : AreSums doubled next three)
    (moved_2 : AreMoved (lane_below 2 s) pairs others) (summed : AreSums three others mixed) where
  pub block_of-mixed : (j : ℕ) → j < 16 → shifted s (lane_block mixed j) ≡ mix_columns (shifted s (lane_block q j))
  unfolding mix_columns
  block_of-mixed j h =
      let x = shifted s (lane_block q j) in
      ahead-is mixed (λ r c. mixed_byte (byte_at x r c) (byte_at x ((r + 1) % 4) c) (byte_at x ((r + 2) % 4) c) (byte_at x ((r + 3) % 4) c)) s j (λ r c hr hc.
      let p = lane_ahead s j r c in
      let b = j / 2 in
      let p2 = lane_below 2 s p in
      let hp : p < 32 = lane_ahead_lt s j r c hr in
      let two = below-lane s 2 ((r + 2) % 4) j r c hr (omega arith) refl in
      let hp2 : p2 < 32 = rw two (lane_ahead_lt s j ((r + 2) % 4) c (omega arith)) in
      let e0 = sym (byte_at-ahead q s j r c hr hc) in
      let e1 = byte_of-moved q next p (lane_below 1 s p) b (λ k hk. moved_1.lanes k p hk hp) ∙ below-at q s 1 ((r + 1) % 4) j r c hr hc (omega arith) refl in
      let e2 = below-at q s 2 ((r + 2) % 4) j r c hr hc (omega arith) refl in
      let third : (r + 3) % 4 ≡ ((r + 2) % 4 + 1) % 4 = omega arith in
      let e3 = byte_of-moved q next p2 (lane_below 1 s p2) b (λ k hk. moved_1.lanes k p2 hk hp2) ∙ ap (λ l. byte_of q (lane_below 1 s l) b) two ∙ below-at q s 1 ((r + 3) % 4) j ((r + 2) % 4) c (omega arith) hc (omega arith) third in
      let s1 = byte_of-sums three others mixed p b hp summed in
      let s2 = byte_of-sums doubled next three p b hp thrice in
      let s3 = twice p b hp (omega arith) in
      let s4 = byte_of-sums q next pairs p b hp paired in
      let s5 = byte_of-moved pairs others p p2 b (λ k hk. moved_2.lanes k p hk hp) in
      let s6 = byte_of-sums q next pairs p2 b hp2 paired in
      let whole = mixed_byte-is (byte_of q p b) (byte_of next p b) (byte_of q p2 b) (byte_of next p2 b) (byte_of_lt q p b) (byte_of_lt next p b) in
      s1 ∙ ap (λ x. bit_xor x (byte_of others p b)) (s2 ∙ ap (λ x. bit_xor x (byte_of next p b)) (s3 ∙ ap xtimes s4))
      ∙ ap (λ x. bit_xor (bit_xor (xtimes (bit_xor (byte_of q p b) (byte_of next p b))) (byte_of next p b)) x) (s5 ∙ s6)
      ∙ whole
      ∙ cc (e0, e1, e2, e3))

-- ---- AddRoundKey

pub block_of-added : (q key r : List (List ℕ)) (s : ℕ) (k : List ℕ) → AreSums q key r → AreOneBlock s k key → (j : ℕ) → j < 16 → shifted s (lane_block r j) ≡ add_round_key (shifted s (lane_block q j)) k
unfolding add_round_key
block_of-added q key r s k sums copies j h =
    ahead-is r (λ r c. bit_xor (byte_at (shifted s (lane_block q j)) r c) (byte_at k r c)) s j (λ row c hr hc.
    let p = lane_ahead s j row c in
    byte_of-sums q key r p (j / 2) (lane_ahead_lt s j row c hr) sums
    ∙ ap (λ x. bit_xor x (byte_of key p (j / 2))) (sym (byte_at-ahead q s j row c hr hc))
    ∙ ap (bit_xor (byte_at (shifted s (lane_block q j)) row c)) (sym (byte_at-ahead key s j row c hr hc) ∙ ap (λ b. byte_at b row c) (copies.blocks j h)))
