-- InvMixColumns by MixColumns of sums.
use Rattle.std.proofs.Common.{◌≡◌, ℕ, ◌+◌, ◌/◌, ◌%◌, ◌<◌, true, List, nat_eq, bit_xor, refl, sym, ap, ◌∙◌, arith}
use Rattle.std.specs.Int.Bits.{xor_zero_l, xor_zero_r}
use Rattle.aes_block.specs.Field.{xtimes, product_low, product}
use Rattle.aes_block.specs.Rounds.{mix_columns, inv_mix_columns, unmixed_byte}
use Rattle.aes_block.specs.State.{byte_at}
use Rattle.aes_block.proofs.lemmas.ByteLemmas.{all_below, same_below}
use Rattle.aes_block.proofs.lemmas.ColumnLemmas.{combined, combined-xor, mixed_is}
use Rattle.aes_block.proofs.lemmas.FieldLemmas.{xtimes-xor, xtimes_lt, xor_swap, xor_byte}
use Rattle.aes_block.proofs.lemmas.StateLemmas.{state_of-same}
use Rattle.aes_lanes.specs.Planes.{byte_of, lane_block, shifted, AreMoved, AreSums, lane_below}
use Rattle.aes_lanes.proofs.PlaneLemmas.{byte_of-moved, byte_of-sums}
use Rattle.aes_lanes.proofs.ShiftLemmas.{lane_ahead, lane_ahead_lt, ahead_lt, byte_at-ahead}
use Rattle.aes_lanes.proofs.MoveLemmas.{below-at}

-- four times a sum
unfoldable fourfold : ℕ → ℕ → ℕ
fourfold a c = xtimes (xtimes (bit_xor a c))

-- a byte to which four times its sum with another is added
unfoldable prepared : ℕ → ℕ → ℕ
prepared a c = bit_xor a (fourfold a c)

fourfold_lt : (a c : ℕ) → a < 256 → c < 256 → fourfold a c < 256
unfolding fourfold
fourfold_lt a c ha hc = xtimes_lt (xtimes (bit_xor a c)) (xtimes_lt (bit_xor a c) (xor_byte a c ha hc))

prepared_lt : (a c : ℕ) → a < 256 → c < 256 → prepared a c < 256
unfolding prepared
prepared_lt a c ha hc = xor_byte a (fourfold a c) ha (fourfold_lt a c ha hc)

fourfold-xor : (a c a' c' : ℕ) → a < 256 → c < 256 → a' < 256 → c' < 256 → fourfold (bit_xor a a') (bit_xor c c') ≡ bit_xor (fourfold a c) (fourfold a' c')
unfolding fourfold
fourfold-xor a c a' c' ha hc ha' hc' =
    let s = bit_xor a c in
    let s' = bit_xor a' c' in
    let hs = xor_byte a c ha hc in
    let hs' = xor_byte a' c' ha' hc' in
    ap (λ x. xtimes (xtimes x)) (xor_swap a a' c c') ∙ ap xtimes (xtimes-xor s s' hs hs') ∙ xtimes-xor (xtimes s) (xtimes s') (xtimes_lt s hs) (xtimes_lt s' hs')

prepared-xor : (a c a' c' : ℕ) → a < 256 → c < 256 → a' < 256 → c' < 256 → prepared (bit_xor a a') (bit_xor c c') ≡ bit_xor (prepared a c) (prepared a' c')
unfolding prepared
prepared-xor a c a' c' ha hc ha' hc' = ap (bit_xor (bit_xor a a')) (fourfold-xor a c a' c' ha hc ha' hc') ∙ xor_swap a a' (fourfold a c) (fourfold a' c')

-- the column's byte after both steps
unfoldable unmixed : ℕ → ℕ → ℕ → ℕ → ℕ
unmixed a b c d = combined 2 3 1 1 (prepared a c) (prepared b d) (prepared c a) (prepared d b)

unmixed-xor : (a b c d a' b' c' d' : ℕ) → a < 256 → b < 256 → c < 256 → d < 256 → a' < 256 → b' < 256 → c' < 256 → d' < 256
    → unmixed (bit_xor a a') (bit_xor b b') (bit_xor c c') (bit_xor d d') ≡ bit_xor (unmixed a b c d) (unmixed a' b' c' d')
unfolding unmixed
unmixed-xor a b c d a' b' c' d' ha hb hc hd ha' hb' hc' hd' =
    let e1 = prepared-xor a c a' c' ha hc ha' hc' in
    let e2 = prepared-xor b d b' d' hb hd hb' hd' in
    let e3 = prepared-xor c a c' a' hc ha hc' ha' in
    let e4 = prepared-xor d b d' b' hd hb hd' hb' in
    let e5 = combined-xor 2 3 1 1 (prepared a c) (prepared b d) (prepared c a) (prepared d b) (prepared a' c') (prepared b' d') (prepared c' a') (prepared d' b')
    (prepared_lt a c ha hc) (prepared_lt b d hb hd) (prepared_lt c a hc ha) (prepared_lt d b hd hb) (prepared_lt a' c' ha' hc') (prepared_lt b' d' hb' hd') (prepared_lt c' a' hc' ha') (prepared_lt d' b' hd' hb') in
    cc (e1, e2, e3, e4, e5)

first-computed : all_below 256 (λ x. nat_eq (unmixed x 0 0 0) (product x 14)) ≡ true
unfolding unmixed prepared fourfold combined product product_low
first-computed = refl

second-computed : all_below 256 (λ x. nat_eq (unmixed 0 x 0 0) (product x 11)) ≡ true
unfolding unmixed prepared fourfold combined product product_low
second-computed = refl

third-computed : all_below 256 (λ x. nat_eq (unmixed 0 0 x 0) (product x 13)) ≡ true
unfolding unmixed prepared fourfold combined product product_low
third-computed = refl

fourth-computed : all_below 256 (λ x. nat_eq (unmixed 0 0 0 x) (product x 9)) ≡ true
unfolding unmixed prepared fourfold combined product product_low
fourth-computed = refl

unmixed-is : (a b c d : ℕ) → a < 256 → b < 256 → c < 256 → d < 256 → unmixed a b c d ≡ unmixed_byte a b c d
unmixed-is a b c d ha hb hc hd =
    let z : 0 < 256 = omega arith in
    let f1 = same_below 256 (λ x. unmixed x 0 0 0) (λ x. product x 14) first-computed a ha in
    let f2 = same_below 256 (λ x. unmixed 0 x 0 0) (λ x. product x 11) second-computed b hb in
    let f3 = same_below 256 (λ x. unmixed 0 0 x 0) (λ x. product x 13) third-computed c hc in
    let f4 = same_below 256 (λ x. unmixed 0 0 0 x) (λ x. product x 9) fourth-computed d hd in
    let s1 = unmixed-xor a 0 0 0 0 b 0 0 ha z z z z hb z z in
    let s2 = unmixed-xor 0 0 c 0 0 0 0 d z z hc z z z z hd in
    let s3 = unmixed-xor a b 0 0 0 0 c d ha hb z z z z hc hd in
    let ra = xor_zero_r a in
    let rb = xor_zero_r b in
    let rc = xor_zero_r c in
    let lb = xor_zero_l b in
    let lc = xor_zero_l c in
    let ld = xor_zero_l d in
    let zz : bit_xor 0 0 ≡ 0 = refl in
    cc (f1, f2, f3, f4, s1, s2, s3, ra, rb, rc, lb, lc, ld, zz)

unmixed-same : (w x y z a b c d : ℕ) → w ≡ prepared a c → x ≡ prepared b d → y ≡ prepared c a → z ≡ prepared d b → combined 2 3 1 1 w x y z ≡ unmixed a b c d
unfolding unmixed
unmixed-same w x y z a b c d e0 e1 e2 e3 = cc (e0, e1, e2, e3)

module _ (s : ℕ) (q others pairs twice four sums mixed : List (List ℕ)) (moved : AreMoved (lane_below 2 s) q others) (paired : AreSums q others pairs)
    (doubled : (p b : ℕ) → p < 32 → b < 8 → byte_of twice p b ≡ xtimes (byte_of pairs p b)) (again : (p b : ℕ) → p < 32 → b < 8 → byte_of four p b ≡ xtimes (byte_of twice p b))
    (summed : AreSums q four sums) (columns : (j : ℕ) → j < 16 → shifted s (lane_block mixed j) ≡ mix_columns (shifted s (lane_block sums j))) where
  -- a byte after the first step, where the one two rows below is in row m
  prepared-at : (j r m c : ℕ) → j < 16 → r < 4 → c < 4 → m ≡ (r + 2) % 4 → byte_at (shifted s (lane_block sums j)) r c ≡ prepared (byte_at (shifted s (lane_block q j)) r c) (byte_at (shifted s (lane_block q j)) m c)
  unfolding prepared fourfold
  prepared-at j r m c h hr hc row =
      let p = lane_ahead s j r c in
      let b = j / 2 in
      let hp = lane_ahead_lt s j r c hr in
      let hb : b < 8 = omega arith in
      let here = sym (byte_at-ahead q s j r c hr hc) in
      let there = byte_of-moved q others p (lane_below 2 s p) b (λ k hk. moved.lanes k p hk hp) ∙ below-at q s 2 m j r c hr hc (omega arith) row in
      let pair = byte_of-sums q others pairs p b hp paired in
      byte_at-ahead sums s j r c hr hc
      ∙ byte_of-sums q four sums p b hp summed
      ∙ ap (bit_xor (byte_of q p b)) (again p b hp hb ∙ ap xtimes (doubled p b hp hb ∙ ap xtimes pair))
      ∙ cc (here, there)

  pub block_of-unmixed : (j : ℕ) → j < 16 → shifted s (lane_block mixed j) ≡ inv_mix_columns (shifted s (lane_block q j))
  unfolding mix_columns inv_mix_columns
  block_of-unmixed j h =
      let x = shifted s (lane_block sums j) in
      let t = shifted s (lane_block q j) in
      columns j h
      ∙ state_of-same _ _ (λ r c hr hc.
      let r1 = (r + 1) % 4 in
      let r2 = (r + 2) % 4 in
      let r3 = (r + 3) % 4 in
      let h0 = ahead_lt q s j r c hr hc in
      let h1 = ahead_lt q s j r1 c (omega arith) hc in
      let h2 = ahead_lt q s j r2 c (omega arith) hc in
      let h3 = ahead_lt q s j r3 c (omega arith) hc in
      let e0 = prepared-at j r r2 c h hr hc refl in
      let e1 = prepared-at j r1 r3 c h (omega arith) hc (omega arith) in
      let e2 = prepared-at j r2 r c h (omega arith) hc (omega arith) in
      let e3 = prepared-at j r3 r1 c h (omega arith) hc (omega arith) in
      let m = mixed_is (byte_at x r c) (byte_at x r1 c) (byte_at x r2 c) (byte_at x r3 c) (ahead_lt sums s j r2 c (omega arith) hc) (ahead_lt sums s j r3 c (omega arith) hc) in
      m ∙ unmixed-same (byte_at x r c) (byte_at x r1 c) (byte_at x r2 c) (byte_at x r3 c) (byte_at t r c) (byte_at t r1 c) (byte_at t r2 c) (byte_at t r3 c) e0 e1 e2 e3 ∙ unmixed-is (byte_at t r c) (byte_at t r1 c) (byte_at t r2 c) (byte_at t r3 c) h0 h1 h2 h3)
