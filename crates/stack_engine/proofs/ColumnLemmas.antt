-- Sums of several lost blocks, one after another, to which a block is added for each in turn.
use Rattle.std.proofs.Common.{◌≡◌, ◌≤◌, ◌<◌, ◌+◌, ◌-◌, ◌*◌, ◌/◌, ◌%◌, ℕ, List, ◌++◌, get_or, length, take, drop, inl, inr, sym, ap, ◌∙◌, arith, bit_xor}
use Rattle.std.specs.Prelude.{slice_index}
use Rattle.std.proofs.lemmas.Bool.{cases_lt}
use Rattle.std.proofs.lemmas.List.{get_or-append_right, get_or-drop, get_or-take, length-append, length-drop, length-take}
use Rattle.std.proofs.lemmas.List.FromFn.{get_or-map-range_with_len, length-map-range_with_len}
use Rattle.std.proofs.lemmas.Nat.{div-mul-add, mod-mul-add}
use Rattle.std.proofs.lemmas.Slice.{drop-put_mid, take-put_mid, take-put_mid_below}
use Rattle.std.proofs.Math.ListN.{get_or-map}
use borrow.Rule.Slice.PartMut.{put_mid}
use Rattle.reed_solomon.specs.Factors.{erasure_factor}
use Rattle.reed_solomon.specs.Field.{field_product}
use Rattle.reed_solomon.specs.Sums.{part_combination}
use Rattle.reed_solomon.proofs.lemmas.ErasureLemmas.{none-product}
use Rattle.reed_solomon.proofs.lemmas.SumLemmas.{total-alike}
use Rattle.stack_meaning.specs.Erasures.{scaled_block, with_scaled_parity}
use Rattle.stack_meaning.specs.Spares.{added_block}
use Rattle.stack_engine.proofs.SumLemmas.{added-is, added_each}

-- what is added to the sum at index m
abbrev pub column_addend : List ℕ → ℕ → List ℕ → ℕ → ℕ
column_addend places place block m = field_product (erasure_factor places (slice_index places (m / length block)) place) (slice_index block (m % length block))

-- the sums before index n have their addends, and the others are as they were
pub record AreAddedUpTo (addend : ℕ → ℕ) (old new : List ℕ) (n : ℕ) : Type 0 where
  pub size : length new ≡ length old
  pub added : (m : ℕ) → m < n → m < length old → slice_index new m ≡ bit_xor (slice_index old m) (addend m)
  pub same : (m : ℕ) → n ≤ m → slice_index new m ≡ slice_index old m

pub added-all : (addend : ℕ → ℕ) (old new : List ℕ) (n : ℕ) → length old ≤ n → AreAddedUpTo addend old new n → new ≡ added_each addend old
added-all addend old new n whole known = added-is addend old new known.size (λ c lt. known.added c (omega (arith, lt, whole, known.size)) (omega (arith, lt, known.size)))

-- ---- one part after another

module _ (xs ys : List ℕ) (a k : ℕ) (fits : a + k ≤ length xs) (len : length ys ≡ k) where
  put-before : (m : ℕ) → m < a → slice_index (put_mid a k xs ys) m ≡ slice_index xs m
  put-before m low =
      sym (get_or-take a (put_mid a k xs ys) m 0 low)
      ∙ ap (λ zs. slice_index zs m) (take-put_mid_below a k xs ys a (omega arith) (omega (arith, fits)))
      ∙ get_or-take a xs m 0 low

  put-within : (m : ℕ) → a ≤ m → m < a + k → slice_index (put_mid a k xs ys) m ≡ slice_index ys (m - a)
  put-within m from low =
      let front : length (take a xs) ≡ a = omega (arith, fits, length-take a xs) in
      sym (get_or-take (a + k) (put_mid a k xs ys) m 0 low)
      ∙ ap (λ zs. slice_index zs m) (take-put_mid a k xs ys (a + k) (omega (arith, len)) (omega (arith, fits)))
      ∙ get_or-append_right (take a xs) ys a m 0 front from

  put-after : (m : ℕ) → a + k ≤ m → slice_index (put_mid a k xs ys) m ≡ slice_index xs m
  put-after m from =
      let at : a + k + (m - (a + k)) ≡ m = omega (arith, from) in
      ap (λ j. slice_index (put_mid a k xs ys) j) (sym at)
      ∙ sym (get_or-drop (a + k) (put_mid a k xs ys) (m - (a + k)) 0)
      ∙ ap (λ zs. slice_index zs (m - (a + k))) (drop-put_mid a k xs ys (a + k) (omega arith) (omega (arith, fits)) len)
      ∙ get_or-drop (a + k) xs (m - (a + k)) 0
      ∙ ap (λ j. slice_index xs j) at

  put-length : length (put_mid a k xs ys) ≡ length xs
  put-length =
      omega (arith, fits, len, length-append (take a xs) (ys ++ drop k (drop a xs)), length-append ys (drop k (drop a xs)), length-take a xs, length-drop k (drop a xs), length-drop a xs)

-- after the part of one lost block
pub added-more : (places : List ℕ) (place : ℕ) (block old now ys : List ℕ) (j from k : ℕ) → from ≡ j * length block → k ≡ length block → from + length block ≤ length now
    → ys ≡ added_block (take k (drop from now)) (scaled_block (erasure_factor places (slice_index places j) place) block)
    → AreAddedUpTo (column_addend places place block) old now from → AreAddedUpTo (column_addend places place block) old (put_mid from k now ys) ((j + 1) * length block)
added-more places place block old now ys j from k at wide fits is known =
    let size : ℕ = length block in
    let f : ℕ = erasure_factor places (slice_index places j) place in
    let mid : List ℕ = take k (drop from now) in
    let mid_length : length mid ≡ k = omega (arith, wide, fits, length-take k (drop from now), length-drop from now) in
    let long : length ys ≡ k = ap length is ∙ length-map-range_with_len (λ c. bit_xor (slice_index mid c) (slice_index (scaled_block f block) c)) 0 (length mid) ∙ mid_length in
    let room : from + k ≤ length now = omega (arith, wide, fits) in
    let next : (j + 1) * size ≡ from + k = omega (arith, at, wide) in
    record {
      size = put-length now ys from k room long ∙ known.size;
      added = λ m below inside. elim (cases_lt m from) [
        | inl before ↦ put-before now ys from k room long m before ∙ known.added m before inside
        | inr after ↦
            let r : ℕ = m - from in
            let small : r < size = omega (arith, after, below, next, wide) in
            let whole : j * size + r ≡ m = omega (arith, after, at) in
            let quotient : m / size ≡ j = ap (λ x. x / size) (sym whole) ∙ div-mul-add j size r small in
            let rest : m % size ≡ r = ap (λ x. x % size) (sym whole) ∙ mod-mul-add j size r small in
            let byte : slice_index (added_block mid (scaled_block f block)) r ≡ bit_xor (slice_index mid r) (slice_index (scaled_block f block) r)
            = get_or-map-range_with_len (λ c. bit_xor (slice_index mid c) (slice_index (scaled_block f block) c)) 0 (length mid) r r 0 (omega (arith, small, wide, mid_length)) (omega arith) in
            let was : slice_index mid r ≡ slice_index old m
            = get_or-take k (drop from now) r 0 (omega (arith, small, wide)) ∙ get_or-drop from now r 0 ∙ ap (λ x. slice_index now x) (there m after) ∙ known.same m after in
            let product : slice_index (scaled_block f block) r ≡ field_product f (slice_index block r)
            = ap (λ d. get_or (scaled_block f block) r d) (sym (none-product f)) ∙ get_or-map (field_product f) block r 0 in
            let addend : field_product f (slice_index block r) ≡ column_addend places place block m
            = sym (ap (λ q. field_product (erasure_factor places (slice_index places q) place) (slice_index block (m % size))) quotient ∙ ap (λ x. field_product f (slice_index block x)) rest) in
            put-within now ys from k room long m after (omega (arith, below, next))
            ∙ ap (λ zs. slice_index zs r) is ∙ byte
            ∙ ap (λ x. bit_xor x (slice_index (scaled_block f block) r)) was
            ∙ ap (λ x. bit_xor (slice_index old m) x) (product ∙ addend)
      ];
      same = λ m above. put-after now ys from k room long m (omega (arith, above, next)) ∙ known.same m (omega (arith, above, next));
    }
  where
    there : (m : ℕ) → from ≤ m → from + (m - from) ≡ m
    there m after = omega (arith, after)

-- ---- the parity, which is added to the sums of each lost block in turn

abbrev pub parity_addend : List ℕ → ℕ → ℕ → List ℕ → ℕ → ℕ
parity_addend places roots size parity m = part_combination (λ k. erasure_factor places (slice_index places (m / size)) (255 - roots + k)) roots parity (m % size)

pub parity-more : (places : List ℕ) (roots size : ℕ) (parity ends old now ys : List ℕ) (j from k : ℕ) → from ≡ j * size → k ≡ size → from + size ≤ length now → length ends ≡ roots
    → ((e : ℕ) → e < roots → slice_index ends e ≡ erasure_factor places (slice_index places j) (255 - roots + e))
    → ys ≡ with_scaled_parity (slice_index ends) (length ends) (take k (drop from now)) parity
    → AreAddedUpTo (parity_addend places roots size parity) old now from → AreAddedUpTo (parity_addend places roots size parity) old (put_mid from k now ys) ((j + 1) * size)
parity-more places roots size parity ends old now ys j from k at wide fits count each is known =
    let mid : List ℕ = take k (drop from now) in
    let mid_length : length mid ≡ k = omega (arith, wide, fits, length-take k (drop from now), length-drop from now) in
    let long : length ys ≡ k = ap length is ∙ length-map-range_with_len (λ c. bit_xor (slice_index mid c) (part_combination (slice_index ends) (length ends) parity c)) 0 (length mid) ∙ mid_length in
    let room : from + k ≤ length now = omega (arith, wide, fits) in
    let next : (j + 1) * size ≡ from + k = omega (arith, at, wide) in
    record {
      size = put-length now ys from k room long ∙ known.size;
      added = λ m below inside. elim (cases_lt m from) [
        | inl before ↦ put-before now ys from k room long m before ∙ known.added m before inside
        | inr after ↦
            let r : ℕ = m - from in
            let small : r < size = omega (arith, after, below, next, wide) in
            let whole : j * size + r ≡ m = omega (arith, after, at) in
            let quotient : m / size ≡ j = ap (λ x. x / size) (sym whole) ∙ div-mul-add j size r small in
            let rest : m % size ≡ r = ap (λ x. x % size) (sym whole) ∙ mod-mul-add j size r small in
            let byte : slice_index (with_scaled_parity (slice_index ends) (length ends) mid parity) r ≡ bit_xor (slice_index mid r) (part_combination (slice_index ends) (length ends) parity r)
            = get_or-map-range_with_len (λ c. bit_xor (slice_index mid c) (part_combination (slice_index ends) (length ends) parity c)) 0 (length mid) r r 0 (omega (arith, small, wide, mid_length)) (omega arith) in
            let was : slice_index mid r ≡ slice_index old m
            = get_or-take k (drop from now) r 0 (omega (arith, small, wide)) ∙ get_or-drop from now r 0 ∙ ap (λ x. slice_index now x) (there m after) ∙ known.same m after in
            let factors : part_combination (slice_index ends) (length ends) parity r ≡ part_combination (λ e. erasure_factor places (slice_index places j) (255 - roots + e)) roots parity r
            = ap (λ n. part_combination (slice_index ends) n parity r) count
            ∙ alike (slice_index ends) (λ e. erasure_factor places (slice_index places j) (255 - roots + e)) roots parity r each in
            let addend : part_combination (λ e. erasure_factor places (slice_index places j) (255 - roots + e)) roots parity r ≡ parity_addend places roots size parity m
            = sym (ap (λ q. part_combination (λ e. erasure_factor places (slice_index places q) (255 - roots + e)) roots parity (m % size)) quotient ∙ ap (λ x. part_combination (λ e. erasure_factor places (slice_index places j) (255 - roots + e)) roots parity x) rest) in
            put-within now ys from k room long m after (omega (arith, below, next))
            ∙ ap (λ zs. slice_index zs r) is ∙ byte
            ∙ ap (λ x. bit_xor x (part_combination (slice_index ends) (length ends) parity r)) was
            ∙ ap (λ x. bit_xor (slice_index old m) x) (factors ∙ addend)
      ];
      same = λ m above. put-after now ys from k room long m (omega (arith, above, next)) ∙ known.same m (omega (arith, above, next));
    }
  where
    there : (m : ℕ) → from ≤ m → from + (m - from) ≡ m
    there m after = omega (arith, after)

    alike : (f g : ℕ → ℕ) (n : ℕ) (bytes : List ℕ) (c : ℕ) → ((e : ℕ) → e < n → f e ≡ g e) → part_combination f n bytes c ≡ part_combination g n bytes c
    alike f g n bytes c same = total-alike (λ e. field_product (f e) (slice_index bytes (c * n + e))) (λ e. field_product (g e) (slice_index bytes (c * n + e))) n (λ e h. ap (λ x. field_product x (slice_index bytes (c * n + e))) (same e h))
