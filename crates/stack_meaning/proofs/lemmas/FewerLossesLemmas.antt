-- Blocks that the code restored stay the same if fewer of them are lost.
use Rattle.std.proofs.Common.{◌≡◌, ℕ, get_or, zero, suc, ◌+◌, ◌-◌, ◌*◌, ◌/◌, ◌<◌, ◌≤◌, Bool, true, false, cond, nat_lt, List, [], length, map, Ok, Err, inl, inr, refl, sym, ap, ◌∙◌, arith, bit_xor, subst}
use Rattle.std.specs.Prelude.{slice_index, EachIndex}
use Rattle.std.specs.List.{range_with_len}
use Rattle.std.proofs.lemmas.Bool.{cases_lt, le-ltb, lt-ltb}
use Rattle.std.proofs.lemmas.List.{ext_get_or}
use Rattle.std.proofs.Math.ListN.{get_or-map}
use Rattle.std.proofs.lemmas.List.FromFn.{get_or-map-range_with_len, length-map-range_with_len}
use Rattle.std.proofs.lemmas.Nat.{div-mul-add, mod-mul-add}
use Rattle.reed_solomon.specs.Factors.{erasure_factor}
use Rattle.reed_solomon.specs.Field.{field_product, total}
use Rattle.reed_solomon.specs.Laws.{AreDistinct, selected}
use Rattle.reed_solomon.specs.Sums.{part_combination}
use Rattle.reed_solomon.proofs.lemmas.ErasureLemmas.{lost-product, none-product}
use Rattle.reed_solomon.proofs.lemmas.FewerErasuresLemmas.{fewer-restored, selected-at, selected-in}
use Rattle.reed_solomon.proofs.lemmas.SumLemmas.{total-alike, total-parts}
use Rattle.dm_table.specs.declared.parity.Parity.{Parity}
use Rattle.dm_table.specs.declared.verity.Verity.{Verity}
use Rattle.stack_rules.specs.Trees.{round_count, zero_block}
use Rattle.stack_meaning.specs.Outcomes.{Outcome, changed_outcome, then_outcome}
use Rattle.stack_meaning.specs.Spares.{BlockSources, added_block, covered_block, place_number, round_parity, summed_blocks}
use Rattle.stack_meaning.specs.Erasures.{FewerLossesRestoreTheSame, decoded_block, is_among, kept_block, scaled_block, with_scaled_parity}
use Rattle.stack_meaning.proofs.lemmas.CheckedLemmas.{then-parts}
use Rattle.stack_meaning.proofs.lemmas.DecodedLemmas.{among-index, either, index-among}
use Rattle.stack_meaning.proofs.lemmas.SpareLemmas.{summed, zero-byte, zero-length}

-- ---- parts of outcomes

-- the bytes of an outcome, if it has some
bytes_of : Outcome → List ℕ
bytes_of (Ok bytes) = bytes
bytes_of (Err fault) = []

bytes-are : (o : Outcome) (f : List ℕ → List ℕ) (x : List ℕ) → changed_outcome f o ≡ Ok x → o ≡ Ok (bytes_of o)
unfolding bytes_of
bytes-are (Ok bytes) f x e = refl
bytes-are (Err fault) f x e = cc

ok-same : (o : Outcome) (x y : List ℕ) → o ≡ Ok x → o ≡ Ok y → x ≡ y
ok-same o x y one two = let same : Ok x ≡ Ok y = sym one ∙ two in cc

-- each of the blocks that were summed is readable
summed-parts : (first : List ℕ) (at : ℕ → Outcome) (m : ℕ) (sums : List ℕ) → summed_blocks first at m ≡ Ok sums → (i : ℕ) → i < m → (x : List ℕ) × (at i ≡ Ok x)
unfolding summed_blocks
summed-parts first at zero sums e i low = absurd (omega (arith, low))
summed-parts first at (suc m) sums e i low =
    let before = then-parts (summed_blocks first at m) (λ old. then_outcome (at m) (λ block. Ok (added_block old block))) sums e in
    let here = then-parts (at m) (λ block. Ok (added_block before.0 block)) sums before.2 in
    elim (cases_lt i m) [
      | inl less ↦ summed-parts first at m before.0 before.1 i less
      | inr last ↦
          let is : m ≡ i = omega (arith, low, last) in
          (here.0, ap at (sym is) ∙ here.1)
    ]

scaled-at : (f : ℕ) (block : List ℕ) (c : ℕ) → slice_index (scaled_block f block) c ≡ field_product f (slice_index block c)
scaled-at f block c =
    ap (λ d. get_or (scaled_block f block) c d) (sym (none-product f)) ∙ get_or-map (field_product f) block c 0

clash : {P : Type 0} → true ≡ false → P
clash e = absurd cc

module _ (v : Verity) (p : Parity) (few : p.roots ≤ 24) (below : BlockSources) (n : ℕ) (low_round : n < round_count p) where
  abbrev m : ℕ
  m = 255 - p.roots

  abbrev code_at : ℕ → ℕ → List ℕ → Outcome
  code_at a b lost =
      then_outcome (summed_blocks (zero_block v) (λ i. changed_outcome (scaled_block (erasure_factor lost b i)) (kept_block v p below a lost i)) m)
      (λ sums. then_outcome (round_parity v p below a) (λ parity. Ok (with_scaled_parity (λ k. erasure_factor lost b (m + k)) p.roots sums parity)))

  decoded-at : (lost : List ℕ) (i : ℕ) → decoded_block v p below (place_number p n i) lost ≡ code_at n i lost
  decoded-at lost i =
      ap (λ a. code_at a (place_number p n i / round_count p) lost) (mod-mul-add i (round_count p) n low_round)
      ∙ ap (λ b. code_at n b lost) (div-mul-add i (round_count p) n low_round)

  -- byte c at each position
  abbrev bytes_at : (ℕ → List ℕ) → List ℕ → ℕ → ℕ → ℕ
  bytes_at block parity c x = cond (nat_lt x m) (slice_index (block x) c) (slice_index parity (c * p.roots + (x - m)))

  abbrev products : List ℕ → ℕ → (ℕ → ℕ) → ℕ → ℕ
  products lost i byte x = field_product (erasure_factor lost i x) (byte x)

  record IsCode (lost : List ℕ) (i : ℕ) (block : ℕ → List ℕ) (parity result : List ℕ) : Type 0 where
    is : code_at n i lost ≡ Ok result
    size : length result ≡ v.data_block
    bytes : (c : ℕ) → c < v.data_block → slice_index result c ≡ total (products lost i (bytes_at block parity c)) 255

  code-of : (lost : List ℕ) (i : ℕ) (block : ℕ → List ℕ) (parity : List ℕ) → ((x : ℕ) → x < m → kept_block v p below n lost x ≡ Ok (block x)) → round_parity v p below n ≡ Ok parity
      → (result : List ℕ) × IsCode lost i block parity result
  code-of lost i block parity read stored =
      let factor : ℕ → ℕ = erasure_factor lost i in
      let ends : ℕ → ℕ = λ k. factor (m + k) in
      let blank = zero-length v in
      let scaled : ℕ → List ℕ = λ x. scaled_block (factor x) (block x) in
      let at : ℕ → Outcome = λ x. changed_outcome (scaled_block (factor x)) (kept_block v p below n lost x) in
      let found = summed (zero_block v) at scaled m (λ c lt. zero-byte v c (omega (arith, lt, blank))) (λ x h. ap (λ (o : Outcome). changed_outcome (scaled_block (factor x)) o) (read x h)) in
      let sums = found.0 in
      let known = found.1 in
      let size : length sums ≡ v.data_block = known.size ∙ blank in
      let long : length (with_scaled_parity ends p.roots sums parity) ≡ length sums = length-map-range_with_len (λ c. bit_xor (slice_index sums c) (part_combination ends p.roots parity c)) 0 (length sums) in
      let all : m + p.roots ≡ 255 = omega (arith, few) in (
        with_scaled_parity ends p.roots sums parity,
        record {
          is = ap (λ (x : Outcome). then_outcome x (λ s. then_outcome (round_parity v p below n) (λ q. Ok (with_scaled_parity ends p.roots s q)))) known.is
              ∙ ap (λ (x : Outcome). then_outcome x (λ q. Ok (with_scaled_parity ends p.roots sums q))) stored;
          size = long ∙ size;
          bytes = λ c low.
              get_or-map-range_with_len (λ c. bit_xor (slice_index sums c) (part_combination ends p.roots parity c)) 0 (length sums) c c 0 (omega (arith, low, size)) (omega arith)
              ∙ ap (λ x. bit_xor x (part_combination ends p.roots parity c)) (known.bytes c (omega (arith, low, blank)))
              ∙ sym (total-parts (products lost i (bytes_at block parity c)) (λ x. slice_index (scaled x) c) (λ k. field_product (ends k) (slice_index parity (c * p.roots + k))) m p.roots
              (λ x h. ap (λ b. field_product (factor x) (cond b (slice_index (block x) c) (slice_index parity (c * p.roots + (x - m))))) (lt-ltb x m h) ∙ sym (scaled-at (factor x) (block x) c))
              (λ k h. ap (λ b. field_product (ends k) (cond b (slice_index (block (m + k)) c) (slice_index parity (c * p.roots + (m + k - m))))) (le-ltb (m + k) m (omega arith)) ∙ ap (λ j. field_product (ends k) (slice_index parity (c * p.roots + j))) (back k)))
              ∙ ap (λ j. total (products lost i (bytes_at block parity c)) j) all;
        },
      )
    where
      back : (k : ℕ) → m + k - m ≡ k
      back k = omega arith

  module _ (lost : List ℕ) (keep : ℕ → Bool) (block : ℕ → List ℕ) (distinct : AreDistinct lost) (inside : EachIndex lost (λ k. slice_index lost k < m))
      (decoded : EachIndex lost (λ k. decoded_block v p below (place_number p n (slice_index lost k)) lost ≡ Ok (block (slice_index lost k))))
      (stored : EachIndex lost (λ k. keep (slice_index lost k) ≡ false → kept_block v p below n [] (slice_index lost k) ≡ Ok (block (slice_index lost k))))
      (k : ℕ) (low : k < length (selected keep lost (length lost))) where
    abbrev left : List ℕ
    left = selected keep lost (length lost)

    abbrev place : ℕ
    place = slice_index left k

    -- what is read
    abbrev read : ℕ → List ℕ
    read x = bytes_of (kept_block v p below n lost x)

    code-is : (a : ℕ) → a < length lost → code_at n (slice_index lost a) lost ≡ Ok (block (slice_index lost a))
    code-is a h = sym (decoded-at lost (slice_index lost a)) ∙ decoded a h

    some : (a : ℕ) × (a < length lost)
    some = let found = selected-at keep lost (length lost) k low in (found.0, found.1)

    abbrev first_sums : ℕ → Outcome
    first_sums i = summed_blocks (zero_block v) (λ x. changed_outcome (scaled_block (erasure_factor lost i x)) (kept_block v p below n lost x)) m

    parts : (sums : List ℕ) × (first_sums (slice_index lost some.0) ≡ Ok sums) × (then_outcome (round_parity v p below n) (λ parity. Ok (with_scaled_parity (λ k. erasure_factor lost (slice_index lost some.0) (m + k)) p.roots sums parity)) ≡ Ok (block (slice_index lost some.0)))
    parts = then-parts (first_sums (slice_index lost some.0)) (λ sums. then_outcome (round_parity v p below n) (λ parity. Ok (with_scaled_parity (λ k. erasure_factor lost (slice_index lost some.0) (m + k)) p.roots sums parity))) (block (slice_index lost some.0)) (code-is some.0 some.1)

    is-read : (x : ℕ) → x < m → kept_block v p below n lost x ≡ Ok (read x)
    is-read x h =
        let i : ℕ = slice_index lost some.0 in
        let one = summed-parts (zero_block v) (λ x. changed_outcome (scaled_block (erasure_factor lost i x)) (kept_block v p below n lost x)) m parts.0 parts.1 x h in
        bytes-are (kept_block v p below n lost x) (scaled_block (erasure_factor lost i x)) one.0 one.1

    parity-read : (parity : List ℕ) × (round_parity v p below n ≡ Ok parity)
    parity-read = let one = then-parts (round_parity v p below n) (λ parity. Ok (with_scaled_parity (λ k. erasure_factor lost (slice_index lost some.0) (m + k)) p.roots parts.0 parity)) (block (slice_index lost some.0)) parts.2 in (one.0, one.1)

    abbrev parity : List ℕ
    parity = parity-read.0

    restored-bytes : (a : ℕ) → a < length lost → (length (block (slice_index lost a)) ≡ v.data_block) × ((c : ℕ) → c < v.data_block → slice_index (block (slice_index lost a)) c ≡ total (products lost (slice_index lost a) (bytes_at read parity c)) 255)
    restored-bytes a h =
        let code = code-of lost (slice_index lost a) read parity is-read parity-read.1 in
        let same : code.0 ≡ block (slice_index lost a) = ok-same (code_at n (slice_index lost a) lost) code.0 (block (slice_index lost a)) code.1.is (code-is a h) in
        (ap length (sym same) ∙ code.1.size, λ c below. ap (λ b. slice_index b c) (sym same) ∙ code.1.bytes c below)

    -- byte c of each position, with the restored blocks
    abbrev byte : ℕ → ℕ → ℕ
    byte c x = cond (is_among lost x) (slice_index (block x) c) (bytes_at read parity c x)

    abbrev word : ℕ → List ℕ
    word c = map (byte c) (range_with_len 0 255)

    word-at : (c x : ℕ) → x < 255 → slice_index (word c) x ≡ byte c x
    word-at c x h = get_or-map-range_with_len (byte c) 0 255 x x 0 h (omega arith)

    -- at erasures a factor is 0
    drops : (taken : List ℕ) (i x y z : ℕ) → is_among taken x ≡ true → field_product (erasure_factor taken i x) y ≡ field_product (erasure_factor taken i x) z
    drops taken i x y z e =
        let index = among-index taken x e in
        let none : (w : ℕ) → field_product (erasure_factor taken i x) w ≡ 0 = λ w. ap (λ j. field_product (erasure_factor taken i j) w) (sym index.2) ∙ lost-product taken i index.0 w index.1 in
        none y ∙ sym (none z)

    word-restored : (c : ℕ) → c < v.data_block → EachIndex lost (λ a. total (λ x. field_product (erasure_factor lost (slice_index lost a) x) (slice_index (word c) x)) 255 ≡ slice_index (word c) (slice_index lost a))
    word-restored c below_size a h =
        let i : ℕ = slice_index lost a in
        let at : i < m = inside a h in
        total-alike (λ x. field_product (erasure_factor lost i x) (slice_index (word c) x)) (products lost i (bytes_at read parity c)) 255
        (λ x within. elim (either (is_among lost x)) [
          | inl e ↦ drops lost i x (slice_index (word c) x) (bytes_at read parity c x) e
          | inr e ↦ ap (λ b. field_product (erasure_factor lost i x) b) (word-at c x within ∙ ap (λ b. cond b (slice_index (block x) c) (bytes_at read parity c x)) e)
        ])
        ∙ sym ((restored-bytes a h).1 c below_size)
        ∙ sym (word-at c i (omega (arith, at)) ∙ ap (λ b. cond b (slice_index (block i) c) (bytes_at read parity c i)) (index-among lost a h))

    -- if fewer are lost
    abbrev new_block : ℕ → List ℕ
    new_block x = cond (is_among left x) (zero_block v) (cond (is_among lost x) (block x) (read x))

    abbrev kept_by : Bool → ℕ → Outcome
    kept_by b x = cond b (Ok (zero_block v)) (cond (nat_lt (place_number p n x) p.blocks) (covered_block v below (place_number p n x)) (Ok (zero_block v)))

    new-read : (x : ℕ) → x < m → kept_block v p below n left x ≡ Ok (new_block x)
    new-read x h = elim (either (is_among left x)) [
      | inl e ↦ ap (λ b. kept_by b x) e ∙ ap Ok (sym (ap (λ b. cond b (zero_block v) (cond (is_among lost x) (block x) (read x))) e))
      | inr e ↦
          ap (λ b. kept_by b x) e
          ∙ beside x h e
          ∙ ap Ok (sym (ap (λ b. cond b (zero_block v) (cond (is_among lost x) (block x) (read x))) e))
    ]
      where
        beside : (x : ℕ) → x < m → is_among left x ≡ false → kept_by false x ≡ Ok (cond (is_among lost x) (block x) (read x))
        beside x h off = elim (either (is_among lost x)) [
          | inr e ↦ sym (ap (λ b. kept_by b x) e) ∙ is-read x h ∙ ap Ok (sym (ap (λ b. cond b (block x) (read x)) e))
          | inl e ↦
              let index = among-index lost x e in
              let dropped : keep (slice_index lost index.0) ≡ false = elim (either (keep (slice_index lost index.0))) [
                | inr is ↦ is
                | inl is ↦
                    let chosen = selected-in keep lost (length lost) index.0 index.1 is in
                    let among : is_among left x ≡ true = ap (λ j. is_among left j) (sym (chosen.2 ∙ index.2)) ∙ index-among left chosen.0 chosen.1 in
                    clash (sym among ∙ off)
              ] in
              subst (λ j. kept_by false j ≡ Ok (block j)) index.2 (stored index.0 index.1 dropped) ∙ ap Ok (sym (ap (λ b. cond b (block x) (read x)) e))
        ]

    fewer : decoded_block v p below (place_number p n place) left ≡ Ok (block place)
    fewer =
        let found = selected-at keep lost (length lost) k low in
        let a = found.0 in
        let is : place ≡ slice_index lost a = found.2 in
        let at : slice_index lost a < m = inside a found.1 in
        let among : is_among lost place ≡ true = ap (λ j. is_among lost j) is ∙ index-among lost a found.1 in
        let code = code-of left place new_block parity new-read parity-read.1 in
        let size : length (block place) ≡ v.data_block = ap (λ j. length (block j)) is ∙ (restored-bytes a found.1).0 in
        let within : EachIndex lost (λ j. slice_index lost j < 255) = λ j h. let one = inside j h in omega (arith, one) in
        let bytes : (c : ℕ) → c < length code.0 → slice_index code.0 c ≡ slice_index (block place) c
        = λ c lt.
        let below_size : c < v.data_block = omega (arith, lt, code.1.size) in
        code.1.bytes c below_size
        ∙ total-alike (products left place (bytes_at new_block parity c)) (λ x. field_product (erasure_factor left place x) (slice_index (word c) x)) 255
        (λ x h. elim (either (is_among left x)) [
          | inl e ↦ drops left place x (bytes_at new_block parity c x) (slice_index (word c) x) e
          | inr e ↦ ap (λ b. field_product (erasure_factor left place x) b) (new-byte c x e ∙ sym (word-at c x h))
        ])
        ∙ fewer-restored lost (word c) keep distinct within (word-restored c below_size) k low
        ∙ word-at c place (omega (arith, is, at))
        ∙ ap (λ b. cond b (slice_index (block place) c) (bytes_at read parity c place)) among in
        decoded-at left place ∙ code.1.is ∙ ap Ok (ext_get_or 0 code.0 (block place) (code.1.size ∙ sym size) bytes)
      where
        new-byte : (c x : ℕ) → is_among left x ≡ false → bytes_at new_block parity c x ≡ byte c x
        new-byte c x off = elim (either (is_among lost x)) [
          | inr e ↦
              ap (λ b. cond (nat_lt x m) (slice_index (cond b (zero_block v) (cond (is_among lost x) (block x) (read x))) c) (slice_index parity (c * p.roots + (x - m)))) off
              ∙ ap (λ b. cond (nat_lt x m) (slice_index (cond b (block x) (read x)) c) (slice_index parity (c * p.roots + (x - m)))) e
              ∙ sym (ap (λ b. cond b (slice_index (block x) c) (bytes_at read parity c x)) e)
          | inl e ↦
              let index = among-index lost x e in
              let at : x < m = subst (λ j. j < m) index.2 (inside index.0 index.1) in
              ap (λ b. cond b (slice_index (new_block x) c) (slice_index parity (c * p.roots + (x - m)))) (lt-ltb x m at)
              ∙ ap (λ b. slice_index (cond b (zero_block v) (cond (is_among lost x) (block x) (read x))) c) off
              ∙ ap (λ b. slice_index (cond b (block x) (read x)) c) e
              ∙ sym (ap (λ b. cond b (slice_index (block x) c) (bytes_at read parity c x)) e)
        ]

pub fewer-losses : FewerLossesRestoreTheSame
fewer-losses v p few below n low_round lost keep block distinct inside decoded stored k low = fewer v p few below n low_round lost keep block distinct inside decoded stored k low
