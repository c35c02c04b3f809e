-- The sums of all lost blocks are those of each.
use Rattle.std.proofs.Common.{◌≡◌, ℕ, zero, suc, ◌+◌, ◌-◌, ◌*◌, ◌/◌, ◌%◌, ◌<◌, ◌≤◌, get_or, List, length, take, drop, map, replicate, Ok, Err, refl, sym, ap, ◌∙◌, arith, bit_xor}
use Rattle.std.specs.Prelude.{slice_index}
use Rattle.std.specs.Int.Bits.{xor_zero_r}
use Rattle.std.proofs.lemmas.List.{ext_get_or, get_or-drop, get_or-replicate, get_or-take, length-drop, length-replicate, length-take}
use Rattle.std.proofs.lemmas.List.FromFn.{get_or-map-range_with_len, length-map-range_with_len}
use Rattle.std.proofs.lemmas.Nat.{div-mul-add, mod-mul-add}
use Rattle.std.proofs.Math.ListN.{get_or-map}
use Rattle.std.proofs.Math.Nat.{mul-le-mul_right}
use Rattle.reed_solomon.specs.Factors.{erasure_factor}
use Rattle.reed_solomon.specs.Field.{field_product}
use Rattle.reed_solomon.specs.Sums.{part_combination}
use Rattle.reed_solomon.proofs.lemmas.ErasureLemmas.{none-product}
use Rattle.dm_table.specs.declared.parity.Parity.{Parity}
use Rattle.dm_table.specs.declared.verity.Verity.{Verity}
use Rattle.stack_rules.specs.Trees.{round_count, zero_block}
use Rattle.stack_meaning.specs.declared.fault.Fault.{Fault}
use Rattle.stack_meaning.specs.Erasures.{decoded_block, kept_block, scaled_block, with_scaled_parity}
use Rattle.stack_meaning.specs.Outcomes.{Outcome, changed_outcome, then_outcome}
use Rattle.stack_meaning.specs.Spares.{BlockSources, added_block, round_parity, summed_blocks}
use Rattle.stack_engine.specs.Erasures.{added_columns, added_parity, column, decoded_columns, no_columns, summed_columns}
use Rattle.stack_engine.proofs.SumLemmas.{added_each, added-is}

pub length-columns : (size : ℕ) (places : List ℕ) (i : ℕ) (block sums : List ℕ) → length (added_columns size places i block sums) ≡ length sums
length-columns size places i block sums =
    length-map-range_with_len (λ m. bit_xor (slice_index sums m) (field_product (erasure_factor places (slice_index places (m / size)) i) (slice_index block (m % size)))) 0 (length sums)

length-parity : (places : List ℕ) (roots size : ℕ) (parity sums : List ℕ) → length (added_parity places roots size parity sums) ≡ length sums
length-parity places roots size parity sums =
    length-map-range_with_len (λ m. bit_xor (slice_index sums m) (part_combination (λ k. erasure_factor places (slice_index places (m / size)) (255 - roots + k)) roots parity (m % size))) 0 (length sums)

-- ---- one column

column-at : (size : ℕ) (sums : List ℕ) (k c : ℕ) → c < size → slice_index (column size sums k) c ≡ slice_index sums (k * size + c)
column-at size sums k c low = get_or-take size (drop (k * size) sums) c 0 low ∙ get_or-drop (k * size) sums c 0

module _ (size count : ℕ) (sums : List ℕ) (long : length sums ≡ count * size) (k : ℕ) (low : k < count) where
  room : k * size + size ≤ length sums
  room =
      let most : (k + 1) * size ≤ count * size = mul-le-mul_right size (omega (arith, low)) in
      let next : (k + 1) * size ≡ k * size + size = omega arith in
      omega (arith, most, next, long)

  pub column-length : length (column size sums k) ≡ size
  column-length = omega (arith, room, length-take size (drop (k * size) sums), length-drop (k * size) sums)

-- the first one
pub column-first : (size : ℕ) (sums : List ℕ) → column size sums 0 ≡ take size sums
column-first size sums = let none : 0 * size ≡ 0 = omega arith in ap (λ k. take size (drop k sums)) none

-- a byte of each block times a factor
scaled-at : (f : ℕ) (block : List ℕ) (c : ℕ) → slice_index (scaled_block f block) c ≡ field_product f (slice_index block c)
scaled-at f block c = ap (λ d. get_or (scaled_block f block) c d) (sym (none-product f)) ∙ get_or-map (field_product f) block c 0

module _ (size : ℕ) (places sums : List ℕ) (long : length sums ≡ length places * size) (k : ℕ) (low : k < length places) where
  -- after a block was added to all
  column-added : (i : ℕ) (block : List ℕ) → column size (added_columns size places i block sums) k ≡ added_block (column size sums k) (scaled_block (erasure_factor places (slice_index places k) i) block)
  column-added i block =
      let f : ℕ = erasure_factor places (slice_index places k) i in
      let new : List ℕ = added_columns size places i block sums in
      let same : length new ≡ length sums = length-columns size places i block sums in
      let own = column-length size (length places) sums long k low in
      let now = column-length size (length places) new (same ∙ long) k low in
      let fits = room size (length places) sums long k low in
      added-is (λ c. slice_index (scaled_block f block) c) (column size sums k) (column size new k) (now ∙ sym own)
      (λ c lt.
      let small : c < size = omega (arith, lt, own) in
      let m : ℕ = k * size + c in
      column-at size new k c small
      ∙ get_or-map-range_with_len (λ m. bit_xor (slice_index sums m) (field_product (erasure_factor places (slice_index places (m / size)) i) (slice_index block (m % size)))) 0 (length sums) m m 0 (omega (arith, small, fits)) (omega arith)
      ∙ ap (λ x. bit_xor (slice_index sums m) (field_product (erasure_factor places (slice_index places x) i) (slice_index block (m % size)))) (div-mul-add k size c small)
      ∙ ap (λ x. bit_xor (slice_index sums m) (field_product f (slice_index block x))) (mod-mul-add k size c small)
      ∙ ap (λ x. bit_xor x (field_product f (slice_index block c))) (sym (column-at size sums k c small))
      ∙ ap (λ x. bit_xor (slice_index (column size sums k) c) x) (sym (scaled-at f block c)))

  -- after the parity was
  column-parity : (roots : ℕ) (parity : List ℕ) → column size (added_parity places roots size parity sums) k ≡ with_scaled_parity (λ e. erasure_factor places (slice_index places k) (255 - roots + e)) roots (column size sums k) parity
  column-parity roots parity =
      let ends : ℕ → ℕ = λ e. erasure_factor places (slice_index places k) (255 - roots + e) in
      let new : List ℕ = added_parity places roots size parity sums in
      let same : length new ≡ length sums = length-parity places roots size parity sums in
      let own = column-length size (length places) sums long k low in
      let now = column-length size (length places) new (same ∙ long) k low in
      let fits = room size (length places) sums long k low in
      added-is (part_combination ends roots parity) (column size sums k) (column size new k) (now ∙ sym own)
      (λ c lt.
      let small : c < size = omega (arith, lt, own) in
      let m : ℕ = k * size + c in
      column-at size new k c small
      ∙ get_or-map-range_with_len (λ m. bit_xor (slice_index sums m) (part_combination (λ e. erasure_factor places (slice_index places (m / size)) (255 - roots + e)) roots parity (m % size))) 0 (length sums) m m 0 (omega (arith, small, fits)) (omega arith)
      ∙ ap (λ x. bit_xor (slice_index sums m) (part_combination (λ e. erasure_factor places (slice_index places x) (255 - roots + e)) roots parity (m % size))) (div-mul-add k size c small)
      ∙ ap (λ x. bit_xor (slice_index sums m) (part_combination ends roots parity x)) (mod-mul-add k size c small)
      ∙ ap (λ x. bit_xor x (part_combination ends roots parity c)) (sym (column-at size sums k c small)))

-- ---- zeros

pub zero-columns : (size : ℕ) (places : List ℕ) → length (no_columns size places) ≡ length places * size
zero-columns size places = length-replicate {A = ℕ} (length places * size) 0

zeros-at : (n c : ℕ) → slice_index (replicate n 0) c ≡ 0
zeros-at zero c = refl
zeros-at (suc n) zero = refl
zeros-at (suc n) (suc c) = zeros-at n c

-- a block of zeros changes no sum
pub columns-zeros : (size : ℕ) (places : List ℕ) (i n : ℕ) (sums : List ℕ) → added_columns size places i (replicate n 0) sums ≡ sums
columns-zeros size places i n sums =
    sym (added-is (λ m. field_product (erasure_factor places (slice_index places (m / size)) i) (slice_index (replicate n 0) (m % size))) sums sums (omega arith)
    (λ m lt.
    let f : ℕ = erasure_factor places (slice_index places (m / size)) i in
    let none : field_product f (slice_index (replicate n 0) (m % size)) ≡ 0 = ap (λ x. field_product f x) (zeros-at n (m % size)) ∙ none-product f in
    sym (ap (λ x. bit_xor (slice_index sums m) x) none ∙ xor_zero_r (slice_index sums m))))

column-zeros : (size : ℕ) (places : List ℕ) (k : ℕ) → k < length places → column size (no_columns size places) k ≡ replicate size 0
column-zeros size places k low =
    let long = zero-columns size places in
    let own = column-length size (length places) (no_columns size places) long k low in
    let all : length (replicate {A = ℕ} size 0) ≡ size = length-replicate size 0 in
    ext_get_or 0 (column size (no_columns size places) k) (replicate size 0) (own ∙ sym all)
    (λ c lt. column-at size (no_columns size places) k c (omega (arith, lt, own)) ∙ zeros-at (length places * size) (k * size + c) ∙ sym (zeros-at size c))

-- ---- the sums

pub summed-next : (v : Verity) (p : Parity) (below : BlockSources) (n : ℕ) (places : List ℕ) (m : ℕ) (sums : List ℕ) → summed_columns v p below n places m ≡ Ok sums
    → summed_columns v p below n places (suc m) ≡ then_outcome (kept_block v p below n places m) (λ block. Ok (added_columns v.data_block places m block sums))
unfolding summed_columns
summed-next v p below n places m sums is = ap (λ (x : Outcome). then_outcome x (λ sums. then_outcome (kept_block v p below n places m) (λ block. Ok (added_columns v.data_block places m block sums)))) is

pub summed-begin : (v : Verity) (p : Parity) (below : BlockSources) (n : ℕ) (places : List ℕ) → summed_columns v p below n places 0 ≡ Ok (no_columns v.data_block places)
unfolding summed_columns
summed-begin v p below n places = refl

-- after a fault there are none
pub summed-failed : (v : Verity) (p : Parity) (below : BlockSources) (n : ℕ) (places : List ℕ) (m d : ℕ) (fault : Fault) → summed_columns v p below n places m ≡ Err fault → summed_columns v p below n places (d + m) ≡ Err fault
unfolding summed_columns
summed-failed v p below n places m zero fault is = let same : 0 + m ≡ m = omega arith in ap (λ k. summed_columns v p below n places k) same ∙ is
summed-failed v p below n places m (suc d) fault is =
    let same : suc d + m ≡ suc (d + m) = omega arith in
    ap (λ k. summed_columns v p below n places k) same
    ∙ ap (λ (x : Outcome). then_outcome x (λ sums. then_outcome (kept_block v p below n places (d + m)) (λ block. Ok (added_columns v.data_block places (d + m) block sums)))) (summed-failed v p below n places m d fault is)

module _ (v : Verity) (p : Parity) (below : BlockSources) (n : ℕ) (places : List ℕ) where
  abbrev size : ℕ
  size = v.data_block

  -- an outcome of the form of a sum
  abbrev added : ℕ → Outcome → Outcome → Outcome
  added m kept x = then_outcome x (λ sums. then_outcome kept (λ block. Ok (added_columns size places m block sums)))

  length-summed : (m : ℕ) (sums : List ℕ) → summed_columns v p below n places m ≡ Ok sums → length sums ≡ length places * size
  unfolding summed_columns
  length-summed zero sums is = let same : no_columns size places ≡ sums = cc in ap length (sym same) ∙ zero-columns size places
  length-summed (suc m) sums is = go (λ before e. length-summed m before e) (summed_columns v p below n places m) refl (kept_block v p below n places m) is
    where
      go : ((before : List ℕ) → summed_columns v p below n places m ≡ Ok before → length before ≡ length places * size) → (x : Outcome) → summed_columns v p below n places m ≡ x → (kept : Outcome) → added m kept x ≡ Ok sums → length sums ≡ length places * size
      go known (Ok before) e (Ok block) h =
          let same : added_columns size places m block before ≡ sums = cc in
          ap length (sym same) ∙ length-columns size places m block before ∙ known before e
      go known (Ok before) e (Err fault) h = let clash : Err fault ≡ Ok sums = h in cc
      go known (Err fault) e kept h = let clash : Err fault ≡ Ok sums = h in cc

  module _ (k : ℕ) (low : k < length places) where
    abbrev factor : ℕ → ℕ
    factor = erasure_factor places (slice_index places k)

    abbrev at : ℕ → Outcome
    at i = changed_outcome (scaled_block (factor i)) (kept_block v p below n places i)

    abbrev one : Outcome → Outcome
    one = changed_outcome (λ sums. column size sums k)

    column-summed : (m : ℕ) → summed_blocks (zero_block v) at m ≡ one (summed_columns v p below n places m)
    unfolding summed_columns summed_blocks
    column-summed zero = ap Ok (sym (column-zeros size places k low))
    column-summed (suc m) =
        ap (λ (x : Outcome). then_outcome x (λ sums. then_outcome (at m) (λ block. Ok (added_block sums block)))) (column-summed m)
        ∙ go (summed_columns v p below n places m) refl (kept_block v p below n places m)
      where
        go : (x : Outcome) → summed_columns v p below n places m ≡ x → (kept : Outcome)
            → then_outcome (one x) (λ sums. then_outcome (changed_outcome (scaled_block (factor m)) kept) (λ block. Ok (added_block sums block))) ≡ one (added m kept x)
        go (Ok sums) e (Ok block) = ap Ok (sym (column-added size places sums (length-summed m sums e) k low m block))
        go (Ok sums) e (Err fault) = refl
        go (Err fault) e kept = refl

    column-decoded : then_outcome (summed_blocks (zero_block v) at (255 - p.roots)) (λ sums. then_outcome (round_parity v p below n) (λ parity. Ok (with_scaled_parity (λ e. factor (255 - p.roots + e)) p.roots sums parity)))
        ≡ one (decoded_columns v p below n places)
    column-decoded =
        ap (λ (x : Outcome). then_outcome x (λ sums. then_outcome (round_parity v p below n) (λ parity. Ok (with_scaled_parity (λ e. factor (255 - p.roots + e)) p.roots sums parity)))) (column-summed (255 - p.roots))
        ∙ go (summed_columns v p below n places (255 - p.roots)) refl (round_parity v p below n)
      where
        go : (x : Outcome) → summed_columns v p below n places (255 - p.roots) ≡ x → (stored : Outcome)
            → then_outcome (one x) (λ sums. then_outcome stored (λ parity. Ok (with_scaled_parity (λ e. factor (255 - p.roots + e)) p.roots sums parity)))
            ≡ one (then_outcome x (λ sums. then_outcome stored (λ parity. Ok (added_parity places p.roots size parity sums))))
        go (Ok sums) e (Ok parity) = ap Ok (sym (column-parity size places sums (length-summed (255 - p.roots) sums e) k low p.roots parity))
        go (Ok sums) e (Err fault) = refl
        go (Err fault) e stored = refl

-- what the code restores of a block at a lost position
pub decoded-column : (v : Verity) (p : Parity) (below : BlockSources) (j : ℕ) (places : List ℕ) (k : ℕ) → k < length places → j / round_count p ≡ slice_index places k
    → decoded_block v p below j places ≡ changed_outcome (λ sums. column v.data_block sums k) (decoded_columns v p below (j % round_count p) places)
decoded-column v p below j places k low at =
    ap (λ b. code_at (j % round_count p) b) at ∙ column-decoded v p below (j % round_count p) places k low
  where
    code_at : ℕ → ℕ → Outcome
    code_at a b =
        then_outcome (summed_blocks (zero_block v) (λ i. changed_outcome (scaled_block (erasure_factor places b i)) (kept_block v p below a places i)) (255 - p.roots))
        (λ sums. then_outcome (round_parity v p below a) (λ parity. Ok (with_scaled_parity (λ k. erasure_factor places b (255 - p.roots + k)) p.roots sums parity)))
