-- Factors and products in rows and columns, and columns added up.
use Rattle.std.proofs.Common.{◌≡◌, ℕ, ◌+◌, ◌-◌, ◌*◌, ◌/◌, ◌%◌, ◌<◌, ◌≤◌, ◌≢◌, zero, suc, min, List, [], ◌∷◌, ◌++◌, length, inl, inr, refl, sym, ap, ◌∙◌, arith, bit_xor}
use Rattle.std.specs.Prelude.{slice_index, slice_set, EachIndex}
use Rattle.std.specs.List.{range_with_len}
use Rattle.std.proofs.lemmas.Bool.Decides.{eqb_tells}
use Rattle.std.proofs.lemmas.List.{get_or-set_same, get_or-set_other, get_or_append_left, get_or-append-add, length-append, length-set, ext_get_or}
use Rattle.std.proofs.lemmas.List.FromFn.{get_or-range_with_len, length-range_with_len}
use Rattle.std.proofs.lemmas.Nat.{div-mul-add, mod-mul-add, div-add-mod'}
use Rattle.std.proofs.Math.Nat.{mul-le-mul_right, mod-lt}
use Rattle.reed_solomon.specs.Field.{field_product, total}
use Rattle.reed_solomon.specs.Code.{IsCodeword}
use Rattle.reed_solomon.specs.Restoring.{others, combination}
use Rattle.reed_solomon.specs.Factors.{AreFactors, AreProducts, AreRows, parity_places}
use Rattle.reed_solomon.proofs.CodeLemmas.{total-same, others_lt}

-- factors that are the same in a word
pub factors-same : (lost : List ℕ) (place : ℕ) (f g : ℕ → ℕ) → ((k : ℕ) → k < length lost → slice_index lost k < 255) → ((i : ℕ) → i < 255 → g i ≡ f i) → AreFactors lost place f → AreFactors lost place g
factors-same lost place f g within same known = record {
  restore = λ parity word enough code. total-same (λ i. field_product (g i) (slice_index word i)) (λ i. field_product (f i) (slice_index word i)) 255 (λ i h. ap (λ x. field_product x (slice_index word i)) (same i h)) ∙ known.restore parity word enough code;
  skip = λ k h. same (slice_index lost k) (within k h) ∙ known.skip k h;
}

-- what the factors of a lost place do
pub found-factors : (lost row : List ℕ) (n : ℕ) → n < length lost
    → ((parity : ℕ) → (word : List ℕ) → IsCodeword parity word → others lost (slice_index lost n) (length lost) < parity → combination row word ≡ slice_index word (slice_index lost n))
    → EachIndex lost (λ k. slice_index row (slice_index lost k) ≡ 0) → AreFactors lost (slice_index lost n) (slice_index row)
found-factors lost row n h restore skip = record {
  restore = λ parity word enough code. restore parity word code (omega (arith, others_lt lost (slice_index lost n) (length lost) n h refl, enough));
  skip = skip;
}

pub rows-none : (lost : List ℕ) → AreRows lost [] 0
rows-none lost = record { len = refl; each = λ k h. absurd (omega (arith, h)) }

pub rows-more : (lost rows row : List ℕ) (n : ℕ) → ((k : ℕ) → k < length lost → slice_index lost k < 255) → length row ≡ 255
    → AreFactors lost (slice_index lost n) (slice_index row) → AreRows lost rows n → AreRows lost (rows ++ row) (n + 1)
rows-more lost rows row n within size factors known =
    let len = known.len in
    record {
      len = length-append rows row ∙ omega (arith, size, len);
      each = λ k h. elim (eqb_tells k n) [
        | inl e ↦
            let at : k ≡ n = e.1 in
            let place : slice_index lost n ≡ slice_index lost k = ap (λ j. slice_index lost j) (sym at) in
            let same : (i : ℕ) → i < 255 → slice_index (rows ++ row) (k * 255 + i) ≡ slice_index row i
            = λ i lt.
            let index : k * 255 + i ≡ length rows + i = omega (arith, at, len) in
            ap (λ j. slice_index (rows ++ row) j) index ∙ get_or-append-add rows row i 0 in
            factors-same lost (slice_index lost k) (slice_index row) (λ i. slice_index (rows ++ row) (k * 255 + i)) within same (rw (sym place) factors)
        | inr e ↦
            let apart = e.1 in
            let less : k < n = omega (arith, h, apart) in
            factors-same lost (slice_index lost k) (λ i. slice_index rows (k * 255 + i)) (λ i. slice_index (rows ++ row) (k * 255 + i)) within
            (λ i lt. get_or_append_left rows row 0 (k * 255 + i) (omega (arith, lt, less, len)))
            (known.each k less)
      ];
    }

-- the first products, laid out place by place
pub record AreLaidOut (n : ℕ) (rows products : List ℕ) (at : ℕ) : Type 0 where
  pub len : length products ≡ at
  pub each : (m : ℕ) → m < at → slice_index products m ≡ slice_index rows (m % n * 255 + m / n)

pub laid_out-none : (n : ℕ) (rows : List ℕ) → AreLaidOut n rows [] 0
laid_out-none n rows = record { len = refl; each = λ m h. absurd (omega (arith, h)) }

pub laid_out-more : (n : ℕ) (rows products : List ℕ) (at factor : ℕ) → factor ≡ slice_index rows (at % n * 255 + at / n)
    → AreLaidOut n rows products at → AreLaidOut n rows (products ++ factor ∷ []) (at + 1)
laid_out-more n rows products at factor is known =
    let len = known.len in
    record {
      len = length-append products (factor ∷ []) ∙ omega (arith, len);
      each = λ m h. elim (eqb_tells m at) [
        | inl e ↦
            let index : m ≡ length products + 0 = omega (arith, e.1, len) in
            ap (λ j. slice_index (products ++ factor ∷ []) j) index ∙ get_or-append-add products (factor ∷ []) 0 0 ∙ is ∙ ap (λ j. slice_index rows (j % n * 255 + j / n)) (sym e.1)
        | inr e ↦
            let apart = e.1 in
            let less : m < at = omega (arith, h, apart) in
            get_or_append_left products (factor ∷ []) 0 m (omega (arith, less, len)) ∙ known.each m less
      ];
    }

-- where a row and a place meet
pub meet : (n i k bound : ℕ) → k < n → i < bound → i * n + k < bound * n
meet n i k bound h lt =
    let up : suc i * n ≤ bound * n = mul-le-mul_right n (omega (arith, lt)) in
    let next : suc i * n ≡ i * n + n = grind arith in
    omega (arith, up, next, h)

pub products-laid_out : (lost rows products : List ℕ) (at : ℕ) → ((k : ℕ) → k < length lost → slice_index lost k < 255) → at ≡ 255 * length lost
    → AreRows lost rows (length lost) → AreLaidOut (length lost) rows products at → AreProducts lost products
products-laid_out lost rows products at within end known laid = record {
  len = laid.len ∙ end;
  each = λ k h.
      let n = length lost in
      factors-same lost (slice_index lost k) (λ i. slice_index rows (k * 255 + i)) (λ i. slice_index products (i * n + k)) within
      (λ i lt.
      let inside : i * n + k < at = omega (arith, meet n i k 255 h lt, end) in
      laid.each (i * n + k) inside
      ∙ ap (λ q. slice_index rows (q * 255 + (i * n + k) / n)) (mod-mul-add i n k h)
      ∙ ap (λ q. slice_index rows (k * 255 + q)) (div-mul-add i n k h))
      (known.each k h);
}

-- the place of a factor in its row
pub row-inside : (n at : ℕ) → at < 255 * n → (at % n < n) × (at / n < 255)
row-inside n at h =
    let some : 0 < n = omega (arith, h) in
    let low : at % n < n = mod-lt at some in
    let whole = div-add-mod' at n in (
      low,
      elim (eqb_tells (min (at / n) 255) 255) [
        | inl e ↦
            let many : 255 ≤ at / n = omega (arith, e.1) in
            let up : 255 * n ≤ at / n * n = mul-le-mul_right n many in
            absurd (omega (arith, up, whole, h))
        | inr e ↦
            let apart = e.1 in
            omega (arith, apart)
      ],
    )

-- the places of the parity so far
pub record ArePlaces (parity : ℕ) (places : List ℕ) (place : ℕ) : Type 0 where
  pub len : length places + (255 - parity) ≡ place
  pub each : (k : ℕ) → k < length places → slice_index places k ≡ 255 - parity + k

pub places-none : (parity : ℕ) → ArePlaces parity [] (255 - parity)
places-none parity = record { len = omega arith; each = λ k h. absurd (omega (arith, h)) }

pub places-more : (parity : ℕ) (places : List ℕ) (place : ℕ) → ArePlaces parity places place → ArePlaces parity (places ++ place ∷ []) (place + 1)
places-more parity places place known =
    let len = known.len in
    let longer = length-append places (place ∷ []) in
    record {
      len = omega (arith, longer, len);
      each = λ k h. elim (eqb_tells k (length places)) [
        | inl e ↦
            let index : k ≡ length places + 0 = omega (arith, e.1) in
            ap (λ j. slice_index (places ++ place ∷ []) j) index ∙ get_or-append-add places (place ∷ []) 0 0 ∙ omega (arith, e.1, len)
        | inr e ↦
            let apart = e.1 in
            let less : k < length places = omega (arith, h, longer, apart) in
            get_or_append_left places (place ∷ []) 0 k less ∙ known.each k less
      ];
    }

pub places-all : (parity : ℕ) (places : List ℕ) → parity ≤ 24 → ArePlaces parity places 255 → places ≡ parity_places parity
places-all parity places few known =
    let len : length places ≡ parity = omega (arith, known.len, few) in
    ext_get_or 0 places (parity_places parity) (len ∙ sym (length-range_with_len (255 - parity) parity))
    (λ k h. known.each k h ∙ sym (get_or-range_with_len (255 - parity) parity k 0 (omega (arith, h, len))))

-- the first n terms are added, each to the byte at its place
pub record AreAdded (before after : List ℕ) (term : ℕ → ℕ) (n : ℕ) : Type 0 where
  pub added : (m : ℕ) → m < n → slice_index after m ≡ bit_xor (slice_index before m) (term m)
  pub same : (m : ℕ) → n ≤ m → slice_index after m ≡ slice_index before m

pub added-none : (before : List ℕ) (term : ℕ → ℕ) → AreAdded before before term 0
added-none before term = record { added = λ m h. absurd (omega (arith, h)); same = λ m h. refl }

pub added-more : (before sum : List ℕ) (term : ℕ → ℕ) (n byte : ℕ) → n < length sum → byte ≡ term n
    → AreAdded before sum term n → AreAdded before (slice_set sum n (bit_xor (slice_index sum n) byte)) term (n + 1)
added-more before sum term n byte fits is known =
    let value = bit_xor (slice_index sum n) byte in
    record {
      added = λ m h. elim (eqb_tells m n) [
        | inl e ↦
            ap (λ j. slice_index (slice_set sum n value) j) e.1 ∙ get_or-set_same sum n value 0 fits
            ∙ ap (λ x. bit_xor x byte) (known.same n (omega arith)) ∙ ap (λ x. bit_xor (slice_index before n) x) is
            ∙ ap (λ j. bit_xor (slice_index before j) (term j)) (sym e.1)
        | inr e ↦
            let apart = e.1 in
            get_or-set_other sum n m value 0 e.1 ∙ known.added m (omega (arith, h, apart))
      ];
      same = λ m h.
          let apart : m ≢ n = omega (arith, h) in
          get_or-set_other sum n m value 0 apart ∙ known.same m (omega (arith, h));
    }

-- the product of the byte at c by the k-th of n factors
pub term-at : (products bytes : List ℕ) (c k : ℕ) → k < length products
    → field_product (slice_index products k) (slice_index bytes c) ≡ field_product (slice_index products ((c * length products + k) % length products)) (slice_index bytes ((c * length products + k) / length products))
term-at products bytes c k h =
    let n = length products in
    let r = mod-mul-add c n k h in
    let q = div-mul-add c n k h in
    sym (ap (λ i. field_product (slice_index products i) (slice_index bytes ((c * n + k) / n))) r ∙ ap (λ i. field_product (slice_index products k) (slice_index bytes i)) q)
