-- A word whose parity was summed up is a codeword, and a lost byte that was summed up is the codeword's.
use Rattle.std.proofs.Common.{◌≡◌, ℕ, ◌+◌, ◌-◌, ◌*◌, ◌<◌, ◌≤◌, ◌≢◌, zero, suc, List, ◌++◌, length, take, subst, inl, inr, refl, sym, ap, ◌∙◌, arith, bit_xor}
use Rattle.std.specs.Prelude.{slice_index}
use Rattle.std.proofs.lemmas.Bool.{cases_lt}
use Rattle.std.proofs.lemmas.Bool.Decides.{eqb_tells}
use Rattle.std.proofs.lemmas.List.{get_or-take, get_or_past, get_or_append_left, length-take-le, ext_get_or}
use Rattle.std.proofs.lemmas.List.FromFn.{get_or-range_with_len, length-range_with_len}
use Rattle.std.specs.Int.Bits.{xor_zero_r}
use Rattle.reed_solomon.specs.Field.{field_product, total}
use Rattle.reed_solomon.specs.Code.{IsCodeword}
use Rattle.reed_solomon.specs.Restoring.{AgreesOutside}
use Rattle.reed_solomon.specs.Factors.{AreFactors, AreProducts, parity_places}
use Rattle.reed_solomon.proofs.FieldLemmas.{product_zero_l}
use Rattle.reed_solomon.proofs.CodeLemmas.{total-same, total-next}
use Rattle.reed_solomon.proofs.EncodingLemmas.{parity_exists}

-- summands of 0 at the end may be left out
pub total-front : (f : ℕ → ℕ) (n m : ℕ) → ((i : ℕ) → n ≤ i → i < n + m → f i ≡ 0) → total f (n + m) ≡ total f n
total-front f n zero none = ap (λ k. total f k) (omega arith)
total-front f n (suc m) none =
    let more : n + suc m ≡ n + m + 1 = omega arith in
    let last = none (n + m) (omega arith) (omega arith) in
    ap (λ k. total f k) more ∙ total-next f (n + m) ∙ ap (λ x. bit_xor (total f (n + m)) x) last ∙ xor_zero_r (total f (n + m)) ∙ total-front f n m (λ i low high. none i low (omega (arith, high)))

-- the factors of the k-th lost place, where so many are lost
pub factors-of : (lost products : List ℕ) (n k : ℕ) → length lost ≡ n → AreProducts lost products → k < n → AreFactors lost (slice_index lost k) (λ i. slice_index products (i * n + k))
factors-of lost products n k size known h = rw (sym size) (known.each k (omega (arith, h, size)))

pub parity-codeword : (parity : ℕ) (products word : List ℕ) → 0 < parity → parity ≤ 24 → length word ≡ 255 → ((i : ℕ) → slice_index word i < 256) → AreProducts (parity_places parity) products
    → ((k : ℕ) → k < parity → slice_index word (255 - parity + k) ≡ total (λ i. field_product (slice_index products (i * parity + k)) (slice_index word i)) (255 - parity))
    → IsCodeword parity word
parity-codeword parity products word some few len bytes known sums =
    let n = 255 - parity in
    let lost = parity_places parity in
    let size : length lost ≡ parity = length-range_with_len n parity in
    let whole : n + parity ≡ 255 = omega (arith, few) in
    let message = take n word in
    let long : length message ≡ n = length-take-le n word (omega (arith, len, whole)) in
    let byte : (i : ℕ) → i < n → slice_index message i ≡ slice_index word i = λ i h. get_or-take n word i 0 h in
    let small : (i : ℕ) → slice_index message i < 256 = λ i. elim (cases_lt i n) [
      | inl below ↦ omega (arith, byte i below, bytes i)
      | inr above ↦ omega (arith, get_or_past message i 0 (omega (arith, long, above)))
    ] in
    let found = parity_exists parity message some few (omega (arith, long, whole)) small in
    let w = message ++ found.0 in
    let code = found.1 in
    let front : (i : ℕ) → i < n → slice_index word i ≡ slice_index w i = λ i h. sym (get_or_append_left message found.0 0 i (omega (arith, long, h)) ∙ byte i h) in
    let behind : (k : ℕ) → k < parity → slice_index word (n + k) ≡ slice_index w (n + k)
    = λ k h.
    let f = λ (i : ℕ). slice_index products (i * parity + k) in
    let factors = factors-of lost products parity k size known h in
    let place : slice_index lost k ≡ n + k = get_or-range_with_len n parity k 0 h in
    let skip : (i : ℕ) → n ≤ i → i < n + parity → field_product (f i) (slice_index w i) ≡ 0
    = λ i low high.
    let at : slice_index lost (i - n) ≡ i = get_or-range_with_len n parity (i - n) 0 (omega (arith, low, high)) ∙ omega (arith, low) in
    let none : f i ≡ 0 = ap f (sym at) ∙ factors.skip (i - n) (omega (arith, low, high, size)) in
    ap (λ x. field_product x (slice_index w i)) none ∙ product_zero_l (slice_index w i) in
    sums k h
    ∙ total-same (λ i. field_product (f i) (slice_index word i)) (λ i. field_product (f i) (slice_index w i)) n (λ i lt. ap (λ x. field_product (f i) x) (front i lt))
    ∙ sym (total-front (λ i. field_product (f i) (slice_index w i)) n parity skip)
    ∙ ap (λ j. total (λ i. field_product (f i) (slice_index w i)) j) whole
    ∙ factors.restore parity w (omega (arith, size)) code
    ∙ ap (λ j. slice_index w j) place in
    let same : (i : ℕ) → i < length word → slice_index word i ≡ slice_index w i
    = λ i h. elim (cases_lt i n) [
      | inl below ↦ front i below
      | inr above ↦
          let at : n + (i - n) ≡ i = omega (arith, above) in
          ap (λ j. slice_index word j) (sym at) ∙ behind (i - n) (omega (arith, h, len, whole, above)) ∙ ap (λ j. slice_index w j) at
    ] in
    subst (λ v. IsCodeword parity v) (sym (ext_get_or 0 word w (len ∙ sym code.len) same)) code

-- the k-th lost byte of a codeword, summed up of a word that agrees with it elsewhere
pub restored-byte : (parity : ℕ) (lost products word whole : List ℕ) (k : ℕ) → k < length lost → length lost ≤ parity → AreProducts lost products
    → IsCodeword parity whole → AgreesOutside lost word whole
    → total (λ i. field_product (slice_index products (i * length lost + k)) (slice_index word i)) 255 ≡ slice_index whole (slice_index lost k)
restored-byte parity lost products word whole k h enough known code agree =
    let f = λ (i : ℕ). slice_index products (i * length lost + k) in
    let factors = known.each k h in
    let same : (i : ℕ) → i < 255 → field_product (f i) (slice_index word i) ≡ field_product (f i) (slice_index whole i)
    = λ i lt. elim (eqb_tells (f i) 0) [
      | inl e ↦ ap (λ x. field_product x (slice_index word i)) e.1 ∙ product_zero_l (slice_index word i) ∙ sym (ap (λ x. field_product x (slice_index whole i)) e.1 ∙ product_zero_l (slice_index whole i))
      | inr e ↦
          let outside : (j : ℕ) → j < length lost → slice_index lost j ≢ i = λ j less at. e.1 (ap f (sym at) ∙ factors.skip j less) in
          ap (λ x. field_product (f i) x) (agree i outside)
    ] in
    total-same (λ i. field_product (f i) (slice_index word i)) (λ i. field_product (f i) (slice_index whole i)) 255 same ∙ factors.restore parity whole enough code
