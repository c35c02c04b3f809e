-- The factors of erasures.
use Rattle.std.proofs.Common.{◌≡◌, ◌≢◌, ℕ, zero, suc, ◌-◌, ◌<◌, ◌≤◌, List, Bool, true, false, cond, nat_eq, length, map, inl, inr, refl, sym, ap, ◌∙◌, arith}
use Rattle.std.specs.Prelude.{slice_index, EachIndex}
use Rattle.std.specs.List.{range_with_len}
use Rattle.std.proofs.lemmas.Bool.{eq-eqb, ne_eqb, eqb-true}
use Rattle.std.proofs.lemmas.Bool.Decides.{eqb_tells}
use Rattle.std.proofs.lemmas.List.FromFn.{get_or-map-range_with_len}
use Rattle.reed_solomon.specs.Field.{field_inverse, field_product, last_below, power, total}
use Rattle.reed_solomon.specs.Code.{IsCodeword}
use Rattle.reed_solomon.specs.Factors.{erasure_factor}
use Rattle.reed_solomon.specs.Restoring.{AgreesOutside, others, weight}
use Rattle.reed_solomon.specs.declared.tables.TheConstants.{LOGARITHMS}
use Rattle.reed_solomon.proofs.FieldLemmas.{logarithm_lt, power-inverse, power_lt, power_of_logarithm, product_assoc, product_comm, product_one, product_one_r, product_zero_l, product_zero_r}
use Rattle.reed_solomon.proofs.CodeLemmas.{others_lt, recovered, total-same, weight_lost, weight_lt, weight_place}

-- ---- inverses

-- the only number below n that passes a test is found
last-found : (test : ℕ → Bool) (n x : ℕ) → x < n → test x ≡ true → ((y : ℕ) → y < n → test y ≡ true → y ≡ x) → last_below test n ≡ x
unfolding last_below
last-found test zero x h passes only = absurd (omega arith)
last-found test (suc n) x h passes only = go (test n) refl (λ lt. last-found test n x lt passes (λ y less is. only y (omega (arith, less)) is))
  where
    go : (b : Bool) → test n ≡ b → (x < n → last_below test n ≡ x) → cond (test n) n (last_below test n) ≡ x
    go true e below = ap (λ b. cond b n (last_below test n)) e ∙ only n (omega arith) e
    go false e below =
        let apart : x ≢ n = λ same. let both : true ≡ false = sym passes ∙ ap test same ∙ e in cc both in
        ap (λ b. cond b n (last_below test n)) e ∙ below (omega (arith, h, apart))

-- the byte that gives 1 with another one is its inverse
pub inverse-is : (a b : ℕ) → b < 256 → field_product a b ≡ 1 → field_inverse a ≡ b
unfolding field_inverse
inverse-is a b fits one =
    let only : (y : ℕ) → y < 256 → nat_eq (field_product a y) 1 ≡ true → y ≡ b
    = λ y lt is.
    let also : field_product a y ≡ 1 = eqb-true (field_product a y) 1 is in
    sym (product_one_r y lt) ∙ ap (λ x. field_product y x) (sym one) ∙ sym (product_assoc y a b) ∙ ap (λ x. field_product x b) (product_comm y a ∙ also) ∙ product_one b fits in
    last-found (λ y. nat_eq (field_product a y) 1) 256 b fits (eq-eqb (field_product a b) 1 one) only

pub inverse-gives_one : (a : ℕ) → a < 256 → a ≢ 0 → field_product a (field_inverse a) ≡ 1
inverse-gives_one a fits some =
    let l = slice_index LOGARITHMS a in
    let v = power (255 - l) in
    let one : field_product a v ≡ 1 = ap (λ x. field_product x v) (sym (power_of_logarithm a fits some)) ∙ power-inverse l (logarithm_lt a fits) in
    ap (λ x. field_product a x) (inverse-is a v (power_lt (255 - l)) one) ∙ one

pub inverse-lt : (a : ℕ) → a < 256 → a ≢ 0 → field_inverse a < 256
inverse-lt a fits some =
    let l = slice_index LOGARITHMS a in
    let v = power (255 - l) in
    let one : field_product a v ≡ 1 = ap (λ x. field_product x v) (sym (power_of_logarithm a fits some)) ∙ power-inverse l (logarithm_lt a fits) in
    omega (arith, inverse-is a v (power_lt (255 - l)) one, power_lt (255 - l))

-- ---- factors

pub factor-own : (lost : List ℕ) (place : ℕ) → erasure_factor lost place place ≡ 0
factor-own lost place = ap (λ b. cond b 0 (field_product (weight lost place (length lost) place) (field_inverse (weight lost place (length lost) place)))) (eq-eqb place place refl)

pub factor-other : (lost : List ℕ) (place i : ℕ) → i ≢ place → erasure_factor lost place i ≡ field_product (weight lost place (length lost) i) (field_inverse (weight lost place (length lost) place))
factor-other lost place i apart = ap (λ b. cond b 0 (field_product (weight lost place (length lost) i) (field_inverse (weight lost place (length lost) place)))) (ne_eqb i place apart)

pub factor-lost : (lost : List ℕ) (place k : ℕ) → k < length lost → erasure_factor lost place (slice_index lost k) ≡ 0
factor-lost lost place k h = elim (eqb_tells (slice_index lost k) place) [
  | inl e ↦ ap (λ i. erasure_factor lost place i) e.1 ∙ factor-own lost place
  | inr e ↦
      factor-other lost place (slice_index lost k) e.1
      ∙ ap (λ x. field_product x (field_inverse (weight lost place (length lost) place))) (weight_lost lost place (length lost) (slice_index lost k) k h refl e.1)
      ∙ product_zero_l (field_inverse (weight lost place (length lost) place))
]

pub none-product : (f : ℕ) → field_product f 0 ≡ 0
none-product f = product_zero_r f

pub lost-product : (lost : List ℕ) (place k x : ℕ) → k < length lost → field_product (erasure_factor lost place (slice_index lost k)) x ≡ 0
lost-product lost place k x h = ap (λ f. field_product f x) (factor-lost lost place k h) ∙ product_zero_l x

-- the byte of a codeword at an erasure is the sum of its bytes times their factors
pub factor-restores : (parity : ℕ) (lost word : List ℕ) (k : ℕ) → k < length lost → length lost ≤ parity → EachIndex lost (λ i. slice_index lost i < 255) → IsCodeword parity word
    → total (λ i. field_product (erasure_factor lost (slice_index lost k) i) (slice_index word i)) 255 ≡ slice_index word (slice_index lost k)
factor-restores parity lost word k h enough within code =
    let place : ℕ = slice_index lost k in
    let n : ℕ = length lost in
    let v : ℕ = field_inverse (weight lost place n place) in
    let factors : List ℕ = map (erasure_factor lost place) (range_with_len 0 255) in
    let at : (i : ℕ) → i < 255 → slice_index factors i ≡ erasure_factor lost place i = λ i lt. get_or-map-range_with_len (erasure_factor lost place) 0 255 i i 0 lt (omega arith) in
    let few : others lost place n < parity = omega (arith, others_lt lost place n k h refl, enough) in
    let inside : place < 255 = within k h in
    let one = inverse-gives_one (weight lost place n place) (weight_lt lost place n place) (weight_place lost place n inside within) in
    total-same (λ i. field_product (erasure_factor lost place i) (slice_index word i)) (λ i. field_product (slice_index factors i) (slice_index word i)) 255 (λ i lt. ap (λ x. field_product x (slice_index word i)) (sym (at i lt)))
    ∙ recovered parity word lost factors place n v code few inside one (λ i lt apart. at i lt ∙ factor-other lost place i apart) (at place inside ∙ factor-own lost place)

-- of a word that agrees with the codeword elsewhere
pub erased-byte : (parity : ℕ) (lost word codeword : List ℕ) (k : ℕ) → k < length lost → length lost ≤ parity → EachIndex lost (λ i. slice_index lost i < 255)
    → IsCodeword parity codeword → AgreesOutside lost word codeword
    → total (λ i. field_product (erasure_factor lost (slice_index lost k) i) (slice_index word i)) 255 ≡ slice_index codeword (slice_index lost k)
erased-byte parity lost word codeword k h enough within code agree =
    let f = λ (i : ℕ). erasure_factor lost (slice_index lost k) i in
    let same : (i : ℕ) → i < 255 → field_product (f i) (slice_index word i) ≡ field_product (f i) (slice_index codeword i)
    = λ i lt. elim (eqb_tells (f i) 0) [
      | inl e ↦ ap (λ x. field_product x (slice_index word i)) e.1 ∙ product_zero_l (slice_index word i) ∙ sym (ap (λ x. field_product x (slice_index codeword i)) e.1 ∙ product_zero_l (slice_index codeword i))
      | inr e ↦
          let outside : (j : ℕ) → j < length lost → slice_index lost j ≢ i = λ j less at. e.1 (ap f (sym at) ∙ factor-lost lost (slice_index lost k) j less) in
          ap (λ x. field_product (f i) x) (agree i outside)
    ] in
    total-same (λ i. field_product (f i) (slice_index word i)) (λ i. field_product (f i) (slice_index codeword i)) 255 same ∙ factor-restores parity lost codeword k h enough within code
