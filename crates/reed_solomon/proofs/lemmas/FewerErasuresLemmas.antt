-- A word that the code restored at some positions is restored the same if fewer of them are erased.
use Rattle.std.proofs.Common.{◌≡◌, ◌≢◌, ℕ, zero, suc, ◌+◌, ◌-◌, ◌<◌, ◌≤◌, List, [], ◌∷◌, ◌++◌, Bool, true, false, not, ◌&&◌, cond, nat_eq, length, inl, inr, refl, sym, ap, ◌∙◌, arith, bit_xor}
use Rattle.std.specs.Prelude.{slice_index, EachIndex}
use Rattle.std.specs.Int.Bits.{xor_assoc, xor_self, xor_zero_l, xor_zero_r}
use Rattle.std.proofs.lemmas.Bool.{cases_lt, eq-eqb}
use Rattle.std.proofs.lemmas.Bool.Decides.{eqb_tells}
use Rattle.std.proofs.lemmas.List.{get_or_append_left, get_or-append-add, length-append}
use Rattle.reed_solomon.specs.Field.{field_inverse, field_product, total}
use Rattle.reed_solomon.specs.Factors.{erasure_factor}
use Rattle.reed_solomon.specs.Laws.{FewerErasuresRestoreTheSame, selected}
use Rattle.reed_solomon.specs.Restoring.{locator, weight}
use Rattle.reed_solomon.proofs.FieldLemmas.{product_assoc, product_comm, product_lt, product_none, product_one, product_zero_l, product_zero_r}
use Rattle.reed_solomon.proofs.CodeLemmas.{total-product, total-same, total-xor, total_single, weight_lt, weight_none, weight_other, weight_place, weight_same}
use Rattle.reed_solomon.proofs.lemmas.ErasureLemmas.{factor-other, factor-own, inverse-gives_one, inverse-lt}
use Rattle.reed_solomon.proofs.lemmas.KeptWeightLemmas.{clash, either, total-lt, kept_weight, skipped, kept-next, kept-begin, skipped-positive, sum-none}

-- ---- one sum for each position

module _ (word : List ℕ) where
  -- the bytes times the weights of all erasures but one
  abbrev weighted : List ℕ → ℕ → ℕ → ℕ
  weighted lost place i = field_product (weight lost place (length lost) i) (slice_index word i)

  abbrev combined : List ℕ → ℕ → ℕ → ℕ
  combined lost place i = field_product (erasure_factor lost place i) (slice_index word i)

  abbrev scale : List ℕ → ℕ → ℕ
  scale lost place = field_inverse (weight lost place (length lost) place)

  module _ (lost : List ℕ) (place : ℕ) (inside : place < 255) (within : EachIndex lost (λ k. slice_index lost k < 255)) (fits : slice_index word place < 256) where
    one : field_product (weight lost place (length lost) place) (scale lost place) ≡ 1
    one = inverse-gives_one (weight lost place (length lost) place) (weight_lt lost place (length lost) place) (weight_place lost place (length lost) inside within)

    -- the sum by factors, and that by weights times the scale, differ by the byte at the place
    both : bit_xor (total (combined lost place) 255) (field_product (scale lost place) (total (weighted lost place) 255)) ≡ slice_index word place
    both =
        let v : ℕ = scale lost place in
        let f : ℕ → ℕ = combined lost place in
        let g : ℕ → ℕ = λ i. field_product v (weighted lost place i) in
        let rest : (i : ℕ) → i < 255 → i ≢ place → bit_xor (f i) (g i) ≡ 0
        = λ i h apart.
        let w : ℕ = weight lost place (length lost) i in
        let b : ℕ = slice_index word i in
        let is : f i ≡ field_product (field_product w v) b = ap (λ x. field_product x b) (factor-other lost place i apart) in
        let turn : field_product (field_product w v) b ≡ g i = ap (λ x. field_product x b) (product_comm w v) ∙ product_assoc v w b in
        ap (λ x. bit_xor x (g i)) (is ∙ turn) ∙ xor_self (g i) in
        let own : bit_xor (f place) (g place) ≡ slice_index word place
        = let b : ℕ = slice_index word place in
        let w : ℕ = weight lost place (length lost) place in
        let none : f place ≡ 0 = ap (λ x. field_product x b) (factor-own lost place) ∙ product_zero_l b in
        let kept : g place ≡ b = sym (product_assoc v w b) ∙ ap (λ x. field_product x b) (product_comm v w ∙ one) ∙ product_one b fits in
        ap (λ x. bit_xor x (g place)) none ∙ xor_zero_l (g place) ∙ kept in
        ap (λ x. bit_xor (total f 255) x) (sym (total-product v (weighted lost place) 255))
        ∙ sym (total-xor f g 255)
        ∙ total_single (λ i. bit_xor (f i) (g i)) 255 place inside rest
        ∙ own

    -- where the word is restored, the weighted bytes sum to 0
    to-none : total (combined lost place) 255 ≡ slice_index word place → total (weighted lost place) 255 ≡ 0
    to-none restored =
        let v : ℕ = scale lost place in
        let sum : ℕ = total (weighted lost place) 255 in
        let b : ℕ = slice_index word place in
        let gone : field_product v sum ≡ 0
        = let cancel : bit_xor b (field_product v sum) ≡ b = ap (λ x. bit_xor x (field_product v sum)) (sym restored) ∙ both in
        let zeroed : bit_xor b b ≡ 0 = xor_self b in
        let swapped : bit_xor b (bit_xor b (field_product v sum)) ≡ field_product v sum = sym (xor_assoc b b (field_product v sum)) ∙ ap (λ x. bit_xor x (field_product v sum)) zeroed ∙ xor_zero_l (field_product v sum) in
        sym swapped ∙ ap (λ x. bit_xor b x) cancel ∙ zeroed in
        let some : v ≢ 0 = λ e. let zero_one : 0 ≡ 1 = sym (ap (λ x. field_product (weight lost place (length lost) place) x) e ∙ product_zero_r (weight lost place (length lost) place)) ∙ one in absurd (omega (arith, zero_one)) in
        product_none v sum (inverse-lt (weight lost place (length lost) place) (weight_lt lost place (length lost) place) (weight_place lost place (length lost) inside within)) (total-lt (weighted lost place) 255 (λ i h. product_lt (weight lost place (length lost) i) (slice_index word i))) some gone

    -- and where they do, the word is restored
    from-none : total (weighted lost place) 255 ≡ 0 → total (combined lost place) 255 ≡ slice_index word place
    from-none none =
        sym (xor_zero_r (total (combined lost place) 255))
        ∙ ap (λ x. bit_xor (total (combined lost place) 255) x) (sym (ap (λ x. field_product (scale lost place) x) none ∙ product_zero_r (scale lost place)))
        ∙ both

-- ---- the positions that are selected

weight-append : (xs ys : List ℕ) (place n i : ℕ) → n ≤ length xs → weight (xs ++ ys) place n i ≡ weight xs place n i
weight-append xs ys place zero i h = weight_none (xs ++ ys) place i ∙ sym (weight_none xs place i)
weight-append xs ys place (suc n) i h =
    let same : slice_index (xs ++ ys) n ≡ slice_index xs n = get_or_append_left xs ys 0 n (omega (arith, h)) in
    let before = weight-append xs ys place n i (omega (arith, h)) in
    elim (eqb_tells (slice_index xs n) place) [
      | inl e ↦ weight_same (xs ++ ys) place n i (same ∙ e.1) ∙ before ∙ sym (weight_same xs place n i e.1)
      | inr e ↦
          weight_other (xs ++ ys) place n i (λ q. e.1 (sym same ∙ q))
          ∙ ap (λ w. field_product w (bit_xor (locator i) (locator (slice_index (xs ++ ys) n)))) before
          ∙ ap (λ q. field_product (weight xs place n i) (bit_xor (locator i) (locator q))) same
          ∙ sym (weight_other xs place n i e.1)
    ]

module _ (keep : ℕ → Bool) (more : List ℕ) where
  abbrev some : ℕ → List ℕ
  some n = selected keep more n

  selected-next : (n : ℕ) (b : Bool) → keep (slice_index more n) ≡ b → some (suc n) ≡ cond b (some n ++ (slice_index more n ∷ [])) (some n)
  unfolding selected
  selected-next n b e = ap (λ t. cond t (some n ++ (slice_index more n ∷ [])) (some n)) e

  selected-begin : some 0 ≡ []
  unfolding selected
  selected-begin = refl

  -- each of them is kept
  pub selected-at : (n k : ℕ) → k < length (some n) → (a : ℕ) × (a < n) × (slice_index (some n) k ≡ slice_index more a) × (keep (slice_index more a) ≡ true)
  selected-at zero k low = let none : length (some 0) ≡ 0 = ap length selected-begin in absurd (omega (arith, low, none))
  selected-at (suc n) k low = elim (either (keep (slice_index more n))) [
    | inr e ↦
        let same = selected-next n false e in
        let long : length (some (suc n)) ≡ length (some n) = ap length same in
        let rest = selected-at n k (omega (arith, low, long)) in
        let less = rest.1 in
        (rest.0, omega (arith, less), ap (λ xs. slice_index xs k) same ∙ rest.2, rest.3)
    | inl e ↦
        let same = selected-next n true e in
        let long : length (some (suc n)) ≡ length (some n) + 1 = ap length same ∙ length-append (some n) (slice_index more n ∷ []) in
        elim (cases_lt k (length (some n))) [
          | inl less ↦
              let rest = selected-at n k less in
              let before = rest.1 in
              (rest.0, omega (arith, before), ap (λ xs. slice_index xs k) same ∙ get_or_append_left (some n) (slice_index more n ∷ []) 0 k less ∙ rest.2, rest.3)
          | inr last ↦
              let is : k ≡ length (some n) + 0 = omega (arith, low, long, last) in
              (n, omega arith, ap (λ xs. slice_index xs k) same ∙ ap (λ j. slice_index (some n ++ (slice_index more n ∷ [])) j) is ∙ get_or-append-add (some n) (slice_index more n ∷ []) 0 0, e)
        ]
  ]

  -- and one that is kept is among them
  pub selected-in : (n a : ℕ) → a < n → keep (slice_index more a) ≡ true → (k : ℕ) × (k < length (some n)) × (slice_index (some n) k ≡ slice_index more a)
  selected-in zero a low on = absurd (omega (arith, low))
  selected-in (suc n) a low on = elim (either (keep (slice_index more n))) [
    | inr e ↦
        let same = selected-next n false e in
        let long : length (some (suc n)) ≡ length (some n) = ap length same in
        let apart : a ≢ n = λ q. clash (sym on ∙ ap (λ j. keep (slice_index more j)) q ∙ e) in
        let rest = selected-in n a (omega (arith, low, apart)) on in
        let less = rest.1 in
        (rest.0, omega (arith, less, long), ap (λ xs. slice_index xs rest.0) same ∙ rest.2)
    | inl e ↦
        let same = selected-next n true e in
        let long : length (some (suc n)) ≡ length (some n) + 1 = ap length same ∙ length-append (some n) (slice_index more n ∷ []) in
        elim (eqb_tells a n) [
          | inl last ↦
              let none : length (some n) ≡ length (some n) + 0 = omega arith in
              (length (some n), omega (arith, long), ap (λ xs. slice_index xs (length (some n))) same ∙ ap (λ j. slice_index (some n ++ (slice_index more n ∷ [])) j) none ∙ get_or-append-add (some n) (slice_index more n ∷ []) 0 0 ∙ ap (λ j. slice_index more j) (sym last.1))
          | inr other ↦
              let apart = other.1 in
              let rest = selected-in n a (omega (arith, low, apart)) on in
              let less = rest.1 in
              (rest.0, omega (arith, less, long), ap (λ xs. slice_index xs rest.0) same ∙ get_or_append_left (some n) (slice_index more n ∷ []) 0 rest.0 less ∙ rest.2)
        ]
  ]

  -- the weight of the selected ones but one is the product over these
  abbrev those : ℕ → ℕ → Bool
  those place x = keep x && not (nat_eq x place)

  selected-weight : (place n i : ℕ) → weight (some n) place (length (some n)) i ≡ kept_weight (those place) more n i
  selected-weight place zero i =
      ap (λ xs. weight xs place (length xs) i) selected-begin ∙ weight_none [] place i ∙ sym (kept-begin more (those place) i)
  selected-weight place (suc n) i =
      let q : ℕ = slice_index more n in
      let before = selected-weight place n i in
      elim (either (keep q)) [
        | inr e ↦
            ap (λ xs. weight xs place (length xs) i) (selected-next n false e) ∙ before
            ∙ sym (kept-next more (those place) n i false (ap (λ b. b && not (nat_eq q place)) e))
        | inl e ↦
            let xs : List ℕ = some n in
            let long : length (xs ++ (q ∷ [])) ≡ suc (length xs) = length-append xs (q ∷ []) ∙ one-more (length xs) in
            let last : slice_index (xs ++ (q ∷ [])) (length xs) ≡ q = ap (λ j. slice_index (xs ++ (q ∷ [])) j) (plus-none (length xs)) ∙ get_or-append-add xs (q ∷ []) 0 0 in
            let front = weight-append xs (q ∷ []) place (length xs) i (omega arith) in
            ap (λ ys. weight ys place (length ys) i) (selected-next n true e)
            ∙ ap (λ j. weight (xs ++ (q ∷ [])) place j i) long
            ∙ elim (eqb_tells q place) [
              | inl same ↦
                  weight_same (xs ++ (q ∷ [])) place (length xs) i (last ∙ same.1) ∙ front ∙ before
                  ∙ sym (kept-next more (those place) n i false (ap (λ b. b && not (nat_eq q place)) e ∙ ap not same.0))
              | inr other ↦
                  weight_other (xs ++ (q ∷ [])) place (length xs) i (λ x. other.1 (sym last ∙ x))
                  ∙ ap (λ x. field_product (weight (xs ++ (q ∷ [])) place (length xs) i) (bit_xor (locator i) (locator x))) last
                  ∙ ap (λ w. field_product w (bit_xor (locator i) (locator q))) (front ∙ before)
                  ∙ sym (kept-next more (those place) n i true (ap (λ b. b && not (nat_eq q place)) e ∙ ap not other.0))
            ]
      ]
    where
      one-more : (k : ℕ) → k + 1 ≡ suc k
      one-more k = omega arith

      plus-none : (k : ℕ) → k ≡ k + 0
      plus-none k = omega arith

pub fewer-restored : FewerErasuresRestoreTheSame
fewer-restored more word keep distinct within restored k low =
    let n : ℕ = length more in
    let lost : List ℕ = selected keep more n in
    let found = selected-at keep more n k low in
    let a = found.0 in
    let place : ℕ = slice_index lost k in
    let is : place ≡ slice_index more a = found.2 in
    let fits : (b : ℕ) → b < n → slice_index word (slice_index more b) < 256
    = λ b h. omega (arith, restored b h, total-lt (combined word more (slice_index more b)) 255 (λ i below. product_lt (erasure_factor more (slice_index more b) i) (slice_index word i))) in
    let none : (b : ℕ) → b < n → total (λ i. field_product (weight more (slice_index more b) n i) (slice_index word i)) 255 ≡ 0
    = λ b h. to-none word more (slice_index more b) (within b h) within (fits b h) (restored b h) in
    let off : those keep more place (slice_index more a) ≡ false = ap (λ b. b && not (nat_eq (slice_index more a) place)) found.3 ∙ ap not (eq-eqb (slice_index more a) place (sym is)) in
    let lost_within : EachIndex lost (λ j. slice_index lost j < 255)
    = λ j h. let one = selected-at keep more n j h in let same = one.2 in omega (arith, same, within one.0 one.1) in
    let count = skipped-positive more (those keep more place) n a found.1 off in
    let gone : total (λ i. field_product (kept_weight (those keep more place) more n i) (slice_index word i)) 255 ≡ 0
    = sum-none more distinct word within none (skipped (those keep more place) more n - 1) (those keep more place) (omega (arith, count)) in
    let byte : slice_index word place ≡ slice_index word (slice_index more a) = ap (λ j. slice_index word j) is in
    from-none word lost place (lost_within k low) lost_within (omega (arith, byte, fits a found.1))
    (total-same (λ i. field_product (weight lost place (length lost) i) (slice_index word i)) (λ i. field_product (kept_weight (those keep more place) more n i) (slice_index word i)) 255
    (λ i h. ap (λ w. field_product w (slice_index word i)) (selected-weight keep more place n i)) ∙ gone)
