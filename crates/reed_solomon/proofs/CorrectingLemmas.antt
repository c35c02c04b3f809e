-- Words that differ at few positions.
use Rattle.std.proofs.Common.{◌≡◌, ◌≢◌, ℕ, zero, suc, ◌+◌, ◌/◌, ◌<◌, ◌≤◌, Bool, cond, List, [], ◌∷◌, length, refl, sym, ap, ◌∙◌, inl, inr, arith}
use Rattle.std.specs.Prelude.{slice_index}
use Rattle.std.proofs.lemmas.Bool.{cases_lt}
use Rattle.std.proofs.lemmas.Bool.Decides.{eqb_tells}
use Rattle.std.proofs.lemmas.List.{get_or_past}
use Rattle.reed_solomon.specs.Code.{IsCodeword}
use Rattle.reed_solomon.specs.Correcting.{IsCorrected, differing, other}
use Rattle.reed_solomon.specs.Restoring.{AgreesOutside}
use Rattle.reed_solomon.proofs.RestoringLemmas.{codewords_equal}

pub differing-none : (v w : List ℕ) → differing v w 0 ≡ 0
unfolding differing
differing-none v w = refl

differing-suc : (v w : List ℕ) (n : ℕ) → differing v w (suc n) ≡ differing v w n + other (slice_index v n) (slice_index w n)
unfolding differing
differing-suc v w n = refl

pub differing-next : (v w : List ℕ) (n : ℕ) → differing v w (n + 1) ≡ differing v w n + other (slice_index v n) (slice_index w n)
differing-next v w n =
    let more : n + 1 ≡ suc n = omega arith in
    ap (λ k. differing v w k) more ∙ differing-suc v w n

-- two words that have the same byte at position n, or other bytes
differing-same : (v w : List ℕ) (n : ℕ) → slice_index v n ≡ slice_index w n → differing v w (suc n) ≡ differing v w n
differing-same v w n same =
    elim (eqb_tells (slice_index v n) (slice_index w n)) [
      | inl e ↦
          let none : other (slice_index v n) (slice_index w n) ≡ 0 = ap (λ (b : Bool). cond b 0 1) e.0 in
          omega (arith, differing-suc v w n, none)
      | inr e ↦ absurd (e.1 same)
    ]

differing-apart : (v w : List ℕ) (n : ℕ) → slice_index v n ≢ slice_index w n → differing v w (suc n) ≡ differing v w n + 1
differing-apart v w n apart =
    elim (eqb_tells (slice_index v n) (slice_index w n)) [
      | inl e ↦ absurd (apart e.1)
      | inr e ↦
          let one : other (slice_index v n) (slice_index w n) ≡ 1 = ap (λ (b : Bool). cond b 0 1) e.0 in
          omega (arith, differing-suc v w n, one)
    ]

differing-least : (v w : List ℕ) (n : ℕ) → differing v w n ≤ differing v w (suc n)
differing-least v w n = omega (arith, differing-suc v w n)

-- two words differ at no more positions than both do from a third one
triangle : (u v w : List ℕ) (n : ℕ) → differing v w n ≤ differing u v n + differing u w n
triangle u v w zero = omega (arith, differing-none v w)
triangle u v w (suc n) =
    let before = triangle u v w n in
    elim (eqb_tells (slice_index v n) (slice_index w n)) [
      | inl e ↦ omega (arith, before, differing-same v w n e.1, differing-least u v n, differing-least u w n)
      | inr e ↦ elim (eqb_tells (slice_index u n) (slice_index v n)) [
        | inl f ↦
            let apart : slice_index u n ≢ slice_index w n = λ q. e.1 (sym f.1 ∙ q) in
            omega (arith, before, differing-apart v w n e.1, differing-apart u w n apart, differing-least u v n)
        | inr f ↦ omega (arith, before, differing-apart v w n e.1, differing-apart u v n f.1, differing-least u w n)
      ]
    ]

-- ---- where two words differ

-- among the first n positions two words have the same bytes at all but these, which are no more than they differ at
record AreDiffering (v w : List ℕ) (n : ℕ) (places : List ℕ) : Type 0 where
  pub count : length places ≤ differing v w n
  pub within : (k : ℕ) → k < length places → slice_index places k < n
  pub same : (i : ℕ) → i < n → ((k : ℕ) → k < length places → slice_index places k ≢ i) → slice_index v i ≡ slice_index w i

within-more : (n : ℕ) (places : List ℕ) → ((k : ℕ) → k < length places → slice_index places k < n) → (k : ℕ) → k < length (n ∷ places) → slice_index (n ∷ places) k < suc n
within-more n places before zero h =
    let is : slice_index (n ∷ places) zero ≡ n = refl in
    omega (arith, is)
within-more n places before (suc k) h =
    let size : length (n ∷ places) ≡ suc (length places) = refl in
    let here : slice_index places k < n = before k (omega (arith, h, size)) in
    let is : slice_index (n ∷ places) (suc k) ≡ slice_index places k = refl in
    omega (arith, here, is)

-- at one position more
same-more : (v w : List ℕ) (n : ℕ) (places : List ℕ) → AreDiffering v w n places → slice_index v n ≡ slice_index w n → AreDiffering v w (suc n) places
same-more v w n places are here = record {
  count = omega (arith, are.count, differing-same v w n here);
  within = λ k h. omega (arith, are.within k h);
  same = λ i h outside. elim (eqb_tells i n) [
    | inl f ↦ ap (λ j. slice_index v j) f.1 ∙ here ∙ ap (λ j. slice_index w j) (sym f.1)
    | inr f ↦
        let apart : i ≢ n = f.1 in
        are.same i (omega (arith, h, apart)) outside
  ];
}

apart-more : (v w : List ℕ) (n : ℕ) (places : List ℕ) → AreDiffering v w n places → slice_index v n ≢ slice_index w n → AreDiffering v w (suc n) (n ∷ places)
apart-more v w n places are here =
    let size : length (n ∷ places) ≡ suc (length places) = refl in
    record {
      count = omega (arith, size, are.count, differing-apart v w n here);
      within = within-more n places are.within;
      same = λ i h outside. elim (eqb_tells i n) [
        | inl f ↦ absurd (outside 0 (omega (arith, size)) (sym f.1))
        | inr f ↦
            let apart : i ≢ n = f.1 in
            are.same i (omega (arith, h, apart)) (λ k lt. outside (suc k) (omega (arith, lt, size)))
      ];
    }

none-differing : (v w : List ℕ) → AreDiffering v w 0 []
none-differing v w =
    let places : List ℕ = [] in
    let none : length places ≡ 0 = refl in
    record {
      count = omega (arith, none);
      within = λ k h. absurd (omega (arith, h, none));
      same = λ i h outside. absurd (omega (arith, h));
    }

differing-places : (v w : List ℕ) (n : ℕ) → (places : List ℕ) × AreDiffering v w n places
differing-places v w zero = ([], none-differing v w)
differing-places v w (suc n) =
    let before = differing-places v w n in
    elim (eqb_tells (slice_index v n) (slice_index w n)) [
      | inl e ↦ (before.0, same-more v w n before.0 before.1 e.1)
      | inr e ↦ (n ∷ before.0, apart-more v w n before.0 before.1 e.1)
    ]

-- the only codeword that is so near
near-at : (parity : ℕ) (word v w places : List ℕ) → AreDiffering v w 255 places → IsCorrected parity word v → IsCorrected parity word w → v ≡ w
near-at parity word v w places are one two =
    let far = triangle word v w 255 in
    let agree : AgreesOutside places v w
    = λ i outside. elim (cases_lt i 255) [
      | inl h ↦ are.same i h outside
      | inr past ↦ get_or_past v i 0 (omega (arith, one.code.len, past)) ∙ sym (get_or_past w i 0 (omega (arith, two.code.len, past)))
    ] in
    codewords_equal parity places v w (omega (arith, are.count, far, one.near, two.near)) are.within one.code two.code agree

pub near-equal : (parity : ℕ) (word v w : List ℕ) → IsCorrected parity word v → IsCorrected parity word w → v ≡ w
near-equal parity word v w one two =
    let found = differing-places v w 255 in
    near-at parity word v w found.0 found.1 one two
