-- Products over some of the lost positions.
use Rattle.std.proofs.Common.{◌≡◌, ◌≢◌, ℕ, zero, suc, ◌+◌, ◌-◌, ◌<◌, ◌≤◌, List, Bool, true, false, not, ◌||◌, cond, nat_eq, length, inl, inr, ◌⊎◌, refl, sym, ap, ◌∙◌, arith, bit_xor}
use Rattle.std.specs.Prelude.{slice_index, EachIndex}
use Rattle.std.specs.Int.Bits.{xor_self, xor_zero_l}
use Rattle.std.proofs.lemmas.Bool.{eq-eqb, ne_eqb}
use Rattle.std.proofs.lemmas.Bool.Decides.{eqb_tells}
use Rattle.reed_solomon.specs.Field.{field_product, total}
use Rattle.reed_solomon.specs.Laws.{AreDistinct}
use Rattle.reed_solomon.specs.Restoring.{locator, weight}
use Rattle.reed_solomon.proofs.FieldLemmas.{power-injective, power_lt, product-xor, product_assoc, product_comm, product_lt, product_none, xor_byte, xor_same, xor_swap}
use Rattle.reed_solomon.proofs.CodeLemmas.{total-product, total-same, total-xor, weight_none, weight_other, weight_same}

pub either : (b : Bool) → (b ≡ true) ⊎ (b ≡ false)
either true = inl refl
either false = inr refl

pub clash : {P : Type 0} → true ≡ false → P
clash e = absurd cc

-- the locators of two positions differ
pub locators-differ : (a b : ℕ) → a < 255 → b < 255 → a ≢ b → bit_xor (locator a) (locator b) ≢ 0
locators-differ a b ha hb apart none =
    let same = power-injective (254 - a) (254 - b) (omega arith) (omega arith) (xor_same (locator a) (locator b) none) in
    apart (omega (arith, same, ha, hb))

pub total-lt : (f : ℕ → ℕ) (n : ℕ) → ((i : ℕ) → i < n → f i < 256) → total f n < 256
unfolding total
total-lt f zero low = omega arith
total-lt f (suc n) low = xor_byte (total f n) (f n) (total-lt f n (λ i h. low i (omega (arith, h)))) (low n (omega arith))

-- ---- products over some of the positions

-- over those of the first n positions that are kept
pub kept_weight : (ℕ → Bool) → List ℕ → ℕ → ℕ → ℕ
kept_weight keep more zero i = 1
kept_weight keep more (suc n) i = cond (keep (slice_index more n)) (field_product (kept_weight keep more n i) (bit_xor (locator i) (locator (slice_index more n)))) (kept_weight keep more n i)

-- how many of them aren't kept
pub skipped : (ℕ → Bool) → List ℕ → ℕ → ℕ
skipped keep more zero = 0
skipped keep more (suc n) = cond (keep (slice_index more n)) (skipped keep more n) (skipped keep more n + 1)

-- one more is kept
also : (ℕ → Bool) → ℕ → ℕ → Bool
also keep q x = nat_eq x q || keep x

module _ (more : List ℕ) where
  abbrev at : ℕ → ℕ
  at n = slice_index more n

  abbrev step : ℕ → ℕ → ℕ
  step n i = bit_xor (locator i) (locator (at n))

  pub kept-next : (keep : ℕ → Bool) (n i : ℕ) (b : Bool) → keep (at n) ≡ b → kept_weight keep more (suc n) i ≡ cond b (field_product (kept_weight keep more n i) (step n i)) (kept_weight keep more n i)
  unfolding kept_weight
  kept-next keep n i b e = ap (λ t. cond t (field_product (kept_weight keep more n i) (step n i)) (kept_weight keep more n i)) e

  skipped-next : (keep : ℕ → Bool) (n : ℕ) (b : Bool) → keep (at n) ≡ b → skipped keep more (suc n) ≡ cond b (skipped keep more n) (skipped keep more n + 1)
  unfolding skipped
  skipped-next keep n b e = ap (λ t. cond t (skipped keep more n) (skipped keep more n + 1)) e

  pub kept-begin : (keep : ℕ → Bool) (i : ℕ) → kept_weight keep more 0 i ≡ 1
  unfolding kept_weight
  kept-begin keep i = refl

  skipped-begin : (keep : ℕ → Bool) → skipped keep more 0 ≡ 0
  unfolding skipped
  skipped-begin keep = refl

  -- two tests that agree on the first n positions
  kept-same : (keep other : ℕ → Bool) (n i : ℕ) → ((k : ℕ) → k < n → keep (at k) ≡ other (at k)) → kept_weight keep more n i ≡ kept_weight other more n i
  kept-same keep other zero i same = kept-begin keep i ∙ sym (kept-begin other i)
  kept-same keep other (suc n) i same =
      let before = kept-same keep other n i (λ k h. same k (omega (arith, h))) in
      kept-next keep n i (keep (at n)) refl
      ∙ ap (λ w. cond (keep (at n)) (field_product w (step n i)) w) before
      ∙ ap (λ b. cond b (field_product (kept_weight other more n i) (step n i)) (kept_weight other more n i)) (same n (omega arith))
      ∙ sym (kept-next other n i (other (at n)) refl)

  skipped-same : (keep other : ℕ → Bool) (n : ℕ) → ((k : ℕ) → k < n → keep (at k) ≡ other (at k)) → skipped keep more n ≡ skipped other more n
  skipped-same keep other zero same = skipped-begin keep ∙ sym (skipped-begin other)
  skipped-same keep other (suc n) same =
      let before = skipped-same keep other n (λ k h. same k (omega (arith, h))) in
      skipped-next keep n (keep (at n)) refl
      ∙ ap (λ w. cond (keep (at n)) w (w + 1)) before
      ∙ ap (λ b. cond b (skipped other more n) (skipped other more n + 1)) (same n (omega arith))
      ∙ sym (skipped-next other n (other (at n)) refl)

  -- one that isn't kept
  skipped-some : (keep : ℕ → Bool) (n : ℕ) → 0 < skipped keep more n → (a : ℕ) × (a < n) × (keep (at a) ≡ false)
  skipped-some keep zero some = absurd (omega (arith, some, skipped-begin keep))
  skipped-some keep (suc n) some = elim (either (keep (at n))) [
    | inl e ↦
        let rest = skipped-some keep n (omega (arith, some, skipped-next keep n true e)) in
        let low = rest.1 in
        (rest.0, omega (arith, low), rest.2)
    | inr e ↦ (n, omega arith, e)
  ]

  pub skipped-positive : (keep : ℕ → Bool) (n a : ℕ) → a < n → keep (at a) ≡ false → 0 < skipped keep more n
  skipped-positive keep zero a low off = absurd (omega (arith, low))
  skipped-positive keep (suc n) a low off = elim (either (keep (at n))) [
    | inr e ↦ omega (arith, skipped-next keep n false e)
    | inl e ↦ elim (eqb_tells a n) [
      | inl same ↦ clash (sym e ∙ ap (λ k. keep (at k)) (sym same.1) ∙ off)
      | inr other ↦
          let apart = other.1 in
          omega (arith, skipped-next keep n true e, skipped-positive keep n a (omega (arith, low, apart)) off)
    ]
  ]

  skipped-all : (keep : ℕ → Bool) (n a : ℕ) → skipped keep more n ≡ 0 → a < n → keep (at a) ≡ true
  skipped-all keep zero a none low = absurd (omega (arith, low))
  skipped-all keep (suc n) a none low = elim (either (keep (at n))) [
    | inr e ↦ absurd (omega (arith, none, skipped-next keep n false e))
    | inl e ↦ elim (eqb_tells a n) [
      | inl same ↦ ap (λ k. keep (at k)) same.1 ∙ e
      | inr other ↦
          let apart = other.1 in
          skipped-all keep n a (sym (skipped-next keep n true e) ∙ none) (omega (arith, low, apart))
    ]
  ]

  module _ (distinct : AreDistinct more) where
    also-own : (keep : ℕ → Bool) (q : ℕ) → also keep q q ≡ true
    unfolding also
    also-own keep q = ap (λ b. b || keep q) (eq-eqb q q refl)

    also-other : (keep : ℕ → Bool) (q x : ℕ) → x ≢ q → also keep q x ≡ keep x
    unfolding also
    also-other keep q x apart = ap (λ b. b || keep x) (ne_eqb x q apart)

    also-beside : (keep : ℕ → Bool) (a k : ℕ) → a < length more → k < length more → k ≢ a → also keep (at a) (at k) ≡ keep (at k)
    also-beside keep a k ha hk apart = also-other keep (at a) (at k) (λ e. apart (distinct k a hk ha e))

    -- to keep one more multiplies by its locator's sum, and skips one less
    kept-also : (keep : ℕ → Bool) (a n i : ℕ) → n ≤ length more → a < n → keep (at a) ≡ false → kept_weight (also keep (at a)) more n i ≡ field_product (kept_weight keep more n i) (step a i)
    kept-also keep a zero i whole low off = absurd (omega (arith, low))
    kept-also keep a (suc n) i whole low off = elim (eqb_tells a n) [
      | inl same ↦
          let is : a ≡ n = same.1 in
          let before : kept_weight (also keep (at a)) more n i ≡ kept_weight keep more n i
          = kept-same (also keep (at a)) keep n i (λ k h. also-beside keep a k (omega (arith, is, whole)) (omega (arith, h, whole)) (λ e. absurd (omega (arith, e, is, h)))) in
          kept-next (also keep (at a)) n i true (ap (λ k. also keep (at a) (at k)) (sym is) ∙ also-own keep (at a))
          ∙ ap (λ w. field_product w (step n i)) before
          ∙ ap (λ k. field_product (kept_weight keep more n i) (step k i)) (sym is)
          ∙ ap (λ w. field_product w (step a i)) (sym (kept-next keep n i false (ap (λ k. keep (at k)) (sym is) ∙ off)))
      | inr other ↦
          let apart = other.1 in
          let before = kept-also keep a n i (omega (arith, whole)) (omega (arith, low, apart)) off in
          let test : also keep (at a) (at n) ≡ keep (at n) = also-beside keep a n (omega (arith, low, whole)) (omega (arith, whole)) (λ e. apart (sym e)) in
          elim (either (keep (at n))) [
            | inl e ↦
                let w : ℕ = kept_weight keep more n i in
                kept-next (also keep (at a)) n i true (test ∙ e)
                ∙ ap (λ x. field_product x (step n i)) before
                ∙ product_assoc w (step a i) (step n i)
                ∙ ap (λ x. field_product w x) (product_comm (step a i) (step n i))
                ∙ sym (product_assoc w (step n i) (step a i))
                ∙ ap (λ x. field_product x (step a i)) (sym (kept-next keep n i true e))
            | inr e ↦
                kept-next (also keep (at a)) n i false (test ∙ e)
                ∙ before
                ∙ ap (λ x. field_product x (step a i)) (sym (kept-next keep n i false e))
          ]
    ]

    skipped-also : (keep : ℕ → Bool) (a n : ℕ) → n ≤ length more → a < n → keep (at a) ≡ false → skipped (also keep (at a)) more n + 1 ≡ skipped keep more n
    skipped-also keep a zero whole low off = absurd (omega (arith, low))
    skipped-also keep a (suc n) whole low off = elim (eqb_tells a n) [
      | inl same ↦
          let is : a ≡ n = same.1 in
          let before : skipped (also keep (at a)) more n ≡ skipped keep more n
          = skipped-same (also keep (at a)) keep n (λ k h. also-beside keep a k (omega (arith, is, whole)) (omega (arith, h, whole)) (λ e. absurd (omega (arith, e, is, h)))) in
          let now = skipped-next (also keep (at a)) n true (ap (λ k. also keep (at a) (at k)) (sym is) ∙ also-own keep (at a)) in
          let then = skipped-next keep n false (ap (λ k. keep (at k)) (sym is) ∙ off) in
          omega (arith, before, now, then)
      | inr other ↦
          let apart = other.1 in
          let before = skipped-also keep a n (omega (arith, whole)) (omega (arith, low, apart)) off in
          let test : also keep (at a) (at n) ≡ keep (at n) = also-beside keep a n (omega (arith, low, whole)) (omega (arith, whole)) (λ e. apart (sym e)) in
          elim (either (keep (at n))) [
            | inl e ↦
                let now = skipped-next (also keep (at a)) n true (test ∙ e) in
                let then = skipped-next keep n true e in
                omega (arith, before, now, then)
            | inr e ↦
                let now = skipped-next (also keep (at a)) n false (test ∙ e) in
                let then = skipped-next keep n false e in
                omega (arith, before, now, then)
          ]
    ]

    -- all but one
    but : ℕ → ℕ → Bool
    but q x = not (nat_eq x q)

    unfolding-but : (q x : ℕ) → x ≢ q → but q x ≡ true
    unfolding but
    unfolding-but q x apart = ap not (ne_eqb x q apart)

    but-own : (q : ℕ) → but q q ≡ false
    unfolding but
    but-own q = ap not (eq-eqb q q refl)

    weight-kept : (q n i : ℕ) → weight more q n i ≡ kept_weight (but q) more n i
    weight-kept q zero i = weight_none more q i ∙ sym (kept-begin (but q) i)
    weight-kept q (suc n) i = elim (eqb_tells (at n) q) [
      | inl e ↦
          weight_same more q n i e.1 ∙ weight-kept q n i ∙ sym (kept-next (but q) n i false (ap (λ x. but q x) e.1 ∙ but-own q))
      | inr e ↦
          weight_other more q n i e.1 ∙ ap (λ w. field_product w (step n i)) (weight-kept q n i) ∙ sym (kept-next (but q) n i true (unfolding-but q (at n) e.1))
    ]

    module _ (word : List ℕ) (within : EachIndex more (λ k. slice_index more k < 255)) (none : (a : ℕ) → a < length more → total (λ i. field_product (weight more (at a) (length more) i) (slice_index word i)) 255 ≡ 0) where
      abbrev n : ℕ
      n = length more

      abbrev sum : (ℕ → Bool) → ℕ
      sum keep = total (λ i. field_product (kept_weight keep more n i) (slice_index word i)) 255

      -- of one more kept
      sum-also : (keep : ℕ → Bool) (a : ℕ) → a < n → keep (at a) ≡ false → sum (also keep (at a)) ≡ total (λ i. field_product (step a i) (field_product (kept_weight keep more n i) (slice_index word i))) 255
      sum-also keep a low off = total-same (λ i. field_product (kept_weight (also keep (at a)) more n i) (slice_index word i)) (λ i. field_product (step a i) (field_product (kept_weight keep more n i) (slice_index word i))) 255
          (λ i h. ap (λ w. field_product w (slice_index word i)) (kept-also keep a n i (omega arith) low off ∙ product_comm (kept_weight keep more n i) (step a i)) ∙ product_assoc (step a i) (kept_weight keep more n i) (slice_index word i))

      pub sum-none : (s : ℕ) (keep : ℕ → Bool) → skipped keep more n ≡ suc s → sum keep ≡ 0
      sum-none zero keep count =
          let found = skipped-some keep n (omega (arith, count)) in
          let a = found.0 in
          let rest : skipped (also keep (at a)) more n ≡ 0 = omega (arith, count, skipped-also keep a n (omega arith) found.1 found.2) in
          let same : (k : ℕ) → k < n → keep (at k) ≡ but (at a) (at k)
          = λ k h. elim (eqb_tells k a) [
            | inl e ↦ ap (λ x. keep (at x)) e.1 ∙ found.2 ∙ sym (ap (λ x. but (at a) (at x)) e.1 ∙ but-own (at a))
            | inr e ↦
                let apart : at k ≢ at a = λ q. e.1 (distinct k a h found.1 q) in
                sym (also-other keep (at a) (at k) apart) ∙ skipped-all (also keep (at a)) n k rest h ∙ sym (unfolding-but (at a) (at k) apart)
          ] in
          total-same (λ i. field_product (kept_weight keep more n i) (slice_index word i)) (λ i. field_product (weight more (at a) n i) (slice_index word i)) 255
          (λ i h. ap (λ w. field_product w (slice_index word i)) (kept-same keep (but (at a)) n i same ∙ sym (weight-kept (at a) n i)))
          ∙ none a found.1
      sum-none (suc s) keep count =
          let one = skipped-some keep n (omega (arith, count)) in
          let a = one.0 in
          let first : skipped (also keep (at a)) more n ≡ suc s = omega (arith, count, skipped-also keep a n (omega arith) one.1 one.2) in
          let two = skipped-some (also keep (at a)) n (omega (arith, first)) in
          let b = two.0 in
          let apart : at b ≢ at a = λ e. clash (sym (ap (λ x. also keep (at a) x) e ∙ also-own keep (at a)) ∙ two.2) in
          let off : keep (at b) ≡ false = sym (also-other keep (at a) (at b) apart) ∙ two.2 in
          let second : skipped (also keep (at b)) more n ≡ suc s = omega (arith, count, skipped-also keep b n (omega arith) two.1 off) in
          let low : ℕ → ℕ = λ i. field_product (kept_weight keep more n i) (slice_index word i) in
          let gone_a : total (λ i. field_product (step a i) (low i)) 255 ≡ 0 = sym (sum-also keep a one.1 one.2) ∙ sum-none s (also keep (at a)) first in
          let gone_b : total (λ i. field_product (step b i) (low i)) 255 ≡ 0 = sym (sum-also keep b two.1 off) ∙ sum-none s (also keep (at b)) second in
          let gap : ℕ = bit_xor (locator (at a)) (locator (at b)) in
          let each : (i : ℕ) → i < 255 → field_product gap (low i) ≡ bit_xor (field_product (step a i) (low i)) (field_product (step b i) (low i))
          = λ i h. ap (λ x. field_product x (low i)) (gap-is (locator i) (locator (at a)) (locator (at b))) ∙ product-xor (step a i) (step b i) (low i) in
          let joined : total (λ i. field_product gap (low i)) 255 ≡ 0
          = total-same (λ i. field_product gap (low i)) (λ i. bit_xor (field_product (step a i) (low i)) (field_product (step b i) (low i))) 255 each
          ∙ total-xor (λ i. field_product (step a i) (low i)) (λ i. field_product (step b i) (low i)) 255
          ∙ ap (λ x. bit_xor x (total (λ i. field_product (step b i) (low i)) 255)) gone_a
          ∙ ap (λ x. bit_xor 0 x) gone_b in
          product_none gap (sum keep) (xor_byte (locator (at a)) (locator (at b)) (power_lt (254 - at a)) (power_lt (254 - at b))) (total-lt low 255 (λ i h. product_lt (kept_weight keep more n i) (slice_index word i)))
          (locators-differ (at a) (at b) (within a one.1) (within b two.1) (λ e. apart (sym e)))
          (sym (total-product gap low 255) ∙ joined)
        where
          gap-is : (x y z : ℕ) → bit_xor y z ≡ bit_xor (bit_xor x y) (bit_xor x z)
          gap-is x y z =
              sym (
              xor_swap x y x z
              ∙ ap (λ t. bit_xor t (bit_xor y z)) (xor_self x)
              ∙ xor_zero_l (bit_xor y z)
              )
