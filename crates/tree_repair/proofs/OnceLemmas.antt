-- Runs of which no two visits are of one block.
use Rattle.std.proofs.Common.{◌≡◌, ◌≤◌, ◌<◌, ◌+◌, ◌*◌, ◌/◌, ◌%◌, ◌^◌, ℕ, suc, List, [], ◌∷◌, ◌++◌, refl, sym, ◌∙◌, subst, arith, inl, inr, ◌⊎◌}
use Rattle.std.proofs.Math.Nat.{div-mul-le_self, mul-le-mul_right}
use Rattle.std.proofs.lemmas.Bool.{cases_lt}
use Rattle.std.proofs.lemmas.List.Elements.{All-cons, All-head, All-nil, All-tail}
use Rattle.std.proofs.lemmas.Nat.{le-div}
use Rattle.tree_shape.specs.Shape.{ShapeRecord, IsShape, ancestor, levels, per_block}
use Rattle.tree_shape.proofs.lemmas.ShapeLemmas.{pow_pos}
use Rattle.tree_path.proofs.lemmas.SpanLemmas.{lower-mod, whole}
use Rattle.tree_repair.specs.declared.place.Row.{Row}
use Rattle.tree_repair.specs.Coverage.{AreVisitedOnce, AreVisitsDue, IsBlockAt, IsDueAt, IsFromTo, IsFromUp, IsOfRowBefore, IsVisitedIn}
use Rattle.tree_repair.specs.Runs.{Visit}
use Rattle.tree_repair.proofs.RowLemmas.{per_block-some}

-- What is due falls into two parts, which have no block in common.
pub record AreParts (s : ShapeRecord) (Due First Next : ℕ → ℕ → Type 0) : Type 0 where
  pub either : (h i : ℕ) → Due h i → First h i ⊎ Next h i
  pub first : (h i : ℕ) → First h i → IsDueAt s Due h i
  pub next : (h i : ℕ) → Next h i → IsDueAt s Due h i
  pub apart : (h i m : ℕ) → First h i → Next h m → ancestor s h i ≡ ancestor s h m → ⊥

module _ (s : ShapeRecord) where
  in-or : (h i : ℕ) (vs us : List Visit) → IsVisitedIn s h i (vs ++ us) → IsVisitedIn s h i vs ⊎ IsVisitedIn s h i us
  in-or h i [] us at = inr at
  in-or h i (v ∷ more) us (inl here) = inl (inl here)
  in-or h i (v ∷ more) us (inr there) = elim (in-or h i more us there) [
    | inl before ↦ inl (inr before)
    | inr behind ↦ inr behind
  ]

  pub due-at : (Due : ℕ → ℕ → Type 0) (h i : ℕ) → Due h i → IsDueAt s Due h i
  due-at Due h i due = record { beside = i; due = due; same = refl }

  -- what is due for one is due for the other
  pub all-due : (First Due : ℕ → ℕ → Type 0) (vs : List Visit) → ((h i : ℕ) → First h i → IsDueAt s Due h i) → AreVisitsDue s First vs → AreVisitsDue s Due vs
  all-due First Due vs of all = λ k d low.
      let at = all k d low in
      let is = of _ at.beside at.due in
      record { beside = is.beside; due = is.due; same = at.same ∙ is.same }

  pub due-none : (Due : ℕ → ℕ → Type 0) → AreVisitsDue s Due []
  due-none Due = All-nil (λ (v : Visit). IsDueAt s Due v.height v.index)

  pub due-one : (Due : ℕ → ℕ → Type 0) (v : Visit) → Due v.height v.index → AreVisitsDue s Due (v ∷ [])
  due-one Due v due = All-cons (λ (u : Visit). IsDueAt s Due u.height u.index) v [] (due-at Due v.height v.index due) (due-none Due)

  pub once-one : (v : Visit) → AreVisitedOnce s (v ∷ [])
  once-one v = (λ at. absurd at, tt)

  -- so is a block that one of them visited
  in-due : (Due : ℕ → ℕ → Type 0) (h i : ℕ) (us : List Visit) → AreVisitsDue s Due us → IsVisitedIn s h i us → IsDueAt s Due h i
  in-due Due h i [] all at = absurd at
  in-due Due h i (u ∷ more) all (inr there) = in-due Due h i more (All-tail (λ (v : Visit). IsDueAt s Due v.height v.index) u more all) there
  in-due Due h i (u ∷ more) all (inl here) =
      let is : IsDueAt s Due u.height u.index = All-head (λ (v : Visit). IsDueAt s Due v.height v.index) u more all in
      record {
        beside = is.beside;
        due = subst (λ (n : ℕ). Due n is.beside) here.height_is is.due;
        same = sym here.same ∙ subst (λ (n : ℕ). ancestor s n u.index ≡ ancestor s n is.beside) here.height_is is.same;
      }

  -- one part after the other
  pub once-then : (Due First Next : ℕ → ℕ → Type 0) → AreParts s Due First Next → (vs us : List Visit) → AreVisitsDue s First vs → AreVisitsDue s Next us
      → AreVisitedOnce s vs → AreVisitedOnce s us → AreVisitedOnce s (vs ++ us)
  once-then Due First Next parts [] us first next before behind = behind
  once-then Due First Next parts (v ∷ more) us first next before behind = (
    λ at. elim (in-or v.height v.index more us at) [
      | inl again ↦ before.0 again
      | inr later ↦
          let here : IsDueAt s First v.height v.index = All-head (λ (u : Visit). IsDueAt s First u.height u.index) v more first in
          let there : IsDueAt s Next v.height v.index = in-due Next v.height v.index us next later in
          parts.apart v.height here.beside there.beside here.due there.due (sym here.same ∙ there.same)
    ],
    once-then Due First Next parts more us (All-tail (λ (u : Visit). IsDueAt s First u.height u.index) v more first) next before.1 behind,
  )

-- ---- the parts of an image

ancestor-is : (s : ShapeRecord) (m i : ℕ) → ancestor s m i ≡ i / per_block s ^ m
unfolding ancestor
ancestor-is s m i = refl

module _ (s : ShapeRecord) (valid : IsShape s) where
  -- a block that begins at one data block isn't that of one before it
  begins-apart : (h a i m : ℕ) → a % per_block s ^ h ≡ 0 → i < a → a ≤ m → ancestor s h i ≡ ancestor s h m → ⊥
  begins-apart h a i m begins before from same =
      let b : ℕ = per_block s ^ h in
      let some : 0 < b = pow_pos (per_block s) h (per_block-some s valid) in
      let at : a ≡ a / b * b = whole a b some begins in
      let low : a / b ≤ m / b = le-div (a / b) m b some (omega (arith, at, from)) in
      let one : i / b ≡ m / b = sym (ancestor-is s h i) ∙ same ∙ ancestor-is s h m in
      let up : a / b ≤ i / b = omega (arith, low, one) in
      let more : a / b * b ≤ i / b * b = mul-le-mul_right b up in
      omega (arith, before, at, more, div-mul-le_self i b)

  -- a row, block by block
  pub parts-places : (row : Row) (index end : ℕ) → row.first ≤ index → index < row.end → index < end → index % per_block s ^ row.height ≡ 0
      → ((h i : ℕ) → IsOfRowBefore row end h i → IsOfRowBefore row index h i ⊎ IsBlockAt s (record { height = row.height; index = index }) h i)
      → AreParts s (IsOfRowBefore row end) (IsOfRowBefore row index) (IsBlockAt s (record { height = row.height; index = index }))
  parts-places row index end from inside more begins either = record {
    either = either;
    first = λ h i due. due-at s (IsOfRowBefore row end) h i (due.0, omega (arith, due.1, more));
    next = λ h i at. record { beside = index; due = ((at.0, (from, inside)), more); same = sym at.1 };
    apart = λ h i m due at same. begins-apart h index i index (subst (λ (n : ℕ). index % per_block s ^ n ≡ 0) at.0 begins) due.1 (omega arith) (same ∙ sym at.1);
  }

  -- a height, row by row
  pub parts-rows : (height first end : ℕ) → first % per_block s ^ (height + 1) ≡ 0 → first ≤ end → AreParts s (IsFromTo height 0 end) (IsFromTo height 0 first) (IsFromTo height first end)
  parts-rows height first end begins more = record {
    either = λ h i due. elim (cases_lt i first) [
      | inl before ↦ inl (due.0, (due.1.0, before))
      | inr behind ↦ inr (due.0, (behind, due.1.1))
    ];
    first = λ h i due. due-at s (IsFromTo height 0 end) h i (due.0, (due.1.0, omega (arith, due.1.1, more)));
    next = λ h i due. due-at s (IsFromTo height 0 end) h i (due.0, (omega arith, due.1.1));
    apart = λ h i m before behind same.
        let here : first % per_block s ^ height ≡ 0 = lower-mod (per_block s) (per_block-some s valid) first height (height + 1) (omega arith) begins in
        begins-apart h first i m (subst (λ (n : ℕ). first % per_block s ^ n ≡ 0) before.0 here) before.1.1 behind.1.0 same;
  }

-- an image, height by height
pub parts-heights : (s : ShapeRecord) (high low : ℕ) → high ≡ suc low → low ≤ levels s → AreParts s (IsFromUp s low) (IsFromUp s high) (IsFromTo low 0 s.blocks)
parts-heights s high low up inside = record {
  either = λ h i due. elim (cases_lt h high) [
    | inl below ↦ inr (omega (arith, below, due.0, up), (omega arith, due.1.1))
    | inr above ↦ inl (above, due.1)
  ];
  first = λ h i due. due-at s (IsFromUp s low) h i (omega (arith, due.0, up), due.1);
  next = λ h i due. due-at s (IsFromUp s low) h i (omega (arith, due.0), (omega (arith, due.0, inside), due.1.1));
  apart = λ h i m above here same. absurd (omega (arith, above.0, here.0, up));
}
