-- A damaged block that a pass doesn't know, if there is one in a round.
use Rattle.std.proofs.Common.{◌≡◌, ◌<◌, ◌%◌, ◌&&◌, ℕ, zero, suc, not, nat_lt, IsTrue, List, [], ◌∷◌, sym, ◌∙◌, subst, arith, inl, inr, ◌⊎◌}
use Rattle.std.specs.Prelude.{◌==◌}
use Rattle.std.proofs.lemmas.Bool.{and_parts, cases_Bool, cases_eq, cases_lt, false≢true, ltb-true}
use Rattle.fec_area.specs.declared.layout.Layout.{Layout}
use Rattle.fec_area.specs.Layouts.{code_rounds, covered, covered_blocks}
use Rattle.fec_area.specs.Restoring.{IsAmong, is_beside, round_of}
use Rattle.tree_path.proofs.lemmas.ChainLemmas.{same-or}
use Rattle.tree_repair.specs.ParitySearches.{Trial}
use Rattle.tree_repair.specs.WithinParity.{FormerImage, IsDamaged}

pub beside-inside : (l : Layout) (k n : ℕ) → IsTrue (is_beside l k n) → n < covered_blocks l
beside-inside l k n beside =
    let front = nat_lt n (covered_blocks l) in
    let round = n % code_rounds l == round_of l k in
    ltb-true n (covered_blocks l) (and_parts front round (and_parts (front && round) (not (n == k)) beside).0).0

pub among-or : (xs : List ℕ) (n : ℕ) → IsAmong xs n ⊎ (IsAmong xs n → ⊥)
among-or [] n = inr (λ among. absurd (omega (arith, among.1.0)))
among-or (x ∷ xs) n = elim (cases_eq x n) [
  | inl here ↦ inl (0, (omega arith, here))
  | inr not ↦ elim (among-or xs n) [
    | inl there ↦ inl (suc there.0, (omega (arith, there.1.0), there.1.1))
    | inr none ↦ inr (no xs n x not none)
  ]
]
  where
    no : (xs : List ℕ) (n x : ℕ) → (x ≡ n → ⊥) → (IsAmong xs n → ⊥) → IsAmong (x ∷ xs) n → ⊥
    no xs n x not none (zero, (low, is)) = not is
    no xs n x not none (suc k, (low, is)) = none (k, (omega (arith, low), is))

-- one in the round of covered block k
pub record IsUnknownBeside (f : FormerImage) (t : Trial) (k : ℕ) : Type 0 where
  pub n : ℕ
  pub beside : IsTrue (is_beside t.layout k n)
  pub unknown : IsAmong t.lost n → ⊥
  pub damaged : IsDamaged t.layout f t.w n

module _ (f : FormerImage) (t : Trial) (k : ℕ) where
  abbrev now : ℕ → List ℕ
  now n = covered t.layout t.w.data_dev.image t.w.hash_dev.image n

  abbrev formerly : ℕ → List ℕ
  formerly n = covered t.layout f.data_image f.hash_image n

  -- of the first m blocks each that is in its round and isn't known as lost is as it was
  abbrev AreAsBefore : ℕ → Type 0
  AreAsBefore m = (n : ℕ) → n < m → IsTrue (is_beside t.layout k n) → (IsAmong t.lost n → ⊥) → now n ≡ formerly n

  one-or : (n : ℕ) → (IsTrue (is_beside t.layout k n) → (IsAmong t.lost n → ⊥) → now n ≡ formerly n) ⊎ IsUnknownBeside f t k
  one-or n = elim (same-or (now n) (formerly n)) [
    | inl same ↦ inl (λ beside unknown. same)
    | inr other ↦ elim (among-or t.lost n) [
      | inl known ↦ inl (λ beside unknown. absurd (unknown known))
      | inr unknown ↦ elim (cases_Bool (is_beside t.layout k n)) [
        | inl beside ↦ inr (record { n = n; beside = beside; unknown = unknown; damaged = other })
        | inr away ↦ inl (λ beside unknown. absurd (false≢true (sym away ∙ beside)))
      ]
    ]
  ]

  pub all-or : (m : ℕ) → AreAsBefore m ⊎ IsUnknownBeside f t k
  all-or zero = inl (λ n low. absurd (omega (arith, low)))
  all-or (suc m) = elim (all-or m) [
    | inr hidden ↦ inr hidden
    | inl same ↦ elim (one-or m) [
      | inr hidden ↦ inr hidden
      | inl one ↦ inl (λ n low. elim (cases_lt n m) [
        | inl lower ↦ same n lower
        | inr not ↦
            let is : m ≡ n = omega (arith, low, not) in
            subst (λ (x : ℕ). IsTrue (is_beside t.layout k x) → (IsAmong t.lost x → ⊥) → now x ≡ formerly x) is one
      ])
    ]
  ]
