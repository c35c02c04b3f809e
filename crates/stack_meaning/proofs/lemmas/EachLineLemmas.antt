-- What holds of each sector, by what holds of each line of a configuration.
use Rattle.std.proofs.Common.{◌≡◌, ℕ, zero, suc, ◌+◌, ◌-◌, ◌<◌, ◌≤◌, List, [], ◌∷◌, Option, Some, None, refl, sym, ap, ◌∙◌, subst, arith, inl, inr}
use Rattle.std.specs.Prelude.{slice_get}
use Rattle.std.proofs.lemmas.Bool.{cases_lt}
use Rattle.dm_table.specs.declared.table.Line.{Line}
use Rattle.stack_rules.specs.declared.lower.Lower.{Lower}
use Rattle.stack_rules.specs.declared.lower.Lower.TheVariants.{Leaf as leaf, Device as device}
use Rattle.stack_rules.specs.Records.{Configuration}
use Rattle.stack_rules.specs.Names.{named, lines_of}
use Rattle.stack_rules.specs.Descend.{descend, after_steps, most_devices, by_name, known}
use Rattle.stack_rules.specs.Lines.{line_at, IsLine}
use Rattle.stack_meaning.specs.Sectors.{on_found, sector_rule}
use Rattle.stack_meaning.specs.Meaning.{Said, leaf_said, none_said, line_said, said_at}
use Rattle.stack_meaning.proofs.lemmas.LineLemmas.{end_of, found_from, here, later}

-- ---- the line that was found

-- the line is at its number, and ends after the sector
pub found-at : (k : ℕ) (lines : List Line) (s : ℕ) (p : ℕ × Line) → found_from k lines s ≡ Some p → (k ≤ p.0) × (slice_get lines (p.0 - k) ≡ Some p.1) × (s < end_of p.1)
found-at k [] s p e = let clash : None ≡ Some p = e in cc
found-at k (x ∷ lines) s p e = elim (cases_lt s (end_of x)) [
  | inl low ↦
      let both : Some (k, x) ≡ Some p = sym (here k x lines s low) ∙ e in
      let same : (k, x) ≡ p = cc in
      let none : k - k ≡ 0 = omega arith in
      subst (λ (q : ℕ × Line). (k ≤ q.0) × (slice_get (x ∷ lines) (q.0 - k) ≡ Some q.1) × (s < end_of q.1)) same (omega arith, ap (slice_get (x ∷ lines)) none, low)
  | inr high ↦
      let rest = found-at (k + 1) lines s p (sym (later k x lines s high) ∙ e) in
      let next : p.0 - k ≡ suc (p.0 - (k + 1)) = omega (arith, rest.0) in
      (omega (arith, rest.0), ap (slice_get (x ∷ lines)) next ∙ rest.1, rest.2)
]

pub line_at-is : (c : Configuration) (d s : ℕ) (p : ℕ × Line) → line_at c d s ≡ Some p → IsLine c d p.0 p.1
line_at-is c d s p e =
    let all = found-at 0 (lines_of c d) s p e in
    let whole : p.0 - 0 ≡ p.0 = omega arith in
    ap (slice_get (lines_of c d)) (sym whole) ∙ all.1

pub line_at-end : (c : Configuration) (d s : ℕ) (p : ℕ × Line) → line_at c d s ≡ Some p → s < end_of p.1
line_at-end c d s p e = (found-at 0 (lines_of c d) s p e).2

-- ---- each sector

-- a sector of a line of the configuration has what each sector that it may ask for has
abbrev pub IsHandedUpIn : Configuration → (Said → Type 0) → Type 1
IsHandedUpIn c P = (at : List ℕ → ℕ → Said) → ((name : List ℕ) (s : ℕ) → P (at name s)) → (d l : ℕ) (line : Line) → IsLine c d l line → (s : ℕ) → P (line_said at d l line.target s)

module _ (c : Configuration) (P : Said → Type 0) (none : P none_said) (leaves : (i s : ℕ) → P (leaf_said i s)) (lines : IsHandedUpIn c P) where
  on_found-in : (at : List ℕ → ℕ → Said) → ((name : List ℕ) (s : ℕ) → P (at name s)) → (d s : ℕ) (o : Option (ℕ × Line)) → line_at c d s ≡ o → P (on_found none_said (line_said at) d s o)
  on_found-in at all d s None e = none
  on_found-in at all d s (Some p) e = lines at all d p.0 p.1 (line_at-is c d s p e) _

  known-in : (f : Lower → ℕ → Said) → ((y : Lower) (s : ℕ) → P (f y s)) → (o : Option Lower) (s : ℕ) → P (known {A = ℕ → Said} (λ t. none_said) f o s)
  known-in f all None s = none
  known-in f all (Some y) s = all y s

  steps-in : (n : ℕ) (y : Lower) (s : ℕ) → P (after_steps (λ t. none_said) (sector_rule c none_said leaf_said line_said) n y s)
  steps-in zero y s = none
  steps-in (suc n) (leaf i) s = leaves i s
  steps-in (suc n) (device d) s =
      let below : Lower → ℕ → Said = after_steps (λ t. none_said) (sector_rule c none_said leaf_said line_said) n in
      on_found-in (by_name c (λ t. none_said) below) (λ name t. known-in below (steps-in n) (named c name) t) d.0 s (line_at c d.0 s) refl

  pub said_at-each_in : (lower : Lower) (s : ℕ) → P (said_at c lower s)
  unfolding descend
  said_at-each_in lower s = steps-in (suc most_devices) lower s

  -- and so has what the names of a line mean
  pub said_by_name-each_in : (name : List ℕ) (s : ℕ) → P (known {A = ℕ → Said} (λ t. none_said) (said_at c) (named c name) s)
  said_by_name-each_in name s = known-in (said_at c) said_at-each_in (named c name) s
