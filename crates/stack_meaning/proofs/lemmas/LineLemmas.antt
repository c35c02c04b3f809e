-- The line of a sector.
use Rattle.std.proofs.Common.{◌≡◌, ℕ, ◌+◌, ◌<◌, ◌≤◌, Bool, cond, nat_lt, List, [], ◌∷◌, Option, Some, None, refl, sym, ap, ◌∙◌, subst, arith, inl, inr}
use Rattle.std.specs.Prelude.{find, slice_get}
use Rattle.std.specs.List.{enumerate_from}
use Rattle.std.specs.Option.{option_map_or}
use Rattle.std.proofs.lemmas.Bool.{cases_lt, lt-ltb, le-ltb}
use Rattle.dm_table.specs.declared.table.Line.{Line}
use Rattle.stack_rules.specs.Records.{Configuration, DeviceRecord}
use Rattle.stack_rules.specs.Names.{lines_of}
use Rattle.stack_rules.specs.Lines.{line_at, Follow}
use Rattle.stack_rules.specs.Rules.{IsValid}
use Rattle.stack_rules.proofs.lemmas.ValidLineLemmas.{follow}

abbrev pub end_of : Line → ℕ
end_of line = line.start + line.length

abbrev pub found_from : ℕ → List Line → ℕ → Option (ℕ × Line)
found_from k lines s = find (λ p. nat_lt s (p.1.start + p.1.length)) (enumerate_from k lines)

pub here : (k : ℕ) (line : Line) (lines : List Line) (s : ℕ) → s < end_of line → found_from k (line ∷ lines) s ≡ Some (k, line)
here k line lines s h = ap (λ (b : Bool). cond b (Some (k, line)) (found_from (k + 1) lines s)) (lt-ltb s (line.start + line.length) h)

pub later : (k : ℕ) (line : Line) (lines : List Line) (s : ℕ) → end_of line ≤ s → found_from k (line ∷ lines) s ≡ found_from (k + 1) lines s
later k line lines s h = ap (λ (b : Bool). cond b (Some (k, line)) (found_from (k + 1) lines s)) (le-ltb s (line.start + line.length) h)

-- further on in the same line
pub found-more : (k : ℕ) (lines : List Line) (s t : ℕ) (p : ℕ × Line) → found_from k lines s ≡ Some p → s ≤ t → t < end_of p.1 → found_from k lines t ≡ Some p
found-more k [] s t p e h below = cc
found-more k (x ∷ lines) s t p e h below = elim (cases_lt s (end_of x)) [
  | inl low ↦ let same : (k, x) ≡ p = cc (here k x lines s low) in
      let inside : t < end_of x = omega (arith, below, ap (λ (q : ℕ × Line). end_of q.1) same) in
      here k x lines t inside ∙ ap Some same
  | inr high ↦ later k x lines t (omega (arith, high, h)) ∙ found-more (k + 1) lines s t p (sym (later k x lines s high) ∙ e) h below
]

-- a sector's line starts at or before it, where lines follow one another
pub found-start : (k n : ℕ) (lines : List Line) (s : ℕ) (p : ℕ × Line) → Follow n lines → n ≤ s → found_from k lines s ≡ Some p → p.1.start ≤ s
found-start k n [] s p follow h e = cc
found-start k n (x ∷ lines) s p follow h e = elim (cases_lt s (end_of x)) [
  | inl low ↦ let same : Some (k, x) ≡ Some p = sym (here k x lines s low) ∙ e in
      let one : (k, x) ≡ p = cc in
      subst (λ (q : ℕ × Line). q.1.start ≤ s) one (omega (arith, follow.0, h))
  | inr high ↦ found-start (k + 1) (n + x.length) lines s p follow.2 (omega (arith, follow.0, high)) (sym (later k x lines s high) ∙ e)
]

-- and so it does in a valid configuration
pub line-start : (c : Configuration) (d s : ℕ) (p : ℕ × Line) → IsValid c → line_at c d s ≡ Some p → p.1.start ≤ s
line-start c d s p valid e = found-start 0 0 (lines_of c d) s p (lines-follow (slice_get c.devices d) refl) (omega arith) e
  where
    lines-follow : (o : Option DeviceRecord) → slice_get c.devices d ≡ o → Follow 0 (option_map_or (λ x. x.table) o [])
    lines-follow None at = tt
    lines-follow (Some x) at = follow c valid d x at
