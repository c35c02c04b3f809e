-- Where the runs of a device begin and end.
use Rattle.std.proofs.Common.{◌≡◌, ℕ, suc, ◌+◌, ◌-◌, ◌<◌, ◌≤◌, min, Bool, true, false, nat_lt, ◌&&◌, Option, refl, ap, ◌∙◌, inl, inr, arith}
use Rattle.std.specs.Option.{option_map_or}
use Rattle.std.proofs.lemmas.Bool.{cases_lt, le-ltb}
use Rattle.dm_table.specs.declared.table.Line.{Line}
use Rattle.stack_rules.specs.Records.{Configuration}
use Rattle.stack_rules.specs.Names.{lines_of}
use Rattle.stack_rules.specs.Lines.{IsIn}
use Rattle.stack_lines.specs.declared.source.Source.{Source}
use Rattle.stack_lines.specs.declared.source.Source.TheVariants.{Below, Units, UnitPart, Zeros, Fails, Block, Blocks}
use Rattle.stack_meaning.specs.Puts.{together, in_one_run}
use Rattle.stack_lines.specs.Runs.{HasAllUnits}
use Rattle.stack_lines.specs.Sources.{ComeFrom, EndsRun, IsServed}
use Rattle.stack_meaning.proofs.lemmas.UnitSizeLemmas.{per_unit-some}
use Rattle.stack_meaning.proofs.lemmas.LineLemmas.{found-more}

-- a run that has as many sectors as it may
pub all-units : (source : Source) (most n : ℕ) → n ≡ most → HasAllUnits source most n
all-units (Below lower first) most n all = tt
all-units (Units u) most n all = omega (arith, all, per_unit-some u.units)
all-units (UnitPart u) most n all = tt
all-units Zeros most n all = tt
all-units Fails most n all = tt
all-units (Block b) most n all = tt
all-units (Blocks b) most n all = tt

module _ (c : Configuration) (d s l left : ℕ) (on : IsIn (lines_of c d) s l left) where
  abbrev pub run-served : (n : ℕ) (source : Source) → n ≤ left → ComeFrom c (d, l) on.line.target (s - on.line.start) n source → IsServed c d s n source
  run-served n source few come = record { number = l; line = on.line; found = on.is; is = on.at; start = on.start; fits = omega (arith, few, on.ends); come = come }

  -- the last sector of a run that ends with its line, or where its target cuts it
  and-false : (b : Bool) → (b && false) ≡ false
  and-false true = refl
  and-false false = refl

  last-is : (n : ℕ) → 0 < n → n ≤ left → in_one_run c d (s + n - 1) ≡ (nat_lt (suc (s + n - 1)) (on.line.start + on.line.length) && together on.line.target (s + n - 1 - on.line.start))
  last-is n some few =
      ap (λ (q : Option (ℕ × Line)). option_map_or (λ p. nat_lt (suc (s + n - 1)) (p.1.start + p.1.length) && together p.1.target (s + n - 1 - p.1.start)) q false)
      (found-more 0 (lines_of c d) s (s + n - 1) (l, on.line) on.is (omega (arith, some)) (omega (arith, some, few, on.ends)))

  pub run-longest : (most count n : ℕ) → count ≡ min most left → 0 < n → n ≤ count → EndsRun (together on.line.target) (s - on.line.start) count n → EndsRun (in_one_run c d) s most n
  run-longest most count n is some few ends = elim ends [
    | inl all ↦ elim (cases_lt left most) [
      | inl less ↦
          let end : n ≡ left = omega (arith, all, is, less) in
          inr (
          last-is n some (omega (arith, end))
          ∙ ap (λ (b : Bool). b && together on.line.target (s + n - 1 - on.line.start)) (le-ltb (suc (s + n - 1)) (on.line.start + on.line.length) (omega (arith, end, on.ends, some)))
          )
      | inr more ↦ inl (omega (arith, all, is, more))
    ]
    | inr cut ↦
        let at : s + n - 1 - on.line.start ≡ s - on.line.start + n - 1 = omega (arith, on.start, some) in
        inr (
        last-is n some (omega (arith, few, is))
        ∙ ap (λ (k : ℕ). nat_lt (suc (s + n - 1)) (on.line.start + on.line.length) && together on.line.target k) at
        ∙ ap (λ (b : Bool). nat_lt (suc (s + n - 1)) (on.line.start + on.line.length) && b) cut
        ∙ and-false (nat_lt (suc (s + n - 1)) (on.line.start + on.line.length))
        )
  ]
