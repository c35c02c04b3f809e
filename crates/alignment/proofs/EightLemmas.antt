-- Stacks whose lines lie at multiples of eight sectors.
use Rattle.std.proofs.Common.{◌≡◌, ℕ, zero, suc, ◌+◌, ◌-◌, ◌/◌, ◌%◌, ◌≤◌, ◌||◌, ◌==◌, Bool, true, false, IsTrue, List, Option, Some, None, refl, ap, ◌∙◌, arith}
use Rattle.std.proofs.lemmas.Bool.{and_from, eq-eqb, eqb-true}
use Rattle.tree_shape.specs.Shape.{is_block_size}
use Rattle.dm_table.specs.declared.table.Line.{Line}
use Rattle.dm_table.specs.declared.table.Target.{Target}
use Rattle.dm_table.specs.declared.table.Target.TheVariants.{Linear, Striped, Zero, Error, Crypt, Verity, Unstriped}
use Rattle.stack_rules.specs.declared.lower.Lower.{Lower}
use Rattle.stack_rules.specs.declared.lower.Lower.TheVariants.{Leaf as leaf, Device as device}
use Rattle.stack_rules.specs.Descend.{after_steps, by_name, descend, known, most_devices}
use Rattle.stack_rules.specs.Lines.{IsLine, line_at}
use Rattle.stack_rules.specs.Names.{mapped, named}
use Rattle.stack_rules.specs.Records.{Configuration}
use Rattle.stack_rules.specs.Rules.{IsLoaded}
use Rattle.stack_rules.specs.Trees.{block_sectors}
use Rattle.stack_meaning.specs.Sectors.{on_found, sector_rule}
use Rattle.stack_meaning.specs.Units.{per_unit, size_sectors, units_of}
use Rattle.stack_meaning.specs.declared.units.UnitSize.{UnitSize}
use Rattle.stack_meaning.specs.declared.units.UnitSize.TheVariants.{One, Two, Four, Eight}
use Rattle.stack_meaning.proofs.lemmas.EachLineLemmas.{line_at-is}
use Rattle.stack_meaning.proofs.lemmas.LineLemmas.{line-start}
use Rattle.stack_lines.proofs.lemmas.VerityLineLemmas.{line-facts}
use Rattle.alignment.specs.Ends.{ends_units, is_last, line_ends}
use Rattle.alignment.specs.Laws.{AreByEights, LiesByEights, SomeEnd}

-- ---- units and data blocks of one, two, four or eight sectors

one-eight : (w : ℕ) → is_last 1 w ≡ true
one-eight w = eq-eqb (w % 1) 0 (omega arith)

unit-eight : (size : UnitSize) (w : ℕ) → (w + 1) % 8 ≡ 0 → is_last (size_sectors size) w ≡ true
unfolding size_sectors
unit-eight One w e = eq-eqb (w % 1) 0 (omega arith)
unit-eight Two w e = eq-eqb (w % 2) 1 (omega (arith, e))
unit-eight Four w e = eq-eqb (w % 4) 3 (omega (arith, e))
unit-eight Eight w e = eq-eqb (w % 8) 7 (omega (arith, e))

last-of : (n k w : ℕ) → n / 512 ≡ k → w % k ≡ k - 1 → is_last (n / 512) w ≡ true
last-of n k w is e = ap (λ (m : ℕ). is_last m w) is ∙ eq-eqb (w % k) (k - 1) e

block-sizes : (n w : ℕ) → (a b d e : Bool) → (n == 512) ≡ a → (n == 1024) ≡ b → (n == 2048) ≡ d → (n == 4096) ≡ e → IsTrue (a || b || d || e) → (w + 1) % 8 ≡ 0 → is_last (n / 512) w ≡ true
block-sizes n w true b d e ea eb ed ee h is = let size = eqb-true n 512 ea in last-of n 1 w (omega (arith, size)) (omega arith)
block-sizes n w false true d e ea eb ed ee h is = let size = eqb-true n 1024 eb in last-of n 2 w (omega (arith, size)) (omega (arith, is))
block-sizes n w false false true e ea eb ed ee h is = let size = eqb-true n 2048 ed in last-of n 4 w (omega (arith, size)) (omega (arith, is))
block-sizes n w false false false true ea eb ed ee h is = let size = eqb-true n 4096 ee in last-of n 8 w (omega (arith, size)) (omega (arith, is))
block-sizes n w false false false false ea eb ed ee h is = cc

block-eight : (n w : ℕ) → IsTrue (is_block_size n) → (w + 1) % 8 ≡ 0 → is_last (n / 512) w ≡ true
block-eight n w h is = block-sizes n w (n == 512) (n == 1024) (n == 2048) (n == 4096) refl refl refl refl h is

-- ---- lines

-- at says of each eighth sector of a named device that it ends units
abbrev EndEights : (List ℕ → ℕ → Bool) → Type 0
EndEights at = (name : List ℕ) (t : ℕ) → (t + 1) % 8 ≡ 0 → at name t ≡ true

module _ (c : Configuration) (loaded : IsLoaded c) (by : AreByEights c) where
  target-eight : (at : List ℕ → ℕ → Bool) → EndEights at → (d l : ℕ) (line : Line) (target : Target) (w : ℕ) → IsLine c d l line → line.target ≡ target → LiesByEights target → (w + 1) % 8 ≡ 0 → line_ends at d l target w ≡ true
  target-eight at all d l line (Linear base) w is has lies e = and_from (is_last 1 w) (at base.device (base.offset + w)) (one-eight w) (all base.device (base.offset + w) (omega (arith, lies, e)))
  target-eight at all d l line (Striped chunk bases) w is has lies e = absurd lies
  target-eight at all d l line Zero w is has lies e = and_from (is_last 1 w) true (one-eight w) refl
  target-eight at all d l line Error w is has lies e = and_from (is_last 1 w) true (one-eight w) refl
  target-eight at all d l line (Crypt crypt) w is has lies e =
      and_from (is_last (per_unit (units_of crypt)) w) (at crypt.base.device (crypt.base.offset + w)) (unit-eight (units_of crypt).size w e)
      (all crypt.base.device (crypt.base.offset + w) (omega (arith, lies, e)))
  target-eight at all d l line (Verity verity) w is has lies e =
      let facts = line-facts c d l verity loaded (record { line = line; is = is; has = has; fits = omega arith }) in
      and_from (is_last (block_sectors verity) w) (at verity.data w) (block-eight verity.data_block w facts.2.shape.data_size e) (all verity.data w e)
  target-eight at all d l line (Unstriped unstriped) w is has lies e = absurd lies

  found-eight : (at : List ℕ → ℕ → Bool) → EndEights at → (d s : ℕ) (o : Option (ℕ × Line)) → line_at c d s ≡ o → (s + 1) % 8 ≡ 0 → on_found true (line_ends at) d s o ≡ true
  found-eight at all d s None found e = refl
  found-eight at all d s (Some p) found e =
      let is : IsLine c d p.0 p.1 = line_at-is c d s p found in
      let lies = by d p.0 p.1 is in
      let start : p.1.start ≤ s = line-start c d s p loaded.valid found in
      target-eight at all d p.0 p.1 p.1.target (s - p.1.start) is refl lies.1 (omega (arith, lies.0, start, e))

  known-eight : (below : Lower → ℕ → Bool) → ((y : Lower) (t : ℕ) → (t + 1) % 8 ≡ 0 → below y t ≡ true) → (o : Option Lower) (t : ℕ) → (t + 1) % 8 ≡ 0 → known {A = ℕ → Bool} (λ k. true) below o t ≡ true
  known-eight below all None t e = refl
  known-eight below all (Some y) t e = all y t e

  abbrev ends_within : ℕ → Lower → ℕ → Bool
  ends_within n = after_steps {A = ℕ → Bool} (λ k. true) (sector_rule c true (λ i t. true) line_ends) n

  steps-eight : (n : ℕ) (y : Lower) (s : ℕ) → (s + 1) % 8 ≡ 0 → ends_within n y s ≡ true
  steps-eight zero y s e = refl
  steps-eight (suc n) (leaf i) s e = refl
  steps-eight (suc n) (device d) s e =
      found-eight (by_name c (λ k. true) (ends_within n)) (λ name t h. known-eight (ends_within n) (steps-eight n) (named c name) t h) d.0 s (line_at c d.0 s) refl e

  ends-eight : (y : Lower) (s : ℕ) → (s + 1) % 8 ≡ 0 → ends_units c y s ≡ true
  unfolding descend
  ends-eight y s e = steps-eight (suc most_devices) y s e

pub eight-some : (c : Configuration) (d first most : ℕ) → IsLoaded c → AreByEights c → 8 ≤ most → SomeEnd c d first most
eight-some c d first most loaded by many =
    let k : ℕ = 7 - first % 8 in
    (k, omega (arith, many), ends-eight c loaded by (mapped d) (first + k) (omega arith))
