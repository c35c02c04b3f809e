-- Which sectors end units and data blocks, by the line that has a sector, and by its run.
use Rattle.std.proofs.Common.{◌≡◌, ℕ, ◌+◌, ◌-◌, ◌%◌, ◌<◌, ◌≤◌, ◌&&◌, Bool, true, List, Option, Some, refl, sym, ap, ◌∙◌, subst, arith}
use Rattle.std.proofs.lemmas.Bool.{eq-eqb}
use Rattle.dm_table.specs.declared.table.Line.{Line}
use Rattle.dm_table.specs.declared.table.Target.{Target}
use Rattle.dm_table.specs.declared.table.Target.TheVariants.{Linear, Striped, Zero, Error, Crypt, Verity, Unstriped}
use Rattle.stack_rules.specs.declared.lower.Lower.{Lower}
use Rattle.stack_rules.specs.declared.lower.Lower.TheVariants.{Leaf as leaf}
use Rattle.stack_rules.specs.Descend.{by_name, depth, descend, known}
use Rattle.stack_rules.specs.Lines.{line_at}
use Rattle.stack_rules.specs.Names.{mapped, names, size}
use Rattle.stack_rules.specs.Records.{Configuration}
use Rattle.stack_rules.specs.Rules.{IsLoaded}
use Rattle.stack_rules.specs.Trees.{block_sectors, line_data_sectors}
use Rattle.stack_rules.proofs.lemmas.UnrollLemmas.{AllOf, all_and}
use Rattle.stack_meaning.specs.Beneath.{HandsOn, beneath, said_or}
use Rattle.stack_meaning.specs.Units.{per_unit, units_of}
use Rattle.stack_meaning.specs.declared.units.CryptUnits.{CryptUnits}
use Rattle.stack_meaning.proofs.lemmas.SectorLemmas.{AsksOfNames, by_sector-line, said_or-same}
use Rattle.stack_lines.specs.declared.source.CryptPart.{CryptPart}
use Rattle.stack_lines.specs.declared.source.Source.{Source}
use Rattle.stack_lines.specs.declared.source.VerityPart.{VerityPart}
use Rattle.stack_lines.specs.declared.source.Source.TheVariants.{Below, Units, UnitPart, Zeros, Fails, Block, Blocks}
use Rattle.stack_lines.specs.Sources.{ComeFrom, IsPartOf, IsServed, IsVerityPart}
use Rattle.stack_lines.proofs.lemmas.VerityLineLemmas.{line-facts}
use Rattle.alignment.specs.Ends.{block_ends, data_beneath, ends_units, is_last, line_ends, source_ends, unit_ends, unit_of_line}

-- ---- by the line that has a sector

data-same : (at at' : List ℕ → ℕ → Bool) (target : Target) (s : ℕ) → AllOf (λ name. at name ≡ at' name) (names target) → said_or true at (data_beneath target s) ≡ said_or true at' (data_beneath target s)
data-same at at' (Linear base) s all = said_or-same true at at' (Linear base) s all
data-same at at' (Striped chunk bases) s all = said_or-same true at at' (Striped chunk bases) s all
data-same at at' Zero s all = refl
data-same at at' Error s all = refl
data-same at at' (Crypt line) s all = said_or-same true at at' (Crypt line) s all
data-same at at' (Verity line) s (all_and same more) = ap (λ (f : ℕ → Bool). f s) same
data-same at at' (Unstriped line) s all = said_or-same true at at' (Unstriped line) s all

line_ends-asks : AsksOfNames line_ends
line_ends-asks at at' d l target s all = ap (λ (b : Bool). is_last (unit_of_line target) s && b) (data-same at at' target s all)

abbrev pub ends_by_name : Configuration → List ℕ → ℕ → Bool
ends_by_name c = by_name c (λ t. true) (ends_units c)

pub ends-leaf : (c : Configuration) (i s : ℕ) → ends_units c (leaf i) s ≡ true
unfolding descend
ends-leaf c i s = refl

pub ends-line : (c : Configuration) (d l s j : ℕ) (line : Line) → IsLoaded c → line_at c d s ≡ Some (l, line) → line.start ≤ s → s + j < line.start + line.length
    → ends_units c (mapped d) (s + j) ≡ line_ends (ends_by_name c) d l line.target (s - line.start + j)
ends-line c d l s j line loaded found start inside = by_sector-line c true (λ i t. true) line_ends line_ends-asks loaded.valid d s j l line found start inside

-- ---- by the run that has it

-- each sector is the last of itself alone
one-last : (s : ℕ) → is_last 1 s ≡ true
one-last s = eq-eqb (s % 1) 0 (omega arith)

handed : (at : List ℕ → ℕ → Bool) (s : ℕ) (o : Option (List ℕ × ℕ)) (p : List ℕ × ℕ) → o ≡ Some p → (is_last 1 s && said_or true at o) ≡ at p.0 p.1
handed at s o p e = ap (λ (b : Bool). b && said_or true at o) (one-last s) ∙ ap (said_or true at) e

-- a line that hands on the sector beneath
hands-ends : (at : List ℕ → ℕ → Bool) (d l : ℕ) (target : Target) (s : ℕ) (p : List ℕ × ℕ) → HandsOn target → beneath target s ≡ Some p → line_ends at d l target s ≡ at p.0 p.1
hands-ends at d l (Linear base) s p h e = handed at s (beneath (Linear base) s) p e
hands-ends at d l (Striped chunk bases) s p h e = handed at s (beneath (Striped chunk bases) s) p e
hands-ends at d l Zero s p h e = absurd h
hands-ends at d l Error s p h e = absurd h
hands-ends at d l (Crypt line) s p h e = absurd h
hands-ends at d l (Verity line) s p h e = absurd h
hands-ends at d l (Unstriped line) s p h e = handed at s (beneath (Unstriped line) s) p e

module _ (c : Configuration) (d l w : ℕ) (target : Target) where
  unit-came : (u : CryptPart) → IsPartOf c target u → u.first ≡ w → line_ends (ends_by_name c) d l target (w + 0) ≡ unit_ends c u
  unit-came u of first =
      let at : w + 0 ≡ u.first = omega (arith, first) in
      ap (λ (t : Target). line_ends (ends_by_name c) d l t (w + 0)) of.is
      ∙ ap (λ (o : Option Lower). is_last (per_unit (units_of of.crypt)) (w + 0) && known {A = ℕ → Bool} (λ t. true) (ends_units c) o (of.crypt.base.offset + (w + 0))) of.named
      ∙ ap (λ (x : CryptUnits). is_last (per_unit x) (w + 0) && ends_units c u.lower (x.offset + (w + 0))) (sym of.units)
      ∙ ap (λ (k : ℕ). is_last (per_unit u.units) k && ends_units c u.lower (u.units.offset + k)) at

  block-came : (x : VerityPart) → target ≡ Verity x.verity.now → x.first ≡ w → IsVerityPart c x → line_ends (ends_by_name c) d l target (w + 0) ≡ block_ends c x
  block-came x is first part =
      let at : w + 0 ≡ x.first = omega (arith, first) in
      ap (λ (t : Target). line_ends (ends_by_name c) d l t (w + 0)) is
      ∙ ap (λ (o : Option Lower). is_last (block_sectors x.verity.now) (w + 0) && known {A = ℕ → Bool} (λ t. true) (ends_units c) o (w + 0)) part.on_data
      ∙ ap (λ (k : ℕ). is_last (block_sectors x.verity.now) k && ends_units c x.data k) at

  none-came : target ≡ Zero → line_ends (ends_by_name c) d l target (w + 0) ≡ true
  none-came is = ap (λ (t : Target). line_ends (ends_by_name c) d l t (w + 0)) is ∙ ap (λ (b : Bool). b && true) (one-last (w + 0))

  fault-came : target ≡ Error → line_ends (ends_by_name c) d l target (w + 0) ≡ true
  fault-came is = ap (λ (t : Target). line_ends (ends_by_name c) d l t (w + 0)) is ∙ ap (λ (b : Bool). b && true) (one-last (w + 0))

  come-ends : (source : Source) → ComeFrom c (d, l) target w 1 source → line_ends (ends_by_name c) d l target (w + 0) ≡ source_ends c source
  come-ends (Below lower first) come =
      let on = come.1 in
      let at : first + 0 ≡ first = omega arith in
      let some : 0 < 1 = omega arith in
      hands-ends (ends_by_name c) d l target (w + 0) (on.name, first + 0) come.0 (on.under 0 some)
      ∙ ap (λ (o : Option Lower). known {A = ℕ → Bool} (λ t. true) (ends_units c) o (first + 0)) on.is
      ∙ ap (ends_units c lower) at
  come-ends (Units u) come = unit-came u come.0 come.1
  come-ends (UnitPart u) come = unit-came u come.0 come.1
  come-ends Zeros come = none-came come
  come-ends Fails come = fault-came come
  come-ends (Block x) come = block-came x come.0 come.2 come.3.of
  come-ends (Blocks x) come = block-came x come.0 come.2 come.3.of

pub served-ends : (c : Configuration) (d s : ℕ) (source : Source) → IsLoaded c → IsServed c d s 1 source → source_ends c source ≡ ends_units c (mapped d) s
served-ends c d s source loaded r =
    let at : s + 0 ≡ s = omega arith in
    let inside : s + 0 < r.line.start + r.line.length = omega (arith, r.fits) in
    sym (ends-line c d r.number s 0 r.line loaded r.found r.start inside ∙ come-ends c d r.number (s - r.line.start) r.line.target source r.come) ∙ ap (ends_units c (mapped d)) at

-- ---- data blocks

-- the data of a verity line are less deep, and its sectors lie there
pub record IsDataBelow (c : Configuration) (x : VerityPart) : Type 0 where
  pub shallower : depth c x.data < depth c (mapped x.device.0)
  pub inside : line_data_sectors x.verity.now ≤ size c x.data

pub data-below : (c : Configuration) (x : VerityPart) → IsLoaded c → IsVerityPart c x → IsDataBelow c x
data-below c x loaded part =
    let line = line-facts c x.device.0 x.line x.verity.now loaded part.is in
    let both : Some line.0 ≡ Some x.data = sym line.2.below_named ∙ part.on_data in
    let same : line.0 ≡ x.data = cc in
    record {
      shallower = subst (λ (y : Lower). depth c y < depth c (mapped x.device.0)) same line.2.below_shallower;
      inside = subst (λ (y : Lower). line_data_sectors x.verity.now ≤ size c y) same line.2.below_inside;
    }
