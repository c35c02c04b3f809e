-- The data block of a sector, by the line that has it, and by its run.
use Rattle.std.proofs.Common.{◌≡◌, ℕ, ◌+◌, ◌-◌, ◌/◌, ◌<◌, ◌≤◌, List, Option, Some, None, refl, sym, ap, ◌∙◌, arith}
use Rattle.dm_table.specs.declared.table.Line.{Line}
use Rattle.dm_table.specs.declared.table.Target.{Target}
use Rattle.dm_table.specs.declared.table.Target.TheVariants.{Linear, Striped, Zero, Error, Crypt, Verity, Unstriped}
use Rattle.stack_rules.specs.declared.lower.Lower.{Lower}
use Rattle.stack_rules.specs.declared.lower.Lower.TheVariants.{Leaf as leaf}
use Rattle.stack_rules.specs.Descend.{by_name, descend, known}
use Rattle.stack_rules.specs.Lines.{line_at}
use Rattle.stack_rules.specs.Names.{mapped, names}
use Rattle.stack_rules.specs.Records.{Configuration}
use Rattle.stack_rules.specs.Rules.{IsLoaded}
use Rattle.stack_rules.specs.Trees.{block_sectors}
use Rattle.stack_rules.proofs.lemmas.UnrollLemmas.{AllOf}
use Rattle.stack_meaning.specs.Beneath.{HandsOn, beneath, said_or}
use Rattle.stack_meaning.specs.Units.{units_of}
use Rattle.stack_meaning.specs.declared.units.CryptUnits.{CryptUnits}
use Rattle.stack_meaning.proofs.lemmas.SectorLemmas.{AsksOfNames, by_sector-line, said_or-same}
use Rattle.stack_lines.specs.declared.source.CryptPart.{CryptPart}
use Rattle.stack_lines.specs.declared.source.Source.{Source}
use Rattle.stack_lines.specs.declared.source.VerityPart.{VerityPart}
use Rattle.stack_lines.specs.declared.source.Source.TheVariants.{Below, Units, UnitPart, Zeros, Fails, Block, Blocks}
use Rattle.stack_lines.specs.Sources.{ComeFrom, IsPartOf, IsPlacedAt, IsServed}
use Rattle.nbd_server.specs.DataBlocks.{line_block, part_block, sector_block, source_block, unit_block}
use Rattle.nbd_server.specs.declared.data_block.DataBlock.{DataBlock}

-- ---- by the line that has a sector

line_block-asks : AsksOfNames line_block
line_block-asks at at' d l (Linear base) s all = said_or-same None at at' (Linear base) s all
line_block-asks at at' d l (Striped chunk bases) s all = said_or-same None at at' (Striped chunk bases) s all
line_block-asks at at' d l Zero s all = refl
line_block-asks at at' d l Error s all = refl
line_block-asks at at' d l (Crypt line) s all = said_or-same None at at' (Crypt line) s all
line_block-asks at at' d l (Verity line) s all = refl
line_block-asks at at' d l (Unstriped line) s all = said_or-same None at at' (Unstriped line) s all

abbrev block_by_name : Configuration → List ℕ → ℕ → Option DataBlock
block_by_name c = by_name c (λ t. None) (sector_block c)

pub block-leaf : (c : Configuration) (i s : ℕ) → sector_block c (leaf i) s ≡ None
unfolding descend
block-leaf c i s = refl

block-line : (c : Configuration) (d l s j : ℕ) (line : Line) → IsLoaded c → line_at c d s ≡ Some (l, line) → line.start ≤ s → s + j < line.start + line.length
    → sector_block c (mapped d) (s + j) ≡ line_block (block_by_name c) d l line.target (s - line.start + j)
block-line c d l s j line loaded found start inside = by_sector-line c None (λ i t. None) line_block line_block-asks loaded.valid d s j l line found start inside

-- ---- by the run that has it

-- a line that hands on the sector beneath
hands-block : (at : List ℕ → ℕ → Option DataBlock) (d l : ℕ) (target : Target) (s : ℕ) (p : List ℕ × ℕ) → HandsOn target → beneath target s ≡ Some p → line_block at d l target s ≡ at p.0 p.1
hands-block at d l (Linear base) s p h e = ap (said_or None at) e
hands-block at d l (Striped chunk bases) s p h e = ap (said_or None at) e
hands-block at d l Zero s p h e = absurd h
hands-block at d l Error s p h e = absurd h
hands-block at d l (Crypt line) s p h e = absurd h
hands-block at d l (Verity line) s p h e = absurd h
hands-block at d l (Unstriped line) s p h e = ap (said_or None at) e

-- a data block of that line of a device
abbrev numbered : ℕ → ℕ → ℕ → Option DataBlock
numbered device line number = Some (record { device = device; line = line; number = number })

module _ (c : Configuration) (d l w : ℕ) (target : Target) where
  unit-came : (u : CryptPart) → IsPartOf c target u → u.first ≡ w → line_block (block_by_name c) d l target (w + 0) ≡ unit_block c u
  unit-came u of first =
      let at : w + 0 ≡ u.first = omega (arith, first) in
      ap (λ (t : Target). line_block (block_by_name c) d l t (w + 0)) of.is
      ∙ ap (λ (o : Option Lower). known {A = ℕ → Option DataBlock} (λ t. None) (sector_block c) o (of.crypt.base.offset + (w + 0))) of.named
      ∙ ap (λ (x : CryptUnits). sector_block c u.lower (x.offset + (w + 0))) (sym of.units)
      ∙ ap (λ (k : ℕ). sector_block c u.lower (u.units.offset + k)) at

  verity-came : (x : VerityPart) → target ≡ Verity x.verity.now → IsPlacedAt d l x → x.first ≡ w → line_block (block_by_name c) d l target (w + 0) ≡ Some (part_block x)
  verity-came x is placed first =
      let at : w + 0 ≡ x.first = omega (arith, first) in
      ap (λ (t : Target). line_block (block_by_name c) d l t (w + 0)) is
      ∙ ap (λ (k : ℕ). numbered d l (k / block_sectors x.verity.now)) at
      ∙ ap (λ (k : ℕ). numbered k l (x.first / block_sectors x.verity.now)) (sym placed.0)
      ∙ ap (λ (k : ℕ). numbered x.device.0 k (x.first / block_sectors x.verity.now)) (sym placed.1)

  come-block : (source : Source) → ComeFrom c (d, l) target w 1 source → line_block (block_by_name c) d l target (w + 0) ≡ source_block c source
  come-block (Below lower first) come =
      let on = come.1 in
      let at : first + 0 ≡ first = omega arith in
      let some : 0 < 1 = omega arith in
      hands-block (block_by_name c) d l target (w + 0) (on.name, first + 0) come.0 (on.under 0 some)
      ∙ ap (λ (o : Option Lower). known {A = ℕ → Option DataBlock} (λ t. None) (sector_block c) o (first + 0)) on.is
      ∙ ap (sector_block c lower) at
  come-block (Units u) come = unit-came u come.0 come.1
  come-block (UnitPart u) come = unit-came u come.0 come.1
  come-block Zeros come = ap (λ (t : Target). line_block (block_by_name c) d l t (w + 0)) come
  come-block Fails come = ap (λ (t : Target). line_block (block_by_name c) d l t (w + 0)) come
  come-block (Block x) come = verity-came x come.0 come.1 come.2
  come-block (Blocks x) come = verity-came x come.0 come.1 come.2

pub served-block : (c : Configuration) (d s : ℕ) (source : Source) → IsLoaded c → IsServed c d s 1 source → source_block c source ≡ sector_block c (mapped d) s
served-block c d s source loaded r =
    let at : s + 0 ≡ s = omega arith in
    let inside : s + 0 < r.line.start + r.line.length = omega (arith, r.fits) in
    sym (block-line c d r.number s 0 r.line loaded r.found r.start inside ∙ come-block c d r.number (s - r.line.start) r.line.target source r.come) ∙ ap (sector_block c (mapped d)) at
