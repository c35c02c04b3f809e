-- What a read has spent of its budget: run by run, of units, and of data blocks.
use Rattle.std.proofs.Common.{◌≡◌, ℕ, ◌+◌, ◌-◌, ◌*◌, ◌/◌, ◌<◌, ◌≤◌, ◌⊎◌, false, List, inl, inr, sym, ap, ◌∙◌, arith}
use Rattle.std.proofs.Math.Nat.{add-mul, mul-add, mul_assoc, mul-le-mul_left, mul-le-mul_right}
use Rattle.block_device.specs.Device.{Device}
use Rattle.dm_table.specs.declared.table.Target.TheVariants.{Verity as verity_target}
use Rattle.stack_rules.specs.declared.lower.Lower.TheVariants.{Leaf as leaf}
use Rattle.stack_rules.specs.Records.{Configuration}
use Rattle.stack_rules.specs.Names.{mapped}
use Rattle.stack_rules.specs.Descend.{by_name, line_read_cost, read_cost}
use Rattle.stack_rules.specs.Rules.{IsLoaded}
use Rattle.stack_rules.specs.Trees.{block_sectors}
use Rattle.stack_meaning.specs.Units.{per_unit}
use Rattle.stack_meaning.proofs.lemmas.UnitSizeLemmas.{per_unit-some}
use Rattle.std.proofs.lemmas.Nat.{div-add-mod'}
use Rattle.stack_meaning.specs.Found.{FoundRecord}
use Rattle.stack_meaning.specs.Leaves.{AreRead}
use Rattle.stack_meaning.specs.Places.{Place}
use Rattle.stack_meaning.specs.Puts.{in_one_run}
use Rattle.stack_meaning.proofs.lemmas.CostLemmas.{cost-leaf}
use Rattle.stack_lines.specs.declared.source.VerityPart.{VerityPart}
use Rattle.stack_lines.specs.declared.source.CryptPart.{CryptPart}
use Rattle.stack_lines.specs.declared.source.Source.{Source}
use Rattle.stack_lines.specs.declared.source.Source.TheVariants.{Units, UnitPart}
use Rattle.stack_lines.specs.declared.units.WholeUnit.{WholeUnit}
use Rattle.stack_lines.specs.Budgets.{ReadsAtMost, budget, crypt_budget, part_budget, source_budget}
use Rattle.stack_lines.specs.Sources.{AreUnits, LieInUnit, IsWholeOf, from_unit, IsServed, EndsRun}
use Rattle.stack_lines.specs.Walks.{block_in, chain_expected, settled_cost}
use Rattle.stack_lines.proofs.lemmas.BudgetLemmas.{chain-cost as priced, budget-leaf, budget-apart, served-budget, units-budget, unit-budget, blocks-budget, block-budget}
use Rattle.stack_lines.proofs.lemmas.UnitSourceLemmas.{units-of}
use Rattle.stack_lines.proofs.lemmas.VerityLineLemmas.{place-named}
use Rattle.stack_engine.proofs.lemmas.WalkLemmas.{chain-spent}
use Rattle.stack_engine.proofs.BlockPartLemmas.{BlockAt}
use Rattle.stack_engine.proofs.BlocksAtLemmas.{BlocksAt, path_cost, read_cost_so_far}

-- ---- run by run

-- after a sectors from the first on the next one begins a run, or there is none
abbrev pub IsCutBehind : Configuration → ℕ → ℕ → ℕ → ℕ → Type 0
IsCutBehind c d first a all = (a ≡ 0) ⊎ ((a ≡ all) ⊎ (in_one_run c d (first + a - 1) ≡ false))

module _ (c : Configuration) (d first a all : ℕ) (loaded : IsLoaded c) (cut : IsCutBehind c d first a all) (old mid : List Device) (so_far : ReadsAtMost (budget c (mapped d) first a) old mid) where
  -- all is at least what was spent
  pub spent-all : a ≤ all → ReadsAtMost (budget c (mapped d) first all) old mid
  spent-all few =
      let split : a + (all - a) ≡ all = omega (arith, few) in
      let sum = ap (budget c (mapped d) first) (sym split) ∙ budget-apart c loaded.valid d first a (all - a) (elim cut [
        | inl none ↦ inl none
        | inr other ↦ elim other [ inl whole ↦ inr (inl (omega (arith, whole))) | inr apart ↦ inr (inr apart) ]
      ]) in
      omega (arith, so_far, sum)

  -- one run more
  pub spent-run : (count : ℕ) (source : Source) (new : List Device) → 0 < count → a + count ≤ all → IsServed c d (first + a) count source → ReadsAtMost (source_budget c source count) mid new → ReadsAtMost (budget c (mapped d) first (a + count)) old new
  spent-run count source new some few served more =
      let sum = budget-apart c loaded.valid d first a count (elim cut [
        | inl none ↦ inl none
        | inr other ↦ elim other [ inl whole ↦ absurd (omega (arith, whole, some, few)) | inr apart ↦ inr (inr apart) ]
      ]) in
      omega (arith, so_far, sum, more, served-budget c d (first + a) count source loaded some served)

-- where a run ends
pub cut-behind : (c : Configuration) (d first a count left all : ℕ) → a + left ≡ all → 0 < count → EndsRun (in_one_run c d) (first + a) left count → IsCutBehind c d first (a + count) all
cut-behind c d first a count left all whole some ends = elim ends [
  | inl rest ↦ inr (inl (omega (arith, rest, whole)))
  | inr apart ↦ let at : first + (a + count) - 1 ≡ first + a + count - 1 = omega arith in inr (inr (ap (in_one_run c d) at ∙ apart))
]

-- the sectors of a leaf
pub leaf-spent : (c : Configuration) (i first n : ℕ) {old new : List Device} → AreRead old (n * read_cost c (leaf i)) new → ReadsAtMost (budget c (leaf i) first n) old new
leaf-spent c i first n read =
    let one : n * read_cost c (leaf i) ≡ n * 1 = ap (λ (k : ℕ). n * k) (cost-leaf c i) in
    omega (arith, read.moved.reads.sum, one, budget-leaf c i first n)

-- ---- units

pub units-spent : (c : Configuration) (x : CryptPart) (n : ℕ) {old new : List Device} → AreUnits c x n → AreRead old (n * read_cost c x.lower) new → ReadsAtMost (crypt_budget c x n) old new
units-spent c x n units read =
    let count : n / per_unit x.units * per_unit x.units ≡ n = omega (arith, div-add-mod' n (per_unit x.units), units.whole) in
    omega (arith, read.moved.reads.sum, units-budget c x n (n / per_unit x.units) units.aligned count)

-- a part of a unit costs what the whole one does
pub unit-spent : (c : Configuration) (x : CryptPart) (whole : WholeUnit) (n : ℕ) → IsWholeOf x whole → LieInUnit c x n → 0 < n → (old new : List Device) → ReadsAtMost (source_budget c (Units whole.from) whole.sectors) old new → ReadsAtMost (source_budget c (UnitPart x) n) old new
unit-spent c x whole n of lies some old new spent =
    let u : ℕ = per_unit x.units in
    let units = units-of c x whole n of lies some in
    let all : crypt_budget c whole.from whole.sectors ≡ crypt_budget c (from_unit x) u = ap (λ (y : CryptPart). crypt_budget c y whole.sectors) of.from ∙ ap (crypt_budget c (from_unit x)) of.sectors in
    omega (arith, spent, all, unit-budget c (from_unit x) u (omega (arith, per_unit-some x.units)) (omega (arith, units.aligned)), unit-budget c x n some lies.within)

-- ---- data blocks

-- a part of one
pub block-spent : {c : Configuration} {p : VerityPart} {n : ℕ} (i : ℕ) {old new : List Device} → BlockAt c p n → AreRead old ((chain_expected (block_in c p.verity.now i)).cost) new → ReadsAtMost (part_budget c p n) old new
block-spent {c = c} {p = p} {n = n} i {old = old} {new = new} b read =
    omega (arith, read.moved.reads.sum, priced c p.verity.now i, block-budget c p n b.some b.within)

-- what r blocks and many more cost, with the ways to j of m blocks and s spares
rows-cost : (m u price way mend r j s many : ℕ) → r + many ≤ m → j ≤ m → s ≤ m → r * u * price + many * u * price + j * way + s * mend ≤ m * (u * price + way + mend)
rows-cost m u price way mend r j s many rows ways spares =
    let sectors : (r + many) * u ≤ m * u = mul-le-mul_right u rows in
    let all : (r + many) * u * price ≤ m * u * price = mul-le-mul_right price sectors in
    let split : (r + many) * u * price ≡ r * u * price + many * u * price = ap (λ (k : ℕ). k * price) (add-mul r many u) ∙ add-mul (r * u) (many * u) price in
    let each : j * way ≤ m * way = mul-le-mul_right way ways in
    let mended : s * mend ≤ m * mend = mul-le-mul_right mend spares in
    omega (arith, all, split, each, mended, mul-add m (u * price + way) mend, mul-add m (u * price) way, mul_assoc m u price)

-- and of none more
few-cost : (m u price way mend r j s : ℕ) → r ≤ m → j ≤ m → s ≤ m → r * u * price + j * way + s * mend ≤ m * (u * price + way + mend)
few-cost m u price way mend r j s read ways spares =
    let sectors : r * u ≤ m * u = mul-le-mul_right u read in
    let all : r * u * price ≤ m * u * price = mul-le-mul_right price sectors in
    let each : j * way ≤ m * way = mul-le-mul_right way ways in
    let mended : s * mend ≤ m * mend = mul-le-mul_right mend spares in
    omega (arith, all, each, mended, mul-add m (u * price + way) mend, mul-add m (u * price) way, mul_assoc m u price)

module _ {c : Configuration} {p : VerityPart} {n : ℕ} {found : List FoundRecord} (b : BlocksAt c p n found) where
  abbrev m : ℕ
  m = n / block_sectors p.verity.now

  abbrev data_cost : ℕ
  data_cost = (block_in c p.verity.now 0).on_data.cost

  abbrev mend : ℕ
  mend = settled_cost (block_in c p.verity.now 0)

  all-is : m * (block_sectors p.verity.now * data_cost + path_cost c p.verity.now + mend) ≤ part_budget c p n
  all-is =
      let line : ℕ = line_read_cost (by_name c 0 (read_cost c)) (verity_target p.verity.now) in
      let each : block_sectors p.verity.now * data_cost + path_cost c p.verity.now + mend ≤ line = omega (arith, priced c p.verity.now 0, chain-spent (block_in c p.verity.now 0)) in
      let all : m * (block_sectors p.verity.now * data_cost + path_cost c p.verity.now + mend) ≤ m * line = mul-le-mul_left m each in
      omega (arith, all, blocks-budget c p n m b.size.some b.aligned b.count)

  -- so many blocks, of which data were read as far as block r
  pub had-spent : (r j s : ℕ) {old mid : List Device} → r ≤ n / block_sectors p.verity.now → j ≤ n / block_sectors p.verity.now → s ≤ n / block_sectors p.verity.now → AreRead old (read_cost_so_far c p.verity.now (r * block_sectors p.verity.now) j s) mid → ReadsAtMost (part_budget c p n) old mid
  had-spent r j s read ways spares had = omega (arith, had.moved.reads.sum, all-is, few-cost m (block_sectors p.verity.now) data_cost (path_cost c p.verity.now) mend r j s read ways spares)

  -- and the way to one more
  pub way-spent : (r j : ℕ) {old mid walk : List Device} → r ≤ n / block_sectors p.verity.now → j < n / block_sectors p.verity.now → AreRead old (read_cost_so_far c p.verity.now (r * block_sectors p.verity.now) j j) mid → AreRead mid (path_cost c p.verity.now) walk → ReadsAtMost (part_budget c p n) old walk
  way-spent r j read inside had moved =
      omega (arith, had.moved.reads.sum, moved.moved.reads.sum, all-is, add-mul j 1 (path_cost c p.verity.now), few-cost m (block_sectors p.verity.now) data_cost (path_cost c p.verity.now) mend r (j + 1) j read (omega (arith, inside)) (omega (arith, inside)))

  -- and the data of some more
  pub row-spent : (r j many : ℕ) {old mid walk new : List Device} → r ≤ n / block_sectors p.verity.now → j < n / block_sectors p.verity.now → j + many ≤ n / block_sectors p.verity.now → (many ≡ 0) ⊎ (r ≤ j) → AreRead old (read_cost_so_far c p.verity.now (r * block_sectors p.verity.now) j j) mid → AreRead mid (path_cost c p.verity.now) walk
      → AreRead walk (many * block_sectors p.verity.now * read_cost c p.data) new → ReadsAtMost (part_budget c p n) old new
  row-spent r j many read inside most fresh had moved got =
      let rows : r + many ≤ m = elim fresh [ inl none ↦ omega (arith, none, read) | inr behind ↦ omega (arith, behind, most) ] in
      let one : data_cost ≡ read_cost c p.data = ap (λ (q : Place). q.cost) (place-named c p.verity.now.data p.data b.is) in
      let same : many * block_sectors p.verity.now * data_cost ≡ many * block_sectors p.verity.now * read_cost c p.data = ap (λ (k : ℕ). many * block_sectors p.verity.now * k) one in
      omega (arith, had.moved.reads.sum, moved.moved.reads.sum, got.moved.reads.sum, same, all-is, add-mul j 1 (path_cost c p.verity.now), rows-cost m (block_sectors p.verity.now) data_cost (path_cost c p.verity.now) mend r (j + 1) j many rows (omega (arith, inside)) (omega (arith, inside)))
