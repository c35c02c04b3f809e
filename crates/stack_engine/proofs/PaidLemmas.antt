-- What a write has counted of its budget: of a leaf, run by run, and of units.
use Rattle.std.proofs.Common.{◌≡◌, ℕ, ◌+◌, ◌-◌, ◌*◌, ◌/◌, ◌%◌, ◌<◌, ◌≤◌, List, length, map, sum, Result, inl, inr, sym, ap, ◌∙◌, arith}
use Rattle.std.proofs.lemmas.List.Sums.{sum-map}
use Rattle.std.proofs.lemmas.Nat.{div-add-mod', div-mul-add}
use Rattle.block_device.specs.Device.{Device}
use Rattle.stack_rules.specs.declared.lower.Lower.TheVariants.{Leaf as leaf}
use Rattle.stack_rules.specs.Records.{Configuration}
use Rattle.stack_rules.specs.Names.{mapped}
use Rattle.stack_rules.specs.Rules.{IsLoaded}
use Rattle.stack_meaning.proofs.lemmas.UnitSizeLemmas.{per_unit-some}
use Rattle.stack_meaning.specs.declared.fault.IoFault.{IoFault}
use Rattle.stack_meaning.specs.Leaves.{reads_of, AreRead}
use Rattle.stack_meaning.specs.Units.{per_unit, unit_first}
use Rattle.stack_meaning.proofs.lemmas.CostLemmas.{write_cost-leaf}
use Rattle.stack_lines.specs.declared.source.CryptPart.{CryptPart}
use Rattle.stack_lines.specs.declared.source.Source.{Source}
use Rattle.stack_lines.specs.declared.source.Source.TheVariants.{Units, UnitPart}
use Rattle.stack_lines.specs.declared.units.WholeUnit.{WholeUnit}
use Rattle.stack_lines.specs.Budgets.{ReadsAtMost, crypt_budget, source_budget}
use Rattle.stack_lines.specs.Sources.{AreUnits, LieInUnit, IsWholeOf, from_unit, IsServed}
use Rattle.stack_lines.specs.WriteBudgets.{Counter, of_reads, of_writes, CountsAtMost, change_count, write_budget, crypt_write_budget, source_write_budget}
use Rattle.stack_lines.specs.Writing.{destination_of, WritesSectors}
use Rattle.stack_rules.specs.Descend.{read_cost, write_cost}
use Rattle.stack_lines.proofs.lemmas.BudgetLemmas.{unit-budget}
use Rattle.stack_lines.proofs.lemmas.UnitSourceLemmas.{units-of}
use Rattle.stack_lines.proofs.lemmas.WriteBudgetLemmas.{write_budget-leaf, write_budget-apart, served-write_budget, part-written, whole-written, units-next, units-most, units-at-once}
use Rattle.stack_engine.proofs.SpentLemmas.{IsCutBehind}
use Rattle.stack_engine.proofs.UncutLemmas.{leaf-plain}

-- the sectors of a leaf
pub leaf-paid : (c : Configuration) (k : Counter) (i first n : ℕ) (sectors : List (List ℕ)) (old new : List Device) (result : Result Unit IoFault) → length sectors ≡ n → WritesSectors (destination_of c (leaf i)) first sectors old new result
    → CountsAtMost k (write_budget c k (leaf i) first n) old new
leaf-paid c of_reads i first n sectors old new result count wrote =
    let same : map (λ (l : Device). l.reads) new ≡ map (λ (l : Device). l.reads) old = wrote.unread (leaf-plain c i first (length sectors)) in
    let sums : reads_of new ≡ reads_of old = sym (sum-map (λ (l : Device). l.reads) new) ∙ ap (λ (l : List ℕ). sum l) same ∙ sum-map (λ (l : Device). l.reads) old in
    omega (arith, sums)
leaf-paid c of_writes i first n sectors old new result count wrote =
    let one : length sectors * write_cost c (leaf i) ≡ length sectors * 1 = ap (λ (k : ℕ). length sectors * k) (write_cost-leaf c i) in
    omega (arith, wrote.moved.moved.writes.sum, wrote.moved.within, one, count, write_budget-leaf c of_writes i first n)

-- ---- run by run

module _ (c : Configuration) (k : Counter) (d first a all : ℕ) (loaded : IsLoaded c) (cut : IsCutBehind c d first a all) (old mid : List Device) (so_far : CountsAtMost k (write_budget c k (mapped d) first a) old mid) where
  -- all is at least what was counted
  pub paid-all : a ≤ all → CountsAtMost k (write_budget c k (mapped d) first all) old mid
  paid-all few =
      let split : a + (all - a) ≡ all = omega (arith, few) in
      let sum = ap (write_budget c k (mapped d) first) (sym split) ∙ write_budget-apart c k loaded.valid d first a (all - a) (elim cut [
        | inl none ↦ inl none
        | inr other ↦ elim other [ inl whole ↦ inr (inl (omega (arith, whole))) | inr apart ↦ inr (inr apart) ]
      ]) in
      omega (arith, so_far, sum)

  -- one run more
  pub paid-run : (count : ℕ) (source : Source) (new : List Device) → 0 < count → a + count ≤ all → IsServed c d (first + a) count source → CountsAtMost k (source_write_budget c k source count) mid new
      → CountsAtMost k (write_budget c k (mapped d) first (a + count)) old new
  paid-run count source new some few served more =
      let sum = write_budget-apart c k loaded.valid d first a count (elim cut [
        | inl none ↦ inl none
        | inr other ↦ elim other [ inl whole ↦ absurd (omega (arith, whole, some, few)) | inr apart ↦ inr (inr apart) ]
      ]) in
      omega (arith, so_far, sum, more, served-write_budget c k d (first + a) count source loaded some served)

-- ---- units

module _ (c : Configuration) (k : Counter) (x : CryptPart) (n : ℕ) (loaded : IsLoaded c) (units : AreUnits c x n) where
  -- all of them at once
  pub once-paid : (first m : ℕ) (old new : List Device) → first ≡ unit_first x.units x.first → m ≡ n → 0 < n → CountsAtMost k (write_budget c k x.lower first m) old new → CountsAtMost k (crypt_write_budget c k x n) old new
  once-paid first m old new at count some paid =
      let same : write_budget c k x.lower first m ≡ write_budget c k x.lower (unit_first x.units x.first) n = ap (λ (s : ℕ). write_budget c k x.lower s m) at ∙ ap (write_budget c k x.lower (unit_first x.units x.first)) count in
      omega (arith, paid, same, units-at-once c k x n loaded.valid units.aligned units.whole some)

  -- one step after a sectors
  pub step-paid : (a first m : ℕ) (old mid new : List Device) → a % per_unit x.units ≡ 0 → first ≡ unit_first x.units x.first + a → m ≡ per_unit x.units → CountsAtMost k (crypt_write_budget c k x a) old mid
      → CountsAtMost k (write_budget c k x.lower first m) mid new → CountsAtMost k (crypt_write_budget c k x (a + per_unit x.units)) old new
  step-paid a first m old mid new even at one so_far paid =
      let same : write_budget c k x.lower first m ≡ write_budget c k x.lower (unit_first x.units x.first + a) (per_unit x.units) = ap (λ (s : ℕ). write_budget c k x.lower s m) at ∙ ap (write_budget c k x.lower (unit_first x.units x.first + a)) one in
      omega (arith, so_far, paid, same, units-next c k x units.aligned a even)

  -- all of them cost at least what some do
  pub units-paid : (a : ℕ) (old mid : List Device) → a % per_unit x.units ≡ 0 → a ≤ n → CountsAtMost k (crypt_write_budget c k x a) old mid → CountsAtMost k (crypt_write_budget c k x n) old mid
  units-paid a old mid even few so_far = omega (arith, so_far, units-most c k x units.aligned a n even few)

-- ---- a part of a unit

module _ (c : Configuration) (x : CryptPart) (whole : WholeUnit) (n : ℕ) (of : IsWholeOf x whole) (lies : LieInUnit c x n) (some : 0 < n) where
  abbrev unit : ℕ
  unit = per_unit x.units

  some-unit : 0 < unit
  some-unit = omega (arith, per_unit-some x.units)

  -- the whole one is read
  change-paid : (k : Counter) {m : ℕ} (old mid : List Device) → AreRead old m mid → ReadsAtMost (source_budget c (Units whole.from) whole.sectors) old mid → CountsAtMost k (change_count k (read_cost c x.lower) x.units) old mid
  change-paid of_reads old mid read spent =
      let units = units-of c x whole n of lies some in
      let all : crypt_budget c whole.from whole.sectors ≡ crypt_budget c (from_unit x) unit = ap (λ (y : CryptPart). crypt_budget c y whole.sectors) of.from ∙ ap (crypt_budget c (from_unit x)) of.sectors in
      omega (arith, spent, all, unit-budget c (from_unit x) unit some-unit (omega (arith, units.aligned)))
  change-paid of_writes old mid read spent = omega (arith, read.moved.writes.sum)

  part-is : (k : Counter) → crypt_write_budget c k x n ≡ change_count k (read_cost c x.lower) x.units + crypt_write_budget c k whole.from whole.sectors
  part-is k =
      let w : ℕ = x.first in
      let units = units-of c x whole n of lies some in
      let begins : w - w % unit ≡ w / unit * unit + 0 = omega (arith, div-add-mod' w unit) in
      let same : (w - w % unit) / unit ≡ w / unit = ap (λ (q : ℕ). q / unit) begins ∙ div-mul-add (w / unit) unit 0 some-unit in
      let first : unit_first x.units (w - w % unit) ≡ unit_first x.units w = ap (λ (q : ℕ). x.units.offset + q * unit) same in
      let put : write_budget c k x.lower (unit_first x.units (w - w % unit)) unit ≡ write_budget c k x.lower (unit_first x.units w) unit = ap (λ (t : ℕ). write_budget c k x.lower t unit) first in
      let all : crypt_write_budget c k whole.from whole.sectors ≡ crypt_write_budget c k (from_unit x) unit = ap (λ (y : CryptPart). crypt_write_budget c k y whole.sectors) of.from ∙ ap (crypt_write_budget c k (from_unit x)) of.sectors in
      omega (arith, part-written c k x n some lies.part lies.within, all, whole-written c k (from_unit x) units.aligned, put)

  -- and then it isn't written
  pub part-unpaid : (k : Counter) {m : ℕ} (old mid : List Device) → AreRead old m mid → ReadsAtMost (source_budget c (Units whole.from) whole.sectors) old mid → CountsAtMost k (source_write_budget c k (UnitPart x) n) old mid
  part-unpaid k old mid read spent = omega (arith, change-paid k old mid read spent, part-is k)

  -- and written
  pub part-paid : (k : Counter) {m : ℕ} (old mid new : List Device) → AreRead old m mid → ReadsAtMost (source_budget c (Units whole.from) whole.sectors) old mid
      → CountsAtMost k (source_write_budget c k (Units whole.from) whole.sectors) mid new → CountsAtMost k (source_write_budget c k (UnitPart x) n) old new
  part-paid k old mid new read spent paid = omega (arith, change-paid k old mid read spent, paid, part-is k)
