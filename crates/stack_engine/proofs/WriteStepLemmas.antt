-- What writes of runs leave, whatever they answer: run by run, unit by unit, and of part of a unit.
use Rattle.std.proofs.Common.{◌≡◌, ℕ, ◌+◌, ◌-◌, ◌*◌, ◌/◌, ◌<◌, ◌≤◌, IsTrue, List, length, take, drop, Result, refl, sym, ◌∙◌, subst, arith}
use Rattle.stack_rules.specs.Records.{Configuration}
use Rattle.stack_rules.specs.Names.{mapped, may_write}
use Rattle.stack_rules.specs.Rules.{IsLoaded}
use Rattle.stack_meaning.specs.declared.fault.IoFault.{IoFault}
use Rattle.stack_meaning.specs.Changes.{NoneRead}
use Rattle.stack_meaning.specs.Leaves.{AreRead}
use Rattle.stack_meaning.specs.Meaning.{said_at}
use Rattle.stack_meaning.specs.Reading.{MeetVerity}
use Rattle.stack_meaning.specs.Units.{per_unit, unit_first}
use Rattle.stack_meaning.proofs.lemmas.LeafListLemmas.{AreRead-none}
use Rattle.stack_lines.specs.declared.source.CryptPart.{CryptPart}
use Rattle.stack_lines.specs.declared.source.Source.{Source}
use Rattle.stack_lines.specs.declared.source.Source.TheVariants.{Units, UnitPart}
use Rattle.stack_lines.specs.declared.units.WholeUnit.{WholeUnit}
use Rattle.stack_lines.specs.Caches.{StackCache, IsCacheOf, KeepsCache}
use Rattle.stack_lines.specs.Forgetting.{DropsLast, Forgets}
use Rattle.stack_lines.specs.Sources.{AreUnits, IsWholeOf, source_said}
use Rattle.stack_lines.specs.Touches.{leaves_of}
use Rattle.stack_lines.specs.WriteBudgets.{Counter, CountsAtMost, write_budget, crypt_write_budget}
use Rattle.stack_lines.specs.Writing.{SomeEncrypt, sectors_in}
use Rattle.stack_lines.proofs.lemmas.KeptLemmas.{drops-none, drops-then, forgets-none, forgets-then, forgets-up}
use Rattle.stack_lines.proofs.lemmas.TouchLemmas.{served-within}
use Rattle.stack_lines.proofs.lemmas.WriteRunLemmas.{length-sectors_in}
use Rattle.stack_engine.specs.Backings.{BackingRecord}
use Rattle.stack_engine.specs.Premises.{FitsIn}
use Rattle.stack_engine.specs.ReadSteps.{run_of, IsReadStep}
use Rattle.stack_engine.specs.Uncut.{CutsNone, SourceCutsNone}
use Rattle.stack_engine.specs.WriteSteps.{WriteRun, write_to, write_beneath, IsWriteStep}
use Rattle.stack_engine.proofs.PaidLemmas.{paid-all, paid-run, step-paid, units-paid, part-unpaid, part-paid}
use Rattle.stack_engine.proofs.RunBytesLemmas.{IsNextRun}
use Rattle.stack_engine.proofs.SpentLemmas.{IsCutBehind}
use Rattle.stack_engine.proofs.UncutLemmas.{device-uncut, units-plain-below, unread-then}
use Rattle.stack_engine.proofs.UnitChangeLemmas.{none-meets}
use Rattle.stack_engine.proofs.UnitStepLemmas.{IsStep, step-sectors, step-behind, step-sectors-behind, step-within, step-one}

-- nothing was written
pub write-step-none : {c : Configuration} {run : WriteRun} {at : BackingRecord} → IsCacheOf c at.leaves at.cache → IsWriteStep c run at at
write-step-none {at = at} sound = record {
  uncut = λ cuts. refl;
  paid = λ k. omega arith;
  cached = record { capacity = refl; sound = sound };
  uncounted = refl;
  forgets = forgets-none at.cache.blocks.blocks (AreRead-none 0 at.leaves);
  drops = drops-none at.cache.last (AreRead-none 0 at.leaves);
}

-- the first m of n sectors of a device
abbrev pub write_some : Configuration → ℕ → ℕ → ℕ → ℕ → WriteRun
write_some c d first m n = record { cuts_none = CutsNone c (mapped d) first n; most = λ k. write_budget c k (mapped d) first m; leaves = leaves_of c (mapped d) }

-- the runs of a device before one, and that one
module _ {c : Configuration} {d first at all count n : ℕ} {source : Source} {bytes : List ℕ} {old mid new : BackingRecord} (loaded : IsLoaded c) (run : IsNextRun c d first at all bytes count source) (cut : IsCutBehind c d first (at / 512) all)
    (same : n ≡ count) (before : IsWriteStep c (write_some c d first (at / 512) all) old mid) (here : IsWriteStep c (write_to c source n) mid new) where
  own : IsWriteStep c (write_to c source count) mid new
  own = subst (λ (k : ℕ). IsWriteStep c (write_to c source k) mid new) same here

  pub device-write-step : IsWriteStep c (write_some c d first ((at + count * 512) / 512) all) old new
  device-write-step = record {
    uncut = λ cuts. unread-then old.leaves mid.leaves new.leaves (before.uncut cuts) (own.uncut (device-uncut c d first (at / 512) count ((length bytes - at) / 512) all source loaded run.some run.inside run.left cut run.longest run.served cuts));
    paid = λ k. subst (λ (j : ℕ). CountsAtMost k (write_budget c k (mapped d) first j) old.leaves new.leaves) run.next (paid-run c k d first (at / 512) all loaded cut old.leaves mid.leaves (before.paid k) count source new.leaves run.some run.inside run.served (own.paid k));
    cached = record { capacity = own.cached.capacity ∙ before.cached.capacity; sound = own.cached.sound };
    uncounted = own.uncounted ∙ before.uncounted;
    forgets = forgets-then before.forgets (forgets-up (served-within c d (first + at / 512) count source loaded run.some run.served) own.forgets);
    drops = drops-then before.drops own.drops;
  }

  -- it ended in a fault
  pub device-write-err : IsWriteStep c (write_beneath c (mapped d) first all) old new
  device-write-err = record {
    uncut = device-write-step.uncut;
    paid = λ k. paid-all c k d first (at / 512 + count) all loaded run.behind old.leaves new.leaves (paid-run c k d first (at / 512) all loaded cut old.leaves mid.leaves (before.paid k) count source new.leaves run.some run.inside run.served (own.paid k)) run.inside;
    cached = device-write-step.cached;
    uncounted = device-write-step.uncounted;
    forgets = device-write-step.forgets;
    drops = device-write-step.drops;
  }

-- ---- units, one after another

module _ {c : Configuration} {x : CryptPart} {n at size end : ℕ} (step : IsStep x.units n at size end) (loaded : IsLoaded c) (units : AreUnits c x n) (now : List ℕ) (long : length now ≡ 512 * n) {first : ℕ} {old mid new : BackingRecord} (from : first ≡ unit_first x.units x.first)
    (before : IsWriteStep c (write_to c (Units x) (at / 512)) old mid) (here : IsWriteStep c (write_beneath c x.lower (first + at / 512) (length (take (end - at) (drop at now)) / 512)) mid new)
    (unread : (SomeEncrypt (said_at c x.lower) (first + at / 512) (length (sectors_in (take (end - at) (drop at now)))) → ⊥) → NoneRead mid.leaves new.leaves) where
  one-uncut : (m : ℕ) → at / 512 + per_unit x.units ≤ m → SourceCutsNone c (Units x) m → NoneRead old.leaves new.leaves
  one-uncut m most cuts =
      let part : List ℕ = take (end - at) (drop at now) in
      unread-then old.leaves mid.leaves new.leaves (before.uncut (λ some. cuts (some.0, omega (arith, some.1, most), some.2)))
      (unread (units-plain-below c x m (first + at / 512) cuts (at / 512) (length (sectors_in part)) (omega (arith, from)) (omega (arith, most, length-sectors_in part, step-one step now long))))

  one-paid : (k : Counter) → CountsAtMost k (crypt_write_budget c k x (at / 512 + per_unit x.units)) old.leaves new.leaves
  one-paid k =
      step-paid c k x n loaded units (at / 512) (first + at / 512) (length (take (end - at) (drop at now)) / 512) old.leaves mid.leaves new.leaves (step-sectors step) (omega (arith, from)) (step-one step now long) (before.paid k) (here.paid k)

  one-cached : KeepsCache c new.leaves old.cache new.cache
  one-cached = record { capacity = here.cached.capacity ∙ before.cached.capacity; sound = here.cached.sound }

  pub unit-write-step : IsWriteStep c (write_to c (Units x) (end / 512)) old new
  unit-write-step = record {
    uncut = one-uncut (end / 512) (omega (arith, step-behind step));
    paid = λ k. subst (λ (j : ℕ). CountsAtMost k (crypt_write_budget c k x j) old.leaves new.leaves) (step-behind step) (one-paid k);
    cached = one-cached;
    uncounted = here.uncounted ∙ before.uncounted;
    forgets = forgets-then before.forgets here.forgets;
    drops = drops-then before.drops here.drops;
  }

  -- it ended in a fault
  pub unit-write-err : IsWriteStep c (write_to c (Units x) n) old new
  unit-write-err = record {
    uncut = one-uncut n (step-within step);
    paid = λ k. units-paid c k x n loaded units (at / 512 + per_unit x.units) old.leaves new.leaves (step-sectors-behind step) (step-within step) (one-paid k);
    cached = one-cached;
    uncounted = here.uncounted ∙ before.uncounted;
    forgets = forgets-then before.forgets here.forgets;
    drops = drops-then before.drops here.drops;
  }

-- ---- part of a unit

module _ (c : Configuration) (x : CryptPart) (whole : WholeUnit) (bytes : List ℕ) (loaded : IsLoaded c) (of : IsWholeOf x whole) (fits : FitsIn c (UnitPart x) bytes) (allowed : IsTrue (may_write c x.lower)) {m k : ℕ} {old mid : BackingRecord} {result : Result Unit IoFault}
    (count : m ≡ whole.sectors) (moved : AreRead old.leaves k mid.leaves) (read : IsReadStep c (run_of c (Units whole.from) m) old mid result) where
  abbrev n : ℕ
  n = length bytes / 512

  some : 0 < n
  some = omega (arith, fits.sectors.some, fits.sectors.whole)

  unit-read : IsReadStep c (run_of c (Units whole.from) whole.sectors) old mid result
  unit-read = subst (λ (j : ℕ). IsReadStep c (run_of c (Units whole.from) j) old mid result) count read

  unmet : MeetVerity (source_said c (Units whole.from)) 0 whole.sectors → ⊥
  unmet = none-meets c x whole bytes n loaded of fits.holds some (omega (arith, fits.sectors.whole)) allowed

  read-forgets : Forgets c (leaves_of c x.lower) old.leaves mid.leaves old.cache.blocks.blocks mid.cache.blocks.blocks
  read-forgets =
      let same : mid.cache ≡ old.cache = unit-read.same unmet in
      subst (λ (l : StackCache). Forgets c (leaves_of c x.lower) old.leaves mid.leaves old.cache.blocks.blocks l.blocks.blocks) (sym same) (forgets-none old.cache.blocks.blocks moved)

  read-drops : DropsLast old.leaves mid.leaves old.cache.last mid.cache.last
  read-drops =
      let same : mid.cache ≡ old.cache = unit-read.same unmet in
      subst (λ (l : StackCache). DropsLast old.leaves mid.leaves old.cache.last l.last) (sym same) (drops-none old.cache.last moved)

  -- the whole one was read, and not written
  pub part-read-step : IsWriteStep c (write_to c (UnitPart x) (length bytes / 512)) old mid
  part-read-step = record {
    uncut = λ cuts. absurd cuts;
    paid = λ j. part-unpaid c x whole n of fits.holds some j old.leaves mid.leaves moved unit-read.spent;
    cached = unit-read.cached;
    uncounted = unit-read.uncounted unmet;
    forgets = read-forgets;
    drops = read-drops;
  }

  -- and written
  pub part-write-step : {l : ℕ} {new : BackingRecord} → l ≡ whole.sectors → IsWriteStep c (write_to c (Units whole.from) l) mid new → IsWriteStep c (write_to c (UnitPart x) (length bytes / 512)) old new
  part-write-step {new = new} same wrote =
      let unit = subst (λ (j : ℕ). IsWriteStep c (write_to c (Units whole.from) j) mid new) same wrote in
      record {
        uncut = λ cuts. absurd cuts;
        paid = λ j. part-paid c x whole n of fits.holds some j old.leaves mid.leaves new.leaves moved unit-read.spent (unit.paid j);
        cached = record { capacity = unit.cached.capacity ∙ unit-read.cached.capacity; sound = unit.cached.sound };
        uncounted = unit.uncounted ∙ unit-read.uncounted unmet;
        forgets = forgets-then read-forgets (subst (λ (y : CryptPart). Forgets c (leaves_of c y.lower) mid.leaves new.leaves mid.cache.blocks.blocks new.cache.blocks.blocks) of.from unit.forgets);
        drops = drops-then read-drops unit.drops;
      }
