-- What reads of runs leave, whatever they answer: from the lines down, and run by run.
use Rattle.std.proofs.Common.{◌≡◌, ℕ, ◌+◌, ◌*◌, ◌/◌, ◌<◌, ◌≤◌, List, [], Result, Ok, Err, inl, inr, refl, ap, ◌∙◌, subst, arith}
use Rattle.block_device.specs.Device.{Device}
use Rattle.stack_rules.specs.declared.lower.Lower.{Lower}
use Rattle.stack_rules.specs.declared.lower.Lower.TheVariants.{Leaf}
use Rattle.stack_rules.specs.Records.{Configuration}
use Rattle.stack_rules.specs.Names.{mapped}
use Rattle.stack_rules.specs.Descend.{read_cost}
use Rattle.stack_rules.specs.Rules.{IsLoaded}
use Rattle.stack_meaning.specs.declared.fault.Fault.TheVariants as why
use Rattle.stack_meaning.specs.declared.fault.IoFault.{IoFault}
use Rattle.stack_meaning.specs.declared.fault.IoFault.TheVariants as io
use Rattle.stack_meaning.specs.Leaves.{AreRead}
use Rattle.stack_meaning.specs.Meaning.{Said, said_at}
use Rattle.stack_meaning.specs.Reading.{IsPlain, MeetVerity}
use Rattle.stack_meaning.specs.Units.{unit_first}
use Rattle.stack_meaning.proofs.lemmas.PlainLemmas.{plain-none}
use Rattle.stack_lines.specs.declared.source.CryptPart.{CryptPart}
use Rattle.stack_lines.specs.declared.source.Source.{Source}
use Rattle.stack_lines.specs.declared.source.Source.TheVariants.{Below, Units, UnitPart, Zeros, Fails}
use Rattle.stack_lines.specs.declared.units.WholeUnit.{WholeUnit}
use Rattle.stack_lines.specs.Budgets.{ReadsAtMost}
use Rattle.stack_lines.specs.Caches.{IsCacheOf, KeepsCache}
use Rattle.stack_lines.specs.Sources.{AreUnits, IsWholeOf, LieInUnit, source_said}
use Rattle.stack_lines.specs.Touches.{AsksOnly, leaves_of, source_leaves}
use Rattle.stack_lines.proofs.lemmas.AskLemmas.{asks-less, asks-none, asks-up, device-asked}
use Rattle.stack_lines.proofs.lemmas.SourceLemmas.{below_plain, device_plain, zeros_plain, fails_plain}
use Rattle.stack_lines.proofs.lemmas.TouchLemmas.{AreWithin}
use Rattle.stack_lines.proofs.lemmas.UnitSourceLemmas.{part-plain, units-plain}
use Rattle.stack_engine.specs.Backings.{BackingRecord}
use Rattle.stack_engine.specs.Healing.{HasNoParity}
use Rattle.stack_engine.specs.ReadSteps.{HealsNone, SectorRun, run_of, run_beneath, IsReadStep, ReadsLeaf}
use Rattle.stack_engine.proofs.CachedLemmas.{cached-read}
use Rattle.stack_engine.proofs.RunBytesLemmas.{IsNextRun}
use Rattle.stack_engine.proofs.SpentLemmas.{IsCutBehind, spent-all, spent-run, leaf-spent, units-spent, unit-spent}

-- ---- one run

-- a read whose way meets a `verity` line is plain, whatever it did
pub met : {said : ℕ → Said} {first n : ℕ} {old new : List Device} {result : Result Unit IoFault} → MeetVerity said first n → IsPlain said first n old new result
met some = record { memory = λ is. some; leaf = λ none. absurd (none some); stops = λ none. absurd (none some) }

-- so is its step
pub step-met : {c : Configuration} {run : SectorRun} {old new : BackingRecord} {result : Result Unit IoFault} → MeetVerity run.said run.first run.count → KeepsCache c new.leaves old.cache new.cache
    → AsksOnly (HasNoParity c) run.leaves old.leaves new.leaves result → ReadsAtMost run.most old.leaves new.leaves → IsReadStep c run old new result
step-met some cached touches spent = record { cached = cached; plain = met some; same = λ none. absurd (none some); uncounted = λ none. absurd (none some); touches = asks-less (λ none. none some) touches; spent = spent }

-- nothing was read
pub step-none : {c : Configuration} {run : SectorRun} {at : BackingRecord} {result : Result Unit IoFault} → IsCacheOf c at.leaves at.cache → IsPlain run.said run.first run.count at.leaves at.leaves result
    → AsksOnly (HealsNone c run) run.leaves at.leaves at.leaves result → IsReadStep c run at at result
step-none sound plain touches = record { cached = record { capacity = refl; sound = sound }; plain = plain; same = λ none. refl; uncounted = λ none. refl; touches = touches; spent = omega arith }

-- ---- from the lines down

-- what is met by a run that is plain where another one is
up-meets : {said said' : ℕ → Said} {first first' n n' : ℕ} → ((a b : List Device) (r : Result Unit IoFault) → IsPlain said first n a b r → IsPlain said' first' n' a b r) → MeetVerity said first n → MeetVerity said' first' n'
up-meets plain some = (plain [] [] (Err io.NoMemory) (met some)).memory refl

-- a run on another one
step-up : {c : Configuration} {run up : SectorRun} {old new : BackingRecord} {result : Result Unit IoFault}
    → ((a b : List Device) (r : Result Unit IoFault) → IsPlain run.said run.first run.count a b r → IsPlain up.said up.first up.count a b r)
    → AreWithin run.leaves up.leaves → ReadsAtMost up.most old.leaves new.leaves → IsReadStep c run old new result → IsReadStep c up old new result
step-up {run = run} {up = up} plain within spent p = record {
  cached = p.cached;
  plain = plain _ _ _ p.plain;
  same = λ none. p.same (λ some. none (up-meets plain some));
  uncounted = λ none. p.uncounted (λ some. none (up-meets plain some));
  touches = asks-up within (asks-less (λ none some. none (up-meets plain some)) p.touches);
  spent = spent;
}

module _ {c : Configuration} {old new : BackingRecord} {result : Result Unit IoFault} where
  pub below-step : (lower : Lower) (first n : ℕ) → IsReadStep c (run_beneath c lower first n) old new result → IsReadStep c (run_of c (Below lower first) n) old new result
  below-step lower first n p = step-up {run = run_beneath c lower first n} {up = run_of c (Below lower first) n} (λ a b r. below_plain c lower first n) (λ i out. out) p.spent p

  pub units-step : (x : CryptPart) (first n : ℕ) → AreUnits c x n → first ≡ unit_first x.units x.first → AreRead old.leaves (n * read_cost c x.lower) new.leaves
      → IsReadStep c (run_beneath c x.lower first n) old new result → IsReadStep c (run_of c (Units x) n) old new result
  units-step x first n units at moved p =
      step-up {run = run_beneath c x.lower (unit_first x.units x.first) n} {up = run_of c (Units x) n} (λ a b r. units-plain c x n units) (λ i out. out) (units-spent c x n units moved)
      (subst (λ (k : ℕ). IsReadStep c (run_beneath c x.lower k n) old new result) at p)

  pub part-step : (x : CryptPart) (whole : WholeUnit) (n m : ℕ) → IsWholeOf x whole → LieInUnit c x n → 0 < n → m ≡ whole.sectors
      → IsReadStep c (run_of c (Units whole.from) m) old new result → IsReadStep c (run_of c (UnitPart x) n) old new result
  part-step x whole n m of lies some count p =
      let q = subst (λ (k : ℕ). IsReadStep c (run_of c (Units whole.from) k) old new result) count p in
      step-up {run = run_of c (Units whole.from) whole.sectors} {up = run_of c (UnitPart x) n} (λ a b r. part-plain c x whole n of lies some) (λ i out. ap (λ (y : CryptPart). leaves_of c y.lower i) of.from ∙ out)
      (unit-spent c x whole n of lies some old.leaves new.leaves q.spent) q

module _ {c : Configuration} {at : BackingRecord} (n : ℕ) (sound : IsCacheOf c at.leaves at.cache) where
  pub zeros-step : IsReadStep c (run_of c Zeros n) at at (Ok tt)
  zeros-step = step-none {run = run_of c Zeros n} sound (zeros_plain c n at.leaves) (asks-none (HealsNone c (run_of c Zeros n)) (source_leaves c Zeros) at.leaves (Ok tt) tt refl)

  pub fails-step : 0 < n → IsReadStep c (run_of c Fails n) at at (Err (io.Stack why.ErrorTarget))
  fails-step some = step-none {run = run_of c Fails n} sound (fails_plain c n at.leaves some) (asks-none (HealsNone c (run_of c Fails n)) (source_leaves c Fails) at.leaves (Err (io.Stack why.ErrorTarget)) tt refl)

pub leaf-step : {c : Configuration} {leaf first n : ℕ} {old new : List Device} {result : Result Unit IoFault} {bytes : List ℕ} (at : BackingRecord) → ReadsLeaf c leaf first n old new result bytes → old ≡ at.leaves → IsCacheOf c at.leaves at.cache
    → IsReadStep c (run_beneath c (Leaf leaf) first n) at (record { leaves = new; cache = at.cache; restored = at.restored }) result
leaf-step {c = c} {leaf = leaf} {first = first} {n = n} {new = new} {result = result} {bytes = bytes} at read is sound =
    let here = subst (λ (l : List Device). ReadsLeaf c leaf first n l new result bytes) is read in
    let moved = (here.got []).moved in
    record {
      cached = record { capacity = refl; sound = cached-read c at.cache moved sound };
      plain = here.plain;
      same = λ none. refl;
      uncounted = λ none. refl;
      touches = asks-less (λ none. tt) here.touches;
      spent = leaf-spent c leaf first n moved;
    }

-- ---- run by run

module _ {c : Configuration} {d first at all count : ℕ} {source : Source} {bytes : List ℕ} (loaded : IsLoaded c) (run : IsNextRun c d first at all bytes count source) where
  -- what meets a `verity` line in the run meets one in the device's sectors
  pub run-meets : (end : ℕ) → at / 512 + count ≤ end → MeetVerity (source_said c source) 0 count → MeetVerity (said_at c (mapped d)) first end
  run-meets end fits some =
      let none : IsPlain (said_at c (mapped d)) first (at / 512) [] [] (Ok tt) = plain-none (said_at c (mapped d)) first (at / 512) [] (Ok tt) (λ e. cc) tt in
      (device_plain c d first (at / 512) count end source {mid = []} {new = []} {result = Err io.NoMemory} loaded fits run.served none (met some)).memory refl

  -- the runs of a device before one, and that one
  pub device-step : {n : ℕ} {old mid new : BackingRecord} {result : Result Unit IoFault} (end : ℕ) → at / 512 + count ≤ end → IsCutBehind c d first (at / 512) all → IsCutBehind c d first (at / 512 + count) end → n ≡ count
      → IsReadStep c (run_beneath c (mapped d) first (at / 512)) old mid (Ok tt) → IsReadStep c (run_of c source n) mid new result → IsReadStep c (run_beneath c (mapped d) first end) old new result
  device-step {old = old} {mid = mid} {new = new} {result = result} end fits cut behind same p q =
      let r = subst (λ (k : ℕ). IsReadStep c (run_of c source k) mid new result) same q in
      let spent = spent-run c d first (at / 512) all loaded cut old.leaves mid.leaves p.spent count source new.leaves run.some run.inside run.served r.spent in
      record {
        cached = record { capacity = r.cached.capacity ∙ p.cached.capacity; sound = r.cached.sound };
        plain = device_plain c d first (at / 512) count end source loaded fits run.served p.plain r.plain;
        same = λ apart. r.same (λ some. apart (run-meets end fits some)) ∙ p.same (λ some. apart (some.0, omega (arith, some.1, fits), some.2));
        uncounted = λ apart. r.uncounted (λ some. apart (run-meets end fits some)) ∙ p.uncounted (λ some. apart (some.0, omega (arith, some.1, fits), some.2));
        touches = device-asked c d (first + at / 512) count source loaded run.some run.served
            (asks-less (λ none some. none (some.0, omega (arith, some.1, fits), some.2)) p.touches) (asks-less (λ none some. none (run-meets end fits some)) r.touches);
        spent = spent-all c d first (at / 512 + count) end loaded behind old.leaves new.leaves spent fits;
      }

  -- as far as that one goes, or all that there are
  pub device-step-ok : {n : ℕ} {old mid new : BackingRecord} → IsCutBehind c d first (at / 512) all → n ≡ count → IsReadStep c (run_beneath c (mapped d) first (at / 512)) old mid (Ok tt) → IsReadStep c (run_of c source n) mid new (Ok tt)
      → IsReadStep c (run_beneath c (mapped d) first ((at + count * 512) / 512)) old new (Ok tt)
  device-step-ok {old = old} {new = new} cut same p q =
      subst (λ (k : ℕ). IsReadStep c (run_beneath c (mapped d) first k) old new (Ok tt)) run.next (device-step (at / 512 + count) (omega arith) cut (inr (inl refl)) same p q)

  pub device-step-err : {n : ℕ} {old mid new : BackingRecord} {result : Result Unit IoFault} → IsCutBehind c d first (at / 512) all → n ≡ count → IsReadStep c (run_beneath c (mapped d) first (at / 512)) old mid (Ok tt) → IsReadStep c (run_of c source n) mid new result
      → IsReadStep c (run_beneath c (mapped d) first all) old new result
  device-step-err cut same p q = device-step all run.inside cut run.behind same p q

-- none yet
pub device-begin : {c : Configuration} (d first : ℕ) {at : BackingRecord} → IsCacheOf c at.leaves at.cache → IsReadStep c (run_beneath c (mapped d) first 0) at at (Ok tt)
device-begin {c = c} d first {at = at} sound =
    step-none {run = run_beneath c (mapped d) first 0} sound (plain-none (said_at c (mapped d)) first 0 at.leaves (Ok tt) (λ e. cc) tt) (asks-none (HealsNone c (run_beneath c (mapped d) first 0)) (leaves_of c (mapped d)) at.leaves (Ok tt) tt refl)
