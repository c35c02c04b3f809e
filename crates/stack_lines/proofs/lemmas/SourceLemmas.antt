-- What is read from where a device's sectors come from, and what is read of the device.
use Rattle.std.proofs.Common.{◌≡◌, ℕ, ◌+◌, ◌-◌, ◌*◌, ◌<◌, ◌≤◌, List, length, take, replicate, Option, Result, Ok, Err, refl, sym, ap, ◌∙◌, arith}
use Rattle.std.proofs.lemmas.List.{take-replicate, drop-replicate, length-replicate}
use Rattle.block_device.specs.Device.{Device}
use Rattle.dm_table.specs.declared.table.Line.{Line}
use Rattle.dm_table.specs.declared.table.Target.{Target}
use Rattle.stack_rules.specs.declared.lower.Lower.{Lower}
use Rattle.stack_rules.specs.declared.lower.Lower.TheVariants.{Leaf}
use Rattle.stack_rules.specs.Records.{Configuration}
use Rattle.stack_rules.specs.Names.{mapped}
use Rattle.stack_rules.specs.Lines.{IsLine}
use Rattle.stack_rules.specs.Descend.{known, depth, read_cost}
use Rattle.stack_rules.specs.Rules.{IsLoaded}
use Rattle.stack_meaning.specs.declared.fault.IoFault.{IoFault}
use Rattle.stack_meaning.specs.declared.fault.IoFault.TheVariants as io
use Rattle.stack_meaning.specs.declared.fault.Fault.TheVariants as why
use Rattle.stack_lines.specs.declared.source.Source.{Source}
use Rattle.stack_lines.specs.declared.source.VerityPart.{VerityPart}
use Rattle.stack_lines.specs.declared.source.Source.TheVariants.{Below, Units, UnitPart, Zeros, Fails, Block, Blocks}
use Rattle.dm_table.specs.declared.table.Target.TheVariants.{Verity as verity_target}
use Rattle.stack_lines.specs.declared.source.CryptPart.{CryptPart}
use Rattle.stack_lines.proofs.lemmas.UnitLineLemmas.{IsUnitLine, unit-line}
use Rattle.stack_meaning.specs.Outcomes.{error_target, zero_sector, part}
use Rattle.stack_meaning.specs.Found.{FoundRecord}
use Rattle.stack_meaning.specs.Kept.{AllKept}
use Rattle.stack_meaning.specs.declared.units.CryptUnits.{CryptUnits}
use Rattle.stack_meaning.specs.Units.{units_of}
use Rattle.stack_meaning.specs.Meaning.{Said, none_said, crypt_said, line_said, said_at, said_by_name}
use Rattle.stack_meaning.specs.Leaves.{steady_images}
use Rattle.stack_meaning.specs.Places.{place_of, run_expected, LeafRead}
use Rattle.stack_lines.specs.Sources.{IsPartOf, IsPlacedAt, ComeFrom, IsServed, part_said, source_said, source_cost, source_place, source_depth, SourceHolds, ReadsSource}
use Rattle.stack_meaning.specs.Reading.{Gets, Reads, IsPlain}
use Rattle.stack_meaning.proofs.lemmas.SectorLemmas.{said_at-line, line_said-beneath}
use Rattle.stack_meaning.proofs.lemmas.CostLemmas.{cost-falls}
use Rattle.stack_meaning.proofs.lemmas.LoadedLemmas.{depth-falls}
use Rattle.stack_meaning.proofs.lemmas.AgreementLemmas.{agrees-within}
use Rattle.stack_meaning.proofs.lemmas.LeafListLemmas.{AreRead-none}
use Rattle.stack_meaning.proofs.lemmas.FoundLemmas.{Grown-none, kept-later}
use Rattle.stack_meaning.proofs.lemmas.SpanLemmas.{span_zeros, span_fails}
use Rattle.stack_lines.specs.Touches.{leaves_of, source_leaves}
use Rattle.stack_lines.proofs.lemmas.TouchLemmas.{one-within, served-within}
use Rattle.stack_meaning.proofs.lemmas.RunLemmas.{Passes, pass}
use Rattle.stack_meaning.proofs.lemmas.PlainLemmas.{plain-none, plain-as, plain-then}

-- ---- what is said of the sectors where those of a device come from

module _ (c : Configuration) (d l : ℕ) (line : Line) (is : IsLine c d l line) (w n j : ℕ) (below : j < n) where
  verity-came : (x : VerityPart) → line.target ≡ verity_target x.verity.now → IsPlacedAt d l x → x.first ≡ w → line_said (said_by_name c) d l line.target (w + j) ≡ part_said c x j
  verity-came x target place first =
      ap (λ (t : Target). line_said (said_by_name c) d l t (w + j)) target
      ∙ ap (λ (k : ℕ). line_said (said_by_name c) k l (verity_target x.verity.now) (w + j)) (sym place.0)
      ∙ ap (λ (k : ℕ). line_said (said_by_name c) x.device.0 k (verity_target x.verity.now) (w + j)) (sym place.1)
      ∙ ap (λ (k : ℕ). part_said c (record x { first = k }) j) (sym first)

  crypt-came : (u : CryptPart) → IsPartOf c line.target u → u.first ≡ w → line_said (said_by_name c) d l line.target (w + j) ≡ source_said c (Units u) j
  crypt-came u of first =
      ap (λ (t : Target). line_said (said_by_name c) d l t (w + j)) of.is
      ∙ ap (λ (o : Option Lower). crypt_said (known {A = ℕ → Said} (λ t. none_said) (said_at c) o) (units_of of.crypt) of.crypt.key (w + j)) of.named
      ∙ ap (λ (x : CryptUnits). crypt_said (said_at c u.lower) x of.crypt.key (w + j)) (sym of.units)
      ∙ ap (λ (x : List ℕ). crypt_said (said_at c u.lower) u.units x (w + j)) (sym of.key)
      ∙ ap (λ (k : ℕ). crypt_said (said_at c u.lower) u.units u.key.now (k + j)) (sym first)

  come-said : (source : Source) → ComeFrom c (d, l) line.target w n source → line_said (said_by_name c) d l line.target (w + j) ≡ source_said c source j
  come-said (Below lower first) come =
      let on = come.1 in
      line_said-beneath (said_by_name c) d l line.target (w + j) (on.name, first + j) come.0 (on.under j below)
      ∙ ap (λ (o : Option Lower). known {A = ℕ → Said} (λ t. none_said) (said_at c) o (first + j)) on.is
  come-said (Units u) come = crypt-came u come.0 come.1
  come-said (UnitPart u) come = crypt-came u come.0 come.1
  come-said Zeros come = ap (λ (t : Target). line_said (said_by_name c) d l t (w + j)) come
  come-said Fails come = ap (λ (t : Target). line_said (said_by_name c) d l t (w + j)) come
  come-said (Block x) come = verity-came x come.0 come.1 come.2
  come-said (Blocks x) come = verity-came x come.0 come.1 come.2

pub served-said : (c : Configuration) (d s n j : ℕ) (source : Source) → IsLoaded c → j < n → IsServed c d s n source → source_said c source j ≡ said_at c (mapped d) (s + j)
served-said c d s n j source loaded below r =
    sym (said_at-line c loaded.valid d s j r.number r.line r.found r.start (omega (arith, below, r.fits)) ∙ come-said c d r.number r.line r.is (s - r.line.start) n j below source r.come)

-- the line of a part of a crypt line
pub served-line : (c : Configuration) (d s n : ℕ) (source : Source) (u : CryptPart) → IsLoaded c → (r : IsServed c d s n source) → IsPartOf c r.line.target u → IsUnitLine c d r.line u.units u.lower
served-line c d s n source u loaded r of = unit-line c d r.number 0 r.line.target u loaded (record { line = r.line; is = r.is; has = refl; fits = omega arith }) of

pub served-cost : (c : Configuration) (d s n : ℕ) (source : Source) → IsLoaded c → 0 < n → IsServed c d s n source → source_cost c source ≤ read_cost c (mapped d)
served-cost c d s n (Below lower first) loaded some r =
    let on = r.come.1 in
    cost-falls c d r.number r.line (s - r.line.start + 0) (on.name, first + 0) lower loaded.valid r.is (on.under 0 some) on.is
served-cost c d s n (Units u) loaded some r = (served-line c d s n (Units u) u loaded r r.come.0).read
served-cost c d s n (UnitPart u) loaded some r = (served-line c d s n (UnitPart u) u loaded r r.come.0).read_unit
served-cost c d s n Zeros loaded some r = omega arith
served-cost c d s n Fails loaded some r = omega arith
served-cost c d s n (Block x) loaded some r = let same : read_cost c (mapped x.device.0) ≡ read_cost c (mapped d) = ap (λ (k : ℕ). read_cost c (mapped k)) r.come.1.0 in omega (arith, same)
served-cost c d s n (Blocks x) loaded some r = let same : read_cost c (mapped x.device.0) ≡ read_cost c (mapped d) = ap (λ (k : ℕ). read_cost c (mapped k)) r.come.1.0 in omega (arith, same)

-- the lower device is less deep
pub served-depth : (c : Configuration) (d s n : ℕ) (source : Source) → IsLoaded c → 0 < n → IsServed c d s n source → source_depth c source ≤ depth c (mapped d)
served-depth c d s n (Below lower first) loaded some r =
    let on = r.come.1 in
    let falls = depth-falls c d r.number r.line (s - r.line.start + 0) (on.name, first + 0) lower loaded.valid r.is (on.under 0 some) on.is in omega (arith, falls)
served-depth c d s n (Units u) loaded some r = let line = served-line c d s n (Units u) u loaded r r.come.0 in omega (arith, line.shallower)
served-depth c d s n (UnitPart u) loaded some r = let line = served-line c d s n (UnitPart u) u loaded r r.come.0 in omega (arith, line.shallower)
served-depth c d s n Zeros loaded some r = omega arith
served-depth c d s n Fails loaded some r = omega arith
served-depth c d s n (Block x) loaded some r = let same : depth c (mapped x.device.0) ≡ depth c (mapped d) = ap (λ (k : ℕ). depth c (mapped k)) r.come.1.0 in omega (arith, same)
served-depth c d s n (Blocks x) loaded some r = let same : depth c (mapped x.device.0) ≡ depth c (mapped d) = ap (λ (k : ℕ). depth c (mapped k)) r.come.1.0 in omega (arith, same)

pub served-holds : (c : Configuration) (d s n : ℕ) (source : Source) → IsServed c d s n source → SourceHolds c source n
served-holds c d s n (Below lower first) r = r.come.1.inside
served-holds c d s n (Units u) r = r.come.2
served-holds c d s n (UnitPart u) r = r.come.2
served-holds c d s n Zeros r = tt
served-holds c d s n Fails r = tt
served-holds c d s n (Block x) r = r.come.3
served-holds c d s n (Blocks x) r = r.come.3

-- ---- reads

pub served-passes : (c : Configuration) (d s n : ℕ) (source : Source) → IsLoaded c → 0 < n → IsServed c d s n source → Passes (source_place c source) (place_of c (mapped d)) 0 s n
served-passes c d s n source loaded some r = record {
  said = λ j h. let e : 0 + j ≡ j = omega arith in ap (source_said c source) e ∙ served-said c d s n j source loaded h r;
  cost = served-cost c d s n source loaded some r;
  leaves = one-within (source_leaves c source) (leaves_of c (mapped d)) (served-within c d s n source loaded some r);
  agrees = λ images. agrees-within c images (one-within (source_leaves c source) (leaves_of c (mapped d)) (served-within c d s n source loaded some r));
}

below-passes : (c : Configuration) (lower : Lower) (first n : ℕ) → Passes (place_of c lower) (source_place c (Below lower first)) first 0 n
below-passes c lower first n = record { said = λ j h. let e : j ≡ 0 + j = omega arith in ap (λ (k : ℕ). said_at c lower (first + k)) e; cost = omega arith; leaves = λ i is. is; agrees = λ images all. all }

pub below_of : (c : Configuration) (lower : Lower) (first n : ℕ) (did : LeafRead) (answer : Result (List ℕ) IoFault) → Reads c lower first n did answer → ReadsSource c (Below lower first) n did answer
below_of c lower first n did answer p = pass (below-passes c lower first n) did answer p

part-zeros : (n j : ℕ) → j < n → part (replicate (512 * n) 0) j ≡ zero_sector
unfolding zero_sector
part-zeros n j h = ap (take 512) (drop-replicate (512 * j) (512 * n) 0) ∙ take-replicate 512 (512 * n - 512 * j) 0 (omega arith)

-- where nothing is read, leaves and chains stay
abbrev pub empty_read : List Device → List FoundRecord → LeafRead
empty_read leaves found = record { old = leaves; new = leaves; before = found; after = found }

pub zeros_of : (c : Configuration) (n : ℕ) (leaves : List Device) (found : List FoundRecord) (bytes : List ℕ) → AllKept c leaves found → bytes ≡ replicate (512 * n) 0
    → ReadsSource c Zeros n (empty_read leaves found) (Ok bytes)
zeros_of c n leaves found bytes kept e = record {
  got = record {
    moved = AreRead-none _ leaves;
    may = record { len = ap length e ∙ length-replicate {A = ℕ} (512 * n) 0; sectors = λ j h. ap (λ (b : List ℕ). part b j) e ∙ part-zeros n j h };
    exact = λ sure. span_zeros (λ j. (source_said c Zeros j).means (steady_images leaves)) 0 n (λ j h. refl) ∙ ap Ok (sym e);
  };
  grown = Grown-none (λ j. (source_said c Zeros j).entries) 0 n found;
  kept = kept;
}

pub fails_of : (c : Configuration) (n : ℕ) (leaves : List Device) (found : List FoundRecord) → AllKept c leaves found → 0 < n → ReadsSource c Fails n (empty_read leaves found) (Err (io.Stack error_target))
fails_of c n leaves found kept some = record {
  got = record {
    moved = AreRead-none _ leaves;
    may = (0, some, refl);
    exact = λ sure. span_fails (λ j. (source_said c Fails j).means (steady_images leaves)) 0 n error_target some refl;
  };
  grown = Grown-none (λ j. (source_said c Fails j).entries) 0 n found;
  kept = kept;
}

-- the reads of some sectors of a device, and of the run after them
pub device_plain : (c : Configuration) (d first a m n : ℕ) (source : Source) {old mid new : List Device} {result : Result Unit IoFault} → IsLoaded c → a + m ≤ n → IsServed c d (first + a) m source
    → IsPlain (said_at c (mapped d)) first a old mid (Ok tt) → IsPlain (source_said c source) 0 m mid new result → IsPlain (said_at c (mapped d)) first n old new result
device_plain c d first a m n source loaded h r p q =
    plain-then (said_at c (mapped d)) first a m n h p
    (plain-as (source_said c source) (said_at c (mapped d)) 0 (first + a) m (λ j low. let e : 0 + j ≡ j = omega arith in ap (source_said c source) e ∙ served-said c d (first + a) m j source loaded low r) q)

pub below_plain : (c : Configuration) (lower : Lower) (first n : ℕ) {old new : List Device} {result : Result Unit IoFault} → IsPlain (said_at c lower) first n old new result → IsPlain (source_said c (Below lower first)) 0 n old new result
below_plain c lower first n p = plain-as (said_at c lower) (source_said c (Below lower first)) first 0 n (λ j h. let e : j ≡ 0 + j = omega arith in ap (λ (k : ℕ). said_at c lower (first + k)) e) p

-- what isn't read
pub zeros_plain : (c : Configuration) (n : ℕ) (leaves : List Device) → IsPlain (source_said c Zeros) 0 n leaves leaves (Ok tt)
zeros_plain c n leaves = plain-none (source_said c Zeros) 0 n leaves (Ok tt) (λ e. cc) tt

pub fails_plain : (c : Configuration) (n : ℕ) (leaves : List Device) → 0 < n → IsPlain (source_said c Fails) 0 n leaves leaves (Err (io.Stack why.ErrorTarget))
fails_plain c n leaves some =
    plain-none (source_said c Fails) 0 n leaves (Err (io.Stack why.ErrorTarget)) (λ e. cc)
    (λ counted. record { before = 0; failed = n; some = some; inside = omega arith; by = λ j h. refl; leaf = λ i d out. refl })

-- a leaf's sectors were read, and no chain found
pub leaf_of : (c : Configuration) (i first n : ℕ) {old new : List Device} (found : List FoundRecord) {answer : Result (List ℕ) IoFault} → AllKept c old found
    → Gets (run_expected (place_of c (Leaf i)) found first n) old new answer → Reads c (Leaf i) first n (record { old = old; new = new; before = found; after = found }) answer
leaf_of c i first n found kept p = record {
  got = p;
  grown = Grown-none (λ s. (said_at c (Leaf i) s).entries) first n found;
  kept = kept-later c found p.moved kept;
}
