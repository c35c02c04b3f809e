-- Units of a `crypt` line, as the engine reads them.
use Rattle.std.proofs.Common.{◌≡◌, ℕ, ◌+◌, ◌-◌, ◌*◌, ◌/◌, ◌%◌, ◌<◌, ◌≤◌, List, take, drop, Contains, Result, Ok, Err, refl, sym, ap, ◌∙◌, subst, arith}
use Rattle.std.proofs.lemmas.Nat.{div-add-mod', mod-mul-add, mod_below}
use Rattle.std.proofs.Math.Nat.{mul_comm, mul-le-mul_right}
use Rattle.block_device.specs.Device.{Device}
use Rattle.stack_rules.specs.Records.{Configuration}
use Rattle.stack_rules.specs.Descend.{read_cost}
use Rattle.stack_rules.specs.Rules.{IsLoaded}
use Rattle.stack_meaning.specs.declared.fault.IoFault.{IoFault}
use Rattle.stack_lines.specs.declared.source.CryptPart.{CryptPart}
use Rattle.stack_lines.specs.declared.units.WholeUnit.{WholeUnit}
use Rattle.stack_lines.specs.declared.source.Source.TheVariants.{Units, UnitPart}
use Rattle.stack_meaning.specs.Sectors.{SomeOf, gathered}
use Rattle.stack_meaning.specs.Units.{per_unit, unit_bytes, decrypted_units, unit_first}
use Rattle.stack_meaning.specs.Meaning.{Said, crypt_said, said_at}
use Rattle.stack_meaning.specs.Changes.{AllWhole}
use Rattle.stack_meaning.specs.Places.{LeafRead}
use Rattle.stack_meaning.specs.Reading.{Reads, Finds, IsPlain}
use Rattle.stack_lines.specs.Sources.{AreUnits, LieInUnit, IsWholeOf, from_unit, source_said, ReadsSource}
use Rattle.stack_meaning.proofs.lemmas.UnitSizeLemmas.{per_unit-some}
use Rattle.stack_meaning.proofs.lemmas.UnitLemmas.{unit-begin}
use Rattle.stack_lines.proofs.lemmas.UnitFirstLemmas.{same-first}
use Rattle.stack_lines.proofs.lemmas.UnitReadLemmas.{units_place, units_ok, units_err, part_ok, part_err}
use Rattle.stack_meaning.proofs.lemmas.FoundLemmas.{in-gathered}
use Rattle.stack_meaning.proofs.lemmas.PlainLemmas.{plain-up, plain-first}
use Rattle.stack_meaning.proofs.lemmas.UpLemmas.{IsUp}
use Rattle.stack_lines.specs.Touches.{leaves_of}

-- so many units have so many bytes
pub units-bytes : (c : Configuration) (x : CryptPart) (n len : ℕ) → AreUnits c x n → len ≡ 512 * n → len % unit_bytes x.units ≡ 0
units-bytes c x n len units is =
    let u : ℕ = per_unit x.units in
    let size : ℕ = unit_bytes x.units in
    let m : ℕ = n / u in
    let all : m * u ≡ n = omega (arith, div-add-mod' n u, units.whole) in
    let split : len ≡ m * size + 0 = omega (arith, is, all, unit-begin x.units m, mul_comm size m) in
    ap (λ (k : ℕ). k % size) split ∙ mod-mul-add m size 0 (omega (arith, per_unit-some x.units))

-- ---- whole units

module _ (c : Configuration) (x : CryptPart) (n : ℕ) (loaded : IsLoaded c) (units : AreUnits c x n) where
  pub units-read : (did : LeafRead) → AllWhole did.old → (bytes : List ℕ) → Reads c x.lower (unit_first x.units x.first) n did (Ok bytes)
      → ReadsSource c (Units x) n did (Ok (decrypted_units x.units x.key.now (x.first / per_unit x.units) bytes))
  units-read did all bytes p = units_ok c x.lower x.units x.key.now x.first n (read_cost c x.lower) (leaves_of c x.lower) (λ i h. h) did units.aligned units.whole refl bytes loaded all p

  pub units-failed : (did : LeafRead) → AllWhole did.old → (fault : IoFault) → Reads c x.lower (unit_first x.units x.first) n did (Err fault) → ReadsSource c (Units x) n did (Err fault)
  units-failed did all fault p = units_err c x.lower x.units x.key.now x.first n (read_cost c x.lower) (leaves_of c x.lower) (λ i h. h) did units.aligned units.whole refl fault loaded all p

module _ (c : Configuration) (x : CryptPart) (n : ℕ) (units : AreUnits c x n) where
  -- a sector of a unit has what the sector beneath it has
  pub units-up : (j : ℕ) → IsUp (said_at c x.lower (unit_first x.units x.first + j)) (source_said c (Units x) j)
  units-up j =
      let u : ℕ = per_unit x.units in
      let w : ℕ = x.first + j in
      let low : w % u < u = mod_below w u (omega (arith, per_unit-some x.units)) in
      let place : unit_first x.units x.first + j ≡ unit_first x.units w + w % u = omega (arith, div-add-mod' x.first u, units.aligned, div-add-mod' w u) in
      subst (λ (t : ℕ). IsUp (said_at c x.lower t) (crypt_said (said_at c x.lower) x.units x.key.now w)) (sym place) (record {
        meets = λ y h. (w % u, low, h);
        reaches = λ p h. in-gathered (λ t. (said_at c x.lower t).reaches) (unit_first x.units w) u (w % u) p low h;
        encrypts = λ h. tt;
      })

  pub units-plain : {old new : List Device} {result : Result Unit IoFault} → IsPlain (said_at c x.lower) (unit_first x.units x.first) n old new result → IsPlain (source_said c (Units x)) 0 n old new result
  units-plain p =
      plain-up (said_at c x.lower) (source_said c (Units x)) (unit_first x.units x.first) 0 n
      (λ j h. let e : j ≡ 0 + j = omega arith in subst (λ (k : ℕ). IsUp (said_at c x.lower (unit_first x.units x.first + j)) (source_said c (Units x) k)) e (units-up j)) p

-- ---- part of a unit

module _ (c : Configuration) (x : CryptPart) (whole : WholeUnit) (n : ℕ) (of : IsWholeOf x whole) (lies : LieInUnit c x n) (some : 0 < n) where
  abbrev unit : ℕ
  unit = per_unit x.units

  abbrev begin : ℕ
  begin = x.first - x.first % per_unit x.units

  pub begin-whole : (x.first - x.first % per_unit x.units) % per_unit x.units ≡ 0
  begin-whole =
      let all : begin ≡ x.first / unit * unit + 0 = omega (arith, div-add-mod' x.first unit) in
      ap (λ (k : ℕ). k % unit) all ∙ mod-mul-add (x.first / unit) unit 0 (omega (arith, per_unit-some x.units))

  -- the sectors of one unit have one unit beneath
  pub first-same : (r : ℕ) → r < per_unit x.units → unit_first x.units (x.first - x.first % per_unit x.units + r) ≡ unit_first x.units x.first
  first-same r low =
      let back : begin + x.first % unit ≡ x.first = omega (arith, div-add-mod' x.first unit) in
      let one = same-first x.units begin begin-whole in
      one r low ∙ sym (one (x.first % unit) (mod_below x.first unit (omega (arith, per_unit-some x.units)))) ∙ ap (unit_first x.units) back

  pub units-of : AreUnits c (from_unit x) (per_unit x.units)
  units-of =
      let split : unit ≡ 1 * unit + 0 = omega arith in
      let none : begin + 0 ≡ begin = omega arith in
      let first = sym (ap (unit_first x.units) none) ∙ first-same 0 (omega (arith, per_unit-some x.units)) in
      record {
        aligned = begin-whole;
        whole = ap (λ (k : ℕ). k % unit) split ∙ mod-mul-add 1 unit 0 (omega (arith, per_unit-some x.units));
        inside = omega (arith, lies.inside, first);
        small = omega (arith, lies.unit_small);
      }

  pub whole-units : AreUnits c whole.from whole.sectors
  whole-units = subst (λ (k : ℕ). AreUnits c whole.from k) (sym of.sectors) (subst (λ (y : CryptPart). AreUnits c y unit) (sym of.from) units-of)

  back : begin + x.first % unit ≡ x.first
  back = omega (arith, div-add-mod' x.first unit)

  paid-part : unit * read_cost c x.lower ≤ n * (unit * read_cost c x.lower)
  paid-part = let once : 1 * (unit * read_cost c x.lower) ≤ n * (unit * read_cost c x.lower) = mul-le-mul_right (unit * read_cost c x.lower) some in omega (arith, once)

  read-as : (did : LeafRead) (answer : Result (List ℕ) IoFault) → ReadsSource c (Units whole.from) whole.sectors did answer → ReadsSource c (Units (from_unit x)) unit did answer
  read-as did answer p =
      subst (λ (y : CryptPart). ReadsSource c (Units y) unit did answer) of.from (subst (λ (k : ℕ). ReadsSource c (Units whole.from) k did answer) of.sectors p)

  at-part : (did : LeafRead) (answer : Result (List ℕ) IoFault) → Finds (units_place c x.lower x.units x.key.now (begin + x.first % unit) (unit * read_cost c x.lower) (leaves_of c x.lower)) c 0 n did answer → ReadsSource c (UnitPart x) n did answer
  at-part did answer p = subst (λ (w : ℕ). Finds (units_place c x.lower x.units x.key.now w (unit * read_cost c x.lower) (leaves_of c x.lower)) c 0 n did answer) back p

  pub part-read : IsLoaded c → (did : LeafRead) → AllWhole did.old → (bytes : List ℕ) → ReadsSource c (Units whole.from) whole.sectors did (Ok bytes)
      → ReadsSource c (UnitPart x) n did (Ok (take (512 * n) (drop (512 * (x.first % per_unit x.units)) bytes)))
  part-read loaded did all bytes p =
      at-part did (Ok (take (512 * n) (drop (512 * (x.first % unit)) bytes)))
      (part_ok c x.lower x.units x.key.now begin (x.first % unit) n (read_cost c x.lower) (unit * read_cost c x.lower) (leaves_of c x.lower) did begin-whole some lies.within paid-part bytes loaded all (read-as did (Ok bytes) p))

  pub part-failed : IsLoaded c → (did : LeafRead) → AllWhole did.old → (fault : IoFault) → ReadsSource c (Units whole.from) whole.sectors did (Err fault) → ReadsSource c (UnitPart x) n did (Err fault)
  part-failed loaded did all fault p =
      at-part did (Err fault)
      (part_err c x.lower x.units x.key.now begin (x.first % unit) n (read_cost c x.lower) (unit * read_cost c x.lower) (leaves_of c x.lower) did begin-whole some lies.within paid-part fault loaded all (read-as did (Err fault) p))

  -- what the unit has, the first sector of each of its parts has
  pub part-has : (P : Said → Type 0) → ((s s' : ℕ) (lower : ℕ → Said) → unit_first x.units s ≡ unit_first x.units s' → P (crypt_said lower x.units x.key.now s) → P (crypt_said lower x.units x.key.now s'))
      → SomeOf (λ j. P (source_said c (Units whole.from) j)) 0 whole.sectors → P (source_said c (UnitPart x) 0)
  part-has P same y =
      let here : P (source_said c (Units (from_unit x)) (0 + y.0)) = subst (λ (z : CryptPart). P (source_said c (Units z) (0 + y.0))) of.from y.2 in
      let none : x.first ≡ x.first + 0 = omega arith in
      let at : begin + (0 + y.0) ≡ begin + y.0 = omega arith in
      same (begin + (0 + y.0)) (x.first + 0) (said_at c x.lower) (ap (unit_first x.units) at ∙ first-same y.0 (omega (arith, y.1, of.sectors)) ∙ ap (unit_first x.units) none) here

  pub part-some : (P : Said → Type 0) → ((s s' : ℕ) (lower : ℕ → Said) → unit_first x.units s ≡ unit_first x.units s' → P (crypt_said lower x.units x.key.now s) → P (crypt_said lower x.units x.key.now s'))
      → SomeOf (λ j. P (source_said c (Units whole.from) j)) 0 whole.sectors → SomeOf (λ j. P (source_said c (UnitPart x) j)) 0 n
  part-some P same y = (0, some, part-has P same y)

  pub part-up : (j : ℕ) → j < whole.sectors → IsUp (source_said c (Units whole.from) (0 + j)) (source_said c (UnitPart x) 0)
  part-up j low = record {
    meets = λ z h. part-has (λ y. y.meets z) (λ s s' lower e h. subst (λ (k : ℕ). SomeOf (λ t. (lower t).meets z) k unit) e h) (j, low, h);
    reaches = λ p h. part-has (λ y. Contains y.reaches p) (λ s s' lower e h. subst (λ (k : ℕ). Contains (gathered (λ t. (lower t).reaches) k unit) p) e h) (j, low, h);
    encrypts = λ h. tt;
  }

  pub part-plain : {old new : List Device} {result : Result Unit IoFault} → IsPlain (source_said c (Units whole.from)) 0 whole.sectors old new result → IsPlain (source_said c (UnitPart x)) 0 n old new result
  part-plain p = plain-first (source_said c (Units whole.from)) (source_said c (UnitPart x)) 0 0 whole.sectors n some part-up p
