-- What is written through the units of a `crypt` line.
use Rattle.std.proofs.Common.{◌≡◌, ℕ, suc, ◌+◌, ◌-◌, ◌*◌, ◌/◌, ◌%◌, ◌<◌, ◌≤◌, List, [], ◌++◌, length, take, drop, Contains, Result, Ok, Err, refl, sym, ap, ◌∙◌, subst, arith}
use Rattle.std.proofs.lemmas.List.{take_all, length-take-le, take-append-drop, append_assoc}
use Rattle.std.proofs.lemmas.Nat.{div-add-mod', div-mul-add, mod-mul-add}
use Rattle.std.proofs.Math.Nat.{add-mul, mul_comm}
use Rattle.block_device.specs.Device.{Device}
use Rattle.stack_meaning.specs.declared.units.CryptUnits.{CryptUnits}
use Rattle.stack_rules.specs.declared.lower.Lower.{Lower}
use Rattle.stack_rules.specs.Records.{Configuration}
use Rattle.stack_rules.specs.Descend.{write_cost}
use Rattle.xts_sector.specs.Units.{unit}
use Rattle.stack_meaning.specs.declared.fault.IoFault.{IoFault}
use Rattle.stack_lines.specs.declared.source.CryptPart.{CryptPart}
use Rattle.stack_lines.specs.declared.source.Source.TheVariants.{Units}
use Rattle.stack_meaning.specs.Sectors.{SomeOf}
use Rattle.stack_meaning.specs.declared.fault.Fault.{Fault}
use Rattle.stack_meaning.specs.Outcomes.{Images, LeafSector}
use Rattle.stack_meaning.specs.Units.{per_unit, unit_bytes, encrypted_units, unit_first}
use Rattle.stack_meaning.specs.Meaning.{Said, crypt_said, said_at}
use Rattle.stack_meaning.specs.Puts.{Put, done, then_put, Putting, put_on}
use Rattle.stack_meaning.specs.Leaves.{steady_images}
use Rattle.stack_meaning.specs.Changes.{reached}
use Rattle.stack_lines.specs.Cuts.{PutsInSteps}
use Rattle.stack_lines.specs.Sources.{AreUnits, source_said}
use Rattle.stack_lines.specs.Writing.{sectors_in, crypt_put, IsPut, StopsAt, StopsAtFault, StopsBehindPut, with_some, destination_of, WritesSectors, source_destination}
use Rattle.stack_meaning.proofs.lemmas.UnitSizeLemmas.{per_unit-some}
use Rattle.stack_lines.proofs.lemmas.UnitSourceLemmas.{units-up}
use Rattle.stack_lines.proofs.lemmas.UnitFirstLemmas.{units-some, unit_first-more}
use Rattle.stack_lines.proofs.lemmas.UnitPutLemmas.{unit-step, unit-apart, units-apart, front-more, front-length, lower-units}
use Rattle.stack_meaning.proofs.lemmas.ChangeLemmas.{AreWritten-more}
use Rattle.stack_meaning.proofs.lemmas.FoundLemmas.{in-gathered}
use Rattle.stack_meaning.proofs.lemmas.UnitLemmas.{unit-more, unit-fits, unit-begin, unit-is, unit-length, length-encrypted_units}
use Rattle.stack_lines.proofs.lemmas.StopLemmas.{IsUp, stop-up, stop-here, PutsNothing}
use Rattle.stack_lines.proofs.lemmas.WriteRunLemmas.{length-sectors_in, sectors_in-append, MayEnd-as, write_ok, write_err}

-- no units are put by changing nothing
none-put : (c : Configuration) (x : CryptPart) → PutsNothing (source_destination c (Units x)).puts
none-put c x s images = refl

pub units-none : (c : Configuration) (x : CryptPart) (images : Images) → (source_destination c (Units x)).puts 0 [] images ≡ done images
units-none c x images = none-put c x 0 images

module _ (c : Configuration) (x : CryptPart) (bytes : List ℕ) (n : ℕ) (holds : AreUnits c x n) (len : length bytes ≡ 512 * n) where
  abbrev units : CryptUnits
  units = x.units

  abbrev key : List ℕ
  key = x.key.now

  abbrev lower : Lower
  lower = x.lower

  -- what sectors beneath units from the a-th sector on have, the units have
  up : (a m : ℕ) → a % per_unit units ≡ 0 → (P Q : Said → Type 0) → ((s : ℕ) → SomeOf (λ t. P (said_at c lower t)) (unit_first units s) (per_unit units) → Q (crypt_said (said_at c lower) units key s))
      → SomeOf (λ t. P (said_at c lower t)) (unit_first units x.first + a) m → SomeOf (λ j. Q (source_said c (Units x) j)) a m
  up a m even P Q raise some =
      let u : ℕ = per_unit units in
      let some_u : 0 < u = omega (arith, per_unit-some units) in
      let place = unit-more u x.first a some_u holds.aligned in
      let on_unit : (x.first + a) % u ≡ 0 = place.1 ∙ even in
      let first : unit_first units x.first + a ≡ unit_first units (x.first + a) = omega (arith, unit_first-more units x.first holds.aligned a, div-add-mod' a u, even) in
      let there = units-some units (x.first + a) on_unit (said_at c lower) key P Q raise m (subst (λ (k : ℕ). SomeOf (λ t. P (said_at c lower t)) k m) first some) in
      let at : x.first + a + (0 + there.0) ≡ x.first + (a + there.0) = omega arith in
      (there.0, there.1, subst Q (ap (crypt_said (said_at c lower) units key) at) there.2)

  reach-up : (a m : ℕ) → a % per_unit units ≡ 0 → (p : LeafSector) → reached (λ s. (said_at c lower s).reaches) (unit_first units x.first + a) m p → reached (λ j. (source_said c (Units x) j).reaches) a m p
  reach-up a m even p some =
      up a m even (λ y. Contains y.reaches p) (λ y. Contains y.reaches p) (λ s some. in-gathered (λ t. (said_at c lower t).reaches) (unit_first units s) (per_unit units) some.0 p some.1 some.2) some

  meet-up : (a m : ℕ) → a % per_unit units ≡ 0 → (z : Fault) → SomeOf (λ s. (said_at c lower s).meets z) (unit_first units x.first + a) m → SomeOf (λ j. (source_said c (Units x) j).meets z) a m
  meet-up a m even z some = up a m even (λ y. y.meets z) (λ y. y.meets z) (λ s some. some) some

  all-encrypt : (j : ℕ) → (source_said c (Units x) j).encrypts
  all-encrypt j = tt

  -- units from the a-th sector on stop where those beneath do
  abbrev stop-raised : (a : ℕ) (xs ys : List (List ℕ)) {fault : IoFault} {old new : List Device} → length xs ≡ length ys → StopsAt (said_at c lower) (unit_first units x.first + a) (length ys) fault old new
      → StopsAt (source_said c (Units x)) a (length xs) fault old new
  stop-raised a xs ys {fault = fault} {old = old} {new = new} count q =
      subst (λ (m : ℕ). StopsAt (source_said c (Units x)) a m fault old new) (sym count)
      (stop-up (said_at c lower) (source_said c (Units x)) (unit_first units x.first + a) a (length ys)
      (λ j h. let at : unit_first units x.first + (a + j) ≡ unit_first units x.first + a + j = omega arith in subst (λ (s : ℕ). IsUp (said_at c lower s) (source_said c (Units x) (a + j))) at (units-up c x n holds (a + j))) q)

  -- units that were written beneath, from the a-th sector on
  raised : (a : ℕ) (xs ys : List (List ℕ)) {old new : List Device} {result : Result Unit IoFault} → a % per_unit units ≡ 0 → length xs ≡ length ys
      → ((images : Images) → (source_destination c (Units x)).puts a xs images ≡ put_on c lower (unit_first units x.first + a) ys images)
      → WritesSectors (destination_of c lower) (unit_first units x.first + a) ys old new result → WritesSectors (source_destination c (Units x)) a xs old new result
  raised a xs ys {old = old} {new = new} {result = result} even count puts p = record {
    moved = AreWritten-more (λ q some. subst (λ (m : ℕ). reached (λ j. (source_said c (Units x) j).reaches) a m q) (sym count) (reach-up a (length ys) even q some))
        (let same = ap (λ (k : ℕ). k * write_cost c lower) count in omega (arith, same)) p.moved;
    ends = MayEnd-as (λ z. SomeOf (λ s. (said_at c lower s).meets z) (unit_first units x.first + a) (length ys)) (λ z. SomeOf (λ j. (source_said c (Units x) j).meets z) a (length xs)) old new result
        (λ z some. subst (λ (m : ℕ). SomeOf (λ j. (source_said c (Units x) j).meets z) a m) (sym count) (meet-up a (length ys) even z some)) p.ends;
    grown = p.grown;
    exact = λ steady. subst (λ (q : Put). IsPut q (steady_images new) result) (sym (puts (steady_images old))) (p.exact steady);
    stops = stops-up result p.stops;
    behind = λ steady. behind-up result p.stops;
    unread = λ none. p.unread (λ some. none (some.0, omega (arith, some.1, count), all-encrypt (a + some.0)));
    fails = p.fails;
  }
    where
      stops-up : (result : Result Unit IoFault) → StopsAtFault (said_at c lower) (unit_first units x.first + a) (length ys) old new result → StopsAtFault (source_said c (Units x)) a (length xs) old new result
      stops-up (Ok whole) h = tt
      stops-up (Err fault) h = λ counted. stop-raised a xs ys count (h counted)

      behind-up : (result : Result Unit IoFault) → StopsAtFault (said_at c lower) (unit_first units x.first + a) (length ys) old new result → StopsBehindPut (with_some (source_destination c (Units x))) a xs old new result
      behind-up (Ok whole) h = tt
      behind-up (Err fault) h = λ counted. stop-here (source_destination c (Units x)) a xs p.moved.moved.fixed (stop-raised a xs ys count (h counted)) (λ j low. all-encrypt (a + j))

  enc-length : length (encrypted_units units key (x.first / per_unit units) bytes) ≡ 512 * n
  enc-length = length-encrypted_units units bytes n len holds.whole key (x.first / per_unit units)

  -- one unit was written beneath
  pub unit-written : (i : ℕ) {old new : List Device} {result : Result Unit IoFault} → i * per_unit units + per_unit units ≤ n
      → WritesSectors (destination_of c lower) (unit_first units x.first + i * per_unit units) (sectors_in (unit (unit_bytes units) (encrypted_units units key (x.first / per_unit units) bytes) i)) old new result
      → WritesSectors (source_destination c (Units x)) (i * per_unit units) (sectors_in (unit (unit_bytes units) bytes i)) old new result
  unit-written i fits p =
      let u : ℕ = per_unit units in
      let one = unit (unit_bytes units) bytes i in
      let out = unit (unit_bytes units) (encrypted_units units key (x.first / u) bytes) i in
      let count : length (sectors_in one) ≡ length (sectors_in out) = omega (arith, length-sectors_in one, length-sectors_in out, unit-length units bytes n len i fits, unit-length units (encrypted_units units key (x.first / u) bytes) n enc-length i fits) in
      let even : i * u % u ≡ 0 = let split : i * u ≡ i * u + 0 = omega arith in ap (λ (k : ℕ). k % u) split ∙ mod-mul-add i u 0 (omega (arith, per_unit-some units)) in
      raised (i * u) (sectors_in one) (sectors_in out) even count (λ images. unit-step c lower units key x.first bytes n holds.aligned len holds.whole i images fits) p

  -- units before the i-th, and the i-th
  module _ (i : ℕ) (fits : i * per_unit units + per_unit units ≤ n) where
    count-front : length (sectors_in (take (512 * (i * per_unit units)) bytes)) ≡ i * per_unit units
    count-front = omega (arith, length-sectors_in (take (512 * (i * per_unit units)) bytes), front-length c lower units key x.first bytes n holds.aligned len holds.whole i (omega (arith, fits)))

    parts : (ys : List (List ℕ)) (images : Images) → (source_destination c (Units x)).puts 0 (sectors_in (take (512 * (i * per_unit units)) bytes) ++ ys) images
        ≡ then_put ((source_destination c (Units x)).puts 0 (sectors_in (take (512 * (i * per_unit units)) bytes)) images) ((source_destination c (Units x)).puts (0 + length (sectors_in (take (512 * (i * per_unit units)) bytes))) ys)
    parts ys images =
        let u : ℕ = per_unit units in
        let xs = sectors_in (take (512 * (i * u)) bytes) in
        let first : x.first + 0 ≡ x.first = omega arith in
        let at : x.first + i * u ≡ x.first + (0 + length xs) = omega (arith, count-front) in
        let on_line : ℕ → Putting = crypt_put c lower units key in
        ap (λ (k : ℕ). on_line k (xs ++ ys) images) first
        ∙ units-apart c lower units key x.first bytes n holds.aligned len holds.whole i ys images (omega (arith, fits))
        ∙ ap (λ (k : ℕ). then_put (on_line k xs images) (on_line (x.first + i * u) ys)) (sym first)
        ∙ ap (λ (k : ℕ). then_put (on_line (x.first + 0) xs images) (on_line k ys)) at

    next : {mid new : List Device} {result : Result Unit IoFault} → WritesSectors (destination_of c lower) (unit_first units x.first + i * per_unit units) (sectors_in (unit (unit_bytes units) (encrypted_units units key (x.first / per_unit units) bytes) i)) mid new result
        → WritesSectors (source_destination c (Units x)) (0 + length (sectors_in (take (512 * (i * per_unit units)) bytes))) (sectors_in (unit (unit_bytes units) bytes i)) mid new result
    next {mid = mid} {new = new} {result = result} q =
        let at : i * per_unit units ≡ 0 + length (sectors_in (take (512 * (i * per_unit units)) bytes)) = omega (arith, count-front) in
        subst (λ (k : ℕ). WritesSectors (source_destination c (Units x)) k (sectors_in (unit (unit_bytes units) bytes i)) mid new result) at (unit-written i fits q)

    pub units-more : {old mid new : List Device} → WritesSectors (source_destination c (Units x)) 0 (sectors_in (take (512 * (i * per_unit units)) bytes)) old mid (Ok tt) → WritesSectors (destination_of c lower) (unit_first units x.first + i * per_unit units) (sectors_in (unit (unit_bytes units) (encrypted_units units key (x.first / per_unit units) bytes) i)) mid new (Ok tt)
        → WritesSectors (source_destination c (Units x)) 0 (sectors_in (take (512 * (suc i * per_unit units)) bytes)) old new (Ok tt)
    units-more {old = old} {new = new} p q =
        subst (λ (l : List (List ℕ)). WritesSectors (source_destination c (Units x)) 0 l old new (Ok tt)) (sym (front-more c lower units key x.first bytes n holds.aligned len holds.whole i fits))
        (write_ok (source_destination c (Units x)) 0 (sectors_in (take (512 * (i * per_unit units)) bytes)) (sectors_in (unit (unit_bytes units) bytes i)) p (parts (sectors_in (unit (unit_bytes units) bytes i))) (next q))

    -- the i-th unit ends the write by its fault
    pub units-ended : {old mid new : List Device} → WritesSectors (source_destination c (Units x)) 0 (sectors_in (take (512 * (i * per_unit units)) bytes)) old mid (Ok tt) → (fault : IoFault) → WritesSectors (destination_of c lower) (unit_first units x.first + i * per_unit units) (sectors_in (unit (unit_bytes units) (encrypted_units units key (x.first / per_unit units) bytes) i)) mid new (Err fault)
        → WritesSectors (source_destination c (Units x)) 0 (sectors_in bytes) old new (Err fault)
    units-ended {old = old} {new = new} p fault q =
        let u : ℕ = per_unit units in
        let xs = sectors_in (take (512 * (i * u)) bytes) in
        let ys = sectors_in (unit (unit_bytes units) bytes i) in
        let rest = drop (512 * (suc i * u)) bytes in
        let size : length (take (512 * (suc i * u)) bytes) ≡ 512 * (suc i * u) = length-take-le (512 * (suc i * u)) bytes (omega (arith, len, fits, add-mul 1 i u)) in
        let all : sectors_in bytes ≡ (xs ++ ys) ++ sectors_in rest =
        ap sectors_in (sym (take-append-drop (512 * (suc i * u)) bytes))
        ∙ sectors_in-append (take (512 * (suc i * u)) bytes) rest (omega (arith, size))
        ∙ ap (λ (l : List (List ℕ)). l ++ sectors_in rest) (front-more c lower units key x.first bytes n holds.aligned len holds.whole i fits) in
        let grouped : xs ++ (ys ++ sectors_in rest) ≡ (xs ++ ys) ++ sectors_in rest = sym (append_assoc xs ys (sectors_in rest)) in
        subst (λ (l : List (List ℕ)). WritesSectors (source_destination c (Units x)) 0 l old new (Err fault)) (grouped ∙ sym all)
        (write_err (source_destination c (Units x)) 0 xs ys p (sectors_in rest) fault (none-put c x) parts (behind rest all) (next q))
      where
        behind : (rest : List ℕ) → sectors_in bytes ≡ (sectors_in (take (512 * (i * per_unit units)) bytes) ++ sectors_in (unit (unit_bytes units) bytes i)) ++ sectors_in rest → (images : Images)
            → (source_destination c (Units x)).puts (0 + length (sectors_in (take (512 * (i * per_unit units)) bytes))) (sectors_in (unit (unit_bytes units) bytes i) ++ sectors_in rest) images
            ≡ then_put ((source_destination c (Units x)).puts (0 + length (sectors_in (take (512 * (i * per_unit units)) bytes))) (sectors_in (unit (unit_bytes units) bytes i)) images)
            ((source_destination c (Units x)).puts (0 + length (sectors_in (take (512 * (i * per_unit units)) bytes)) + length (sectors_in (unit (unit_bytes units) bytes i))) (sectors_in rest))
        behind rest all images =
            let u : ℕ = per_unit units in
            let one = unit (unit_bytes units) bytes i in
            let long = unit-length units bytes n len i fits in
            let at : x.first + (0 + length (sectors_in (take (512 * (i * u)) bytes))) ≡ x.first + i * u = omega (arith, count-front) in
            let to : x.first + i * u + length (sectors_in one) ≡ x.first + (0 + length (sectors_in (take (512 * (i * u)) bytes)) + length (sectors_in one)) = omega (arith, count-front) in
            let on_line : ℕ → Putting = crypt_put c lower units key in
            ap (λ (k : ℕ). on_line k (sectors_in one ++ sectors_in rest) images) at
            ∙ unit-apart c lower units key x.first bytes n holds.aligned len holds.whole i one (sectors_in rest) images long
            ∙ ap (λ (k : ℕ). then_put (on_line k (sectors_in one) images) (on_line (x.first + i * u + length (sectors_in one)) (sectors_in rest))) (sym at)
            ∙ ap (λ (k : ℕ). then_put (on_line (x.first + (0 + length (sectors_in (take (512 * (i * u)) bytes)))) (sectors_in one) images) (on_line k (sectors_in rest))) to

-- ---- the unit at a place of some bytes

module _ (units : CryptUnits) (len n at size : ℕ) (is : size ≡ unit_bytes units) (long : len ≡ 512 * n) (whole : n % per_unit units ≡ 0) (even : at % size ≡ 0) where
  size-is : size ≡ 512 * per_unit units
  size-is = omega (arith, is)

  pub at-is : at ≡ 512 * (at / size * per_unit units)
  at-is =
      let i : ℕ = at / size in
      let all : i * size ≡ at = omega (arith, div-add-mod' at size, even) in
      let turned : i * size ≡ 512 * (i * per_unit units) = ap (λ (k : ℕ). i * k) is ∙ mul_comm i (unit_bytes units) ∙ unit-begin units i in
      omega (arith, all, turned)

  pub next-is : at + size ≡ 512 * (suc (at / size) * per_unit units)
  next-is = omega (arith, at-is, size-is, add-mul 1 (at / size) (per_unit units))

  pub next-even : (at + size) % size ≡ 0
  next-even =
      let i : ℕ = at / size in
      let all : i * size ≡ at = omega (arith, div-add-mod' at size, even) in
      let split : at + size ≡ (i + 1) * size + 0 = omega (arith, all, add-mul i 1 size) in
      ap (λ (k : ℕ). k % size) split ∙ mod-mul-add (i + 1) size 0 (omega (arith, size-is, per_unit-some units))

  pub one-is : (xs : List ℕ) → take (at + size - at) (drop at xs) ≡ unit (unit_bytes units) xs (at / size)
  one-is xs =
      let width : at + size - at ≡ 512 * per_unit units = omega (arith, size-is) in
      ap (λ (k : ℕ). take k (drop at xs)) width ∙ ap (λ (k : ℕ). take (512 * per_unit units) (drop k xs)) at-is ∙ sym (unit-is units xs (at / size))

  pub one-fits : at < len → at / size * per_unit units + per_unit units ≤ n
  one-fits low =
      let some : 0 < per_unit units = omega (arith, per_unit-some units) in
      let j : ℕ = at / size * per_unit units in
      let below : j < n = omega (arith, low, long, at-is) in
      let split : j ≡ at / size * per_unit units + 0 = omega arith in
      let same : j / per_unit units * per_unit units ≡ j = ap (λ (k : ℕ). k * per_unit units) (ap (λ (k : ℕ). k / per_unit units) split ∙ div-mul-add (at / size) (per_unit units) 0 some) in
      let room = unit-fits (per_unit units) n j some whole below in
      omega (arith, room, same)

-- ---- units at once

pub lower-written : (c : Configuration) (x : CryptPart) (bytes : List ℕ) (n : ℕ) (units : AreUnits c x n) (len : length bytes ≡ 512 * n) (cut : PutsInSteps (put_on c x.lower) (unit_first x.units x.first) n (record { size = per_unit x.units; skip = 0 })) {old new : List Device} {result : Result Unit IoFault}
    → WritesSectors (destination_of c x.lower) (unit_first x.units x.first) (sectors_in (encrypted_units x.units x.key.now (x.first / per_unit x.units) bytes)) old new result
    → WritesSectors (source_destination c (Units x)) 0 (sectors_in bytes) old new result
lower-written c x bytes n units len cut {old = old} {new = new} {result = result} p =
    let u : ℕ = per_unit x.units in
    let enc = encrypted_units x.units x.key.now (x.first / u) bytes in
    let long : length enc ≡ 512 * n = length-encrypted_units x.units bytes n len units.whole x.key.now (x.first / u) in
    let count : length (sectors_in bytes) ≡ length (sectors_in enc) = omega (arith, length-sectors_in bytes, length-sectors_in enc, len, long) in
    let even : 0 % u ≡ 0 = omega arith in
    let zero_on : unit_first x.units x.first + 0 ≡ unit_first x.units x.first = omega arith in
    let first : x.first + 0 ≡ x.first = omega arith in
    let m : ℕ = n / u in
    let all : m * u ≡ n = omega (arith, div-add-mod' n u, units.whole) in
    let whole_bytes : take (512 * (m * u)) bytes ≡ bytes = take_all (512 * (m * u)) bytes (omega (arith, len, all)) in
    let whole_enc : take (512 * (m * u)) enc ≡ enc = take_all (512 * (m * u)) enc (omega (arith, long, all)) in
    raised c x bytes n units len 0 (sectors_in bytes) (sectors_in enc) even count
    (λ images.
    let on_line : ℕ → Putting = crypt_put c x.lower x.units x.key.now in
    ap (λ (j : ℕ). on_line j (sectors_in bytes) images) first
    ∙ ap (λ (y : List ℕ). on_line x.first (sectors_in y) images) (sym whole_bytes)
    ∙ lower-units c x.lower x.units x.key.now x.first bytes n units.aligned len units.whole cut m images (omega (arith, all))
    ∙ ap (λ (y : List ℕ). put_on c x.lower (unit_first x.units x.first) (sectors_in y) images) whole_enc
    ∙ ap (λ (j : ℕ). put_on c x.lower j (sectors_in enc) images) (sym zero_on))
    (subst (λ (j : ℕ). WritesSectors (destination_of c x.lower) j (sectors_in enc) old new result) (sym zero_on) p)
