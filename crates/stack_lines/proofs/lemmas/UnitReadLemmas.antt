-- What is read of the units of a `crypt` line.
use Rattle.std.proofs.Common.{Bool, true, false, IsTrue, ◌≡◌, ◌++◌, [], ℕ, zero, suc, ◌+◌, ◌-◌, ◌*◌, ◌/◌, ◌%◌, ◌<◌, ◌≤◌, List, length, get_or, Contains, take, drop, Ok, Err, All, refl, sym, ap, ◌∙◌, subst, arith}
use Rattle.std.proofs.lemmas.List.{length-take-le, length-drop, take-append-drop, drop-drop}
use Rattle.std.proofs.lemmas.List.Elements.{All-map, All-nil}
use Rattle.std.specs.Prelude.{if◌then◌else◌}
use Rattle.std.proofs.lemmas.Nat.{div-add-mod', div-mul-add, mod-mul-add}
use Rattle.std.proofs.Math.Nat.{add-mul}
use Rattle.xts_sector.specs.Units.{unit}
use Rattle.block_device.specs.Device.{Device, IsSector}
use Rattle.stack_meaning.specs.declared.units.CryptUnits.{CryptUnits}
use Rattle.stack_rules.specs.declared.lower.Lower.{Lower}
use Rattle.stack_rules.specs.Records.{Configuration}
use Rattle.stack_rules.specs.Rules.{IsLoaded}
use Rattle.stack_meaning.specs.declared.fault.IoFault.{IoFault}
use Rattle.stack_meaning.specs.Sectors.{SomeOf, gathered}
use Rattle.stack_meaning.specs.declared.fault.Fault.{Fault}
use Rattle.stack_meaning.specs.Outcomes.{Outcome, Images, joint_outcome, changed_outcome, mismatch, span, part, AreWhole}
use Rattle.stack_meaning.specs.Units.{per_unit, unit_bytes, decrypted_unit, decrypted_units, crypt_unit_number, unit_part, unit_first}
use Rattle.stack_meaning.specs.Found.{found_entry, HasGrown}
use Rattle.stack_meaning.specs.Meaning.{Said, crypt_said, said_at}
use Rattle.stack_meaning.specs.Leaves.{steady_image, steady_images}
use Rattle.stack_meaning.specs.LeavesBeneath.{stands_on}
use Rattle.stack_meaning.specs.Changes.{AllWhole}
use Rattle.stack_meaning.specs.Places.{Place, place_of, run_expected, LeafRead}
use Rattle.stack_meaning.specs.Agreement.{AgreesOn}
use Rattle.stack_meaning.specs.Reading.{IsCertain, Reads, Finds}
use Rattle.stack_meaning.proofs.lemmas.UnitSizeLemmas.{per_unit-some}
use Rattle.stack_meaning.proofs.lemmas.AgreementLemmas.{agrees-within}
use Rattle.stack_meaning.proofs.lemmas.LeafListLemmas.{AreRead-none, AreRead-more}
use Rattle.stack_meaning.proofs.lemmas.FoundLemmas.{in-gathered}
use Rattle.stack_meaning.proofs.lemmas.RunLemmas.{certain-for, part_left, fault_passes}
use Rattle.stack_lines.proofs.lemmas.SizeLemmas.{sector-size}
use Rattle.stack_lines.proofs.lemmas.UnitFirstLemmas.{unit_first-more, same-first, units-some, units-meet}
use Rattle.stack_meaning.proofs.lemmas.SizedLemmas.{AreSized, span-length, span-part, crypt-size}
use Rattle.stack_meaning.proofs.lemmas.SpanLemmas.{span-add, span_same, span_fails}
use Rattle.stack_meaning.proofs.lemmas.UnitLemmas.{span-parts, unit-fits, unit-is, unit-length, unit-sector, length-decrypted_units, part-decrypted}
use Rattle.xts_sector.proofs.lemmas.UnitLemmas as xts

pub images-whole : (leaves : List Device) → AllWhole leaves → AreWhole (steady_images leaves)
images-whole leaves whole = All-map (λ image. All IsSector image) steady_image leaves (λ i d h. known (get_or leaves i d) (whole i d h).sectors)
  where
    known : (x : Device) → All IsSector x.image → All IsSector (steady_image x)
    known x all = go x.steady
      where
        go : (b : Bool) → All IsSector (if b then x.image else [])
        go true = all
        go false = All-nil IsSector

-- the sectors of a crypt line from its sector w on, over that device
abbrev pub units_said : Configuration → Lower → CryptUnits → List ℕ → ℕ → ℕ → Said
units_said c lower units key w j = crypt_said (said_at c lower) units key (w + j)

abbrev pub units_place : Configuration → Lower → CryptUnits → List ℕ → ℕ → ℕ → (ℕ → Bool) → Place
units_place c lower units key w cost these = record { said = units_said c lower units key w; cost = cost; leaves = these; agrees = AgreesOn c these }

-- ---- spans of units

module _ (images : Images) (lower : ℕ → Said) (sized : AreSized (λ t. (lower t).means images)) (units : CryptUnits) (key : List ℕ) where
  -- each sector of a unit, by the bytes beneath
  pub unit-means : (k j : ℕ) (x : Outcome) → span (λ t. (lower t).means images) (units.offset + k * per_unit units) (per_unit units) ≡ x → j < per_unit units
      → (crypt_said lower units key (k * per_unit units + j)).means images ≡ changed_outcome (λ bytes. part (decrypted_unit units key k bytes) j) x
  unit-means k j x is low =
      let u : ℕ = per_unit units in
      let f : ℕ → Outcome = λ t. (lower t).means images in
      let place : ((k * u + j) / u ≡ k) × ((k * u + j) % u ≡ j) = (div-mul-add k u j low, mod-mul-add k u j low) in
      ap (λ (i : ℕ). changed_outcome (λ bytes. part (decrypted_unit units key i bytes) ((k * u + j) % u)) (span f (units.offset + i * u) u)) place.0
      ∙ ap (λ (i : ℕ). changed_outcome (λ bytes. part (decrypted_unit units key k bytes) i) (span f (units.offset + k * u) u)) place.1
      ∙ ap (changed_outcome (λ bytes. part (decrypted_unit units key k bytes) j)) is

  -- a whole unit
  pub whole-unit : (k : ℕ) (bytes : List ℕ) → span (λ t. (lower t).means images) (units.offset + k * per_unit units) (per_unit units) ≡ Ok bytes
      → span (λ s. (crypt_said lower units key s).means images) (k * per_unit units) (per_unit units) ≡ Ok (decrypted_unit units key k bytes)
  whole-unit k bytes is =
      let u : ℕ = per_unit units in
      let len : length bytes ≡ 512 * u = span-length (λ t. (lower t).means images) sized (units.offset + k * u) u bytes is in
      let long : length (decrypted_unit units key k bytes) ≡ 512 * u = xts.length-decrypted key (crypt_unit_number units k) bytes (omega (arith, len)) ∙ len in
      span-parts (λ s. (crypt_said lower units key s).means images) (k * u) u (decrypted_unit units key k bytes) long (λ j h. unit-means k j (Ok bytes) is h)

  -- the fault of a whole unit is the fault of its sectors in the device beneath
  pub unit-fails : (k : ℕ) (x : Fault) → span (λ s. (crypt_said lower units key s).means images) (k * per_unit units) (per_unit units) ≡ Err x
      → span (λ t. (lower t).means images) (units.offset + k * per_unit units) (per_unit units) ≡ Err x
  unit-fails k x is = go (span (λ t. (lower t).means images) (units.offset + k * per_unit units) (per_unit units)) refl
    where
      g : ℕ → Outcome
      g s = (crypt_said lower units key s).means images

      go : (o : Outcome) → span (λ t. (lower t).means images) (units.offset + k * per_unit units) (per_unit units) ≡ o → span (λ t. (lower t).means images) (units.offset + k * per_unit units) (per_unit units) ≡ Err x
      go (Ok bytes) e = let clash : Ok (decrypted_unit units key k bytes) ≡ Err x = sym (whole-unit k bytes e) ∙ is in cc
      go (Err y) e =
          let some : 0 < per_unit units = omega (arith, per_unit-some units) in
          let zero_on : k * per_unit units + 0 ≡ k * per_unit units = omega arith in
          let fails : g (k * per_unit units) ≡ Err y = ap g (sym zero_on) ∙ unit-means k 0 (Err y) e some in
          e ∙ sym (span_fails g (k * per_unit units) (per_unit units) y some fails) ∙ is

  -- units the first fault beneath which is this
  pub units-fail : (m k : ℕ) (x : Fault) → span (λ t. (lower t).means images) (units.offset + k * per_unit units) (m * per_unit units) ≡ Err x
      → span (λ s. (crypt_said lower units key s).means images) (k * per_unit units) (m * per_unit units) ≡ Err x
  units-fail zero k x is = let none : 0 * per_unit units ≡ 0 = omega arith in let clash : Ok [] ≡ Err x = ap (span (λ t. (lower t).means images) (units.offset + k * per_unit units)) (sym none) ∙ is in cc
  units-fail (suc m) k x is = go (units-fail m (suc k)) (span f first u) refl
    where
      u : ℕ
      u = per_unit units

      first : ℕ
      first = units.offset + k * per_unit units

      f : ℕ → Outcome
      f t = (lower t).means images

      g : ℕ → Outcome
      g s = (crypt_said lower units key s).means images

      size : suc m * per_unit units ≡ per_unit units + m * per_unit units
      size = omega (arith, add-mul 1 m (per_unit units))

      next : units.offset + k * per_unit units + per_unit units ≡ units.offset + suc k * per_unit units
      next = omega (arith, add-mul k 1 (per_unit units))

      after : k * per_unit units + per_unit units ≡ suc k * per_unit units
      after = omega (arith, add-mul k 1 (per_unit units))

      some : 0 < per_unit units
      some = omega (arith, per_unit-some units)

      in_parts : joint_outcome (span (λ t. (lower t).means images) (units.offset + k * per_unit units) (per_unit units)) (span (λ t. (lower t).means images) (units.offset + suc k * per_unit units) (m * per_unit units)) ≡ Err x
      in_parts =
          ap (λ (a : ℕ). joint_outcome (span f first u) (span f a (m * u))) (sym next)
          ∙ sym (span-add f first u (m * u)) ∙ ap (span f first) (sym size) ∙ is

      go : ((x : Fault) → span (λ t. (lower t).means images) (units.offset + suc k * per_unit units) (m * per_unit units) ≡ Err x → span (λ s. (crypt_said lower units key s).means images) (suc k * per_unit units) (m * per_unit units) ≡ Err x)
          → (o : Outcome) → span (λ t. (lower t).means images) (units.offset + k * per_unit units) (per_unit units) ≡ o
          → span (λ s. (crypt_said lower units key s).means images) (k * per_unit units) (suc m * per_unit units) ≡ Err x
      go deeper (Err y) e =
          let same : Err y ≡ Err x = sym (ap (λ (o : Outcome). joint_outcome o (span f (units.offset + suc k * u) (m * u))) e) ∙ in_parts in
          let zero_on : k * u + 0 ≡ k * u = omega arith in
          let fails : g (k * u) ≡ Err x = ap g (sym zero_on) ∙ unit-means k 0 (Err y) e some ∙ same in
          ap (span g (k * u)) size ∙ span_fails g (k * u) (u + m * u) x (omega (arith, some)) fails
      go deeper (Ok bytes) e = by (span f (units.offset + suc k * u) (m * u)) refl
        where
          by : (o : Outcome) → span (λ t. (lower t).means images) (units.offset + suc k * per_unit units) (m * per_unit units) ≡ o
              → span (λ s. (crypt_said lower units key s).means images) (k * per_unit units) (suc m * per_unit units) ≡ Err x
          by (Ok more) d =
              let clash : Ok (bytes ++ more) ≡ Err x = sym (ap (λ (o : Outcome). joint_outcome o (Ok more)) e) ∙ sym (ap (joint_outcome (span f first u)) d) ∙ in_parts in cc
          by (Err y) d =
              let same : Err y ≡ Err x = sym (ap (λ (o : Outcome). joint_outcome o (Err y)) e) ∙ sym (ap (joint_outcome (span f first u)) d) ∙ in_parts in
              let rest = deeper x (d ∙ same) in
              ap (span g (k * u)) size ∙ span-add g (k * u) u (m * u)
              ∙ ap (λ (o : Outcome). joint_outcome o (span g (k * u + u) (m * u))) (whole-unit k bytes e)
              ∙ ap (λ (a : ℕ). joint_outcome (Ok (decrypted_unit units key k bytes)) (span g a (m * u))) after
              ∙ ap (joint_outcome (Ok (decrypted_unit units key k bytes))) rest

-- ---- whole units

module _ (c : Configuration) (lower : Lower) (units : CryptUnits) (key : List ℕ) (w n cost : ℕ) (these : ℕ → Bool) (within : (i : ℕ) → IsTrue (stands_on c i lower) → IsTrue (these i)) (did : LeafRead) (aligned : w % per_unit units ≡ 0) (whole : n % per_unit units ≡ 0) (dear : cost ≡ (place_of c lower).cost) where
  units-grown : HasGrown (λ s. (said_at c lower s).entries) (unit_first units w) n did.before did.after → HasGrown (λ j. (units_said c lower units key w j).entries) 0 n did.before did.after
  units-grown p = record {
    added = p.added;
    is = p.is;
    used = λ k x below.
        units-some units w aligned (said_at c lower) key (λ y. Contains y.entries (found_entry (get_or p.added k x))) (λ y. Contains y.entries (found_entry (get_or p.added k x)))
        (λ s some. in-gathered (λ t. (said_at c lower t).entries) (unit_first units s) (per_unit units) some.0 (found_entry (get_or p.added k x)) some.1 some.2) n (p.used k x below);
  }

  -- they were decrypted in place
  pub units_ok : (bytes : List ℕ) → IsLoaded c → AllWhole did.old → Reads c lower (unit_first units w) n did (Ok bytes)
      → Finds (units_place c lower units key w cost these) c 0 n did (Ok (decrypted_units units key (w / per_unit units) bytes))
  units_ok bytes loaded all p =
      let u : ℕ = per_unit units in
      let some : 0 < u = omega (arith, per_unit-some units) in
      let run = p.got.may in
      let out = decrypted_units units key (w / u) bytes in
      let long : length out ≡ 512 * n = length-decrypted_units units bytes n run.len whole key (w / u) in
      record {
        got = record {
          moved = AreRead-more (let same = ap (λ (k : ℕ). n * k) dear in omega (arith, same)) p.got.moved;
          may = record {
            len = long;
            sectors = λ j h.
                let at : j ≡ 0 + j = omega arith in
                let i : ℕ = j / u in
                let fits = unit-fits u n j some whole h in
                let below : List ℕ = unit (unit_bytes units) bytes i in
                subst (λ (k : ℕ). (units_said c lower units key w k).may did.after (part out j)) at (
                  below,
                  record {
                    len = unit-length units bytes n run.len i fits;
                    sectors = λ t low.
                        let first : unit_first units w + (i * u + t) ≡ unit_first units (w + j) + t = omega (arith, unit_first-more units w aligned j) in
                        subst (λ (s : ℕ). (said_at c lower s).may did.after (part below t)) first
                        (subst (λ (b : List ℕ). (said_at c lower (unit_first units w + (i * u + t))).may did.after b) (sym (unit-sector units bytes n run.len i t fits low))
                        (run.sectors (i * u + t) (omega (arith, fits, low))));
                  },
                  part-decrypted units key bytes n run.len whole w j aligned h,
                );
          };
          exact = λ sure.
              let images : Images = steady_images did.old in
              let beneath : IsCertain (run_expected (place_of c lower) did.after (unit_first units w) n) did.old =
              certain-for (run_expected (place_of c lower) did.after (unit_first units w) n) {wanted' = run_expected (units_place c lower units key w cost these) did.after 0 n} (AreRead-none 0 did.old) within
              (λ some. units-meet units w aligned (said_at c lower) key mismatch n some) (λ m. agrees-within c m within) sure in
              let f : ℕ → Outcome = λ s. (said_at c lower s).means images in
              let sized : AreSized f = λ s. sector-size c images loaded (images-whole did.old all) lower s in
              let g : ℕ → Outcome = λ j. (units_said c lower units key w j).means images in
              span-parts g 0 n out long (λ j h.
              let at : 0 + j ≡ j = omega arith in
              let i : ℕ = j / u in
              let fits = unit-fits u n j some whole h in
              let rest : n ≡ i * u + (u + (n - (i * u + u))) = omega (arith, fits) in
              let under : span f (unit_first units w + i * u) u ≡ Ok (take (512 * u) (drop (512 * (i * u)) bytes)) =
              span-part f sized (unit_first units w) (i * u) u (n - (i * u + u)) bytes (ap (span f (unit_first units w)) (sym rest) ∙ p.got.exact beneath) in
              ap g at
              ∙ ap (λ (s : ℕ). changed_outcome (unit_part units key (w + j)) (span f s u)) (unit_first-more units w aligned j)
              ∙ ap (changed_outcome (unit_part units key (w + j))) under
              ∙ ap (λ (b : List ℕ). Ok (unit_part units key (w + j) b)) (sym (unit-is units bytes i))
              ∙ ap Ok (sym (part-decrypted units key bytes n run.len whole w j aligned h)));
        };
        grown = units-grown p.grown;
        kept = p.kept;
      }

  -- a fault beneath
  pub units_err : (fault : IoFault) → IsLoaded c → AllWhole did.old → Reads c lower (unit_first units w) n did (Err fault) → Finds (units_place c lower units key w cost these) c 0 n did (Err fault)
  units_err fault loaded all p = record {
    got = fault_passes {wanted = run_expected (place_of c lower) did.after (unit_first units w) n} {wanted' = run_expected (units_place c lower units key w cost these) did.after 0 n} fault p.got (AreRead-none 0 did.old)
        (let same = ap (λ (k : ℕ). n * k) dear in omega (arith, same))
        (λ x some. units-meet units w aligned (said_at c lower) key x n some)
        within
        (λ m. agrees-within c m within)
        (λ sure x is.
        let u : ℕ = per_unit units in
        let images : Images = steady_images did.old in
        let f : ℕ → Outcome = λ s. (said_at c lower s).means images in
        let g : ℕ → Outcome = λ s. (crypt_said (said_at c lower) units key s).means images in
        let count : n ≡ n / u * u = omega (arith, div-add-mod' n u, whole) in
        let place : w ≡ w / u * u = omega (arith, div-add-mod' w u, aligned) in
        let fails = units-fail images (said_at c lower) (λ s. sector-size c images loaded (images-whole did.old all) lower s) units key (n / u) (w / u) x (ap (span f (unit_first units w)) (sym count) ∙ is) in
        span_same (λ j. g (w + j)) g 0 w n (λ j h. let at : 0 + j ≡ j = omega arith in ap (λ (k : ℕ). g (w + k)) at)
        ∙ ap (span g w) count ∙ ap (λ (s : ℕ). span g s (n / u * u)) place ∙ fails);
    grown = units-grown p.grown;
    kept = p.kept;
  }

-- ---- sectors of one unit

module _ (c : Configuration) (lower : Lower) (units : CryptUnits) (key : List ℕ) (w0 r n cost dear : ℕ) (these : ℕ → Bool) (did : LeafRead) (aligned : w0 % per_unit units ≡ 0) (some : 0 < n) (fits : r + n ≤ per_unit units)
    (paid : per_unit units * cost ≤ n * dear) where
  -- what one sector of the unit meets, the first of the part meets
  pub unit-some : (P : ℕ → Type 0) → SomeOf (λ j. P (unit_first units (w0 + j))) 0 (per_unit units) → SomeOf (λ j. P (unit_first units (w0 + r + j))) 0 n
  unit-some P x =
      let at : w0 + (0 + x.0) ≡ w0 + x.0 = omega arith in
      let to : w0 + r ≡ w0 + r + (0 + 0) = omega arith in
      (0, some, subst P (ap (λ (s : ℕ). unit_first units s) at ∙ same-first units w0 aligned x.0 x.1 ∙ sym (same-first units w0 aligned r (omega (arith, fits, some))) ∙ ap (λ (s : ℕ). unit_first units s) to) x.2)

  part-grown : HasGrown (λ j. (units_said c lower units key w0 j).entries) 0 (per_unit units) did.before did.after → HasGrown (λ j. (units_said c lower units key (w0 + r) j).entries) 0 n did.before did.after
  part-grown p = record {
    added = p.added;
    is = p.is;
    used = λ k x below. unit-some (λ first. Contains (gathered (λ t. (said_at c lower t).entries) first (per_unit units)) (found_entry (get_or p.added k x))) (p.used k x below);
  }

  part-said : (j : ℕ) → units_said c lower units key w0 (0 + (r + j)) ≡ units_said c lower units key (w0 + r) (0 + j)
  part-said j = let at : w0 + (0 + (r + j)) ≡ w0 + r + (0 + j) = omega arith in ap (crypt_said (said_at c lower) units key) at

  pub part_ok : (bytes : List ℕ) → IsLoaded c → AllWhole did.old → Finds (units_place c lower units key w0 cost these) c 0 (per_unit units) did (Ok bytes)
      → Finds (units_place c lower units key (w0 + r) dear these) c 0 n did (Ok (take (512 * n) (drop (512 * r) bytes)))
  part_ok bytes loaded all p =
      let u : ℕ = per_unit units in
      let out = take (512 * n) (drop (512 * r) bytes) in
      let run = p.got.may in
      let long : length out ≡ 512 * n = length-take-le (512 * n) (drop (512 * r) bytes) (omega (arith, run.len, fits, length-drop (512 * r) bytes)) in
      record {
        got = record {
          moved = AreRead-more paid p.got.moved;
          may = record {
            len = long;
            sectors = λ j h.
                subst (λ (b : List ℕ). (units_said c lower units key (w0 + r) (0 + j)).may did.after b) (sym (cut-part bytes j (omega (arith, run.len)) h))
                (subst (λ (x : Said). x.may did.after (part bytes (r + j))) (part-said j) (run.sectors (r + j) (omega (arith, h, fits))));
          };
          exact = λ sure.
              let images : Images = steady_images did.old in
              let whole : IsCertain (run_expected (units_place c lower units key w0 cost these) did.after 0 (per_unit units)) did.old =
              certain-for (run_expected (units_place c lower units key w0 cost these) did.after 0 (per_unit units)) {wanted' = run_expected (units_place c lower units key (w0 + r) dear these) did.after 0 n} (AreRead-none 0 did.old) (λ i is. is)
              (λ met. unit-some (λ first. SomeOf (λ t. (said_at c lower t).meets mismatch) first (per_unit units)) met) (λ m agrees. agrees) sure in
              let g : ℕ → Outcome = λ j. (units_said c lower units key w0 j).means images in
              let sized : AreSized g = λ j. crypt-size images (said_at c lower) (λ t. sector-size c images loaded (images-whole did.old all) lower t) units key (w0 + j) in
              let rest : u ≡ r + (n + (u - (r + n))) = omega (arith, fits) in
              span_same (λ j. (units_said c lower units key (w0 + r) j).means images) g 0 (0 + r) n
              (λ j h. let at : 0 + r + j ≡ 0 + (r + j) = omega arith in sym (ap g at ∙ ap (λ (x : Said). x.means images) (part-said j)))
              ∙ span-part g sized 0 r n (u - (r + n)) bytes (ap (span g 0) (sym rest) ∙ p.got.exact whole);
        };
        grown = part-grown p.grown;
        kept = p.kept;
      }
    where
      cut-part : (bytes : List ℕ) (j : ℕ) → length bytes ≡ 512 * per_unit units → j < n → part (take (512 * n) (drop (512 * r) bytes)) j ≡ part bytes (r + j)
      cut-part bytes j len h =
          let rest : List ℕ = drop (512 * r) bytes in
          let at : 512 * r + 512 * j ≡ 512 * (r + j) = omega arith in
          let wide : length (take (512 * n) rest) ≡ 512 * n = length-take-le (512 * n) rest (omega (arith, len, fits, length-drop (512 * r) bytes)) in
          sym (part_left (take (512 * n) rest) (drop (512 * n) rest) n j wide h)
          ∙ ap (λ (l : List ℕ). part l j) (take-append-drop (512 * n) rest)
          ∙ ap (take 512) (drop-drop (512 * j) (512 * r) bytes)
          ∙ ap (λ (k : ℕ). take 512 (drop k bytes)) at

  under : (images : Images) (x : Fault) → AreSized (λ t. (said_at c lower t).means images) → span (λ j. (units_said c lower units key w0 j).means images) 0 (per_unit units) ≡ Err x
      → span (λ t. (said_at c lower t).means images) (unit_first units w0) (per_unit units) ≡ Err x
  under images x sized is =
      let u : ℕ = per_unit units in
      let g : ℕ → Outcome = λ s. (crypt_said (said_at c lower) units key s).means images in
      let place : w0 / u * u ≡ w0 = omega (arith, div-add-mod' w0 u, aligned) in
      unit-fails images (said_at c lower) sized units key (w0 / u) x (
      ap (λ (s : ℕ). span g s u) place
      ∙ span_same g (λ j. g (w0 + j)) w0 0 u (λ j h. let at : j ≡ 0 + j = omega arith in ap (λ (k : ℕ). g (w0 + k)) at)
      ∙ is)

  pub part_err : (fault : IoFault) → IsLoaded c → AllWhole did.old → Finds (units_place c lower units key w0 cost these) c 0 (per_unit units) did (Err fault) → Finds (units_place c lower units key (w0 + r) dear these) c 0 n did (Err fault)
  part_err fault loaded all p = record {
    got = fault_passes {wanted = run_expected (units_place c lower units key w0 cost these) did.after 0 (per_unit units)} {wanted' = run_expected (units_place c lower units key (w0 + r) dear these) did.after 0 n} fault p.got (AreRead-none 0 did.old)
        (omega (arith, paid))
        (λ x some. unit-some (λ first. SomeOf (λ t. (said_at c lower t).meets x) first (per_unit units)) some)
        (λ i is. is)
        (λ m agrees. agrees)
        (λ sure x is.
        let images : Images = steady_images did.old in
        let first : w0 + r + 0 ≡ w0 + r = omega arith in
        let g : ℕ → Outcome = λ j. (units_said c lower units key (w0 + r) j).means images in
        span_fails g 0 n x some (
        ap (λ (s : ℕ). (crypt_said (said_at c lower) units key s).means images) first
        ∙ ap (λ (s : ℕ). changed_outcome (unit_part units key (w0 + r)) (span (λ t. (said_at c lower t).means images) s (per_unit units))) (same-first units w0 aligned r (omega (arith, fits, some)))
        ∙ ap (changed_outcome (unit_part units key (w0 + r))) (under images x (λ t. sector-size c images loaded (images-whole did.old all) lower t) is)));
    grown = part-grown p.grown;
    kept = p.kept;
  }
