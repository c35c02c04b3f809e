-- What is written to part of a unit, which is read, changed and written whole.
use Rattle.std.proofs.Common.{◌≡◌, ℕ, ◌+◌, ◌-◌, ◌*◌, ◌/◌, ◌%◌, ◌<◌, ◌≤◌, IsTrue, List, length, map, Contains, Result, Ok, Err, refl, sym, ap, ◌∙◌, subst, arith}
use Rattle.std.specs.List.{concat}
use Rattle.std.proofs.lemmas.List.{take_all}
use Rattle.std.proofs.lemmas.Nat.{div-add-mod', div-mul-add}
use Rattle.std.proofs.Math.Nat.{mul-add, mul-le-mul_right}
use Rattle.block_device.specs.Device.{Device, sectors_of, spliced}
use Rattle.block_device.proofs.lemmas.SectorLemmas.{put_at, put_run, concat-sectors_of}
use Rattle.stack_rules.specs.Records.{Configuration}
use Rattle.stack_rules.specs.Names.{may_write}
use Rattle.stack_rules.specs.Descend.{read_cost, write_cost}
use Rattle.stack_rules.specs.Rules.{IsLoaded}
use Rattle.stack_meaning.specs.declared.fault.IoFault.{IoFault}
use Rattle.stack_meaning.specs.declared.fault.Fault.TheVariants as why
use Rattle.stack_meaning.specs.declared.fault.IoFault.TheVariants as io
use Rattle.stack_lines.specs.declared.source.CryptPart.{CryptPart}
use Rattle.stack_lines.specs.declared.units.WholeUnit.{WholeUnit}
use Rattle.stack_lines.specs.declared.source.Source.TheVariants.{Units, UnitPart}
use Rattle.stack_meaning.specs.Sectors.{SomeOf, IsRun, gathered}
use Rattle.stack_meaning.specs.declared.fault.Fault.{Fault}
use Rattle.stack_meaning.specs.Outcomes.{error_target, mismatch, Images, Outcome, LeafSector, span}
use Rattle.stack_meaning.specs.Units.{per_unit, decrypted_unit, encrypted_unit, unit_first}
use Rattle.stack_meaning.specs.Found.{FoundRecord}
use Rattle.stack_meaning.specs.Meaning.{Said, crypt_said, said_at}
use Rattle.stack_meaning.specs.Puts.{Put, stopped, read_put, encrypted_sectors, changed_unit, put_on}
use Rattle.stack_meaning.specs.Leaves.{steady_images, fixed_part, AreSteady, Moves}
use Rattle.stack_lines.specs.Touches.{EndsAtFailure, failures_behind, failures_of, leaves_of, source_leaves}
use Rattle.stack_meaning.specs.Changes.{AllWhole, reached, KeepsOthers, AreWritten}
use Rattle.stack_engine.specs.Healing.{HasNoParity}
use Rattle.stack_meaning.specs.Reading.{Ends, Answers, MeetVerity, IsPlain}
use Rattle.stack_lines.specs.Sources.{LieInUnit, IsWholeOf, source_said, ReadsSource}
use Rattle.stack_lines.specs.Writing.{SomeEncrypt, sectors_in, crypt_put, MayEnd, IsPut, FailedBy, StopsAt, IsCounted, StopsAtFault, StopsBehindPut, with_some, WritesSectors, source_destination}
use Rattle.stack_meaning.proofs.lemmas.UnitSizeLemmas.{per_unit-some}
use Rattle.stack_lines.proofs.lemmas.UnitPutLemmas.{sectors_in-of, whole-put, some-put}
use Rattle.stack_lines.proofs.lemmas.UnitReadLemmas.{images-whole, unit-means, whole-unit, unit-fails}
use Rattle.stack_lines.proofs.lemmas.UnitSourceLemmas.{begin-whole, part-some, part-has, part-up}
use Rattle.stack_engine.proofs.RunBytesLemmas.{length-put}
use Rattle.stack_engine.proofs.WritablePlainLemmas.{none-verity}
use Rattle.stack_meaning.proofs.lemmas.ChangeLemmas.{AreWritten-more, AreWritten-then, AreWritten-read}
use Rattle.stack_meaning.proofs.lemmas.LeafListLemmas.{AreSteady-kept, images-kept, failed_later}
use Rattle.stack_lines.proofs.lemmas.SizeLemmas.{sector-size}
use Rattle.stack_meaning.proofs.lemmas.SizedLemmas.{AreSized}
use Rattle.stack_meaning.proofs.lemmas.SpanLemmas.{span_same, span_fails}
use Rattle.stack_lines.proofs.lemmas.StopLemmas.{stop-here, stop-first, failed-reached}
use Rattle.stack_lines.proofs.lemmas.WriteRunLemmas.{length-sectors_in, MayEnd-as}

abbrev err_of : IoFault → Result Unit IoFault
err_of fault = Err fault

module _ (c : Configuration) (v : CryptPart) (whole : WholeUnit) (bytes : List ℕ) (n : ℕ) (loaded : IsLoaded c) (of : IsWholeOf v whole) (lies : LieInUnit c v n) (some : 0 < n) (len : length bytes ≡ 512 * n) (writable : IsTrue (may_write c v.lower)) where
  begin-is : v.first - v.first % per_unit v.units ≡ v.first / per_unit v.units * per_unit v.units
  begin-is = omega (arith, div-add-mod' v.first (per_unit v.units))

  begin-unit : (v.first - v.first % per_unit v.units) / per_unit v.units ≡ v.first / per_unit v.units
  begin-unit =
      let u : ℕ = per_unit v.units in
      let split : v.first - v.first % u ≡ v.first / u * u + 0 = omega (arith, begin-is) in
      ap (λ (k : ℕ). k / u) split ∙ div-mul-add (v.first / u) u 0 (omega (arith, per_unit-some v.units))

  begin-first : unit_first v.units (v.first - v.first % per_unit v.units) ≡ unit_first v.units v.first
  begin-first = ap (λ (k : ℕ). v.units.offset + k * per_unit v.units) begin-unit

  -- what is said of the unit's sectors
  from-said : (j : ℕ) → source_said c (Units whole.from) j ≡ crypt_said (said_at c v.lower) v.units v.key.now (v.first - v.first % per_unit v.units + j)
  from-said j = ap (λ (y : CryptPart). source_said c (Units y) j) of.from

  pub none-meets : MeetVerity (source_said c (Units whole.from)) 0 whole.sectors → ⊥
  none-meets y =
      let h : (crypt_said (said_at c v.lower) v.units v.key.now (v.first - v.first % per_unit v.units + (0 + y.0))).meets mismatch = subst (λ (z : Said). z.meets mismatch) (from-said (0 + y.0)) y.2 in
      none-verity c loaded v.lower writable (unit_first v.units (v.first - v.first % per_unit v.units + (0 + y.0))) (per_unit v.units) h

  -- so that the read ends at the first call that fails
  pub unit-ends : {X : Type 0} {k : ℕ} → k ≡ whole.sectors → ((MeetVerity (source_said c (Units whole.from)) 0 k → HasNoParity c) → X) → X
  unit-ends count ends = ends (λ meets. absurd (none-meets (subst (λ (k : ℕ). MeetVerity (source_said c (Units whole.from)) 0 k) count meets)))

  meet-part : (x : Fault) → SomeOf (λ j. (source_said c (Units whole.from) j).meets x) 0 whole.sectors → SomeOf (λ j. (source_said c (UnitPart v) j).meets x) 0 n
  meet-part x = part-some c v whole n of lies some (λ y. y.meets x) (λ s s' lower e h. subst (λ (k : ℕ). SomeOf (λ t. (lower t).meets x) k (per_unit v.units)) e h)

  reach-part : (p : LeafSector) → reached (λ j. (source_said c (Units whole.from) j).reaches) 0 whole.sectors p → reached (λ j. (source_said c (UnitPart v) j).reaches) 0 n p
  reach-part p = part-some c v whole n of lies some (λ y. Contains y.reaches p) (λ s s' lower e h. subst (λ (k : ℕ). Contains (gathered (λ t. (lower t).reaches) k (per_unit v.units)) p) e h)

  count : length (sectors_in bytes) ≡ n
  count = omega (arith, length-sectors_in bytes, len)

  -- ---- the first sector of the part, which has all that the unit has

  first-meets : (x : Fault) → SomeOf (λ j. (source_said c (Units whole.from) j).meets x) 0 whole.sectors → (source_said c (UnitPart v) 0).meets x
  first-meets x = part-has c v whole n of lies some (λ y. y.meets x) (λ s s' lower e h. subst (λ (k : ℕ). SomeOf (λ t. (lower t).meets x) k (per_unit v.units)) e h)

  first-reaches : (p : LeafSector) → reached (λ j. (source_said c (Units whole.from) j).reaches) 0 whole.sectors p → Contains (source_said c (UnitPart v) 0).reaches p
  first-reaches p = part-has c v whole n of lies some (λ y. Contains y.reaches p) (λ s s' lower e h. subst (λ (k : ℕ). Contains (gathered (λ t. (lower t).reaches) k (per_unit v.units)) p) e h)

  one-encrypts : SomeEncrypt (source_said c (UnitPart v)) 0 (length (sectors_in bytes))
  one-encrypts = (0, omega (arith, count, some), tt)

  -- the budget of the read and of the write
  paid : whole.sectors * read_cost c whole.from.lower + whole.sectors * write_cost c whole.from.lower ≤ length (sectors_in bytes) * (per_unit v.units * (read_cost c v.lower + write_cost c v.lower))
  paid =
      let u : ℕ = per_unit v.units in
      let r : ℕ = read_cost c v.lower in
      let w : ℕ = write_cost c v.lower in
      let once : 1 * (u * (r + w)) ≤ length (sectors_in bytes) * (u * (r + w)) = mul-le-mul_right (u * (r + w)) (omega (arith, count, some)) in
      let reads : whole.sectors * read_cost c whole.from.lower ≡ u * r = ap (λ (k : ℕ). k * read_cost c whole.from.lower) of.sectors ∙ ap (λ (y : CryptPart). u * read_cost c y.lower) of.from in
      let writes : whole.sectors * write_cost c whole.from.lower ≡ u * w = ap (λ (k : ℕ). k * write_cost c whole.from.lower) of.sectors ∙ ap (λ (y : CryptPart). u * write_cost c y.lower) of.from in
      omega (arith, reads, writes, once, mul-add u r w)

  -- ---- what the unit means

  module _ (leaves : List Device) (all : AllWhole leaves) where
    sized : AreSized (λ t. (said_at c v.lower t).means (steady_images leaves))
    sized t = sector-size c (steady_images leaves) loaded (images-whole leaves all) v.lower t

    -- its sectors, as those of the line
    as-line : span (λ j. (source_said c (Units whole.from) j).means (steady_images leaves)) 0 whole.sectors
        ≡ span (λ s. (crypt_said (said_at c v.lower) v.units v.key.now s).means (steady_images leaves)) (v.first / per_unit v.units * per_unit v.units) (per_unit v.units)
    as-line =
        let u : ℕ = per_unit v.units in
        let g : ℕ → Outcome = λ s. (crypt_said (said_at c v.lower) v.units v.key.now s).means (steady_images leaves) in
        ap (λ (k : ℕ). span (λ j. (source_said c (Units whole.from) j).means (steady_images leaves)) 0 k) of.sectors
        ∙ span_same (λ j. (source_said c (Units whole.from) j).means (steady_images leaves)) g 0 (v.first - v.first % u) u
        (λ j h. let e : 0 + j ≡ j = omega arith in ap (λ (x : Said). x.means (steady_images leaves)) (from-said (0 + j)) ∙ ap (λ (k : ℕ). g (v.first - v.first % u + k)) e)
        ∙ ap (λ (k : ℕ). span g k u) begin-is

    beneath-fails : (x : Fault) → span (λ j. (source_said c (Units whole.from) j).means (steady_images leaves)) 0 whole.sectors ≡ Err x → span (λ t. (said_at c v.lower t).means (steady_images leaves)) (unit_first v.units v.first) (per_unit v.units) ≡ Err x
    beneath-fails x is = unit-fails (steady_images leaves) (said_at c v.lower) sized v.units v.key.now (v.first / per_unit v.units) x (sym as-line ∙ is)

    beneath-is : (plain : List ℕ) → span (λ j. (source_said c (Units whole.from) j).means (steady_images leaves)) 0 whole.sectors ≡ Ok plain
        → (below : List ℕ) × (span (λ t. (said_at c v.lower t).means (steady_images leaves)) (unit_first v.units v.first) (per_unit v.units) ≡ Ok below) × (plain ≡ decrypted_unit v.units v.key.now (v.first / per_unit v.units) below)
    beneath-is plain is = go (span (λ t. (said_at c v.lower t).means (steady_images leaves)) (unit_first v.units v.first) (per_unit v.units)) refl
      where
        go : (o : Outcome) → span (λ t. (said_at c v.lower t).means (steady_images leaves)) (unit_first v.units v.first) (per_unit v.units) ≡ o
            → (below : List ℕ) × (span (λ t. (said_at c v.lower t).means (steady_images leaves)) (unit_first v.units v.first) (per_unit v.units) ≡ Ok below) × (plain ≡ decrypted_unit v.units v.key.now (v.first / per_unit v.units) below)
        go (Ok below) e =
            let both : Ok (decrypted_unit v.units v.key.now (v.first / per_unit v.units) below) ≡ Ok plain = sym (whole-unit (steady_images leaves) (said_at c v.lower) sized v.units v.key.now (v.first / per_unit v.units) below e) ∙ sym as-line ∙ is in
            let same : decrypted_unit v.units v.key.now (v.first / per_unit v.units) below ≡ plain = cc in
            (below, e, sym same)
        go (Err x) e = absurd (failing x e)
          where
            failing : (x : Fault) → span (λ t. (said_at c v.lower t).means (steady_images leaves)) (unit_first v.units v.first) (per_unit v.units) ≡ Err x → ⊥
            failing x e =
                let u : ℕ = per_unit v.units in
                let g : ℕ → Outcome = λ s. (crypt_said (said_at c v.lower) v.units v.key.now s).means (steady_images leaves) in
                let zero_on : v.first / u * u + 0 ≡ v.first / u * u = omega arith in
                let first : g (v.first / u * u) ≡ Err x = ap g (sym zero_on) ∙ unit-means (steady_images leaves) (said_at c v.lower) sized v.units v.key.now (v.first / u) 0 (Err x) e (omega (arith, per_unit-some v.units)) in
                let clash : Err x ≡ Ok plain = sym (span_fails g (v.first / u * u) u x (omega (arith, per_unit-some v.units)) first) ∙ sym as-line ∙ is in
                cc

  -- what the put does
  part-puts : (images : Images) → (source_destination c (UnitPart v)).puts 0 (sectors_in bytes) images
      ≡ read_put (span (λ t. (said_at c v.lower t).means images) (unit_first v.units v.first) (per_unit v.units))
      (λ below. put_on c v.lower (unit_first v.units v.first) (encrypted_sectors v.units v.key.now v.first (changed_unit v.units v.key.now v.first (sectors_in bytes) below))) images
  part-puts images =
      let first : v.first + 0 ≡ v.first = omega arith in
      ap (λ (k : ℕ). crypt_put c v.lower v.units v.key.now k (sectors_in bytes) images) first
      ∙ some-put c v.lower v.units v.key.now v.first bytes n images lies.within lies.part some len

  -- ---- the read

  -- it was one of the sectors that the write reaches
  read-moved : {old new : List Device} {found after : List FoundRecord} (result : Result Unit IoFault) (answer : Result (List ℕ) IoFault)
      → ReadsSource c (Units whole.from) whole.sectors (record { old = old; new = new; before = found; after = after }) answer → IsPlain (source_said c (Units whole.from)) 0 whole.sectors old new result
      → AreWritten (reached (λ j. (source_said c (UnitPart v) j).reaches) 0 (length (sectors_in bytes))) old (whole.sectors * read_cost c whole.from.lower) new
  read-moved result answer p q =
      AreWritten-read (reached (λ j. (source_said c (UnitPart v) j).reaches) 0 (length (sectors_in bytes))) p.got.moved
      (λ i d out. q.leaf none-meets i d (λ t x. out t (subst (λ (k : ℕ). reached (λ j. (source_said c (UnitPart v) j).reaches) 0 k (i, t)) (sym count) (reach-part (i, t) x))))

  meets-more : (x : Fault) → SomeOf (λ j. (source_said c (Units whole.from) j).meets x) 0 whole.sectors → SomeOf (λ j. (source_said c (UnitPart v) j).meets x) 0 (length (sectors_in bytes))
  meets-more x h = subst (λ (k : ℕ). SomeOf (λ j. (source_said c (UnitPart v) j).meets x) 0 k) (sym count) (meet-part x h)

  read-ends : (old new : List Device) (after : List FoundRecord) (fault : IoFault)
      → Ends {A = List ℕ} (IsRun (λ j. (source_said c (Units whole.from) j).may after) 0 whole.sectors) (λ x. SomeOf (λ j. (source_said c (Units whole.from) j).meets x) 0 whole.sectors) old new (Err fault)
      → (fault ≡ io.NoMemory → ⊥) → MayEnd (λ x. SomeOf (λ j. (source_said c (UnitPart v) j).meets x) 0 (length (sectors_in bytes))) old new (Err fault)
  read-ends old new after (io.Stack why.ErrorTarget) may grown = meets-more error_target may
  read-ends old new after (io.Stack why.Mismatch) may grown = none-meets may
  read-ends old new after (io.Device i) may grown = may
  read-ends old new after io.NoMemory may grown = absurd (grown refl)

  stops : (leaves : List Device) → AllWhole leaves → (x : Fault) → span (λ j. (source_said c (Units whole.from) j).means (steady_images leaves)) 0 whole.sectors ≡ Err x
      → (source_destination c (UnitPart v)).puts 0 (sectors_in bytes) (steady_images leaves) ≡ stopped x (steady_images leaves)
  stops leaves all x is =
      part-puts (steady_images leaves)
      ∙ ap (λ (o : Outcome). read_put o (λ below. put_on c v.lower (unit_first v.units v.first) (encrypted_sectors v.units v.key.now v.first (changed_unit v.units v.key.now v.first (sectors_in bytes) below))) (steady_images leaves)) (beneath-fails leaves all x is)

  unit-steady : (leaves : List Device) → AreSteady (leaves_of c v.lower) leaves → AreSteady (source_leaves c (Units whole.from)) leaves
  unit-steady leaves steady = subst (λ (y : CryptPart). AreSteady (leaves_of c y.lower) leaves) (sym of.from) steady

  read-exact : (old new : List Device) (fault : IoFault) → AllWhole old → Answers {A = List ℕ} (λ x. x) (span (λ j. (source_said c (Units whole.from) j).means (steady_images old)) 0 whole.sectors) (Err fault) → steady_images new ≡ steady_images old
      → IsPut ((source_destination c (UnitPart v)).puts 0 (sectors_in bytes) (steady_images old)) (steady_images new) (Err fault)
  read-exact old new (io.Stack fault) all is same = stops old all fault is ∙ ap (stopped fault) (sym same)
  read-exact old new (io.Device i) all is same = tt
  read-exact old new io.NoMemory all is same = tt

  -- nothing but what the first sector reaches
  read-others : {old new : List Device} {found after : List FoundRecord} (result : Result Unit IoFault) (answer : Result (List ℕ) IoFault)
      → ReadsSource c (Units whole.from) whole.sectors (record { old = old; new = new; before = found; after = after }) answer → IsPlain (source_said c (Units whole.from)) 0 whole.sectors old new result
      → KeepsOthers (reached (λ j. (source_said c (UnitPart v) j).reaches) 0 (0 + 1)) old new
  read-others result answer p q =
      (AreWritten-read (reached (λ j. (source_said c (UnitPart v) j).reaches) 0 (0 + 1)) p.got.moved
      (λ i d out. q.leaf none-meets i d (λ t x. out t (0, omega arith, first-reaches (i, t) x)))).others

  -- the first sector of the part failed, as the read did
  read-failed : {old new : List Device} (after : List FoundRecord) (fault : IoFault)
      → Ends {A = List ℕ} (IsRun (λ j. (source_said c (Units whole.from) j).may after) 0 whole.sectors) (λ x. SomeOf (λ j. (source_said c (Units whole.from) j).meets x) 0 whole.sectors) old new (Err fault)
      → IsPlain (source_said c (Units whole.from)) 0 whole.sectors old new (Err fault) → IsCounted fault new → FailedBy (source_said c (UnitPart v)) fault (0 + 0) 1
  read-failed after (io.Stack x) may q counted = λ j low. let at : 0 ≡ 0 + 0 + j = omega (arith, low) in subst (λ (k : ℕ). (source_said c (UnitPart v) k).meets x) at (first-meets x may)
  read-failed after (io.Device i) may q counted =
      let there = failed-reached (λ j. (source_said c (Units whole.from) j).reaches) 0 whole.sectors (i - 1) may.1 counted (λ d none. q.leaf none-meets (i - 1) d none) in
      let here : Contains (source_said c (UnitPart v) 0).reaches (i - 1, there.0) = first-reaches (i - 1, there.0) there.1 in
      let at : there.0 ≡ there.0 + 0 = omega arith in
      record {
        start = there.0;
        count = 1;
        each = λ j low.
            let e : 0 ≡ 0 + 0 + j = omega (arith, low) in
            (0, omega arith, subst (λ (k : ℕ). Contains (source_said c (UnitPart v) k).reaches (i - 1, there.0 + 0)) e (subst (λ (t : ℕ). Contains (source_said c (UnitPart v) 0).reaches (i - 1, t)) at here));
        own = λ t low.
            let e : there.0 ≡ there.0 + t = omega (arith, low) in
            (0, omega arith, subst (λ (k : ℕ). Contains (source_said c (UnitPart v) 0).reaches (i - 1, k)) e here);
      }
  read-failed after io.NoMemory may q counted = may

  abbrev read-stop : {old new : List Device} {found after : List FoundRecord} (fault : IoFault) → ReadsSource c (Units whole.from) whole.sectors (record { old = old; new = new; before = found; after = after }) (Err fault)
      → IsPlain (source_said c (Units whole.from)) 0 whole.sectors old new (Err fault) → IsCounted fault new → StopsAt (source_said c (UnitPart v)) 0 (length (sectors_in bytes)) fault old new
  read-stop {old = old} {new = new} {after = after} fault p q counted = record {
    before = 0;
    failed = 1;
    some = omega arith;
    inside = omega (arith, count, some);
    by = read-failed {old = old} {new = new} after fault p.got.may q counted;
    others = read-others (Err fault) (Err fault) p q;
  }

  -- it ended by a fault
  pub part-ended : {old new : List Device} {found after : List FoundRecord} (fault : IoFault) → AllWhole old
      → ReadsSource c (Units whole.from) whole.sectors (record { old = old; new = new; before = found; after = after }) (Err fault) → IsPlain (source_said c (Units whole.from)) 0 whole.sectors old new (Err fault)
      → EndsAtFailure {A = Unit {0}} old new (Err fault) → WritesSectors (source_destination c (UnitPart v)) 0 (sectors_in bytes) old new (Err fault)
  part-ended {old = old} {new = new} {after = after} fault all p q ends = record {
    moved = AreWritten-more (λ x h. h) (omega (arith, paid)) (read-moved (Err fault) (Err fault) p q);
    ends = read-ends old new after fault p.got.may (λ is. none-meets (q.memory (ap err_of is)));
    grown = λ is. none-meets (q.memory is);
    exact = λ steady. read-exact old new fault all (p.got.exact (record { steady = unit-steady old steady; agrees = λ meets. absurd (none-meets meets) })) (images-kept p.got.moved);
    stops = λ counted. read-stop fault p q counted;
    behind = λ steady counted. stop-here (source_destination c (UnitPart v)) 0 (sectors_in bytes) p.got.moved.moved.fixed (read-stop fault p q counted) (λ j h. absurd (omega (arith, h)));
    unread = λ none. absurd (none one-encrypts);
    fails = ends;
  }

  -- ---- the write

  changed-is : (plain : List ℕ) → length plain ≡ 512 * per_unit v.units
      → put_at plain (512 * (v.first % per_unit v.units)) bytes ≡ concat (spliced (sectors_of (per_unit v.units) plain) (v.first % per_unit v.units) (sectors_in bytes))
  changed-is plain long =
      let u : ℕ = per_unit v.units in
      let r : ℕ = v.first % u in
      let put = put_run plain bytes u r n len (omega (arith, long)) lies.within in
      let size : length (put_at plain (512 * r) bytes) ≡ 512 * u = length-put plain (512 * r) bytes (512 * u) long (omega (arith, len, lies.within)) in
      sym (take_all (512 * u) (put_at plain (512 * r) bytes) (omega (arith, size)))
      ∙ sym (concat-sectors_of u (put_at plain (512 * r) bytes))
      ∙ ap concat put
      ∙ ap (λ (l : List (List ℕ)). concat (spliced (sectors_of u plain) r l)) (sym (sectors_in-of bytes n len))

  -- the first sector of the part failed, as the write of the unit did
  abbrev written-stop : {old mid new : List Device} {found after : List FoundRecord} {plain : List ℕ} (out : List ℕ) → length (sectors_in out) ≡ whole.sectors → (fault : IoFault)
      → ReadsSource c (Units whole.from) whole.sectors (record { old = old; new = mid; before = found; after = after }) (Ok plain) → IsPlain (source_said c (Units whole.from)) 0 whole.sectors old mid (Ok tt)
      → StopsAt (source_said c (Units whole.from)) 0 (length (sectors_in out)) fault mid new → StopsAt (source_said c (UnitPart v)) 0 (length (sectors_in bytes)) fault old new
  written-stop {plain = plain} out outs fault p q stop =
      stop-first (source_said c (Units whole.from)) (source_said c (UnitPart v)) 0 0 (length (sectors_in out)) (length (sectors_in bytes)) (omega (arith, count, some)) (λ j h. part-up c v whole n of lies some j (omega (arith, h, outs)))
      p.got.moved.moved.fixed (read-others (Ok tt) (Ok plain) p q) stop

  pub part-written : {old mid new : List Device} {found after : List FoundRecord} {plain out : List ℕ} {result : Result Unit IoFault} → AllWhole old
      → ReadsSource c (Units whole.from) whole.sectors (record { old = old; new = mid; before = found; after = after }) (Ok plain) → IsPlain (source_said c (Units whole.from)) 0 whole.sectors old mid (Ok tt) → failures_of mid ≡ failures_of old
      → out ≡ put_at plain (512 * (v.first % per_unit v.units)) bytes
      → WritesSectors (source_destination c (Units whole.from)) 0 (sectors_in out) mid new result
      → WritesSectors (source_destination c (UnitPart v)) 0 (sectors_in bytes) old new result
  part-written {old = old} {mid = mid} {new = new} {plain = plain} {out = out} {result = result} all p q none_failed is w =
      let u : ℕ = per_unit v.units in
      let long : length plain ≡ 512 * u = p.got.may.len ∙ ap (λ (k : ℕ). 512 * k) of.sectors in
      let size : length out ≡ 512 * u = ap length is ∙ length-put plain (512 * (v.first % u)) bytes (512 * u) long (omega (arith, len, lies.within)) in
      let outs : length (sectors_in out) ≡ whole.sectors = omega (arith, length-sectors_in out, size, of.sectors) in
      let front = read-moved (Ok tt) (Ok plain) p q in
      let back : AreWritten (reached (λ j. (source_said c (UnitPart v) j).reaches) 0 (length (sectors_in bytes))) mid (whole.sectors * write_cost c whole.from.lower) new =
      AreWritten-more (λ x h. subst (λ (k : ℕ). reached (λ j. (source_said c (UnitPart v) j).reaches) 0 k x) (sym count) (reach-part x (subst (λ (k : ℕ). reached (λ j. (source_said c (Units whole.from) j).reaches) 0 k x) outs h)))
      (let same = ap (λ (k : ℕ). k * write_cost c whole.from.lower) outs in omega (arith, same)) w.moved in
      record {
        moved = AreWritten-more (λ x h. h) paid (AreWritten-then front back);
        ends = later result w.grown (MayEnd-as (λ x. SomeOf (λ j. (source_said c (Units whole.from) j).meets x) 0 (length (sectors_in out))) (λ x. SomeOf (λ j. (source_said c (UnitPart v) j).meets x) 0 (length (sectors_in bytes))) mid new result
            (λ x h. meets-more x (subst (λ (k : ℕ). SomeOf (λ j. (source_said c (Units whole.from) j).meets x) 0 k) outs h)) w.ends) p.got.moved.moved w.moved.moved;
        grown = w.grown;
        exact = λ steady.
            let under = beneath-is old all plain (p.got.exact (record { steady = unit-steady old steady; agrees = λ meets. absurd (none-meets meets) })) in
            let images = images-kept p.got.moved in
            let bytes_are : out ≡ changed_unit v.units v.key.now v.first (sectors_in bytes) under.0 =
            is ∙ changed-is plain long ∙ ap (λ (x : List ℕ). concat (spliced (sectors_of u x) (v.first % u) (sectors_in bytes))) under.2 in
            let whole_puts : (images' : Images) → (source_destination c (Units whole.from)).puts 0 (sectors_in out) images' ≡ put_on c v.lower (unit_first v.units v.first) (encrypted_sectors v.units v.key.now v.first out) images' = λ images'. whole-unit-puts out images' size in
            subst (λ (x : Put). IsPut x (steady_images new) result)
            (whole_puts (steady_images mid)
            ∙ ap (put_on c v.lower (unit_first v.units v.first) (encrypted_sectors v.units v.key.now v.first out)) images
            ∙ ap (λ (x : List ℕ). put_on c v.lower (unit_first v.units v.first) (encrypted_sectors v.units v.key.now v.first x) (steady_images old)) bytes_are
            ∙ sym (part-puts (steady_images old)
            ∙ ap (λ (o : Outcome). read_put o (λ below. put_on c v.lower (unit_first v.units v.first) (encrypted_sectors v.units v.key.now v.first (changed_unit v.units v.key.now v.first (sectors_in bytes) below))) (steady_images old)) under.1))
            (w.exact (AreSteady-kept old mid p.got.moved.moved.fixed (unit-steady old steady)));
        stops = stops-first outs result w.stops;
        behind = λ steady. behind-first outs result (w.moved.moved.fixed ∙ p.got.moved.moved.fixed) w.stops;
        unread = λ none. absurd (none one-encrypts);
        fails = w.fails ∙ ap (failures_behind result) none_failed;
      }
    where
      stops-first : length (sectors_in out) ≡ whole.sectors → (result : Result Unit IoFault) → StopsAtFault (source_said c (Units whole.from)) 0 (length (sectors_in out)) mid new result → StopsAtFault (source_said c (UnitPart v)) 0 (length (sectors_in bytes)) old new result
      stops-first outs (Ok x) h = tt
      stops-first outs (Err fault) h = λ counted. written-stop out outs fault p q (h counted)

      behind-first : length (sectors_in out) ≡ whole.sectors → (result : Result Unit IoFault) → map fixed_part new ≡ map fixed_part old → StopsAtFault (source_said c (Units whole.from)) 0 (length (sectors_in out)) mid new result
          → StopsBehindPut (with_some (source_destination c (UnitPart v))) 0 (sectors_in bytes) old new result
      behind-first outs (Ok x) fixed h = tt
      behind-first outs (Err fault) fixed h = λ counted. stop-here (source_destination c (UnitPart v)) 0 (sectors_in bytes) fixed (written-stop out outs fault p q (h counted)) (λ j low. absurd (omega (arith, low)))

      later : (result : Result Unit IoFault) → (result ≡ Err io.NoMemory → ⊥) → MayEnd (λ x. SomeOf (λ j. (source_said c (UnitPart v) j).meets x) 0 (length (sectors_in bytes))) mid new result
          → {r w' r' w'' : ℕ} → Moves r w' old mid → Moves r' w'' mid new → MayEnd (λ x. SomeOf (λ j. (source_said c (UnitPart v) j).meets x) 0 (length (sectors_in bytes))) old new result
      later (Ok x) grown h a d = tt
      later (Err (io.Stack why.ErrorTarget)) grown h a d = h
      later (Err (io.Stack why.Mismatch)) grown h a d = h
      later (Err (io.Device i)) grown h a d = (h.0, failed_later a d h.1)
      later (Err io.NoMemory) grown h a d = absurd (grown refl)

      whole-unit-puts : (out : List ℕ) (images' : Images) → length out ≡ 512 * per_unit v.units
          → (source_destination c (Units whole.from)).puts 0 (sectors_in out) images' ≡ put_on c v.lower (unit_first v.units v.first) (encrypted_sectors v.units v.key.now v.first out) images'
      whole-unit-puts out images' size =
          let u : ℕ = per_unit v.units in
          let w0 : ℕ = v.first - v.first % u in
          let first : w0 + 0 ≡ w0 = omega arith in
          ap (λ (y : CryptPart). (source_destination c (Units y)).puts 0 (sectors_in out) images') of.from
          ∙ ap (λ (k : ℕ). crypt_put c v.lower v.units v.key.now k (sectors_in out) images') first
          ∙ whole-put c v.lower v.units v.key.now w0 out images' (begin-whole c v whole n of lies some) size
          ∙ ap (λ (k : ℕ). put_on c v.lower k (sectors_of u (encrypted_unit v.units v.key.now (w0 / u) out)) images') begin-first
          ∙ ap (λ (k : ℕ). put_on c v.lower (unit_first v.units v.first) (sectors_of u (encrypted_unit v.units v.key.now k out)) images') begin-unit
