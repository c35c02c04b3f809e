-- What reads got, one after another.
use Rattle.std.proofs.Common.{◌≡◌, ℕ, ◌+◌, ◌-◌, ◌*◌, ◌<◌, ◌≤◌, IsTrue, List, ◌++◌, length, get_or, Contains, take, drop, Result, Ok, Err, sym, ap, ◌∙◌, subst, arith, inl, inr}
use Rattle.std.proofs.lemmas.List.{take-append-le, drop-append-le, length-drop, length-append, length-take-le}
use Rattle.std.proofs.lemmas.Bool.{cases_lt}
use Rattle.std.proofs.Math.Seq.{drop-append-add}
use Rattle.std.proofs.Math.Nat.{mul-le-mul_left, mul-le-mul_right}
use Rattle.block_device.specs.Device.{Device, IsSector}
use Rattle.stack_rules.specs.Records.{Configuration}
use Rattle.stack_meaning.specs.declared.fault.IoFault.{IoFault}
use Rattle.stack_meaning.specs.declared.fault.IoFault.TheVariants as io
use Rattle.stack_meaning.specs.declared.fault.Fault.{Fault}
use Rattle.stack_meaning.specs.Outcomes.{Outcome, Images, joint_outcome, mismatch, span, part}
use Rattle.stack_meaning.specs.Sectors.{IsRun}
use Rattle.stack_meaning.specs.Leaves.{steady_images, AreRead}
use Rattle.stack_meaning.specs.Found.{FoundRecord, found_entry}
use Rattle.stack_meaning.specs.Meaning.{Said}
use Rattle.stack_meaning.specs.Places.{Place, Expected, run_expected, LeafRead}
use Rattle.stack_meaning.specs.Reading.{Ends, Answers, Gets, IsCertain, Finds}
use Rattle.stack_meaning.proofs.lemmas.LeafListLemmas.{AreRead-none, AreRead-then, AreRead-more, AreSteady-kept, AreSteady-within, images-kept, failed_later}
use Rattle.stack_meaning.proofs.lemmas.FoundLemmas.{HasMore, IsMono, SomeOf-more, Grown-then, grown-keeps}
use Rattle.stack_meaning.proofs.lemmas.SpanLemmas.{span-add, span_same}

-- ---- one call

Ends-as : {A : Type 0} (wanted wanted' : Expected A) (old new : List Device) (result : Result A IoFault)
    → ((x : A) → wanted.is x → wanted'.is x) → ((fault : Fault) → wanted.faults fault → wanted'.faults fault) → Ends wanted.is wanted.faults old new result → Ends wanted'.is wanted'.faults old new result
Ends-as wanted wanted' old new (Ok x) is faults h = is x h
Ends-as wanted wanted' old new (Err (io.Stack fault)) is faults h = faults fault h
Ends-as wanted wanted' old new (Err (io.Device i)) is faults h = h
Ends-as wanted wanted' old new (Err io.NoMemory) is faults h = h

-- what makes the result of one call certain makes that of a later call certain, of which no more is asked
pub certain-for : {A B : Type 0} (wanted : Expected A) {wanted' : Expected B} {old mid : List Device} {m : ℕ} → AreRead old m mid → ((i : ℕ) → IsTrue (wanted.leaves i) → IsTrue (wanted'.leaves i))
    → (wanted.faults mismatch → wanted'.faults mismatch) → ((images : Images) → wanted'.agrees images → wanted.agrees images) → IsCertain wanted' old → IsCertain wanted mid
certain-for wanted {old = old} {mid = mid} a within faults agrees sure = record {
  steady = AreSteady-within mid within (AreSteady-kept old mid a.moved.fixed sure.steady);
  agrees = λ meets. subst wanted.agrees (sym (images-kept a)) (agrees (steady_images old) (sure.agrees (faults meets)));
}

-- a fault passes on, also to what begins before the call
pub fault_passes : {A B : Type 0} {wanted : Expected A} {wanted' : Expected B} {old mid new : List Device} {m : ℕ} (fault : IoFault)
    → Gets wanted mid new (Err fault) → AreRead old m mid → m + wanted.cost ≤ wanted'.cost → ((x : Fault) → wanted.faults x → wanted'.faults x)
    → ((i : ℕ) → IsTrue (wanted.leaves i) → IsTrue (wanted'.leaves i))
    → ((images : Images) → wanted'.agrees images → wanted.agrees images)
    → (IsCertain wanted' old → (x : Fault) → wanted.means (steady_images mid) ≡ Err x → wanted'.means (steady_images old) ≡ Err x)
    → Gets wanted' old new (Err fault)
fault_passes {wanted = wanted} {old = old} {mid = mid} (io.Stack fault) p a h faults within agrees means = record {
  moved = AreRead-more h (AreRead-then a p.moved);
  may = faults fault p.may;
  exact = λ sure. means sure fault (p.exact (certain-for wanted a within (faults mismatch) agrees sure));
}
fault_passes (io.Device i) p a h faults within agrees means = record {
  moved = AreRead-more h (AreRead-then a p.moved);
  may = (p.may.0, failed_later a.moved p.moved.moved p.may.1);
  exact = λ sure. tt;
}
fault_passes io.NoMemory p a h faults within agrees means = record {
  moved = AreRead-more h (AreRead-then a p.moved);
  may = p.may;
  exact = λ sure. tt;
}

-- ---- runs

pub part_left : (x y : List ℕ) (a j : ℕ) → length x ≡ 512 * a → j < a → part (x ++ y) j ≡ part x j
part_left x y a j e h =
    ap (take 512) (drop-append-le (512 * j) x y (omega arith)) ∙ take-append-le 512 (drop (512 * j) x) y (omega (arith, length-drop (512 * j) x))

pub part_right : (x y : List ℕ) (a i : ℕ) → length x ≡ 512 * a → part (x ++ y) (a + i) ≡ part y i
part_right x y a i e =
    let at : 512 * (a + i) ≡ length x + 512 * i = omega arith in
    ap (λ (j : ℕ). take 512 (drop j (x ++ y))) at ∙ ap (take 512) (drop-append-add x y (512 * i))

-- whole sectors, any of which may be
pub leaf-run : (P : ℕ → List ℕ → Type 0) (first n : ℕ) (bytes : List ℕ) → length bytes ≡ 512 * n → ((s : ℕ) (b : List ℕ) → IsSector b → P s b) → IsRun P first n bytes
leaf-run P first n bytes e all = record {
  len = e;
  sectors = λ j h. all (first + j) (part bytes j) (length-take-le 512 (drop (512 * j) bytes) (omega (arith, e, h, length-drop (512 * j) bytes)));
}

pub run-append : (P : ℕ → List ℕ → Type 0) (first a m : ℕ) (x y : List ℕ) → IsRun P first a x → IsRun P (first + a) m y → IsRun P first (a + m) (x ++ y)
run-append P first a m x y p q = record {
  len = length-append x y ∙ omega (arith, p.len, q.len);
  sectors = λ j h. elim (cases_lt j a) [
    | inl low ↦ subst (P (first + j)) (sym (part_left x y a j p.len low)) (p.sectors j low)
    | inr high ↦
        let i : ℕ = j - a in
        let back : a + i ≡ j = omega arith in
        let at : first + a + i ≡ first + j = omega arith in
        let same : part y i ≡ part (x ++ y) j = sym (part_right x y a i p.len) ∙ ap (part (x ++ y)) back in
        subst (λ (s : ℕ). P s (part (x ++ y) j)) at (subst (P (first + a + i)) same (q.sectors i (omega arith)))
  ];
}

-- a run by one relation is a run by each weaker one
pub run-may : (P P' : ℕ → List ℕ → Type 0) (first n : ℕ) (bytes : List ℕ) → ((s : ℕ) (b : List ℕ) → P s b → P' s b) → IsRun P first n bytes → IsRun P' first n bytes
run-may P P' first n bytes more run = record { len = run.len; sectors = λ j h. more (first + j) (part bytes j) (run.sectors j h) }

-- what makes more sectors certain makes the first of them certain
first-certain : (place : Place) (chains : List FoundRecord) (first a n : ℕ) (old : List Device) → a ≤ n → IsCertain (run_expected place chains first n) old → IsCertain (run_expected place chains first a) old
first-certain place chains first a n old h =
    certain-for (run_expected place chains first a) {wanted' = run_expected place chains first n} (AreRead-none 0 old) (λ i is. is) (λ meets. (meets.0, omega (arith, h, meets.1), meets.2)) (λ images agrees. agrees)

-- a run, and what follows it
module _ (place : Place) (chains : List FoundRecord) (first a m : ℕ) {old mid new : List Device} {x : List ℕ} (p : Gets (run_expected place chains first a) old mid (Ok x)) where
  -- the next one
  pub fill_ok : {y : List ℕ} → Gets (run_expected place chains (first + a) m) mid new (Ok y) → Gets (run_expected place chains first (a + m)) old new (Ok (x ++ y))
  fill_ok {y = y} q = record {
    moved = AreRead-more (omega arith) (AreRead-then p.moved q.moved);
    may = run-append (λ s. (place.said s).may chains) first a m x y p.may q.may;
    exact = λ sure.
        let f : Images → ℕ → Outcome = λ images s. (place.said s).means images in
        let images : steady_images mid ≡ steady_images old = images-kept p.moved in
        span-add (f (steady_images old)) first a m
        ∙ ap (λ (s : Outcome). joint_outcome s (span (f (steady_images old)) (first + a) m)) (p.exact (first-certain place chains first a (a + m) old (omega arith) sure))
        ∙ ap (λ (i : Images). joint_outcome (Ok x) (span (f i) (first + a) m)) (sym images)
        ∙ ap (joint_outcome (Ok x)) (q.exact (certain-for (run_expected place chains (first + a) m) p.moved (λ i is. is) (SomeOf-more (λ s. (place.said s).meets mismatch) first a m (a + m) (omega arith)) (λ images h. h) sure));
  }

  -- the next one, which ends by a fault
  pub fill_err : (n : ℕ) (fault : IoFault) → a + m ≤ n → Gets (run_expected place chains (first + a) m) mid new (Err fault) → Gets (run_expected place chains first n) old new (Err fault)
  fill_err n fault h q =
      let f : Images → ℕ → Outcome = λ images s. (place.said s).means images in
      fault_passes {wanted = run_expected place chains (first + a) m} {wanted' = run_expected place chains first n} fault q p.moved
      (omega (arith, mul-le-mul_right place.cost h))
      (λ x meets. SomeOf-more (λ s. (place.said s).meets x) first a m n h meets)
      (λ i is. is)
      (λ images agrees. agrees)
      (λ sure fails is.
      let images : steady_images mid ≡ steady_images old = images-kept p.moved in
      let parts : n ≡ a + (m + (n - (a + m))) = omega arith in
      let g : ℕ → Outcome = f (steady_images old) in
      ap (span g first) parts ∙ span-add g first a (m + (n - (a + m)))
      ∙ ap (λ (s : Outcome). joint_outcome s (span g (first + a) (m + (n - (a + m))))) (p.exact (first-certain place chains first a n old (omega (arith, h)) sure))
      ∙ ap (joint_outcome (Ok x)) (span-add g (first + a) m (n - (a + m))
      ∙ ap (λ (s : Outcome). joint_outcome s (span g (first + a + m) (n - (a + m)))) (ap (λ (i : Images). span (f i) (first + a) m) (sym images) ∙ is)))

-- the sectors of a place may be what they may be with more chains too
abbrev pub AllMono : Place → Type 0
AllMono place = (s : ℕ) → IsMono (place.said s)

-- a run with more chains
pub fill_more : (place : Place) (first n : ℕ) {u v : List FoundRecord} {old new : List Device} {bytes : List ℕ} → AllMono place → HasMore u v
    → Gets (run_expected place u first n) old new (Ok bytes) → Gets (run_expected place v first n) old new (Ok bytes)
fill_more place first n {u = u} {v = v} {bytes = bytes} mono more p = record {
  moved = p.moved;
  may = run-may (λ s. (place.said s).may u) (λ s. (place.said s).may v) first n bytes (λ s. mono s u v more) p.may;
  exact = λ sure. p.exact (record { steady = sure.steady; agrees = sure.agrees });
}

-- ---- runs with what was found

module _ (place : Place) (c : Configuration) (mono : AllMono place) (first a m : ℕ) {old mid new : List Device} {u v w : List FoundRecord} {x : List ℕ}
    (p : Finds place c first a (record { old = old; new = mid; before = u; after = v }) (Ok x)) where
  -- a run and the next one
  pub run_ok : {y : List ℕ} → Finds place c (first + a) m (record { old = mid; new = new; before = v; after = w }) (Ok y)
      → Finds place c first (a + m) (record { old = old; new = new; before = u; after = w }) (Ok (x ++ y))
  run_ok q = record {
    got = fill_ok place w first a m (fill_more place first a mono (grown-keeps q.grown) p.got) q.got;
    grown = Grown-then (omega arith) p.grown q.grown;
    kept = q.kept;
  }

  -- a run, and the next one that ends by a fault
  pub run_err : (n : ℕ) (fault : IoFault) → a + m ≤ n → Finds place c (first + a) m (record { old = mid; new = new; before = v; after = w }) (Err fault)
      → Finds place c first n (record { old = old; new = new; before = u; after = w }) (Err fault)
  run_err n fault h q = record {
    got = fill_err place w first a m (fill_more place first a mono (grown-keeps q.grown) p.got) n fault h q.got;
    grown = Grown-then h p.grown q.grown;
    kept = q.kept;
  }

-- ---- n sectors of a place that are n of another

-- n sectors of a place and of another have the same meaning; the second costs no less, is on all leaves of the first, and asks no
-- less of their images
pub record Passes (place place' : Place) (first first' n : ℕ) : Type 1 where
  pub said : (j : ℕ) → j < n → place.said (first + j) ≡ place'.said (first' + j)
  pub cost : place.cost ≤ place'.cost
  pub leaves : (i : ℕ) → IsTrue (place.leaves i) → IsTrue (place'.leaves i)
  pub agrees : (images : Images) → place'.agrees images → place.agrees images

module _ {place place' : Place} {first first' n : ℕ} (passes : Passes place place' first first' n) where
  fill_as : (chains : List FoundRecord) {old new : List Device} (answer : Result (List ℕ) IoFault) → Gets (run_expected place chains first n) old new answer → Gets (run_expected place' chains first' n) old new answer
  fill_as chains {old = old} {new = new} answer p = record {
    moved = AreRead-more (mul-le-mul_left n passes.cost) p.moved;
    may = Ends-as (run_expected place chains first n) (run_expected place' chains first' n) old new answer
        (λ bytes all. record { len = all.len; sectors = λ j h. subst (λ (x : Said). x.may chains (part bytes j)) (passes.said j h) (all.sectors j h) })
        (λ fault some. (some.0, some.1, subst (λ (x : Said). x.meets fault) (passes.said some.0 some.1) some.2)) p.may;
    exact = λ sure.
        let means : (ℕ → Said) → ℕ → Outcome = λ said s. (said s).means (steady_images old) in
        subst (λ (s : Outcome). Answers {A = List ℕ} (λ bytes. bytes) s answer)
        (span_same (means place.said) (means place'.said) first first' n (λ j h. ap (λ (x : Said). x.means (steady_images old)) (passes.said j h)))
        (p.exact (certain-for (run_expected place chains first n) {wanted' = run_expected place' chains first' n} (AreRead-none 0 old) passes.leaves
        (λ some. (some.0, some.1, subst (λ (x : Said). x.meets mismatch) (passes.said some.0 some.1) some.2)) passes.agrees sure));
  }

  pub pass : {c : Configuration} (did : LeafRead) (answer : Result (List ℕ) IoFault) → Finds place c first n did answer → Finds place' c first' n did answer
  pass did answer p = record {
    got = fill_as did.after answer p.got;
    grown = record {
      added = p.grown.added;
      is = p.grown.is;
      used = λ k d below.
          let some = p.grown.used k d below in
          (some.0, some.1, subst (λ (x : Said). Contains x.entries (found_entry (get_or p.grown.added k d))) (passes.said some.0 some.1) some.2);
    };
    kept = p.kept;
  }
