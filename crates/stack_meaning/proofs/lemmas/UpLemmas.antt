-- What is said of one sector and of another, and where reads of them stop.
use Rattle.std.proofs.Common.{◌≡◌, ℕ, ◌+◌, ◌-◌, ◌<◌, ◌≤◌, List, Contains, Result, Ok, Err, ◌∙◌, subst, arith}
use Rattle.std.proofs.Common.{get_or}
use Rattle.block_device.specs.Device.{Device}
use Rattle.stack_meaning.specs.declared.fault.IoFault.{IoFault}
use Rattle.stack_meaning.specs.declared.fault.IoFault.TheVariants as io
use Rattle.stack_meaning.specs.declared.fault.Fault.{Fault}
use Rattle.stack_meaning.specs.Outcomes.{LeafSector}
use Rattle.stack_meaning.specs.Changes.{reached}
use Rattle.stack_meaning.specs.Meaning.{Said}
use Rattle.stack_meaning.specs.Stops.{FailedBy, ReadStops}
use Rattle.stack_meaning.proofs.lemmas.ChangeLemmas.{Among, reached-first, reached-later}

-- a fault that the one meets the other meets, and what the one reaches the other reaches
pub record IsUp (x y : Said) : Type 0 where
  pub meets : (fault : Fault) → x.meets fault → y.meets fault
  pub reaches : (p : LeafSector) → Contains x.reaches p → Contains y.reaches p
  pub encrypts : x.encrypts → y.encrypts

pub up-same : (x y : Said) → x ≡ y → IsUp x y
up-same x y e = subst (λ (z : Said). IsUp x z) e (record { meets = λ fault h. h; reaches = λ p h. h; encrypts = λ h. h })

pub failed-up : (said said' : ℕ → Said) (s s' n : ℕ) (fault : IoFault) → ((j : ℕ) → j < n → IsUp (said (s + j)) (said' (s' + j))) → FailedBy said fault s n → FailedBy said' fault s' n
failed-up said said' s s' n (io.Stack fault) up by = λ j h. (up j h).meets fault (by j h)
failed-up said said' s s' n (io.Device i) up by = record {
  start = by.start;
  count = by.count;
  each = λ j h. let some = by.each j h in (some.0, some.1, (up j h).reaches (i - 1, by.start + some.0) some.2);
  own = λ t h. let some = by.own t h in (some.0, some.1, (up some.0 some.1).reaches (i - 1, by.start + t) some.2);
}
failed-up said said' s s' n io.NoMemory up by = by

-- sectors of one place, as those of another
module _ (said said' : ℕ → Said) (first first' n : ℕ) (up : (j : ℕ) → j < n → IsUp (said (first + j)) (said' (first' + j))) where
  pub up-from : (a m : ℕ) → a + m ≤ n → (j : ℕ) → j < m → IsUp (said (first + a + j)) (said' (first' + a + j))
  up-from a m h j low =
      let at : first + (a + j) ≡ first + a + j = omega arith in
      let at' : first' + (a + j) ≡ first' + a + j = omega arith in
      subst (λ (s : ℕ). IsUp (said s) (said' (first' + a + j))) at (subst (λ (s : ℕ). IsUp (said (first + (a + j))) (said' s)) at' (up (a + j) (omega (arith, h, low))))

  pub among-from : (a m : ℕ) → a + m ≤ n → Among (reached (λ s. (said s).reaches) (first + a) m) (reached (λ s. (said' s).reaches) (first' + a) m)
  among-from a m h p some = (some.0, some.1, (up-from a m h some.0 some.1).reaches p some.2)

  pub among-first : (m : ℕ) → m ≤ n → Among (reached (λ s. (said s).reaches) first m) (reached (λ s. (said' s).reaches) first' m)
  among-first m h p some = (some.0, some.1, (up some.0 (omega (arith, h, some.1))).reaches p some.2)

  pub read-up : (old new : List Device) (result : Result Unit IoFault) → ReadStops said first n old new result → ReadStops said' first' n old new result
  read-up old new (Ok x) q = tt
  read-up old new (Err fault) q = λ counted. let s = q counted in record {
    before = s.before;
    failed = s.failed;
    some = s.some;
    inside = s.inside;
    by = failed-up said said' (first + s.before) (first' + s.before) s.failed fault (up-from s.before s.failed s.inside) s.by;
    leaf = λ i d out. s.leaf i d (λ t x. out t (among-first (s.before + s.failed) s.inside (i, t) x));
  }

-- ---- sectors of which one other has what each has

module _ (said said' : ℕ → Said) (first first' m n : ℕ) (some : 0 < n) (up : (j : ℕ) → j < m → IsUp (said (first + j)) (said' first')) where
  pub failed-first : (fault : IoFault) (a k : ℕ) → 0 < k → a + k ≤ m → FailedBy said fault (first + a) k → FailedBy said' fault (first' + 0) 1
  failed-first (io.Stack fault) a k more h by = λ j low.
      let at : first + a + 0 ≡ first + a = omega arith in
      let at' : first' ≡ first' + 0 + j = omega (arith, low) in
      subst (λ (s : ℕ). (said' s).meets fault) at' ((up a (omega (arith, more, h))).meets fault (subst (λ (s : ℕ). (said s).meets fault) at (by 0 more)))
  failed-first (io.Device i) a k more h by =
      let at' : first' ≡ first' + 0 + 0 = omega arith in
      let reached-by : (j t : ℕ) → j < k → Contains (said (first + a + j)).reaches (i - 1, t) → Contains (said' first').reaches (i - 1, t) = λ j t low there.
      let at : first + a + j ≡ first + (a + j) = omega arith in
      (up (a + j) (omega (arith, low, h))).reaches (i - 1, t) (subst (λ (s : ℕ). Contains (said s).reaches (i - 1, t)) at there) in
      record {
        start = by.start;
        count = by.count;
        each = λ j low.
            let e : first' ≡ first' + 0 + j = omega (arith, low) in
            let one = by.each 0 more in
            (one.0, one.1, subst (λ (s : ℕ). Contains (said' s).reaches (i - 1, by.start + one.0)) e (reached-by 0 (by.start + one.0) more one.2));
        own = λ t low. let one = by.own t low in (0, omega arith, subst (λ (s : ℕ). Contains (said' s).reaches (i - 1, by.start + t)) at' (reached-by one.0 (by.start + t) one.1 one.2));
      }
  failed-first io.NoMemory a k more h by = by

  pub among-one : (k : ℕ) → k ≤ m → Among (reached (λ s. (said s).reaches) first k) (reached (λ s. (said' s).reaches) first' (0 + 1))
  among-one k h p there =
      let e : first' ≡ first' + 0 = omega arith in
      (0, omega arith, subst (λ (s : ℕ). Contains (said' s).reaches p) e ((up there.0 (omega (arith, h, there.1))).reaches p there.2))

  -- a read of those stops at the one
  pub read-first : (old new : List Device) (result : Result Unit IoFault) → ReadStops said first m old new result → ReadStops said' first' n old new result
  read-first old new (Ok x) q = tt
  read-first old new (Err fault) q = λ counted. let s = q counted in record {
    before = 0;
    failed = 1;
    some = omega arith;
    inside = omega (arith, some);
    by = failed-first fault s.before s.failed s.some s.inside s.by;
    leaf = λ i d out. s.leaf i d (λ t x. out t (among-one (s.before + s.failed) s.inside (i, t) x));
  }

-- ---- after other sectors

-- a leaf that none of n sectors from the first on reaches is as it was
abbrev pub KeepsUnreached : (ℕ → Said) → ℕ → ℕ → List Device → List Device → Type 0
KeepsUnreached said first n old new = (i : ℕ) (d : Device) → ((t : ℕ) → reached (λ s. (said s).reaches) first n (i, t) → ⊥) → get_or new i d ≡ get_or old i d

pub read-later : (said : ℕ → Said) (old mid new : List Device) (first a m n : ℕ) (result : Result Unit IoFault) → a + m ≤ n → KeepsUnreached said first a old mid → ReadStops said (first + a) m mid new result → ReadStops said first n old new result
read-later said old mid new first a m n (Ok x) h front q = tt
read-later said old mid new first a m n (Err fault) h front q = λ counted.
    let s = q counted in
    let at : first + a + s.before ≡ first + (a + s.before) = omega arith in
    record {
      before = a + s.before;
      failed = s.failed;
      some = s.some;
      inside = omega (arith, h, s.inside);
      by = subst (λ (k : ℕ). FailedBy said fault k s.failed) at s.by;
      leaf = λ i d out.
          s.leaf i d (λ t x. out t (reached-later (λ k. (said k).reaches) first a (s.before + s.failed) (a + s.before + s.failed) (omega arith) (i, t) x))
          ∙ front i d (λ t x. out t (reached-first (λ k. (said k).reaches) first a (a + s.before + s.failed) (omega arith) (i, t) x));
    }
