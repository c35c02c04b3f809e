-- The sets of devices to which chains lead, closed place by place.
use Rattle.std.proofs.Common.{◌≡◌, ◌+◌, ◌-◌, ◌<◌, ◌≤◌, ℕ, suc, List, [], ◌∷◌, refl, sym, ap, subst, ◌∙◌, Bool, true, false, ◌||◌, ◌&&◌, ◌++◌, take, Option, Some, None, length, drop, get_or, set, arith}
use Rattle.std.proofs.Math.Decide.{dec_le}
use Rattle.std.proofs.Math.Seq.{take-append_seam}
use Rattle.std.proofs.lemmas.List.{get_or-set_same, get_or-set_other, get_or_default, set-get_or}
use Rattle.std.specs.Prelude.{slice_set}
use Rattle.stack_loader.specs.declared.device_set.DeviceSet.{DeviceSet}
use Rattle.stack_rules.specs.declared.refusal.LoadKind.TheVariants.{StandsOnItself}
use Rattle.stack_rules.specs.declared.refusal.Refusal.{Refusal}
use Rattle.stack_rules.specs.Records.{Configuration, DeviceRecord}
use Rattle.stack_rules.specs.Cycles.{names_device, leads_below, is_on_cycle}
use Rattle.stack_loader.specs.DeviceSet.{contains, set_at, AreSets, AreLowerSets}
use Rattle.stack_rules.specs.Rules.{first, refuse, cycles}
use Rattle.stack_rules.proofs.lemmas.FirstRefusalLemmas.{scan, scan_found, scan_more, scan_end}

-- ---- one place

-- what a set has once that of device k is added where it has k
abbrev pub joined : List DeviceSet → ℕ → ℕ → ℕ → Bool
joined sets k d e = contains (set_at sets d) e || (contains (set_at sets d) k && contains (set_at sets k) e)

-- the first n sets are done, and the rest are as they were
pub record JoinsSoFar (old now : List DeviceSet) (k n : ℕ) : Type 0 where
  pub done : (d e : ℕ) → d < n → contains (set_at now d) e ≡ joined old k d e
  pub rest : (d : ℕ) → n ≤ d → set_at now d ≡ set_at old d

pub joins_none : (old : List DeviceSet) (k : ℕ) → JoinsSoFar old old k 0
joins_none old k = record { done = λ d e low. absurd (omega (arith, low)); rest = λ d past. refl }

or-none : (b : Bool) → b ≡ (b || false)
or-none true = refl
or-none false = refl

-- a step that gives set n what it has to have, and leaves the others
pub joins_more : (old now next : List DeviceSet) (k n : ℕ) → ((e : ℕ) → contains (set_at next n) e ≡ joined old k n e) → ((d : ℕ) → (d ≡ n → ⊥) → set_at next d ≡ set_at now d)
    → JoinsSoFar old now k n → JoinsSoFar old next k (n + 1)
joins_more old now next k n here others before = record {
  done = λ d e low. go d e (dec_le n d) low;
  rest = λ d past. others d (λ same. omega (arith, same, past)) ∙ before.rest d (omega (arith, past));
}
  where
    go : (d e : ℕ) → Dec (n ≤ d) → d < n + 1 → contains (set_at next d) e ≡ joined old k d e
    go d e (yes past) low = let same : n ≡ d = omega (arith, past, low) in ap (λ d. contains (set_at next d) e) (sym same) ∙ here e ∙ ap (λ d. joined old k d e) same
    go d e (no inside) low =
        let low' : d < n = grind (arith, inside) in
        ap (λ s. contains s e) (others d (λ same. omega (arith, same, low'))) ∙ before.done d e low'

-- the loop's step, where the set has device k and where it hasn't
pub joins_written : (old now : List DeviceSet) (k n : ℕ) (set : DeviceSet) → n < length now → contains (set_at now n) k ≡ true
    → ((e : ℕ) → contains set e ≡ (contains (set_at now n) e || contains (set_at old k) e)) → JoinsSoFar old now k n → JoinsSoFar old (slice_set now n set) k (n + 1)
joins_written old now k n set low has is before =
    joins_more old now (slice_set now n set) k n
    (λ e. ap (λ s. contains s e) (get_or-set_same now n set (record { bits = 0 }) low) ∙ is e
    ∙ rw (sym (before.rest n (omega arith)), has) refl)
    (λ d other. get_or-set_other now n d set (record { bits = 0 }) other) before

pub joins_skipped : (old now : List DeviceSet) (k n : ℕ) → contains (set_at now n) k ≡ false → JoinsSoFar old now k n → JoinsSoFar old (slice_set now n (set_at now n)) k (n + 1)
joins_skipped old now k n lacks before =
    rw set-get_or
    (joins_more old now now k n
    (λ e. rw (sym (before.rest n (omega arith)), lacks) (or-none (contains (set_at now n) e)))
    (λ d other. refl) before)

-- ---- all places

pub closed_none : (test : ℕ → ℕ → Bool) (sets : List DeviceSet) → AreSets test sets → AreSets (leads_below test 0) sets
unfolding leads_below
closed_none test sets are = record { each = are.each }

pub closed_more : (test : ℕ → ℕ → Bool) (k : ℕ) (old next : List DeviceSet) → k < length old → length next ≡ length old
    → ((d e : ℕ) → d < length old → contains (set_at next d) e ≡ joined old k d e) → AreSets (leads_below test k) old → AreSets (leads_below test (k + 1)) next
unfolding leads_below
closed_more test k old next low same step are = record {
  each = λ d e inside lower.
      let d-in : d < length old = omega (arith, inside, same) in
      let e-in : e < length old = omega (arith, lower, same) in
      let more : k + 1 ≡ suc k = omega arith in
      step d e d-in ∙ rw (are.each d e d-in e-in, are.each d k d-in low, are.each k e low e-in, more) refl;
}

-- ---- the first device on a cycle

abbrev pub cycle_at : Configuration → ℕ → DeviceRecord → List (Option Refusal)
cycle_at c d x = refuse StandsOnItself d 0 (is_on_cycle c (d - 1)) ∷ []

nobody : DeviceRecord
nobody = record { name = []; writable = false; table = [] }

closed-cycle : (c : Configuration) (sets closed : List DeviceSet) → AreLowerSets c sets → (AreSets (names_device c) sets → AreSets (leads_below (names_device c) (length sets)) closed)
    → length closed ≡ length sets → (d : ℕ) → d < length closed → contains (set_at closed d) d ≡ is_on_cycle c d
unfolding is_on_cycle
closed-cycle c sets closed are closes same d low =
    (closes are.named).each d d low low ∙ ap (λ n. leads_below (names_device c) n d d) are.count

pub taken : {X : Type 0} (n : ℕ) (xs ys : List X) → length xs ≡ n → take n (xs ++ ys) ≡ xs
taken n xs ys is = ap (λ n. take n (xs ++ ys)) (sym is) ∙ take-append_seam xs ys

-- what a loop over the closed sets knows
pub record Closes (c : Configuration) (sets closed : List DeviceSet) : Type 0 where
  pub are : AreLowerSets c sets
  pub closes : AreSets (names_device c) sets → AreSets (leads_below (names_device c) (length sets)) closed
  pub count : length closed ≡ length sets

pub closes-of : (c : Configuration) (sets given closed read : List DeviceSet) → AreLowerSets c sets → given ≡ sets → read ≡ closed → length closed ≡ length given
    → ((test : ℕ → ℕ → Bool) → AreSets test given → AreSets (leads_below test (length given)) closed) → Closes c sets read
closes-of c sets given closed read are same kept long closes = record {
  are = are;
  closes = λ named.
      let P : List DeviceSet → Type 0 = λ xs. AreSets (leads_below (names_device c) (length sets)) xs in
      let Q : List DeviceSet → Type 0 = λ xs. AreSets (names_device c) xs → AreSets (leads_below (names_device c) (length xs)) closed in
      subst P (sym kept) (subst Q same (closes (names_device c)) named);
  count = ap length kept ∙ long ∙ ap length same;
}

test-at : (c : Configuration) (sets closed : List DeviceSet) → Closes c sets closed → (d : ℕ) (b : Bool) → d < length closed → b ≡ contains (set_at closed d) d → b ≡ is_on_cycle c ((d + 1) - 1)
test-at c sets closed of d b low test =
    let here : d ≡ (d + 1) - 1 = omega arith in
    test ∙ closed-cycle c sets closed of.are of.closes of.count d low ∙ ap (is_on_cycle c) here

pub cycle-found : (c : Configuration) (sets closed : List DeviceSet) → Closes c sets closed → (d : ℕ) (b : Bool) → d < length closed → b ≡ contains (set_at closed d) d → b ≡ true
    → scan (cycle_at c) (d + 1) (drop d c.devices) ≡ first (cycles c) → Some (record { kind = StandsOnItself; device = d + 1; line = 0 }) ≡ first (cycles c)
cycle-found c sets closed of d b low test holds before =
    let inside : d < length c.devices = omega (arith, low, of.count, of.are.count) in
    let x = get_or c.devices d nobody in
    sym (scan_found (cycle_at c) c.devices d (d + 1) x (record { kind = StandsOnItself; device = d + 1; line = 0 }) (first (cycles c)) inside (get_or_default c.devices d nobody x inside)
    (rw (sym (test-at c sets closed of d b low test) ∙ holds) refl) before)

pub cycle-more : (c : Configuration) (sets closed : List DeviceSet) → Closes c sets closed → (d : ℕ) (b : Bool) → d < length closed → b ≡ contains (set_at closed d) d → b ≡ false
    → scan (cycle_at c) (d + 1) (drop d c.devices) ≡ first (cycles c) → scan (cycle_at c) ((d + 1) + 1) (drop (d + 1) c.devices) ≡ first (cycles c)
cycle-more c sets closed of d b low test fails before =
    let inside : d < length c.devices = omega (arith, low, of.count, of.are.count) in
    let x = get_or c.devices d nobody in
    scan_more (cycle_at c) c.devices d (d + 1) x (first (cycles c)) inside (get_or_default c.devices d nobody x inside) refl
    (rw (sym (test-at c sets closed of d b low test) ∙ fails) refl) before

pub cycle-end : (c : Configuration) (sets closed : List DeviceSet) → Closes c sets closed → (d : ℕ) → length closed ≤ d → scan (cycle_at c) (d + 1) (drop d c.devices) ≡ first (cycles c) → None ≡ first (cycles c)
cycle-end c sets closed of d past before = sym (scan_end (cycle_at c) c.devices d (d + 1) (first (cycles c)) (omega (arith, past, of.count, of.are.count)) before)
