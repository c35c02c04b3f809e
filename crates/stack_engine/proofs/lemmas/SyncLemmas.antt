-- Leaves that are synced.
use Rattle.std.proofs.Common.{◌≡◌, inl, inr, ℕ, zero, suc, ◌+◌, ◌-◌, ◌<◌, ◌≤◌, Bool, false, true, IsTrue, List, [], ◌∷◌, length, map, set, get_or, refl, ap, sym, ◌∙◌, subst, arith, Result, Ok, Err}
use Rattle.std.specs.Prelude.{IfErr, IsOk, OnOk, sum}
use Rattle.std.proofs.Math.Seq.{map-set_same}
use Rattle.std.proofs.lemmas.Bool.{cases_eq}
use Rattle.std.proofs.lemmas.List.{get_or-map, get_or-set_same, get_or-set_other, length-map, map-set}
use Rattle.std.proofs.lemmas.List.Sums.{sum-map}
use Rattle.block_device.specs.Device.{Device, HasFailed, IsUnsynced, synced}
use Rattle.stack_meaning.specs.declared.fault.IoFault.{IoFault}
use Rattle.stack_meaning.specs.declared.fault.IoFault.TheVariants as io
use Rattle.stack_meaning.specs.Leaves.{AllSteady, AreSteady, AreRead, Counts, LeafFailed, fixed_part}
use Rattle.stack_engine.specs.Syncs.{FailsToSync, LeafUnsynced, NeverFail, synced_first}
use Rattle.stack_meaning.proofs.lemmas.LeafListLemmas.{AreSteady-kept, AllSteady-kept, AreRead-then}

-- ---- leaves that are synced

-- a device that isn't dirty is as after a sync
pub synced-clean : (d : Device) → d.dirty ≡ false → d ≡ synced d
synced-clean d clean = ap (λ (b : Bool). record d { dirty = b }) clean

-- one leaf more
pub synced-more : (leaves : List Device) (i : ℕ) (d : Device) → i < length leaves → set (synced_first i leaves) i (synced (get_or leaves i d)) ≡ synced_first (suc i) leaves
synced-more [] i d inside = absurd (omega (arith, inside))
synced-more (x ∷ more) zero d inside = refl
synced-more (x ∷ more) (suc i) d inside = ap (λ (l : List Device). synced x ∷ l) (synced-more more i d (omega (arith, inside)))

-- the others are as they were
pub synced-at : (leaves : List Device) (i : ℕ) (d : Device) → get_or (synced_first i leaves) i d ≡ get_or leaves i d
synced-at [] zero d = refl
synced-at [] (suc i) d = refl
synced-at (x ∷ more) zero d = refl
synced-at (x ∷ more) (suc i) d = synced-at more i d

pub synced-all : (leaves : List Device) → synced_first (length leaves) leaves ≡ map synced leaves
synced-all [] = refl
synced-all (x ∷ more) = ap (λ (l : List Device). synced x ∷ l) (synced-all more)

-- what holds of a leaf that stays, and of one that is synced, holds of each
each-first : (P : Device → Device → Type 0) → ((x : Device) → P x x) → ((x : Device) → P x (synced x)) → (leaves : List Device) (i j : ℕ) (d : Device) → P (get_or leaves j d) (get_or (synced_first i leaves) j d)
each-first P stays here leaves zero j d = stays (get_or leaves j d)
each-first P stays here [] (suc i) j d = stays (get_or [] j d)
each-first P stays here (x ∷ more) (suc i) zero d = here x
each-first P stays here (x ∷ more) (suc i) (suc j) d = each-first P stays here more i j d

-- what a sync doesn't change is the same of all
map-first : {A : Type 0} (f : Device → A) → ((x : Device) → f (synced x) ≡ f x) → (leaves : List Device) (i : ℕ) → map f (synced_first i leaves) ≡ map f leaves
map-first f blind leaves zero = refl
map-first f blind [] (suc i) = refl
map-first f blind (x ∷ more) (suc i) = ap (λ a. a ∷ map f (synced_first i more)) (blind x) ∙ ap (λ l. f x ∷ l) (map-first f blind more i)

pub length-first : (leaves : List Device) (i : ℕ) → length (synced_first i leaves) ≡ length leaves
length-first leaves zero = refl
length-first [] (suc i) = refl
length-first (x ∷ more) (suc i) = ap suc (length-first more i)

-- a sync changes no image, and no sector is counted
first-read : (leaves : List Device) (i : ℕ) → AreRead leaves 0 (synced_first i leaves)
first-read leaves i = record {
  moved = record {
    fixed = map-first fixed_part (λ x. refl) leaves i;
    reads = counted (λ l. l.reads) (λ x. refl);
    writes = counted (λ l. l.writes) (λ x. refl);
    failures = each-first (λ x y. x.failures ≤ y.failures) (λ x. omega arith) (λ x. omega arith) leaves i;
    never_fails = each-first (λ x y. IsTrue x.never_fails → IsTrue y.never_fails) (λ x never. never) (λ x never. never) leaves i;
  };
  images = record { image = each-first (λ x y. IsTrue x.steady → y.image ≡ x.image) (λ x steady. refl) (λ x steady. refl) leaves i };
}
  where
    counted : (counter : Device → ℕ) → ((x : Device) → counter (synced x) ≡ counter x) → Counts counter 0 leaves (synced_first i leaves)
    counted counter blind =
        let all = map-first counter blind leaves i in
        let sums = sym (sum-map counter (synced_first i leaves)) ∙ ap sum all ∙ sum-map counter leaves in
        record { sum = omega (arith, sums); none = λ _. all }

-- ---- a leaf of which that fails

-- only this leaf changed
record IsAlone (i : ℕ) (old new : List Device) : Type 0 where
  failed : LeafFailed i old new
  after : Device
  unsynced : (d : Device) → IsUnsynced (get_or old i d) after
  leaves : new ≡ set old i after

module _ (i : ℕ) (old new : List Device) (u : IsAlone i old new) where
  -- what of the leaf is as it was is so of each leaf
  all-same : {A : Type 0} (f : Device → A) → f u.after ≡ f (get_or old i u.after) → map f new ≡ map f old
  all-same f same = ap (map f) u.leaves ∙ map-set_same f old i u.after u.after same

  at-leaf : (d : Device) → get_or new i d ≡ u.after
  at-leaf d = ap (λ (l : List Device). get_or l i d) u.leaves ∙ get_or-set_same old i u.after d u.failed.inside

  at-other : (j : ℕ) (d : Device) → (j ≡ i → ⊥) → get_or new j d ≡ get_or old j d
  at-other j d other = ap (λ (l : List Device). get_or l j d) u.leaves ∙ get_or-set_other old i j u.after d other

  -- what is said of a leaf before and after holds of all where it holds of this one and of those that stay
  each : (P : Device → Device → Type 0) → ((d : Device) → P (get_or old i d) u.after) → ((x : Device) → P x x) → (j : ℕ) (d : Device) → P (get_or old j d) (get_or new j d)
  each P here stays j d = elim (cases_eq j i) [
    | inl same ↦ subst (λ (k : ℕ). P (get_or old k d) (get_or new k d)) (sym same) (subst (P (get_or old i d)) (sym (at-leaf d)) (here d))
    | inr other ↦ subst (P (get_or old j d)) (sym (at-other j d other)) (stays (get_or old j d))
  ]

  none-counted : (counter : Device → ℕ) → counter u.after ≡ counter (get_or old i u.after) → Counts counter 0 old new
  none-counted counter same =
      let all = all-same counter same in
      let sums = sym (sum-map counter new) ∙ ap sum all ∙ sum-map counter old in
      record { sum = omega (arith, sums); none = λ _. all }

  -- no image is changed, and no sector counted
  leaf-read : AreRead old 0 new
  leaf-read =
      let moved = (u.unsynced u.after).moved in
      record {
        moved = record {
          fixed = all-same fixed_part (ap fixed_part moved);
          reads = none-counted (λ l. l.reads) (ap (λ (l : Device). l.reads) moved);
          writes = none-counted (λ l. l.writes) (ap (λ (l : Device). l.writes) moved);
          failures = each (λ x y. x.failures ≤ y.failures) (λ d. grown d (u.unsynced d)) (λ x. omega arith);
          never_fails = each (λ x y. IsTrue x.never_fails → IsTrue y.never_fails) (λ d never. absurd (u.failed.unsure d never)) (λ x never. never);
        };
        images = record { image = each (λ x y. IsTrue x.steady → y.image ≡ x.image) (λ d steady. ap (λ (l : Device). l.image) (u.unsynced d).moved) (λ x steady. refl) };
      }
    where
      grown : (d : Device) → IsUnsynced (get_or old i d) u.after → (get_or old i d).failures ≤ u.after.failures
      grown d one = elim one.failed [
        | inl grew ↦ omega (arith, grew)
        | inr full ↦ let count = ap (λ (l : Device). l.failures) one.moved in omega (arith, full, count)
      ]

-- a leaf that isn't synced is alone after those that are
alone : (i : ℕ) (old new : List Device) → LeafUnsynced i old new → IsAlone i (synced_first i old) new
alone i old new u =
    let at : (d : Device) → get_or old i d ≡ get_or (synced_first i old) i d = λ d. sym (synced-at old i d) in
    record {
      failed = record {
        inside = omega (arith, u.failed.inside, length-first old i);
        failed = λ d. subst (λ (x : Device). HasFailed x (get_or new i d)) (at d) (u.failed.failed d);
        unsure = λ d. subst (λ (x : Device). IsTrue x.never_fails → ⊥) (at d) (u.failed.unsure d);
      };
      after = u.after;
      unsynced = λ d. subst (λ (x : Device). IsUnsynced x u.after) (at d) (u.unsynced d);
      leaves = u.leaves;
    }

-- a sync that fails changes no image, and no sector is counted
pub unsynced-read : (old new : List Device) (fault : IoFault) → FailsToSync old new fault → AreRead old 0 new
unsynced-read old new (io.Device i) f = AreRead-then {m = 0} {n = 0} (first-read old (i - 1)) (leaf-read (i - 1) (synced_first (i - 1) old) new (alone (i - 1) old new f.1))
unsynced-read old new (io.Stack fault) f = absurd f
unsynced-read old new io.NoMemory f = absurd f

-- leaves that are steady stay so
pub unsynced-on : (these : ℕ → Bool) (old new : List Device) (fault : IoFault) → FailsToSync old new fault → AreSteady these old → AreSteady these new
unsynced-on these old new fault f = AreSteady-kept old new (unsynced-read old new fault f).moved.fixed

pub unsynced-steady : (old new : List Device) (fault : IoFault) → FailsToSync old new fault → AllSteady old → AllSteady new
unsynced-steady old new fault f = AllSteady-kept old new (unsynced-read old new fault f).moved.fixed

-- nor does one that succeeds
pub synced-read : (leaves : List Device) → AreRead leaves 0 (map synced leaves)
synced-read leaves = subst (AreRead leaves 0) (synced-all leaves) (first-read leaves (length leaves))

pub synced-on : (these : ℕ → Bool) (leaves : List Device) → AreSteady these leaves → AreSteady these (map synced leaves)
synced-on these leaves = AreSteady-kept leaves (map synced leaves) (synced-read leaves).moved.fixed

pub synced-steady : (leaves : List Device) → AllSteady leaves → AllSteady (map synced leaves)
synced-steady leaves = AllSteady-kept leaves (map synced leaves) (synced-read leaves).moved.fixed

pub sync-read : (old new : List Device) (result : Result Unit IoFault) → OnOk result (new ≡ map synced old) → IfErr result (FailsToSync old new) → AreRead old 0 new
sync-read old new (Ok done) same fails = subst (AreRead old 0) (sym same) (synced-read old)
sync-read old new (Err fault) same fails = unsynced-read old new fault fails

never-unsynced : (old new : List Device) (fault : IoFault) → FailsToSync old new fault → NeverFail old → ⊥
never-unsynced old new (io.Device i) f never = let one = f.1.failed in one.unsure f.1.after (never (i - 1) f.1.after one.inside)
never-unsynced old new (io.Stack fault) f never = f
never-unsynced old new io.NoMemory f never = f

-- leaves that never fail are synced
pub sync-sure : (old new : List Device) (result : Result Unit IoFault) → IfErr result (FailsToSync old new) → NeverFail old → IsOk result
sync-sure old new (Ok done) fails never = refl
sync-sure old new (Err fault) fails never = absurd (never-unsynced old new fault fails never)

-- the leaf that failed, of devices that are seen by f, after those that are synced
pub fails-at : {X : Type 0} (f : X → Device) (old : List Device) (xs : List X) (i : ℕ) (d v : X) → i < length xs → map f xs ≡ synced_first i old
    → (IsTrue (f (get_or xs i d)).never_fails → false ≡ true) → IsTrue (f (get_or xs i d)).dirty → IsUnsynced (f (get_or xs i d)) (f v) → FailsToSync old (map f (set xs i v)) (io.Device (i + 1))
fails-at f old xs i d v there same unsure dirty unsynced =
    let new = map f (set xs i v) in
    let at : (e : Device) → f (get_or xs i d) ≡ get_or old i e = λ e. sym (get_or-map f xs i d e there) ∙ ap (λ (l : List Device). get_or l i e) same ∙ synced-at old i e in
    let inside : i < length old = omega (arith, there, length-map xs f, ap length same, length-first old i) in
    let leaves : new ≡ set (synced_first i old) i (f v) = map-set f xs i v ∙ ap (λ (l : List Device). set l i (f v)) same in
    let here : LeafUnsynced i old new = record {
      failed = record {
        inside = inside;
        failed = λ e.
            subst (λ y. HasFailed (get_or old i e) y) (sym (ap (λ (l : List Device). get_or l i e) leaves ∙ get_or-set_same (synced_first i old) i (f v) e (omega (arith, inside, length-first old i))))
            (subst (λ x. HasFailed x (f v)) (at e) unsynced.failed);
        unsure = λ e never. let clash : false ≡ true = unsure (subst (λ (x : Device). IsTrue x.never_fails) (sym (at e)) never) in cc;
      };
      dirty = λ e. subst (λ (x : Device). IsTrue x.dirty) (at e) dirty;
      after = f v;
      unsynced = λ e. subst (λ (x : Device). IsUnsynced x (f v)) (at e) unsynced;
      leaves = leaves;
    } in
    let count : i ≡ i + 1 - 1 = omega arith in
    (omega arith, subst (λ k. LeafUnsynced k old new) count here)

-- one leaf more of such devices is synced
pub synced-next : {X : Type 0} (f : X → Device) (old : List Device) (xs : List X) (i : ℕ) (d v : X) → i < length xs → map f xs ≡ synced_first i old → f v ≡ synced (f (get_or xs i d))
    → map f (set xs i v) ≡ synced_first (i + 1) old
synced-next f old xs i d v there same done =
    let e : Device = f d in
    let inside : i < length old = omega (arith, there, length-map xs f, ap length same, length-first old i) in
    let at : f (get_or xs i d) ≡ get_or old i e = sym (get_or-map f xs i d e there) ∙ ap (λ (l : List Device). get_or l i e) same ∙ synced-at old i e in
    let count : suc i ≡ i + 1 = omega arith in
    map-set f xs i v ∙ ap (λ (l : List Device). set l i (f v)) same ∙ ap (λ (x : Device). set (synced_first i old) i x) (done ∙ ap synced at) ∙ synced-more old i e inside ∙ ap (λ k. synced_first k old) count
