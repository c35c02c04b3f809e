-- Copies that are read one after another.
use Rattle.std.proofs.Common.{◌≡◌, ◌≢◌, ◌<◌, ◌≤◌, ◌+◌, ◌-◌, ◌^◌, ℕ, IsTrue, List, length, map, set, get_or, ap, sym, ◌∙◌, subst, refl, arith, inl, inr, Result, Ok, Err}
use Rattle.std.specs.Prelude.{IsErrAnd, OnErr}
use Rattle.std.specs.List.{concat}
use Rattle.std.proofs.Math.ListN.{length-set}
use Rattle.std.proofs.lemmas.Bool.{cases_eq, cases_lt}
use Rattle.std.proofs.lemmas.List.{get_or-map, get_or-set_same, get_or-set_other, length-map, map-set}
use Rattle.block_device.specs.Device.{Device, run_of}
use Rattle.verity_format.specs.Blocks.{IsOnlyRead}
use Rattle.verity_format.proofs.lemmas.DeviceLemmas.{only_read-none, only_read-then, steady-then}
use Rattle.tree_survey.specs.Failing.{HasFailedRead}
use Rattle.tree_repair.specs.Sources.{AreEachRead, AreIn, AreNotIn, IsThere, IsWithout, Wanted, bytes_on_device}

bytes-before : (a b : Device) (first n : ℕ) → IsOnlyRead a b → IsTrue a.steady → bytes_on_device b first n ≡ bytes_on_device a first n
bytes-before a b first n read steady = ap (λ (im : List (List ℕ)). concat (run_of im first n)) (read.image steady)

-- a read that failed after others did so from before them
failed-before : (a b c : Device) → IsOnlyRead a b → a.failures ≤ b.failures → b.failures ≤ c.failures → HasFailedRead b c → HasFailedRead a c
failed-before a b c read more then (inl less, unsure) = (inl (omega (arith, more, less)), λ never. unsure (read.same.never_fails never))
failed-before a b c read more then (inr most, unsure) = elim (cases_lt a.failures (2 ^ 64 - 1)) [
  | inl low ↦ (inl (omega (arith, low, most, then)), λ never. unsure (read.same.never_fails never))
  | inr high ↦ (inr (omega (arith, high, most, more)), λ never. unsure (read.same.never_fails never))
]

-- what wasn't read after other reads wasn't read from before them
without-before : (a b c : Device) (first : ℕ) (w : Wanted) → IsOnlyRead a b → a.failures ≤ b.failures → b.failures ≤ c.failures → IsWithout b first w c → IsWithout a first w c
without-before a b c first w read more then (inl short) = inl (omega (arith, short, read.same.size))
without-before a b c first w read more then (inr (inl failed)) = inr (inl (failed-before a b c read more then failed))
without-before a b c first w read more then (inr (inr other)) = inr (inr (record {
  bytes = other.bytes;
  other = other.other;
  stand = λ steady. other.stand (steady-then read.same steady) ∙ bytes-before a b first w.sectors read steady;
}))

pub there-before : (a b : Device) (first : ℕ) (w : Wanted) (bytes : List ℕ) → IsOnlyRead a b → IsThere b first w bytes → IsThere a first w bytes
there-before a b first w bytes read there = record {
  good = there.good;
  stand = λ steady. there.stand (steady-then read.same steady) ∙ bytes-before a b first w.sectors read steady;
}

pub each-none : (old : List Device) → AreEachRead old old
each-none old = record { count = refl; each = λ j low d. only_read-none (get_or old j d); more = λ j low d. omega arith }

pub each-then : (a b c : List Device) → AreEachRead a b → AreEachRead b c → AreEachRead a c
each-then a b c p q = record {
  count = q.count ∙ p.count;
  each = λ j low d. only_read-then (p.each j low d) (q.each j (omega (arith, low, p.count)) d);
  more = λ j low d. omega (arith, p.more j low d, q.more j (omega (arith, low, p.count)) d);
}

-- what holds where a fault is handed on
pub on_err-from : {T E : Type 0} (r : Result T E) (P : E → Type 0) (Q : Type 0) → IsErrAnd r P → Q → OnErr r Q
on_err-from (Ok x) P Q is holds = tt
on_err-from (Err e) P Q is holds = holds

-- of devices that are seen by f, of which each was only read, one more is
module _ {X : Type 0} (f : X → Device) (old : List Device) (xs : List X) (k : ℕ) (d v : X) (inside : k < length xs) (so_far : AreEachRead old (map f xs)) where
  low-here : k < length old
  low-here = omega (arith, inside, length-map xs f, so_far.count)

  pub read-here : (e : Device) → IsOnlyRead (get_or old k e) (f (get_or xs k d))
  read-here e = subst (IsOnlyRead (get_or old k e)) (get_or-map f xs k d e inside) (so_far.each k low-here e)

  more-here : (e : Device) → (get_or old k e).failures ≤ (f (get_or xs k d)).failures
  more-here e = subst (λ (x : Device). (get_or old k e).failures ≤ x.failures) (get_or-map f xs k d e inside) (so_far.more k low-here e)

  pub new-here : (e : Device) → get_or (map f (set xs k v)) k e ≡ f v
  new-here e = ap (λ (l : List Device). get_or l k e) (map-set f xs k v) ∙ get_or-set_same (map f xs) k (f v) e (omega (arith, inside, length-map xs f))

  pub new-other : (j : ℕ) (e : Device) → j ≢ k → get_or (map f (set xs k v)) j e ≡ get_or (map f xs) j e
  new-other j e other = ap (λ (l : List Device). get_or l j e) (map-set f xs k v) ∙ get_or-set_other (map f xs) k j (f v) e other

  pub each-next : IsOnlyRead (f (get_or xs k d)) (f v) → (f (get_or xs k d)).failures ≤ (f v).failures → AreEachRead old (map f (set xs k v))
  each-next read then = record {
    count = length-map (set xs k v) f ∙ length-set xs k v ∙ sym (length-map xs f) ∙ so_far.count;
    each = λ j low e. elim (cases_eq j k) [
      | inl same ↦
          subst (λ (n : ℕ). IsOnlyRead (get_or old n e) (get_or (map f (set xs k v)) n e)) (sym same)
          (subst (IsOnlyRead (get_or old k e)) (sym (new-here e)) (only_read-then (read-here e) read))
      | inr other ↦ subst (IsOnlyRead (get_or old j e)) (sym (new-other j e other)) (so_far.each j low e)
    ];
    more = λ j low e. elim (cases_eq j k) [
      | inl same ↦
          subst (λ (n : ℕ). (get_or old n e).failures ≤ (get_or (map f (set xs k v)) n e).failures) (sym same)
          (subst (λ (x : Device). (get_or old k e).failures ≤ x.failures) (sym (new-here e)) (omega (arith, more-here e, then)))
      | inr other ↦ subst (λ (x : Device). (get_or old j e).failures ≤ x.failures) (sym (new-other j e other)) (so_far.more j low e)
    ];
  }

  pub in-here : (first : ℕ) (w : Wanted) (bytes : List ℕ) → IsThere (f (get_or xs k d)) first w bytes → AreIn old first w (k + 1) bytes
  in-here first w bytes there =
      let same : k ≡ k + 1 - 1 = omega arith in
      record {
        some = omega arith;
        inside = omega (arith, low-here);
        there = λ e. subst (λ (m : ℕ). IsThere (get_or old m e) first w bytes) same (there-before (get_or old k e) (f (get_or xs k d)) first w bytes (read-here e) there);
      }

  pub not-in-next : (first : ℕ) (w : Wanted) → (f (get_or xs k d)).failures ≤ (f v).failures → AreNotIn old (map f xs) first w k → IsWithout (f (get_or xs k d)) first w (f v) → AreNotIn old (map f (set xs k v)) first w (k + 1)
  not-in-next first w then before without j low e = elim (cases_lt j k) [
    | inl less ↦ subst (IsWithout (get_or old j e) first w) (sym (new-other j e (λ same. omega (arith, less, same)))) (before j less e)
    | inr not ↦
        let at : k ≡ j = omega (arith, low, not) in
        subst (λ (n : ℕ). IsWithout (get_or old n e) first w (get_or (map f (set xs k v)) n e)) at
        (subst (IsWithout (get_or old k e) first w) (sym (new-here e)) (without-before (get_or old k e) (f (get_or xs k d)) (f v) first w (read-here e) (more-here e) then without))
  ]
