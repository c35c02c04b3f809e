-- Where writes stop that a fault ends.
use Rattle.std.proofs.Common.{◌≡◌, ◌⊎◌, inl, inr, ℕ, zero, suc, ◌+◌, ◌-◌, ◌^◌, ◌<◌, ◌≤◌, true, List, [], ◌∷◌, ◌++◌, length, get_or, take, map, Contains, refl, sym, ap, ◌∙◌, subst, arith}
use Rattle.std.proofs.lemmas.Bool.{cases_eq, cases_lt}
use Rattle.std.proofs.lemmas.List.{length-append, take-append-le}
use Rattle.std.proofs.Math.Seq.{take-append-add}
use Rattle.block_device.specs.Device.{Device, in_memory}
use Rattle.stack_meaning.specs.declared.fault.IoFault.{IoFault}
use Rattle.stack_meaning.specs.declared.fault.IoFault.TheVariants as io
use Rattle.stack_meaning.specs.Outcomes.{LeafSector, Images}
use Rattle.stack_meaning.specs.Leaves.{steady_images, fixed_part, LeafFailed}
use Rattle.stack_meaning.specs.Meaning.{Said}
use Rattle.stack_meaning.specs.Puts.{Put, Putting, done, then_put}
use Rattle.stack_meaning.specs.Changes.{LeafSectors, reached, KeepsOthers, DifferWithin}
use Rattle.stack_lines.specs.Writing.{Destination, FailedBy, StopsAt, StopsBehind, put_some, with_some}
pub use Rattle.stack_meaning.proofs.lemmas.UpLemmas.{IsUp, up-same}
use Rattle.stack_meaning.proofs.lemmas.UpLemmas.{failed-up, up-from, among-from, among-first, failed-first, among-one}
use Rattle.stack_meaning.proofs.lemmas.ChangeLemmas.{Among, reached-first, reached-later, KeepsOthers-more, KeepsOthers-then, differ-within}

-- ---- sectors of one place, as those of another

module _ (said said' : ℕ → Said) (first first' n : ℕ) (up : (j : ℕ) → j < n → IsUp (said (first + j)) (said' (first' + j))) where
  abbrev pub stop-up : {fault : IoFault} {old new : List Device} → StopsAt said first n fault old new → StopsAt said' first' n fault old new
  stop-up {fault = fault} q = record {
    before = q.before;
    failed = q.failed;
    some = q.some;
    inside = q.inside;
    by = failed-up said said' (first + q.before) (first' + q.before) q.failed fault (up-from said said' first first' n up q.before q.failed q.inside) q.by;
    others = KeepsOthers-more (among-first said said' first first' n up (q.before + q.failed) q.inside) q.others;
  }

-- ---- images

differ-more : {these more : LeafSectors} {old new : Images} → Among these more → DifferWithin these old new → DifferWithin more old new
differ-more among d = record { leaves = d.leaves; sizes = d.sizes; sector = λ i t out. d.sector i t (λ x. out (among (i, t) x)) }

-- sectors reached from s on are among those reached from an equal s' on, if these are no fewer
reached-as : (reaches : ℕ → List LeafSector) (s s' n n' : ℕ) → s ≡ s' → n ≤ n' → Among (reached reaches s n) (reached reaches s' n')
reached-as reaches s s' n n' e h p some = (some.0, omega (arith, some.1, h), subst (λ (k : ℕ). Contains (reaches (k + some.0)) p) e some.2)

-- ---- where it is known to stop

-- sectors before which all are encrypted stop a write before any is known to be put
pub stop-here : (to : Destination) (first : ℕ) (sectors : List (List ℕ)) {fault : IoFault} {old new : List Device} → map fixed_part new ≡ map fixed_part old → (stop : StopsAt to.said first (length sectors) fault old new)
    → ((j : ℕ) → j < stop.before → (to.said (first + j)).encrypts) → StopsBehind (with_some to) first sectors fault old new
stop-here to first sectors {old = old} {new = new} fixed stop all = record {
  stop = stop;
  put = 0;
  within = omega arith;
  together = λ j low h. all j h;
  images = steady_images old;
  is = refl;
  others = differ-within old new fixed
      (KeepsOthers-more (reached-as (λ s. (to.said s).reaches) first (first + 0) (stop.before + stop.failed) (stop.before + stop.failed - 0) (omega arith) (omega arith)) stop.others);
}

-- ---- after other sectors

-- the next sectors stop a write of more
abbrev pub stop-later : {said : ℕ → Said} {fault : IoFault} {old mid new : List Device} (first a m n : ℕ) → a + m ≤ n → map fixed_part mid ≡ map fixed_part old → KeepsOthers (reached (λ s. (said s).reaches) first a) old mid
    → StopsAt said (first + a) m fault mid new → StopsAt said first n fault old new
stop-later {said = said} {fault = fault} first a m n h fixed front q =
    let at : first + a + q.before ≡ first + (a + q.before) = omega arith in
    record {
      before = a + q.before;
      failed = q.failed;
      some = q.some;
      inside = omega (arith, h, q.inside);
      by = subst (λ (s : ℕ). FailedBy said fault s q.failed) at q.by;
      others = KeepsOthers-then fixed (KeepsOthers-more (reached-first (λ s. (said s).reaches) first a (a + q.before + q.failed) (omega arith)) front)
          (KeepsOthers-more (reached-later (λ s. (said s).reaches) first a (q.before + q.failed) (a + q.before + q.failed) (omega arith)) q.others);
    }

-- a put that changes nothing where nothing is put
abbrev pub PutsNothing : (ℕ → Putting) → Type 0
PutsNothing puts = (s : ℕ) (images : Images) → puts s [] images ≡ done images

pub some-is : (puts : ℕ → Putting) → PutsNothing puts → (s : ℕ) (sectors : List (List ℕ)) (images : Images) → put_some puts s sectors images ≡ puts s sectors images
some-is puts none s [] images = sym (none s images)
some-is puts none s (x ∷ xs) images = refl

module _ (to : Destination) (none : PutsNothing to.puts) (first : ℕ) (xs ys zs : List (List ℕ)) where
  long : length xs + length ys ≤ length (xs ++ (ys ++ zs))
  long = omega (arith, length-append xs (ys ++ zs), length-append ys zs)

  front-of : (k : ℕ) → k ≤ length ys → take (length xs + k) (xs ++ (ys ++ zs)) ≡ xs ++ take k ys
  front-of k h = take-append-add xs (ys ++ zs) k ∙ ap (λ (l : List (List ℕ)). xs ++ l) (take-append-le k ys zs h)

  pub behind-later : {fault : IoFault} {old mid new : List Device} → map fixed_part mid ≡ map fixed_part old → KeepsOthers (reached (λ s. (to.said s).reaches) first (length xs)) old mid → to.puts first xs (steady_images old) ≡ done (steady_images mid)
      → ((l : List (List ℕ)) (images : Images) → to.puts first (xs ++ l) images ≡ then_put (to.puts first xs images) (to.puts (first + length xs) l))
      → StopsBehind (with_some to) (first + length xs) ys fault mid new → StopsBehind (with_some to) first (xs ++ (ys ++ zs)) fault old new
  behind-later {old = old} {mid = mid} fixed front put parts q =
      let a : ℕ = length xs in
      let reaches : ℕ → List LeafSector = λ s. (to.said s).reaches in
      let fits : q.put ≤ length ys = omega (arith, q.within, q.stop.inside) in
      record {
        stop = stop-later first a (length ys) (length (xs ++ (ys ++ zs))) long fixed front q.stop;
        put = a + q.put;
        within = omega (arith, q.within);
        together = λ j low h.
            let at : first + a + (j - a) ≡ first + j = omega (arith, low) in
            subst (λ (s : ℕ). (to.said s).encrypts) at (q.together (j - a) (omega (arith, low)) (omega (arith, low, h)));
        images = q.images;
        is =
            ap (λ (l : List (List ℕ)). put_some to.puts first l (steady_images old)) (front-of q.put fits)
            ∙ some-is to.puts none first (xs ++ take q.put ys) (steady_images old)
            ∙ parts (take q.put ys) (steady_images old)
            ∙ ap (λ (p : Put). then_put p (to.puts (first + a) (take q.put ys))) put
            ∙ sym (some-is to.puts none (first + a) (take q.put ys) (steady_images mid))
            ∙ q.is;
        others = differ-more
            (reached-as reaches (first + a + q.put) (first + (a + q.put)) (q.stop.before + q.stop.failed - q.put) (a + q.stop.before + q.stop.failed - (a + q.put)) (omega arith) (omega arith))
            q.others;
      }

-- ---- the same sectors of another place

pub behind-as : (to to' : Destination) (first first' : ℕ) (sectors : List (List ℕ)) {fault : IoFault} {old new : List Device}
    → ((j : ℕ) → j < length sectors → IsUp (to.said (first + j)) (to'.said (first' + j)))
    → ((k : ℕ) (images : Images) → put_some to.puts first (take k sectors) images ≡ put_some to'.puts first' (take k sectors) images)
    → StopsBehind (with_some to) first sectors fault old new → StopsBehind (with_some to') first' sectors fault old new
behind-as to to' first first' sectors {old = old} up puts q =
    record {
      stop = stop-up to.said to'.said first first' (length sectors) up q.stop;
      put = q.put;
      within = q.within;
      together = λ j low h. (up j (omega (arith, h, q.stop.inside, q.stop.some))).encrypts (q.together j low h);
      images = q.images;
      is = sym (puts q.put (steady_images old)) ∙ q.is;
      others = differ-more (among-from to.said to'.said first first' (length sectors) up q.put (q.stop.before + q.stop.failed - q.put) (omega (arith, q.within, q.stop.inside))) q.others;
    }

-- put by what changes nothing where nothing is put
pub behind-of : (to : Destination) (first : ℕ) (sectors : List (List ℕ)) {fault : IoFault} {old new : List Device} → PutsNothing to.puts → StopsBehind (with_some to) first sectors fault old new → StopsBehind to first sectors fault old new
behind-of to first sectors {old = old} none q = record {
  stop = q.stop;
  put = q.put;
  within = q.within;
  together = q.together;
  images = q.images;
  is = sym (some-is to.puts none first (take q.put sectors) (steady_images old)) ∙ q.is;
  others = q.others;
}

-- ---- sectors of which each has what all of some others have

module _ (said said' : ℕ → Said) (first first' m n : ℕ) (some : 0 < n) (up : (j : ℕ) → j < m → IsUp (said (first + j)) (said' first')) where
  -- the first one stops where one of those stopped, after what changed no more than what it reaches
  abbrev pub stop-first : {fault : IoFault} {old mid new : List Device} → map fixed_part mid ≡ map fixed_part old → KeepsOthers (reached (λ s. (said' s).reaches) first' (0 + 1)) old mid → StopsAt said first m fault mid new → StopsAt said' first' n fault old new
  stop-first {fault = fault} fixed front q = record {
    before = 0;
    failed = 1;
    some = omega arith;
    inside = omega (arith, some);
    by = failed-first said said' first first' m n some up fault q.before q.failed q.some q.inside q.by;
    others = KeepsOthers-then fixed front (KeepsOthers-more (among-one said said' first first' m n some up (q.before + q.failed) q.inside) q.others);
  }

-- ---- the leaves that are reached

abbrev HasLeaf : List LeafSector → ℕ → Type 0
HasLeaf xs i = (t : ℕ) × Contains xs (i, t)

has-leaf : (xs : List LeafSector) (i : ℕ) → HasLeaf xs i ⊎ ((t : ℕ) → Contains xs (i, t) → ⊥)
has-leaf [] i = inr (λ t h. omega (arith, h.1))
has-leaf (x ∷ xs) i = elim (cases_eq x.0 i) [
  | inl here ↦ inl (x.1, (0, omega arith, ap (λ (k : ℕ). (k, x.1)) here))
  | inr other ↦ elim (has-leaf xs i) [
    | inl found ↦ inl (found.0, (suc found.1.0, omega (arith, found.1.1), found.1.2))
    | inr none ↦ inr (λ t h. go other none t h.0 h.1 h.2)
  ]
]
  where
    go : (x.0 ≡ i → ⊥) → ((t : ℕ) → Contains xs (i, t) → ⊥) → (t k : ℕ) → k < length (x ∷ xs) → get_or (x ∷ xs) k (i, t) ≡ (i, t) → ⊥
    go other none t zero low is = other (ap (λ (p : LeafSector). p.0) is)
    go other none t (suc k) low is = none t (k, omega (arith, low), is)

-- n sectors from the first on reach some sector of leaf i
abbrev pub ReachLeaf : (ℕ → List LeafSector) → ℕ → ℕ → ℕ → Type 0
ReachLeaf reaches first n i = (t : ℕ) × reached reaches first n (i, t)

pub reach-leaf : (reaches : ℕ → List LeafSector) (first n i : ℕ) → ReachLeaf reaches first n i ⊎ ((t : ℕ) → reached reaches first n (i, t) → ⊥)
reach-leaf reaches first zero i = inr (λ t h. omega (arith, h.1))
reach-leaf reaches first (suc n) i = elim (has-leaf (reaches (first + n)) i) [
  | inl found ↦ inl (found.0, (n, omega arith, found.1))
  | inr none ↦ elim (reach-leaf reaches first n i) [
    | inl found ↦ inl (found.0, (found.1.0, omega (arith, found.1.1), found.1.2))
    | inr before ↦ inr (λ t h. elim (cases_lt h.0 n) [
      | inl low ↦ before t (h.0, low, h.2)
      | inr high ↦ let last : h.0 ≡ n = omega (arith, high, h.1) in none t (subst (λ (k : ℕ). Contains (reaches (first + k)) (i, t)) last h.2)
    ])
  ]
]

-- a leaf that failed, which is as it was where none of its sectors is reached, is reached
pub failed-reached : (reaches : ℕ → List LeafSector) (first n i : ℕ) {old new : List Device} → LeafFailed i old new → ((d : Device) → (get_or new i d).failures < 2 ^ 64 - 1) → ((d : Device) → ((t : ℕ) → reached reaches first n (i, t) → ⊥) → get_or new i d ≡ get_or old i d)
    → ReachLeaf reaches first n i
failed-reached reaches first n i {old = old} {new = new} failed counted same = elim (reach-leaf reaches first n i) [
  | inl found ↦ found
  | inr none ↦
      let d : Device = in_memory [] true in
      let e : (get_or new i d).failures ≡ (get_or old i d).failures = ap (λ (x : Device). x.failures) (same d none) in
      absurd (elim (failed.failed d) [ inl grew ↦ omega (arith, grew, e) | inr full ↦ omega (arith, full, e, counted d) ])
]

-- If a leaf failed, another one that the last sector alone reaches wasn't accessed, so nothing went on after the fault.
pub last-unasked : (said : ℕ → Said) (first a i k : ℕ) {old new : List Device} (d : Device) → StopsAt said first (a + 1) (io.Device i) old new → ((t : ℕ) → Contains (said (first + a)).reaches (i - 1, t) → ⊥)
    → ((t : ℕ) → reached (λ s. (said s).reaches) first a (k, t) → ⊥) → get_or new k d ≡ get_or old k d
last-unasked said first a i k d q last front = elim (cases_lt (q.before + q.failed) (a + 1)) [
  | inl low ↦ q.others.leaf k d (λ t h. front t (h.0, omega (arith, low, h.1), h.2))
  | inr high ↦
      let j : ℕ = q.failed - 1 in
      let one = q.by.each j (omega (arith, q.some)) in
      let at : first + q.before + j ≡ first + a = omega (arith, q.some, q.inside, high) in
      absurd (last (q.by.start + one.0) (subst (λ (s : ℕ). Contains (said s).reaches (i - 1, q.by.start + one.0)) at one.2))
]
