-- What a write of one leaf does to all of them.
use Rattle.std.proofs.Common.{◌≡◌, ℕ, ◌+◌, ◌-◌, ◌*◌, ◌<◌, ◌≤◌, Bool, true, false, IsTrue, List, length, get_or, set, take, drop, map, Contains, Result, Ok, Err, refl, sym, ap, ◌∙◌, subst, arith, inl, inr}
use Rattle.std.proofs.lemmas.List.{map-set, get_or-map, get_or-set_same, get_or-set_other, length-map, get_or-take, get_or-drop, get_or_default}
use Rattle.std.proofs.lemmas.Bool.{cases_eq, cases_lt}
use Rattle.block_device.specs.Device.{Device, IsWhole, IsWritten, HasFailed, spliced}
use Rattle.stack_rules.specs.declared.lower.Lower.TheVariants.{Leaf}
use Rattle.stack_rules.specs.Records.{Configuration}
use Rattle.stack_rules.specs.Descend.{descend, write_cost}
use Rattle.stack_meaning.specs.declared.fault.IoFault.{IoFault}
use Rattle.stack_meaning.specs.declared.fault.IoFault.TheVariants as io
use Rattle.stack_meaning.specs.Reading.{IsPlain}
use Rattle.stack_meaning.specs.Stops.{ReadStops}
use Rattle.stack_meaning.specs.Outcomes.{LeafSector, zero_sector, Images}
use Rattle.stack_meaning.specs.Meaning.{Said, said_at}
use Rattle.stack_meaning.specs.Puts.{done, leaf_put, put_on}
use Rattle.stack_meaning.specs.Leaves.{steady_image, steady_images, fixed_part, LeafFailed}
use Rattle.stack_meaning.proofs.lemmas.LeafListLemmas.{known-image}
use Rattle.stack_lines.proofs.lemmas.StandingLemmas.{leaf-stands}
use Rattle.stack_meaning.specs.Changes.{LeafSectors, reached, KeepsOthers, AreWritten, NoneRead}
use Rattle.stack_lines.specs.Writing.{AreOneCall, StopsAt, destination_of, WritesSectors}
use Rattle.stack_meaning.proofs.lemmas.CostLemmas.{write_cost-leaf}
use Rattle.stack_meaning.proofs.lemmas.LeafLemmas.{same_map, each_leaf, counts_one, image_at, steady_at, LeafFailed-device}
use Rattle.stack_meaning.proofs.lemmas.SectorLemmas.{said_at-leaf}
use Rattle.stack_meaning.proofs.lemmas.ChangeLemmas.{AreWritten-more}
use Rattle.stack_lines.proofs.lemmas.AskLemmas.{leaf-ends, leaf-fails}
use Rattle.stack_lines.proofs.lemmas.StopLemmas.{stop-here}

-- a sector outside the range that was written
same_outside : (new old : List (List ℕ)) (first n t : ℕ) → take first new ≡ take first old → drop (first + n) new ≡ drop (first + n) old → ((j : ℕ) → j < n → t ≡ first + j → ⊥) → get_or new t zero_sector ≡ get_or old t zero_sector
same_outside new old first n t before after out = elim (cases_lt t first) [
  | inl below ↦ sym (get_or-take first new t zero_sector below) ∙ ap (λ (l : List (List ℕ)). get_or l t zero_sector) before ∙ get_or-take first old t zero_sector below
  | inr above ↦ elim (cases_lt t (first + n)) [
    | inl inside ↦ absurd (out (t - first) (omega (arith, inside, above)) (omega (arith, above)))
    | inr past ↦
        let k : ℕ = t - (first + n) in
        let at : first + n + k ≡ t = omega (arith, past) in
        ap (λ (j : ℕ). get_or new j zero_sector) (sym at) ∙ sym (get_or-drop (first + n) new k zero_sector) ∙ ap (λ (l : List (List ℕ)). get_or l k zero_sector) after
        ∙ get_or-drop (first + n) old k zero_sector ∙ ap (λ (j : ℕ). get_or old j zero_sector) at
  ]
]

module _ (leaves : List Device) (i first n : ℕ) (old new : Device) (h : i < length leaves) (at : get_or leaves i old ≡ old) (some : 0 < n) (these : LeafSectors) (reaches : (j : ℕ) → j < n → these (i, first + j)) where
  others-set : (ok : Bool) → IsWhole old → IsWhole new → IsWritten old first n ok new → KeepsOthers these leaves (set leaves i new)
  others-set ok was is r = record {
    size = each_leaf leaves i old new h at (λ x y. IsTrue x.steady → length y.image ≡ length x.image) (λ steady. is.length ∙ r.same.size ∙ sym was.length) (λ x steady. refl);
    sector = λ k t d steady out. elim (cases_eq k i) [
      | inl here ↦
          let a : get_or (set leaves i new) k d ≡ new = ap (λ (j : ℕ). get_or (set leaves i new) j d) here ∙ get_or-set_same leaves i new d h in
          let b : get_or leaves k d ≡ old = ap (λ (j : ℕ). get_or leaves j d) here ∙ get_or_default leaves i d old h ∙ at in
          let was_steady : IsTrue old.steady = subst (λ (x : Device). IsTrue x.steady) b steady in
          let apart : (j : ℕ) → j < n → t ≡ first + j → ⊥ = λ j low e. out (subst (λ (q : ℕ). these (q, t)) (sym here) (subst (λ (q : ℕ). these (i, q)) (sym e) (reaches j low))) in
          ap (λ (x : Device). get_or x.image t zero_sector) a
          ∙ same_outside new.image old.image first n t (r.before was_steady) (r.after was_steady) apart
          ∙ ap (λ (x : Device). get_or x.image t zero_sector) (sym b)
      | inr other ↦ ap (λ (x : Device). get_or x.image t zero_sector) (get_or-set_other leaves i k new d other)
    ];
    leaf = λ k d out. elim (cases_eq k i) [
      | inl here ↦ absurd (out (first + 0) (subst (λ (q : ℕ). these (q, first + 0)) (sym here) (reaches 0 some)))
      | inr other ↦ get_or-set_other leaves i k new d other
    ];
  }

  AreWritten-set : (ok : Bool) → IsWhole old → IsWhole new → old.failures ≤ new.failures → IsWritten old first n ok new → AreWritten these leaves n (set leaves i new)
  AreWritten-set ok was is grows r = record {
    read = 0;
    written = n;
    within = omega arith;
    moved = record {
      fixed = same_map fixed_part leaves i old new h at (let a = r.same.size in let b = r.same.may_write in let s = r.same.steady in cc);
      reads = counts_one leaves i old new h at (λ l. l.reads) 0 (omega (arith, r.reads)) (λ _. r.reads);
      writes = counts_one leaves i old new h at (λ l. l.writes) n (omega (arith, r.writes)) (λ e. absurd (omega (arith, some, e)));
      failures = each_leaf leaves i old new h at (λ x y. x.failures ≤ y.failures) grows (λ x. omega arith);
      never_fails = each_leaf leaves i old new h at (λ x y. IsTrue x.never_fails → IsTrue y.never_fails) r.same.never_fails (λ x was. was);
    };
    others = others-set ok was is r;
  }

-- a write to one of some devices, whose states are the leaves
module _ {X : Type 0} (state : X → Device) (devices : List X) (i : ℕ) (x : X) (there : i < length devices) where
  pub AreWritten-device : (first n : ℕ) (these : LeafSectors) (ok : Bool) (new : X) → 0 < n → ((j : ℕ) → j < n → these (i, first + j)) → ((y : X) → IsWhole (state y))
      → (state (get_or devices i x)).failures ≤ (state new).failures → IsWritten (state (get_or devices i x)) first n ok (state new)
      → AreWritten these (map state devices) n (map state (set devices i new))
  AreWritten-device first n these ok new some reaches whole grows r =
      subst (AreWritten these (map state devices) n) (sym (map-set state devices i new))
      (AreWritten-set (map state devices) i first n (state (get_or devices i x)) (state new) (omega (arith, there, length-map devices state)) (get_or-map state devices i x _ there) some these reaches ok (whole (get_or devices i x)) (whole new) grows r)

  pub may_write_at : (b : Bool) → get_or (map (λ (d : Device). d.may_write) (map state devices)) i b ≡ (state (get_or devices i x)).may_write
  may_write_at b =
      get_or-map (λ (d : Device). d.may_write) (map state devices) i (state x) b (omega (arith, there, length-map devices state)) ∙ ap (λ (d : Device). d.may_write) (get_or-map state devices i x (state x) there)

-- ---- a write of a leaf's sectors

put-leaf : (c : Configuration) (i s : ℕ) (sectors : List (List ℕ)) (images : Images) → put_on c (Leaf i) s sectors images ≡ leaf_put i s sectors images
unfolding descend
put-leaf c i s sectors images = refl

leaf-has : (c : Configuration) (i s : ℕ) → Contains (said_at c (Leaf i) s).reaches (i, s)
leaf-has c i s = subst (λ (x : Said). Contains x.reaches (i, s)) (sym (said_at-leaf c i s)) (0, omega arith, refl)

-- it reaches each of them
leaf-reaches : (c : Configuration) (i first n j : ℕ) → j < n → reached (λ s. (said_at c (Leaf i) s).reaches) first n (i, first + j)
leaf-reaches c i first n j h = (j, h, leaf-has c i (first + j))

-- its sectors are those of one call
one-call : (c : Configuration) (i first n : ℕ) → AreOneCall (i + 1 - 1) (λ s. (said_at c (Leaf i) s).reaches) (first + 0) n
one-call c i first n =
    let number : i ≡ i + 1 - 1 = omega arith in
    let from : first ≡ first + 0 = omega arith in
    let reaches : ℕ → List LeafSector = λ s. (said_at c (Leaf i) s).reaches in
    let call : AreOneCall i reaches first n = record {
      start = first;
      count = n;
      each = λ j h. (j, h, leaf-has c i (first + j));
      own = λ t h. leaf-reaches c i first n t h;
    } in
    subst (λ (k : ℕ). AreOneCall k reaches (first + 0) n) number (subst (λ (s : ℕ). AreOneCall i reaches s n) from call)

-- a call of a leaf keeps the others
leaf-others : {X : Type 0} (state : X → Device) (devices : List X) (i : ℕ) (c : Configuration) (first n : ℕ) → 0 < n → (new : X) (k : ℕ) (d : Device) → ((t : ℕ) → reached (λ s. (said_at c (Leaf i) s).reaches) first n (k, t) → ⊥)
    → get_or (map state (set devices i new)) k d ≡ get_or (map state devices) k d
leaf-others state devices i c first n some new k d out = elim (cases_eq k i) [
  | inl here ↦ absurd (out (first + 0) (subst (λ (q : ℕ). reached (λ s. (said_at c (Leaf i) s).reaches) first n (q, first + 0)) (sym here) (leaf-reaches c i first n 0 some)))
  | inr other ↦ ap (λ (l : List Device). get_or l k d) (map-set state devices i new) ∙ get_or-set_other (map state devices) i k (state new) d other
]

-- a read of a leaf that failed stops there
pub leaf-stops : {X : Type 0} (state : X → Device) (devices : List X) (i : ℕ) (c : Configuration) (first n : ℕ) → 0 < n → (new : X)
    → ReadStops {A = Unit} (said_at c (Leaf i)) first n (map state devices) (map state (set devices i new)) (Err (io.Device (i + 1)))
leaf-stops state devices i c first n some new = λ counted. record {
  before = 0;
  failed = n;
  some = some;
  inside = omega arith;
  by = one-call c i first n;
  leaf = λ k d out.
      let all : 0 + n ≡ n = omega arith in
      leaf-others state devices i c first n some new k d (λ t x. out t (subst (λ (m : ℕ). reached (λ s. (said_at c (Leaf i) s).reaches) first m (k, t)) (sym all) x));
}

-- a read of a leaf keeps the others
pub leaf-plain : {X : Type 0} (state : X → Device) (devices : List X) (i : ℕ) (c : Configuration) (first n : ℕ) → 0 < n → (new : X) (result : Result Unit IoFault) → (result ≡ Err io.NoMemory → ⊥)
    → ReadStops (said_at c (Leaf i)) first n (map state devices) (map state (set devices i new)) result → IsPlain (said_at c (Leaf i)) first n (map state devices) (map state (set devices i new)) result
leaf-plain state devices i c first n some new result grown stops = record {
  memory = λ is. absurd (grown is);
  leaf = λ none k d out. leaf-others state devices i c first n some new k d out;
  stops = λ none. stops;
}

module _ {X : Type 0} (state : X → Device) (whole : (y : X) → IsWhole (state y)) (devices : List X) (i : ℕ) (x : X) (there : i < length devices) (c : Configuration) (first : ℕ) (sectors : List (List ℕ)) (some : 0 < length sectors) (new : X) where
  leaf-moved : (ok : Bool) → (state (get_or devices i x)).failures ≤ (state new).failures → IsWritten (state (get_or devices i x)) first (length sectors) ok (state new)
      → AreWritten (reached (λ s. (said_at c (Leaf i) s).reaches) first (length sectors)) (map state devices) (length sectors * write_cost c (Leaf i)) (map state (set devices i new))
  leaf-moved ok grows r =
      let one : length sectors * write_cost c (Leaf i) ≡ length sectors * 1 = ap (λ (k : ℕ). length sectors * k) (write_cost-leaf c i) in
      AreWritten-more (λ p h. h) (omega (arith, one))
      (AreWritten-device state devices i x there first (length sectors) (reached (λ s. (said_at c (Leaf i) s).reaches) first (length sectors)) ok new some (leaf-reaches c i first (length sectors)) whole grows r)

  leaf-unread : (ok : Bool) → IsWritten (state (get_or devices i x)) first (length sectors) ok (state new) → NoneRead (map state devices) (map state (set devices i new))
  leaf-unread ok r =
      ap (λ (l : List Device). map (λ (d : Device). d.reads) l) (map-set state devices i new)
      ∙ same_map (λ (d : Device). d.reads) (map state devices) i (state (get_or devices i x)) (state new) (omega (arith, there, length-map devices state)) (get_or-map state devices i x _ there) r.reads

  pub leaf-written : (state (get_or devices i x)).failures ≤ (state new).failures → IsWritten (state (get_or devices i x)) first (length sectors) true (state new)
      → (IsTrue (state (get_or devices i x)).steady → (state new).image ≡ spliced (state (get_or devices i x)).image first sectors)
      → WritesSectors (destination_of c (Leaf i)) first sectors (map state devices) (map state (set devices i new)) (Ok tt)
  leaf-written grows r image = record {
    moved = leaf-moved true grows r;
    ends = tt;
    grown = λ e. cc;
    exact = λ steady.
        let images : Images = steady_images (map state devices) in
        let is : IsTrue (state (get_or devices i x)).steady = steady_at state devices i x there (leaf-stands c i) steady in
        put-leaf c i first sectors images
        ∙ ap (λ (l : List (List ℕ)). done (set images i (spliced l first sectors))) (image_at state devices i x there is)
        ∙ ap (λ (l : List (List ℕ)). done (set images i l)) (sym (image is) ∙ sym (known-image (state new) (ap (λ (b : Bool). b) r.same.steady ∙ is)))
        ∙ ap done (sym (ap steady_images (map-set state devices i new) ∙ map-set steady_image (map state devices) i (state new)));
    stops = tt;
    behind = λ steady. tt;
    unread = λ none. leaf-unread true r;
    fails = leaf-ends state devices i x there new {A = Unit {0}} tt r.failures;
  }

  -- the sectors of a call of the leaf's device that failed
  abbrev leaf-stop : (state (get_or devices i x)).failures ≤ (state new).failures → IsWritten (state (get_or devices i x)) first (length sectors) false (state new)
      → StopsAt (said_at c (Leaf i)) first (length sectors) (io.Device (i + 1)) (map state devices) (map state (set devices i new))
  leaf-stop grows r =
      let all : 0 + length sectors ≡ length sectors = omega arith in
      let reaches : ℕ → List LeafSector = λ s. (said_at c (Leaf i) s).reaches in
      record {
        before = 0;
        failed = length sectors;
        some = some;
        inside = omega arith;
        by = one-call c i first (length sectors);
        others = subst (λ (n : ℕ). KeepsOthers (reached reaches first n) (map state devices) (map state (set devices i new))) (sym all) (leaf-moved false grows r).others;
      }

  pub leaf-failed : (state (get_or devices i x)).failures ≤ (state new).failures → IsWritten (state (get_or devices i x)) first (length sectors) false (state new)
      → HasFailed (state (get_or devices i x)) (state new) → (IsTrue (state (get_or devices i x)).never_fails → ⊥)
      → WritesSectors (destination_of c (Leaf i)) first sectors (map state devices) (map state (set devices i new)) (Err (io.Device (i + 1)))
  leaf-failed grows r failed unsure =
      let number : i ≡ i + 1 - 1 = omega arith in
      record {
        moved = leaf-moved false grows r;
        ends = (omega arith, subst (λ (k : ℕ). LeafFailed k (map state devices) (map state (set devices i new))) number (LeafFailed-device state devices i x there new failed unsure));
        grown = λ e. cc;
        exact = λ steady. tt;
        stops = λ counted. leaf-stop grows r;
        behind = λ steady counted. stop-here (destination_of c (Leaf i)) first sectors (leaf-moved false grows r).moved.fixed (leaf-stop grows r) (λ j h. absurd (omega (arith, h)));
        unread = λ none. leaf-unread false r;
        fails = leaf-fails state devices i x there new (Unit {0}) r.failures;
      }
