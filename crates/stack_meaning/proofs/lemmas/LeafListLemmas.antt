-- One read of the leaves after another.
use Rattle.std.proofs.Common.{true, false, drop, ◌≡◌, ℕ, suc, ◌+◌, ◌-◌, ◌^◌, ◌<◌, ◌≤◌, Bool, IsTrue, List, [], ◌∷◌, length, get_or, map, refl, sym, ap, ◌∙◌, subst, arith, inl, inr}
use Rattle.std.specs.Prelude.{if◌then◌else◌}
use Rattle.std.proofs.lemmas.List.{get_or-map, get_or_past, length-map}
use Rattle.std.proofs.lemmas.Bool.{cases_lt}
use Rattle.block_device.specs.Device.{Device}
use Rattle.stack_rules.specs.Records.{LeafRecord}
use Rattle.stack_meaning.specs.Outcomes.{Images}
use Rattle.stack_meaning.specs.Leaves.{images_of, steady_image, steady_images, AreSteady, sizes_of, flags_of, ServeLeaves, Fixed, fixed_part, AllSteady, Counts, Moves, KeepsImages, AreRead, LeafFailed}

-- ---- nothing was moved

Counts-none : (counter : Device → ℕ) (most : ℕ) (leaves : List Device) → Counts counter most leaves leaves
Counts-none counter most leaves = record { sum = omega arith; none = λ _. refl }

pub Moves-none : (reads writes : ℕ) (leaves : List Device) → Moves reads writes leaves leaves
Moves-none reads writes leaves = record {
  fixed = refl;
  reads = Counts-none (λ l. l.reads) reads leaves;
  writes = Counts-none (λ l. l.writes) writes leaves;
  failures = λ i d. omega arith;
  never_fails = λ i d h. h;
}

pub AreRead-none : (most : ℕ) (leaves : List Device) → AreRead leaves most leaves
AreRead-none most leaves = record { moved = Moves-none most 0 leaves; images = record { image = λ i d h. refl } }

-- ---- the leaves have the same sizes, flags and steadiness

pub same_length : (old new : List Device) → map fixed_part new ≡ map fixed_part old → length new ≡ length old
same_length old new e = sym (length-map new fixed_part) ∙ ap length e ∙ length-map old fixed_part

-- steadiness is one of the fixed fields
steady_at : (old new : List Device) → map fixed_part new ≡ map fixed_part old → (i : ℕ) (d : Device) → i < length old → IsTrue (get_or old i d).steady → IsTrue (get_or new i d).steady
steady_at old new e i d h steady =
    let same : fixed_part (get_or new i d) ≡ fixed_part (get_or old i d) =
    sym (get_or-map fixed_part new i d (fixed_part d) (omega (arith, h, same_length old new e))) ∙ ap (λ (l : List Fixed). get_or l i (fixed_part d)) e ∙ get_or-map fixed_part old i d (fixed_part d) h in
    subst IsTrue (sym (ap (λ (x : Fixed). x.steady) same)) steady

-- also of a default
pub steady_kept : (old new : List Device) → map fixed_part new ≡ map fixed_part old → (i : ℕ) (d : Device) → IsTrue (get_or old i d).steady → IsTrue (get_or new i d).steady
steady_kept old new e i d h = elim (cases_lt i (length old)) [
  | inl low ↦ steady_at old new e i d low h
  | inr high ↦ let was : IsTrue d.steady = subst (λ (x : Device). IsTrue x.steady) (get_or_past old i d high) h in
      subst (λ (x : Device). IsTrue x.steady) (sym (get_or_past new i d (omega (arith, high, same_length old new e)))) was
]

pub AreSteady-kept : {these : ℕ → Bool} (old new : List Device) → map fixed_part new ≡ map fixed_part old → AreSteady these old → AreSteady these new
AreSteady-kept old new e steady i d h is = let below : i < length old = omega (arith, h, same_length old new e) in steady_at old new e i d below (steady i d below is)

-- fewer leaves
pub AreSteady-within : {these more : ℕ → Bool} (leaves : List Device) → ((i : ℕ) → IsTrue (these i) → IsTrue (more i)) → AreSteady more leaves → AreSteady these leaves
AreSteady-within leaves within steady i d h is = steady i d h (within i is)

pub some-steady : (these : ℕ → Bool) (leaves : List Device) → AllSteady leaves → AreSteady these leaves
some-steady these leaves steady i d h is = steady i d h

pub AllSteady-kept : (old new : List Device) → map fixed_part new ≡ map fixed_part old → AllSteady old → AllSteady new
AllSteady-kept old new e steady i d h = let below : i < length old = omega (arith, h, same_length old new e) in steady_at old new e i d below (steady i d below)

-- a steady leaf's image is known
pub known-image : (x : Device) → IsTrue x.steady → steady_image x ≡ x.image
known-image x is = go x.steady is
  where
    go : (b : Bool) → IsTrue b → (if b then x.image else []) ≡ x.image
    go true is = refl
    go false is = absurd cc

image-same : (x y : Device) → y.steady ≡ x.steady → (IsTrue x.steady → y.image ≡ x.image) → steady_image y ≡ steady_image x
image-same x y e same = go x.steady y.steady e same
  where
    go : (a b : Bool) → b ≡ a → (IsTrue a → y.image ≡ x.image) → (if b then y.image else []) ≡ (if a then x.image else [])
    go true true e same = same refl
    go true false e same = absurd cc
    go false true e same = absurd cc
    go false false e same = refl

images-same : (old new : List Device) → map fixed_part new ≡ map fixed_part old → ((i : ℕ) (d : Device) → IsTrue (get_or old i d).steady → (get_or new i d).image ≡ (get_or old i d).image) → steady_images new ≡ steady_images old
images-same [] [] e same = refl
images-same [] (y ∷ new) e same = absurd (omega (arith, same_length [] (y ∷ new) e))
images-same (x ∷ old) [] e same = absurd (omega (arith, same_length (x ∷ old) [] e))
images-same (x ∷ old) (y ∷ new) e same =
    let one : fixed_part y ≡ fixed_part x = ap (λ (l : List Fixed). get_or l 0 (fixed_part x)) e in
    let more : map fixed_part new ≡ map fixed_part old = ap (drop 1) e in
    let first : steady_image y ≡ steady_image x = image-same x y (ap (λ (f : Fixed). f.steady) one) (same 0 x) in
    let rest = images-same old new more (λ i d h. same (suc i) d h) in
    ap (λ (image : List (List ℕ)). image ∷ steady_images new) first ∙ ap (λ (images : Images). steady_image x ∷ images) rest

-- no read changes the image of a steady leaf
pub images-kept : {old new : List Device} {n : ℕ} → AreRead old n new → steady_images new ≡ steady_images old
images-kept {old = old} {new = new} a = images-same old new a.moved.fixed a.images.image

-- where all leaves are steady, their images are those that are known
pub all-images : (leaves : List Device) → AllSteady leaves → steady_images leaves ≡ images_of leaves
all-images [] steady = refl
all-images (x ∷ leaves) steady =
    let first : steady_image x ≡ x.image = known-image x (steady 0 x (omega arith)) in
    ap (λ (image : List (List ℕ)). image ∷ steady_images leaves) first ∙ ap (λ (images : Images). x.image ∷ images) (all-images leaves (λ i d h. steady (suc i) d (omega (arith, h))))

-- ---- one call after another

Counts-then : {counter : Device → ℕ} {m n : ℕ} {old mid new : List Device} → Counts counter m old mid → Counts counter n mid new → Counts counter (m + n) old new
Counts-then a b = record { sum = omega (arith, a.sum, b.sum); none = λ e. b.none (omega (arith, e)) ∙ a.none (omega (arith, e)) }

pub Counts-more : {counter : Device → ℕ} {m n : ℕ} {old new : List Device} → m ≤ n → Counts counter m old new → Counts counter n old new
Counts-more h a = record { sum = omega (arith, h, a.sum); none = λ e. a.none (omega (arith, h, e)) }

pub Moves-then : {r w r' w' : ℕ} {old mid new : List Device} → Moves r w old mid → Moves r' w' mid new → Moves (r + r') (w + w') old new
Moves-then a b = record {
  fixed = b.fixed ∙ a.fixed;
  reads = Counts-then a.reads b.reads;
  writes = Counts-then a.writes b.writes;
  failures = λ i d. omega (arith, a.failures i d, b.failures i d);
  never_fails = λ i d h. b.never_fails i d (a.never_fails i d h);
}

pub KeepsImages-then : {old mid new : List Device} → map fixed_part mid ≡ map fixed_part old → KeepsImages old mid → KeepsImages mid new → KeepsImages old new
KeepsImages-then {old = old} {mid = mid} e a b = record { image = λ i d steady. b.image i d (steady_kept old mid e i d steady) ∙ a.image i d steady }

pub AreRead-then : {m n : ℕ} {old mid new : List Device} → AreRead old m mid → AreRead mid n new → AreRead old (m + n) new
AreRead-then a b = record { moved = Moves-then a.moved b.moved; images = KeepsImages-then a.moved.fixed a.images b.images }

pub AreRead-more : {m n : ℕ} {old new : List Device} → m ≤ n → AreRead old m new → AreRead old n new
AreRead-more h a =
    let moved = a.moved in
    record {
      moved = record { fixed = moved.fixed; reads = Counts-more h moved.reads; writes = moved.writes; failures = moved.failures; never_fails = moved.never_fails };
      images = a.images;
    }

-- a leaf that failed in a later call failed in both together
pub failed_later : {i r w r' w' : ℕ} {old mid new : List Device} → Moves r w old mid → Moves r' w' mid new → LeafFailed i mid new → LeafFailed i old new
failed_later {i = i} {old = old} {mid = mid} a b f = record {
  inside = omega (arith, f.inside, same_length old mid a.fixed);
  failed = λ d. elim (f.failed d) [
    | inl grew ↦ inl (omega (arith, grew, a.failures i d))
    | inr full ↦ elim (cases_lt (get_or old i d).failures (2 ^ 64 - 1)) [ inl below ↦ inl (omega (arith, below, full, a.failures i d, b.failures i d)) | inr above ↦ inr (omega (arith, above, full, a.failures i d)) ]
  ];
  unsure = λ d h. f.unsure d (a.never_fails i d h);
}

-- and so did one that failed in an earlier call
pub failed_earlier : {i r w : ℕ} {old mid new : List Device} → Moves r w mid new → LeafFailed i old mid → LeafFailed i old new
failed_earlier {i = i} b f = record {
  inside = f.inside;
  failed = λ d. elim (f.failed d) [
    | inl grew ↦ inl (omega (arith, grew, b.failures i d))
    | inr full ↦ inr full
  ];
  unsure = f.unsure;
}

sizes_by_fixed : (leaves : List Device) → sizes_of leaves ≡ map (λ (x : Fixed). x.size) (map fixed_part leaves)
sizes_by_fixed [] = refl
sizes_by_fixed (l ∷ leaves) = ap (λ (rest : List ℕ). l.size ∷ rest) (sizes_by_fixed leaves)

flags_by_fixed : (leaves : List Device) → flags_of leaves ≡ map (λ (x : Fixed). x.may_write) (map fixed_part leaves)
flags_by_fixed [] = refl
flags_by_fixed (l ∷ leaves) = ap (λ (rest : List Bool). l.may_write ∷ rest) (flags_by_fixed leaves)

-- no read changes a size or a flag
pub leaves_kept : (wanted : List LeafRecord) (old new : List Device) → map fixed_part new ≡ map fixed_part old → ServeLeaves wanted old → ServeLeaves wanted new
leaves_kept wanted old new e s = record {
  sizes = sizes_by_fixed new ∙ ap (map (λ (x : Fixed). x.size)) e ∙ sym (sizes_by_fixed old) ∙ s.sizes;
  flags = flags_by_fixed new ∙ ap (map (λ (x : Fixed). x.may_write)) e ∙ sym (flags_by_fixed old) ∙ s.flags;
}
