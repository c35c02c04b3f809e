-- What a read of one leaf does to all of them.
use Rattle.std.proofs.Common.{◌≡◌, ℕ, zero, suc, ◌+◌, ◌<◌, ◌≤◌, Bool, IsTrue, List, [], ◌∷◌, length, get_or, set, map, refl, sym, ap, ◌∙◌, subst, arith, inl, inr}
use Rattle.std.specs.Prelude.{slice_get, All}
use Rattle.std.specs.Option.{option_map_or}
use Rattle.std.proofs.lemmas.List.{map-set, set-get_or, get_or-map, get_or-set_same, get_or-set_other, length-set, length-map, get_or_default}
use Rattle.std.proofs.lemmas.List.Sums.{sum_by-set}
use Rattle.std.proofs.lemmas.List.Elements.{All-nil, All-cons}
use Rattle.std.proofs.lemmas.Bool.{cases_eq}
use Rattle.block_device.specs.Device.{Device, IsRead, IsWhole, HasFailed}
use Rattle.stack_rules.specs.Records.{LeafRecord}
use Rattle.stack_meaning.specs.Leaves.{steady_image, steady_images, ServeLeaves, fixed_part, AreSteady, Counts, AreRead, LeafFailed}
use Rattle.stack_meaning.proofs.lemmas.LeafListLemmas.{known-image}

-- a field that is the same at the one leaf that was set
pub same_map : {X : Type 0} (f : Device → X) (leaves : List Device) (i : ℕ) (old new : Device) → i < length leaves → get_or leaves i old ≡ old → f new ≡ f old → map f (set leaves i new) ≡ map f leaves
same_map f leaves i old new h at e =
    map-set f leaves i new
    ∙ ap (set (map f leaves) i) (e ∙ sym (ap f at) ∙ sym (get_or-map f leaves i old (f old) h))
    ∙ set-get_or (map f leaves) i (f old)

module _ (leaves : List Device) (i : ℕ) (old new : Device) (h : i < length leaves) (at : get_or leaves i old ≡ old) where
  -- what is said of the one leaf that was set, and of each other, which is as it was
  pub each_leaf : (Q : Device → Device → Type 0) → Q old new → ((x : Device) → Q x x) → (j : ℕ) (d : Device) → Q (get_or leaves j d) (get_or (set leaves i new) j d)
  each_leaf Q one same j d = elim (cases_eq j i) [
    | inl here ↦ let a : get_or (set leaves i new) j d ≡ new = ap (λ (k : ℕ). get_or (set leaves i new) k d) here ∙ get_or-set_same leaves i new d h in
        let b : get_or leaves j d ≡ old = ap (λ (k : ℕ). get_or leaves k d) here ∙ get_or_default leaves i d old h ∙ at in
        subst (λ (x : Device). Q x (get_or (set leaves i new) j d)) (sym b) (subst (Q old) (sym a) one)
    | inr other ↦ subst (Q (get_or leaves j d)) (sym (get_or-set_other leaves i j new d other)) (same (get_or leaves j d))
  ]

  pub counts_one : (counter : Device → ℕ) (n : ℕ) → counter new ≤ counter old + n → (n ≡ 0 → counter new ≡ counter old) → Counts counter n leaves (set leaves i new)
  counts_one counter n most none = record {
    sum = omega (arith, sum_by-set counter leaves i new old h, ap counter at, most);
    none = λ e. same_map counter leaves i old new h at (none e);
  }

  AreRead-set : (n : ℕ) (ok : Bool) → 0 < n → old.failures ≤ new.failures → IsRead old n ok new → AreRead leaves n (set leaves i new)
  AreRead-set n ok some grows r = record {
    moved = record {
      fixed = same_map fixed_part leaves i old new h at (let a = r.same.size in let b = r.same.may_write in let s = r.same.steady in cc);
      reads = counts_one (λ l. l.reads) n (omega (arith, r.reads)) (λ e. absurd (omega (arith, some, e)));
      writes = counts_one (λ l. l.writes) 0 (omega (arith, r.writes)) (λ _. r.writes);
      failures = each_leaf (λ x y. x.failures ≤ y.failures) grows (λ x. omega arith);
      never_fails = each_leaf (λ x y. IsTrue x.never_fails → IsTrue y.never_fails) r.same.never_fails (λ x was. was);
    };
    images = record { image = each_leaf (λ x y. IsTrue x.steady → y.image ≡ x.image) r.image (λ x was. refl) };
  }

-- ---- a device that is there, with the size that the configuration says

sectors_at : (wanted : List LeafRecord) (i : ℕ) → option_map_or (λ l. l.sectors) (slice_get wanted i) 0 ≡ get_or (map (λ l. l.sectors) wanted) i 0
sectors_at [] i = refl
sectors_at (l ∷ wanted) zero = refl
sectors_at (l ∷ wanted) (suc i) = sectors_at wanted i

module _ {X : Type 0} (state : X → Device) (devices : List X) (wanted : List LeafRecord) (serve : ServeLeaves wanted (map state devices)) where
  same_count : length devices ≡ length wanted
  same_count = sym (length-map devices state) ∙ sym (length-map (map state devices) (λ l. l.size)) ∙ ap length serve.sizes ∙ length-map wanted (λ l. l.sectors)

  pub leaves-few : (i : ℕ) → i < length devices → length wanted ≤ 64 → i < 64
  leaves-few i there few = omega (arith, there, few, same_count)

  -- its device has the size that the configuration says
  pub leaf-size : (i : ℕ) (x : X) → i < length devices → (state (get_or devices i x)).size ≡ option_map_or (λ l. l.sectors) (slice_get wanted i) 0
  leaf-size i x there =
      sym (get_or-map (λ (d : Device). d.size) (map state devices) i (state x) 0 (omega (arith, there, length-map devices state)) ∙ ap (λ (d : Device). d.size) (get_or-map state devices i x (state x) there))
      ∙ ap (λ (l : List ℕ). get_or l i 0) serve.sizes ∙ sym (sectors_at wanted i)

module _ {X : Type 0} (state : X → Device) (devices : List X) (i : ℕ) (x : X) (there : i < length devices) where
  pub AreRead-device : (n : ℕ) (ok : Bool) (new : X) → 0 < n → (state (get_or devices i x)).failures ≤ (state new).failures → IsRead (state (get_or devices i x)) n ok (state new) → AreRead (map state devices) n (map state (set devices i new))
  AreRead-device n ok new some grows r =
      subst (AreRead (map state devices) n) (sym (map-set state devices i new))
      (AreRead-set (map state devices) i (state (get_or devices i x)) (state new) (omega (arith, there, length-map devices state)) (get_or-map state devices i x _ there) n ok some grows r)

  pub steady_at : {these : ℕ → Bool} → IsTrue (these i) → AreSteady these (map state devices) → IsTrue (state (get_or devices i x)).steady
  steady_at is steady = subst (λ (d : Device). IsTrue d.steady) (get_or-map state devices i x (state x) there) (steady i (state x) (omega (arith, there, length-map devices state)) is)

  pub image_at : IsTrue (state (get_or devices i x)).steady → get_or (steady_images (map state devices)) i [] ≡ (state (get_or devices i x)).image
  image_at steady =
      get_or-map steady_image (map state devices) i (state x) [] (omega (arith, there, length-map devices state)) ∙ ap steady_image (get_or-map state devices i x (state x) there) ∙ known-image (state (get_or devices i x)) steady

  pub LeafFailed-device : (new : X) → HasFailed (state (get_or devices i x)) (state new) → (IsTrue (state (get_or devices i x)).never_fails → ⊥) → LeafFailed i (map state devices) (map state (set devices i new))
  LeafFailed-device new f unsure = record {
    inside = omega (arith, there, length-map devices state);
    failed = λ d.
        let a : get_or (map state devices) i d ≡ state (get_or devices i x) = get_or-map state devices i x d there in
        let b : get_or (map state (set devices i new)) i d ≡ state new = get_or-map state (set devices i new) i x d (omega (arith, there, length-set devices i new)) ∙ ap state (get_or-set_same devices i new x there) in
        elim f [ inl grew ↦ inl (omega (arith, grew, ap (λ (y : Device). y.failures) a, ap (λ (y : Device). y.failures) b)) | inr full ↦ inr (omega (arith, full, ap (λ (y : Device). y.failures) a)) ];
    unsure = λ d h. unsure (subst (λ (y : Device). IsTrue y.never_fails) (get_or-map state devices i x d there) h);
  }

-- the devices' images are whole
pub all-whole : {X : Type 0} (state : X → Device) → ((x : X) → IsWhole (state x)) → (devices : List X) → All IsWhole (map state devices)
all-whole state whole [] = All-nil IsWhole
all-whole state whole (x ∷ devices) = All-cons IsWhole (state x) (map state devices) (whole x) (all-whole state whole devices)
