-- What is forgotten before a write to a leaf, and that what stays is true after it.
use Rattle.std.proofs.Common.{◌≡◌, ◌≢◌, ℕ, zero, suc, ◌+◌, ◌<◌, Bool, true, false, not, cond, ◌&&◌, ◌||◌, ◌==◌, List, [], ◌∷◌, length, get_or, map, All, Contains, Option, Some, None, refl, sym, ap, ◌∙◌, subst, arith, inl, inr}
use Rattle.std.specs.Prelude.{filter}
use Rattle.std.specs.List.{list_any, AllByRecursion}
use Rattle.std.proofs.lemmas.Bool.{cases_lt}
use Rattle.std.proofs.lemmas.Bool.Decides.{nat_tests}
use Rattle.std.proofs.lemmas.List.{get_or-map, get_or_past, length-map}
use Rattle.std.proofs.lemmas.List.Elements.{All-nil, All-cons, All-head, All-tail, All-from_recursion}
use Rattle.block_device.specs.Device.{Device}
use Rattle.stack_rules.specs.declared.lower.Lower.{Lower}
use Rattle.stack_rules.specs.declared.lower.Lower.TheVariants.{Leaf as leaf}
use Rattle.stack_rules.specs.Descend.{known}
use Rattle.stack_rules.specs.Names.{named}
use Rattle.stack_rules.specs.Records.{Configuration}
use Rattle.stack_rules.specs.Rules.{most_leaves}
use Rattle.verified_cache.specs.Cache.{CachedBlock, CacheRecord, cache_without}
use Rattle.verified_cache.specs.declared.key.Key.{Key}
use Rattle.stack_lines.specs.declared.leaf_set.LeafSet.{LeafSet}
use Rattle.stack_meaning.specs.Blocks.{hash_sectors, hash_place}
use Rattle.stack_lines.specs.Caches.{IsCached}
use Rattle.stack_meaning.specs.Agreement.{AgreesOn}
use Rattle.stack_meaning.specs.Changes.{KeepsOthers, reached}
use Rattle.stack_meaning.specs.LeavesBeneath.{leaves_beneath}
use Rattle.stack_meaning.specs.Leaves.{steady_image, steady_images, AreSteady, fixed_part}
use Rattle.stack_meaning.specs.Meaning.{Said, none_said, said_at}
use Rattle.stack_meaning.specs.Outcomes.{Images, LeafSector, span}
use Rattle.stack_lines.specs.Standing.{has_leaf, name_stands_on, stands_on, key_stands_on, cache_without_leaf, CoversBlocks}
use Rattle.stack_lines.proofs.lemmas.StandingLemmas.{and-true, verity-stands}
use Rattle.stack_meaning.proofs.lemmas.AgreementLemmas.{agrees-alike}
use Rattle.stack_meaning.proofs.lemmas.LeafListLemmas.{AreSteady-kept}
use Rattle.stack_meaning.proofs.lemmas.LeavesBeneathLemmas.{spans-alike}
use Rattle.stack_meaning.proofs.lemmas.SectorLemmas.{said_at-leaf}

-- ---- blocks under some keys are dropped

filter-all : (p : CachedBlock → Bool) (xs : List CachedBlock) → All (λ x. p x ≡ true) xs → filter p xs ≡ xs
filter-all p [] all = refl
filter-all p (x ∷ xs) all = ap (λ (b : Bool). cond b (x ∷ filter p xs) (filter p xs)) (All-head (λ x. p x ≡ true) x xs all) ∙ ap (λ (rest : List CachedBlock). x ∷ rest) (filter-all p xs (All-tail (λ x. p x ≡ true) x xs all))

without-none : (p : Key → Bool) (cache : CacheRecord) → All (λ b. p b.key ≡ false) cache.blocks → cache_without p cache ≡ cache
without-none p cache all = ap (λ (blocks : List CachedBlock). record cache { blocks = blocks }) (filter-all (λ b. not (p b.key)) cache.blocks (λ i d h. ap not (all i d h)))

-- ---- the leaves that are noted

same-of : (e d : ℕ) → (e == d) ≡ true → e ≡ d
same-of e d h = grind (arith, nat_tests)

module _ (c : Configuration) (i : ℕ) where
  filter-both : (p : CachedBlock → Bool) (P Q : CachedBlock → Type 0) → ((x : CachedBlock) → P x → p x ≡ true → Q x) → (xs : List CachedBlock) → All P xs → All Q (filter p xs)
  filter-both p P Q turn [] all = All-nil Q
  filter-both p P Q turn (x ∷ xs) all = go (filter-both p P Q turn xs (All-tail P x xs all)) (p x) refl
    where
      go : All Q (filter p xs) → (b : Bool) → p x ≡ b → All Q (cond b (x ∷ filter p xs) (filter p xs))
      go more true e = All-cons Q x (filter p xs) (turn x (All-head P x xs all) e) more
      go more false e = more

  not-true : (b : Bool) → not b ≡ true → b ≡ false
  not-true true h = cc
  not-true false h = refl

  clash : {A : Type 0} (b : Bool) → b ≡ true → b ≡ false → A
  clash true h e = absurd cc
  clash false h e = absurd cc

  -- no block needs the leaf any more
  pub covers-without : (set less : LeafSet) (cache : CacheRecord) → ((k : ℕ) → k < most_leaves → has_leaf less k ≡ (has_leaf set k && not (k == i))) → CoversBlocks c set cache.blocks
      → CoversBlocks c less (cache_without_leaf c i cache).blocks
  covers-without set less cache is all =
      filter-both (λ b. not (key_stands_on c i b.key)) (λ b. (k : ℕ) → k < most_leaves → key_stands_on c k b.key ≡ true → has_leaf set k ≡ true) (λ b. (k : ℕ) → k < most_leaves → key_stands_on c k b.key ≡ true → has_leaf less k ≡ true)
      (λ b covers off k small stands. is k small ∙ kept b off k (covers k small stands) stands (k == i) refl) cache.blocks all
    where
      kept : (b : CachedBlock) → not (key_stands_on c i b.key) ≡ true → (k : ℕ) → has_leaf set k ≡ true → key_stands_on c k b.key ≡ true → (e : Bool) → (k == i) ≡ e → (has_leaf set k && not e) ≡ true
      kept b off k has stands true e = clash (key_stands_on c k b.key) stands (ap (λ (x : ℕ). key_stands_on c x b.key) (same-of k i e) ∙ not-true (key_stands_on c i b.key) off)
      kept b off k has stands false e = and-true (has_leaf set k) ∙ has

  -- where the leaf isn't noted, no block is under such a key
  pub covers-none : (set : LeafSet) (cache : CacheRecord) → i < most_leaves → has_leaf set i ≡ false → CoversBlocks c set cache.blocks → cache_without_leaf c i cache ≡ cache
  covers-none set cache small off all = without-none (key_stands_on c i) cache (λ k d h. go (key_stands_on c i (get_or cache.blocks k d).key) refl (all k d h i small))
    where
      go : (b : Bool) {s : Bool} → s ≡ b → (s ≡ true → has_leaf set i ≡ true) → s ≡ false
      go true e covers = clash (has_leaf set i) (covers e) off
      go false e covers = e

-- ---- writes to a leaf

-- what a device that isn't stacked on a leaf means, if that leaf's image alone is another one
module _ (c : Configuration) (i : ℕ) (images other : Images) (alike : (j : ℕ) → j ≢ i → get_or images j [] ≡ get_or other j []) where
  apart : (js : List ℕ) → list_any (λ j. i == j) js ≡ false → AllByRecursion (λ j. get_or images j [] ≡ get_or other j []) js
  apart [] none = tt
  apart (j ∷ js) none = go (apart js) (i == j) refl none
    where
      go : (list_any (λ j. i == j) js ≡ false → AllByRecursion (λ j. get_or images j [] ≡ get_or other j []) js) → (b : Bool) → (i == j) ≡ b → (b || list_any (λ j. i == j) js) ≡ false → (get_or images j [] ≡ get_or other j []) × AllByRecursion (λ j. get_or images j [] ≡ get_or other j []) js
      go more true e h = absurd cc
      go more false e h = (alike j (λ same. let yes : (i == j) ≡ true = grind (arith, nat_tests) in let no : false ≡ true = sym e ∙ yes in cc), more h)

  spans-known : (o : Option Lower) → known false (stands_on c i) o ≡ false → (first n : ℕ)
      → span (λ s. (known {A = ℕ → Said} (λ t. none_said) (said_at c) o s).means images) first n ≡ span (λ s. (known {A = ℕ → Said} (λ t. none_said) (said_at c) o s).means other) first n
  spans-known None off first n = refl
  spans-known (Some y) off first n = spans-alike images other c y (All-from_recursion (λ j. get_or images j [] ≡ get_or other j []) (leaves_beneath c y) (apart (leaves_beneath c y) off)) first n

module _ (c : Configuration) (i : ℕ) (old new : List Device) (fixed : map fixed_part new ≡ map fixed_part old) (others : (j : ℕ) (d : Device) → j ≢ i → get_or new j d ≡ get_or old j d) where
  abbrev any_device : Device
  any_device = record { size = 0; may_write = false; steady = false; never_fails = false; dirty = false; image = []; reads = 0; writes = 0; failures = 0; lacked_space = false }

  image_at : (leaves : List Device) (j : ℕ) → get_or (steady_images leaves) j [] ≡ steady_image (get_or leaves j any_device)
  image_at leaves j = elim (cases_lt j (length leaves)) [
    | inl low ↦ get_or-map steady_image leaves j any_device [] low
    | inr high ↦ get_or_past (steady_images leaves) j [] (omega (arith, high, length-map leaves steady_image)) ∙ sym (ap steady_image (get_or_past leaves j any_device high))
  ]

  same-image : (j : ℕ) → j ≢ i → get_or (steady_images old) j [] ≡ get_or (steady_images new) j []
  same-image j apart = image_at old j ∙ ap steady_image (sym (others j any_device apart)) ∙ sym (image_at new j)

  not-on : (b : CachedBlock) (one : IsCached c old b) → not (key_stands_on c i b.key) ≡ true → known false (stands_on c i) (named c one.verity.hash) ≡ false
  not-on b one off = sym (verity-stands c i b.key.device b.key.line one.line.line one.verity one.line.is one.line.has) ∙ not-true c i (key_stands_on c i b.key) off

  pub kept-written : (cache : CacheRecord) → All (IsCached c old) cache.blocks → All (IsCached c new) (cache_without_leaf c i cache).blocks
  kept-written cache all =
      filter-both c i (λ b. not (key_stands_on c i b.key)) (IsCached c old) (IsCached c new)
      (λ b one off. record {
        verity = one.verity;
        line = one.line;
        block = one.block;
        exact = λ steady agrees.
            let before : AreSteady (λ j. name_stands_on c j one.verity.hash) old = AreSteady-kept new old (sym fixed) steady in
            let agreed : AgreesOn c (λ j. name_stands_on c j one.verity.hash) (steady_images old) =
            agrees-alike c (steady_images new) (steady_images old) (λ j. name_stands_on c j one.verity.hash)
            (λ j on. sym (same-image j (λ same. clash c i (name_stands_on c i one.verity.hash) (subst (λ (k : ℕ). name_stands_on c k one.verity.hash ≡ true) same on) (not-on b one off)))) agrees in
            sym (spans-known c i (steady_images old) (steady_images new) same-image (named c one.verity.hash) (not-on b one off) (hash_place one.verity b.key.level b.key.block) (hash_sectors one.verity)) ∙ one.exact before agreed;
      }) cache.blocks all

-- a write to a leaf's sectors leaves the other leaves alone
pub others-alone : (c : Configuration) (i first n : ℕ) (old new : List Device) → KeepsOthers (reached (λ s. (said_at c (leaf i) s).reaches) first n) old new
    → (j : ℕ) (d : Device) → j ≢ i → get_or new j d ≡ get_or old j d
others-alone c i first n old new others j d other = others.leaf j d (λ t hit. other (only (hit.0) t (subst (λ (x : Said). Contains {X = LeafSector} x.reaches (j, t)) (said_at-leaf c i (first + hit.0)) hit.2)))
  where
    only : (k t : ℕ) → Contains {X = LeafSector} ((i, first + k) ∷ []) (j, t) → j ≡ i
    only k t has = sym (ap (λ (p : LeafSector). p.0) (one (i, first + k) (j, t) has))
      where
        one : (a b : LeafSector) → Contains {X = LeafSector} (a ∷ []) b → a ≡ b
        one a b has = first_of has.0 (has.1, has.2)
          where
            first_of : (k : ℕ) → (k < 1) × (get_or (a ∷ []) k b ≡ b) → a ≡ b
            first_of zero h = h.1
            first_of (suc k) h = absurd (omega (arith, h.0))
