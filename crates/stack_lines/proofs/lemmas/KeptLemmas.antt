-- Which kept blocks writes forget, one after another.
use Rattle.std.proofs.Common.{◌≡◌, ℕ, Bool, true, false, IsTrue, not, cond, ◌&&◌, ◌||◌, ◌==◌, List, [], ◌∷◌, ◌++◌, length, get_or, map, All, Contains, Option, refl, sym, ap, ◌∙◌, subst, arith, inl, inr}
use Rattle.std.specs.Prelude.{filter}
use Rattle.std.specs.List.{list_any}
use Rattle.std.proofs.lemmas.Bool.{cases_lt}
use Rattle.std.proofs.lemmas.Bool.Decides.{nat_tests}
use Rattle.std.proofs.lemmas.List.{get_or-map, get_or_past, length-map}
use Rattle.std.proofs.lemmas.List.Elements.{All-nil, All-cons, All-append, All-filter, All-contains_itself}
use Rattle.std.proofs.lemmas.List.Folds.{list_any-append}
use Rattle.block_device.specs.Device.{Device}
use Rattle.stack_rules.specs.declared.lower.Lower.TheVariants.{Leaf as leaf}
use Rattle.stack_rules.specs.Records.{Configuration}
use Rattle.verified_cache.specs.Cache.{CachedBlock, blocks_without}
use Rattle.verified_cache.specs.declared.key.Key.{Key}
use Rattle.stack_meaning.specs.Changes.{KeepsOthers, reached}
use Rattle.stack_meaning.specs.Leaves.{Fixed, fixed_part, AreRead}
use Rattle.stack_meaning.specs.Meaning.{said_at}
use Rattle.stack_lines.specs.Forgetting.{DropsLast, IsUnwritten, Forgets}
use Rattle.stack_lines.specs.Standing.{key_stands_on}
use Rattle.stack_lines.specs.Touches.{leaves_of}
use Rattle.stack_lines.proofs.lemmas.ForgetLemmas.{others-alone}
use Rattle.stack_lines.proofs.lemmas.StandingLemmas.{or-false, leaf-stands}
use Rattle.stack_lines.proofs.lemmas.TouchLemmas.{AreWithin, one-within, other-leaf}

-- ---- blocks that are left

filter-alike : (p q : CachedBlock → Bool) → ((x : CachedBlock) → p x ≡ q x) → (xs : List CachedBlock) → filter p xs ≡ filter q xs
filter-alike p q same [] = refl
filter-alike p q same (x ∷ xs) =
    ap (λ (b : Bool). cond b (x ∷ filter p xs) (filter p xs)) (same x)
    ∙ ap (λ (rest : List CachedBlock). cond (q x) (x ∷ rest) rest) (filter-alike p q same xs)

filter-every : (xs : List CachedBlock) → filter (λ x. true) xs ≡ xs
filter-every [] = refl
filter-every (x ∷ xs) = ap (λ (rest : List CachedBlock). x ∷ rest) (filter-every xs)

filter-twice : (p q : CachedBlock → Bool) (xs : List CachedBlock) → filter q (filter p xs) ≡ filter (λ x. p x && q x) xs
filter-twice p q [] = refl
filter-twice p q (x ∷ xs) = go (p x) (filter-twice p q xs)
  where
    go : (b : Bool) → filter q (filter p xs) ≡ filter (λ x. p x && q x) xs
        → filter q (cond b (x ∷ filter p xs) (filter p xs)) ≡ cond (b && q x) (x ∷ filter (λ x. p x && q x) xs) (filter (λ x. p x && q x) xs)
    go true more = ap (λ (rest : List CachedBlock). cond (q x) (x ∷ rest) rest) more
    go false more = more

not-or : (a b : Bool) → (not a && not b) ≡ not (a || b)
not-or true b = refl
not-or false b = refl

without-both : (p q : Key → Bool) (xs : List CachedBlock) → blocks_without q (blocks_without p xs) ≡ blocks_without (λ key. p key || q key) xs
without-both p q xs =
    filter-twice (λ b. not (p b.key)) (λ b. not (q b.key)) xs
    ∙ filter-alike (λ b. not (p b.key) && not (q b.key)) (λ b. not (p b.key || q b.key)) (λ b. not-or (p b.key) (q b.key)) xs

-- ---- leaves that aren't written

field-kept : {Y : Type 0} (f : Device → Y) (old new : List Device) → map f new ≡ map f old → (i : ℕ) (d : Device) → f (get_or new i d) ≡ f (get_or old i d)
field-kept {Y = Y} f old new e i d =
    let same : length new ≡ length old = sym (length-map new f) ∙ ap (λ (l : List Y). length l) e ∙ length-map old f in
    elim (cases_lt i (length old)) [
      | inl low ↦ sym (get_or-map f new i d (f d) (omega (arith, low, same))) ∙ ap (λ (l : List Y). get_or l i (f d)) e ∙ get_or-map f old i d (f d) low
      | inr high ↦ ap f (get_or_past new i d (omega (arith, high, same))) ∙ sym (ap f (get_or_past old i d high))
    ]

-- reads write none
unwritten-read : {old new : List Device} {n : ℕ} → AreRead old n new → (i : ℕ) (d : Device) → IsUnwritten (get_or old i d) (get_or new i d)
unwritten-read {old = old} {new = new} a i d = record {
  steady = ap (λ (x : Fixed). x.steady) (field-kept fixed_part old new a.moved.fixed i d);
  writes = field-kept (λ (l : Device). l.writes) old new (a.moved.writes.none refl) i d;
  image = a.images.image i d;
}

unwritten-same : {a b : Device} → b ≡ a → IsUnwritten a b
unwritten-same {a = a} e = subst (IsUnwritten a) (sym e) (record { steady = refl; writes = refl; image = λ steady. refl })

unwritten-then : {a b c : Device} → IsUnwritten a b → IsUnwritten b c → IsUnwritten a c
unwritten-then p q = record { steady = q.steady ∙ p.steady; writes = q.writes ∙ p.writes; image = λ steady. q.image (subst IsTrue (sym p.steady) steady) ∙ p.image steady }

-- ---- writes

or-left : (a b : Bool) → (a || b) ≡ false → a ≡ false
or-left true b h = absurd cc
or-left false b h = refl

or-right : (a b : Bool) → (a || b) ≡ false → b ≡ false
or-right true b h = absurd cc
or-right false b h = h

module _ {c : Configuration} where
  -- reads alone forget nothing
  pub forgets-none : {these : ℕ → Bool} {old new : List Device} {n : ℕ} (kept : List CachedBlock) → AreRead old n new → Forgets c these old new kept kept
  forgets-none {these = these} kept a = record {
    written = [];
    within = All-nil (λ i. IsTrue (these i));
    others = λ i d out. unwritten-read a i d;
    kept = sym (filter-every kept);
  }

  -- some writes, and further ones
  pub forgets-then : {these : ℕ → Bool} {old mid new : List Device} {before between after : List CachedBlock} → Forgets c these old mid before between → Forgets c these mid new between after → Forgets c these old new before after
  forgets-then {these = these} {before = before} p q =
      let on : List ℕ → Key → Bool = λ written key. list_any (λ i. key_stands_on c i key) written in
      record {
        written = p.written ++ q.written;
        within = All-append (λ i. IsTrue (these i)) p.written q.written p.within q.within;
        others = λ i d out.
            let both = sym (list_any-append (λ j. i == j) p.written q.written) ∙ out in
            let first = or-left (list_any (λ j. i == j) p.written) (list_any (λ j. i == j) q.written) both in
            let second = or-right (list_any (λ j. i == j) p.written) (list_any (λ j. i == j) q.written) both in
            unwritten-then (p.others i d first) (q.others i d second);
        kept = q.kept ∙ ap (blocks_without (on q.written)) p.kept ∙ without-both (on p.written) (on q.written) before
            ∙ filter-alike (λ b. not (on p.written b.key || on q.written b.key)) (λ b. not (on (p.written ++ q.written) b.key))
            (λ b. ap not (sym (list_any-append (λ i. key_stands_on c i b.key) p.written q.written))) before;
      }

  -- of more leaves
  pub forgets-up : {these more : ℕ → Bool} {old new : List Device} {before after : List CachedBlock} → AreWithin these more → Forgets c these old new before after → Forgets c more old new before after
  forgets-up {these = these} {more = more} up p = record {
    written = p.written;
    within = λ k d h. one-within these more up (get_or p.written k d) (p.within k d h);
    others = p.others;
    kept = p.kept;
  }

-- ---- the data block that is kept

-- reads alone leave it
pub drops-none : {old new : List Device} {n : ℕ} (kept : Option CachedBlock) → AreRead old n new → DropsLast old new kept kept
drops-none kept a = record { is = inl ((λ i d. unwritten-read a i d), refl) }

pub drops-then : {old mid new : List Device} {before between after : Option CachedBlock} → DropsLast old mid before between → DropsLast mid new between after → DropsLast old new before after
drops-then p q = record {
  is = elim q.is [
    | inl y ↦ elim p.is [
      | inl x ↦ inl ((λ i d. unwritten-then (x.0 i d) (y.0 i d)), y.1 ∙ x.1)
      | inr none ↦ inr (y.1 ∙ none)
    ]
    | inr none ↦ inr none
  ];
}

-- ---- what is left after a write

same-of : (e d : ℕ) → (e == d) ≡ true → e ≡ d
same-of e d h = grind (arith, nat_tests)

-- what holds of none of some numbers doesn't hold of one of them
none-at : (f : ℕ → Bool) (i : ℕ) (js : List ℕ) → list_any (λ j. i == j) js ≡ true → list_any f js ≡ false → f i ≡ false
none-at f i [] has none = absurd cc
none-at f i (j ∷ js) has none = go (none-at f i js) (i == j) refl has
  where
    go : (list_any (λ j. i == j) js ≡ true → list_any f js ≡ false → f i ≡ false) → (b : Bool) → (i == j) ≡ b → (b || list_any (λ j. i == j) js) ≡ true → f i ≡ false
    go more true e h = ap f (same-of i j e) ∙ or-left (f j) (list_any f js) none
    go more false e h = more h (or-right (f j) (list_any f js) none)

not-true : (b : Bool) → not b ≡ true → b ≡ false
not-true true h = absurd cc
not-true false h = refl

filter-passes : (p : CachedBlock → Bool) (Q : CachedBlock → Type 0) → ((x : CachedBlock) → p x ≡ true → Q x) → (xs : List CachedBlock) → All Q (filter p xs)
filter-passes p Q turn [] = All-nil Q
filter-passes p Q turn (x ∷ xs) = go (filter-passes p Q turn xs) (p x) refl
  where
    go : All Q (filter p xs) → (b : Bool) → p x ≡ b → All Q (cond b (x ∷ filter p xs) (filter p xs))
    go more true e = All-cons Q x (filter p xs) (turn x e) more
    go more false e = more

module _ {c : Configuration} {these : ℕ → Bool} {old new : List Device} {before after : List CachedBlock} (p : Forgets c these old new before after) where
  pub forgets-adds_none : All (Contains before) after
  forgets-adds_none =
      subst (All (Contains before)) (sym p.kept)
      (All-filter (λ b. not (list_any (λ i. key_stands_on c i b.key) p.written)) (Contains before) before (All-contains_itself before))

  pub forgets-touched : (i : ℕ) (d : Device) → (IsUnwritten (get_or old i d) (get_or new i d) → ⊥) → All (λ b. key_stands_on c i b.key ≡ false) after
  forgets-touched i d touched = go (list_any (λ j. i == j) p.written) refl
    where
      go : (b : Bool) → list_any (λ j. i == j) p.written ≡ b → All (λ b. key_stands_on c i b.key ≡ false) after
      go false e = absurd (touched (p.others i d e))
      go true e =
          subst (All (λ b. key_stands_on c i b.key ≡ false)) (sym p.kept)
          (filter-passes (λ b. not (list_any (λ j. key_stands_on c j b.key) p.written)) (λ b. key_stands_on c i b.key ≡ false)
          (λ b passes. none-at (λ j. key_stands_on c j b.key) i p.written e (not-true (list_any (λ j. key_stands_on c j b.key) p.written) passes)) before)

-- a write to a leaf, before which the lines whose hash device is on it lost their blocks
pub forgets-leaf : (c : Configuration) (i first n : ℕ) (old new : List Device) (before after : List CachedBlock) → KeepsOthers (reached (λ s. (said_at c (leaf i) s).reaches) first n) old new
    → after ≡ blocks_without (key_stands_on c i) before → Forgets c (leaves_of c (leaf i)) old new before after
forgets-leaf c i first n old new before after others is = record {
  written = i ∷ [];
  within = All-cons (λ j. IsTrue (leaves_of c (leaf i) j)) i [] (leaf-stands c i) (All-nil (λ j. IsTrue (leaves_of c (leaf i) j)));
  others = λ j d out. unwritten-same (others-alone c i first n old new others j d (other-leaf j i (sym (or-false (j == i)) ∙ out)));
  kept = is ∙ filter-alike (λ b. not (key_stands_on c i b.key)) (λ b. not (list_any (λ j. key_stands_on c j b.key) (i ∷ []))) (λ b. ap not (sym (or-false (key_stands_on c i b.key)))) before;
}
