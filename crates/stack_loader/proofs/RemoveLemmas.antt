-- A list without the element of one place.
use Rattle.std.proofs.Common.{◌≡◌, ◌+◌, ◌-◌, ◌≤◌, ◌<◌, ℕ, zero, suc, List, [], ◌∷◌, refl, sym, ap, ◌∙◌, Bool, true, false, cond, not, Some, None, length, map, filter, nat_lt, position, arith}
use Rattle.std.specs.Prelude.{slice_get}
use Rattle.std.specs.List.{AllByRecursion, list_any, remove, position_from, IsDistinct}
use Rattle.std.specs.Option.{option_map}
use Rattle.std.specs.Str.{bytes_eq}
use Rattle.std.proofs.Math.Decide.{dec_le}
use Rattle.std.proofs.lemmas.Bool.Decides.{nat_tests}
use Rattle.std.proofs.lemmas.Iterator.Adapters.{position_from-zero}
use Rattle.std.proofs.lemmas.Slice.Eq.{bytes_eq-Decides}
use Rattle.stack_rules.specs.Removal.{place_after}
use Rattle.stack_loader.proofs.DuplicateNameLemmas.{bytes_eq-sym}
use Rattle.stack_rules.proofs.lemmas.ValidLineLemmas.{or-false}

-- ---- places

lt-true : (m n : ℕ) → m < n → nat_lt m n ≡ true
lt-true m n h = grind (arith, nat_tests)

lt-false : (m n : ℕ) → n ≤ m → nat_lt m n ≡ false
lt-false m n h = grind (arith, nat_tests)

pub place_after-later : (d e : ℕ) → d < e → place_after d e ≡ e - 1
place_after-later d e h = rw (lt-true d e h) refl

pub place_after-earlier : (d e : ℕ) → e ≤ d → place_after d e ≡ e
place_after-earlier d e h = rw (lt-false d e h) refl

-- the place that the element had
abbrev pub place_before : ℕ → ℕ → ℕ
place_before d k = cond (nat_lt k d) k (k + 1)

pub place_before-later : (d k : ℕ) → d ≤ k → place_before d k ≡ k + 1
place_before-later d k past = rw (lt-false k d past) refl

pub place_before-earlier : (d k : ℕ) → k < d → place_before d k ≡ k
place_before-earlier d k low = rw (lt-true k d low) refl

pub place_before-same : (d k : ℕ) → (place_before d k ≡ d → ⊥) × (place_after d (place_before d k) ≡ k)
place_before-same d k = go (dec_le d k)
  where
    go : Dec (d ≤ k) → (place_before d k ≡ d → ⊥) × (place_after d (place_before d k) ≡ k)
    go (yes past) = rw (lt-false k d past) ((λ same. omega (arith, same, past)), place_after-later d (k + 1) (omega (arith, past)) ∙ (omega arith))
    go (no before) =
        let low : k < d = grind (arith, before) in
        rw (lt-true k d low) ((λ same. omega (arith, same, low)), place_after-earlier d k (omega (arith, low)))

-- ---- elements

slice_get-remove_below : {X : Type 0} (xs : List X) (d k : ℕ) → d < length xs → k < d → slice_get (remove xs d) k ≡ slice_get xs k
slice_get-remove_below [] d k inside low = let no : ⊥ = omega (arith, inside) in absurd no
slice_get-remove_below (y ∷ ys) zero k inside low = let no : ⊥ = omega (arith, low) in absurd no
slice_get-remove_below (y ∷ ys) (suc d) zero inside low = refl
slice_get-remove_below (y ∷ ys) (suc d) (suc k) inside low = slice_get-remove_below ys d k (omega (arith, inside)) (omega (arith, low))

slice_get-remove_above : {X : Type 0} (xs : List X) (d k : ℕ) → d < length xs → d ≤ k → slice_get (remove xs d) k ≡ slice_get xs (suc k)
slice_get-remove_above [] d k inside low = let no : ⊥ = omega (arith, inside) in absurd no
slice_get-remove_above (y ∷ ys) zero k inside low = refl
slice_get-remove_above (y ∷ ys) (suc d) zero inside low = let no : ⊥ = omega (arith, low) in absurd no
slice_get-remove_above (y ∷ ys) (suc d) (suc k) inside low = slice_get-remove_above ys d k (omega (arith, inside)) (omega (arith, low))

-- the other elements by their new places
pub slice_get-remove : {X : Type 0} (xs : List X) (d e : ℕ) → d < length xs → (e ≡ d → ⊥) → slice_get (remove xs d) (place_after d e) ≡ slice_get xs e
slice_get-remove xs d e inside other = go (dec_le e d)
  where
    go : Dec (e ≤ d) → slice_get (remove xs d) (place_after d e) ≡ slice_get xs e
    go (yes below) = ap (slice_get (remove xs d)) (place_after-earlier d e below) ∙ slice_get-remove_below xs d e inside (grind (arith, below, other))
    go (no above) =
        let low : d < e = grind (arith, above) in
        let same : suc (e - 1) ≡ e = omega (arith, low) in
        ap (slice_get (remove xs d)) (place_after-later d e low) ∙ slice_get-remove_above xs d (e - 1) inside (omega (arith, low)) ∙ ap (slice_get xs) same

pub map-remove : {X Y : Type 0} (f : X → Y) (xs : List X) (d : ℕ) → d < length xs → map f (remove xs d) ≡ remove (map f xs) d
map-remove f [] d inside = let no : ⊥ = omega (arith, inside) in absurd no
map-remove f (y ∷ ys) zero inside = refl
map-remove f (y ∷ ys) (suc d) inside = ap (λ zs. f y ∷ zs) (map-remove f ys d (omega (arith, inside)))

pub all-remove : {X : Type 0} (P : X → Type 0) (xs : List X) (d : ℕ) → d < length xs → AllByRecursion P xs → AllByRecursion P (remove xs d)
all-remove P [] d inside all = let no : ⊥ = omega (arith, inside) in absurd no
all-remove P (y ∷ ys) zero inside all = all.1
all-remove P (y ∷ ys) (suc d) inside all = (all.0, all-remove P ys d (omega (arith, inside)) all.1)

pub list_any-remove : {X : Type 0} (p : X → Bool) (xs : List X) (d : ℕ) → d < length xs → list_any p xs ≡ false → list_any p (remove xs d) ≡ false
list_any-remove p [] d inside none = let no : ⊥ = omega (arith, inside) in absurd no
list_any-remove p (y ∷ ys) zero inside none = (or-false (p y) (list_any p ys) none).1
list_any-remove p (y ∷ ys) (suc d) inside none =
    let both = or-false (p y) (list_any p ys) none in
    rw both.0 (list_any-remove p ys d (omega (arith, inside)) both.1)

-- ---- the first place that passes a test

position_from-shifted : {X : Type 0} (p : X → Bool) (xs : List X) (i d : ℕ) → d ≤ i → position_from p i xs ≡ option_map (place_after d) (position_from p (i + 1) xs)
position_from-shifted p [] i d low = refl
position_from-shifted p (x ∷ xs) i d low = go (p x) (position_from-shifted p xs (i + 1) d (omega (arith, low)))
  where
    go : (b : Bool) → position_from p (i + 1) xs ≡ option_map (place_after d) (position_from p (i + 1 + 1) xs)
        → cond b (Some i) (position_from p (i + 1) xs) ≡ option_map (place_after d) (cond b (Some (i + 1)) (position_from p (i + 1 + 1) xs))
    go true more = let back : (i + 1) - 1 ≡ i = omega arith in ap Some (sym (place_after-later d (i + 1) (omega (arith, low)) ∙ back))
    go false more = more

position_from-remove : {X : Type 0} (p : X → Bool) (xs : List X) (i d at : ℕ) → d < length xs → at ≡ i + d → (position_from p i xs ≡ Some at → ⊥)
    → position_from p i (remove xs d) ≡ option_map (place_after at) (position_from p i xs)
position_from-remove p [] i d at inside is other = let no : ⊥ = omega (arith, inside) in absurd no
position_from-remove p (x ∷ xs) i zero at inside is other = go (p x) other
  where
    go : (b : Bool) → (cond b (Some i) (position_from p (i + 1) xs) ≡ Some at → ⊥) → position_from p i xs ≡ option_map (place_after at) (cond b (Some i) (position_from p (i + 1) xs))
    go true other = let here : i ≡ at = omega (arith, is) in absurd (other (ap Some here))
    go false other = position_from-shifted p xs i at (omega (arith, is))
position_from-remove p (x ∷ xs) i (suc d) at inside is other = go (p x) other (position_from-remove p xs (i + 1) d at (omega (arith, inside)) (omega (arith, is)))
  where
    go : (b : Bool) → (cond b (Some i) (position_from p (i + 1) xs) ≡ Some at → ⊥)
        → ((position_from p (i + 1) xs ≡ Some at → ⊥) → position_from p (i + 1) (remove xs d) ≡ option_map (place_after at) (position_from p (i + 1) xs))
        → cond b (Some i) (position_from p (i + 1) (remove xs d)) ≡ option_map (place_after at) (cond b (Some i) (position_from p (i + 1) xs))
    go true other more = ap Some (sym (place_after-earlier at i (omega (arith, is))))
    go false other more = more other

pub position-remove : {X : Type 0} (p : X → Bool) (xs : List X) (d : ℕ) → d < length xs → (position p xs ≡ Some d → ⊥) → position p (remove xs d) ≡ option_map (place_after d) (position p xs)
position-remove p xs d inside other =
    position_from-zero p (remove xs d)
    ∙ position_from-remove p xs 0 d d inside (omega arith) (λ is. other (position_from-zero p xs ∙ is))
    ∙ ap (option_map (place_after d)) (sym (position_from-zero p xs))

position_from-low : {X : Type 0} (p : X → Bool) (xs : List X) (i at : ℕ) → position_from p i xs ≡ Some at → i ≤ at
position_from-low p [] i at is = let clash : None ≡ Some at = is in cc
position_from-low p (x ∷ xs) i at is = go (p x) is (position_from-low p xs (i + 1) at)
  where
    go : (b : Bool) → cond b (Some i) (position_from p (i + 1) xs) ≡ Some at → (position_from p (i + 1) xs ≡ Some at → i + 1 ≤ at) → i ≤ at
    go true is more = let same : i ≡ at = cc in omega (arith, same)
    go false is more = let low = more is in omega (arith, low)

-- ---- of distinct names, all but one

filter-others : {X : Type 0} (name : X → List ℕ) (q : List ℕ) (xs : List X) → AllByRecursion (λ n. bytes_eq q n ≡ false) (map name xs) → filter (λ x. not (bytes_eq (name x) q)) xs ≡ xs
filter-others name q [] all = refl
filter-others name q (x ∷ xs) all = rw (bytes_eq-sym (name x) q ∙ all.0) (ap (λ ys. x ∷ ys) (filter-others name q xs all.1))

filter-remove_from : {X : Type 0} (name : X → List ℕ) (q : List ℕ) (xs : List X) (i d at : ℕ) → position_from (λ x. bytes_eq (name x) q) i xs ≡ Some at → at ≡ i + d
    → IsDistinct bytes_eq (map name xs) → filter (λ x. not (bytes_eq (name x) q)) xs ≡ remove xs d
unfolding IsDistinct
filter-remove_from name q [] i d at found is distinct = let clash : None ≡ Some at = found in cc
filter-remove_from name q (x ∷ xs) i zero at found is distinct = go (bytes_eq (name x) q) refl found
  where
    go : (b : Bool) → bytes_eq (name x) q ≡ b → cond b (Some i) (position_from (λ x. bytes_eq (name x) q) (i + 1) xs) ≡ Some at
        → cond (not b) (x ∷ filter (λ x. not (bytes_eq (name x) q)) xs) (filter (λ x. not (bytes_eq (name x) q)) xs) ≡ xs
    go true e found = let same : name x ≡ q = (bytes_eq-Decides (name x) q).0 e in filter-others name q xs (rw same at distinct.0)
    go false e found = let low = position_from-low (λ x. bytes_eq (name x) q) xs (i + 1) at found in let no : ⊥ = omega (arith, low, is) in absurd no
filter-remove_from name q (x ∷ xs) i (suc d) at found is distinct = go (bytes_eq (name x) q) found (λ found. filter-remove_from name q xs (i + 1) d at found (omega (arith, is)) distinct.1)
  where
    go : (b : Bool) → cond b (Some i) (position_from (λ x. bytes_eq (name x) q) (i + 1) xs) ≡ Some at
        → (position_from (λ x. bytes_eq (name x) q) (i + 1) xs ≡ Some at → filter (λ x. not (bytes_eq (name x) q)) xs ≡ remove xs d)
        → cond (not b) (x ∷ filter (λ x. not (bytes_eq (name x) q)) xs) (filter (λ x. not (bytes_eq (name x) q)) xs) ≡ x ∷ remove xs d
    go true found more = let here : i ≡ at = cc in let no : ⊥ = omega (arith, here, is) in absurd no
    go false found more = ap (λ ys. x ∷ ys) (more found)

pub filter-remove : {X : Type 0} (name : X → List ℕ) (q : List ℕ) (xs : List X) (d : ℕ) → position (λ x. bytes_eq (name x) q) xs ≡ Some d → IsDistinct bytes_eq (map name xs)
    → filter (λ x. not (bytes_eq (name x) q)) xs ≡ remove xs d
filter-remove name q xs d found distinct = filter-remove_from name q xs 0 d d (sym (position_from-zero (λ x. bytes_eq (name x) q) xs) ∙ found) (omega arith) distinct
