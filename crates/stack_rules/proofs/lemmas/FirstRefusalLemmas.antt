-- The first refusal among what a rule says of each element of a list.
use Rattle.std.proofs.Common.{◌≡◌, ◌+◌, ◌≤◌, ◌<◌, ℕ, List, [], ◌∷◌, ◌++◌, refl, sym, ap, ◌∙◌, Option, Some, None, length, drop, get_or}
use Rattle.std.specs.Prelude.{flat_map}
use Rattle.std.specs.List.{enumerate_from}
use Rattle.std.proofs.lemmas.List.{at_drop_more, at_drop_all}
use Rattle.stack_rules.specs.declared.refusal.Refusal.{Refusal}
use Rattle.stack_rules.specs.Rules.{first}

-- the first of those of each element, which are counted from k
abbrev pub scan : {X : Type 0} → (ℕ → X → List (Option Refusal)) → ℕ → List X → Option Refusal
scan f k xs = first (flat_map (λ p. f p.0 p.1) (enumerate_from k xs))

pub first-none : (xs ys : List (Option Refusal)) → first xs ≡ None → first (xs ++ ys) ≡ first ys
first-none [] ys none = refl
first-none (None ∷ xs) ys none = first-none xs ys none
first-none (Some r ∷ xs) ys none = let clash : Some r ≡ None = none in cc

pub first-some : (xs ys : List (Option Refusal)) (r : Refusal) → first xs ≡ Some r → first (xs ++ ys) ≡ Some r
first-some [] ys r some = let clash : None ≡ Some r = some in cc
first-some (None ∷ xs) ys r some = first-some xs ys r some
first-some (Some q ∷ xs) ys r some = some

pub scan_more : {X : Type 0} (f : ℕ → X → List (Option Refusal)) (xs : List X) (i n : ℕ) (x : X) (all : Option Refusal) → i < length xs → x ≡ get_or xs i x → n ≡ i + 1
    → first (f n x) ≡ None → scan f n (drop i xs) ≡ all → scan f (n + 1) (drop (i + 1) xs) ≡ all
scan_more f xs i n x all low is place none before =
    sym (first-none (f n (get_or xs i x)) (flat_map (λ p. f p.0 p.1) (enumerate_from (n + 1) (drop (i + 1) xs))) (sym (ap (λ x. first (f n x)) is) ∙ none))
    ∙ sym (at_drop_more (scan f n) xs i x low) ∙ before

pub scan_found : {X : Type 0} (f : ℕ → X → List (Option Refusal)) (xs : List X) (i n : ℕ) (x : X) (r : Refusal) (all : Option Refusal) → i < length xs → x ≡ get_or xs i x
    → first (f n x) ≡ Some r → scan f n (drop i xs) ≡ all → all ≡ Some r
scan_found f xs i n x r all low is some before =
    sym before ∙ at_drop_more (scan f n) xs i x low
    ∙ first-some (f n (get_or xs i x)) (flat_map (λ p. f p.0 p.1) (enumerate_from (n + 1) (drop (i + 1) xs))) r (sym (ap (λ x. first (f n x)) is) ∙ some)

pub scan_end : {X : Type 0} (f : ℕ → X → List (Option Refusal)) (xs : List X) (i n : ℕ) (all : Option Refusal) → length xs ≤ i → scan f n (drop i xs) ≡ all → all ≡ None
scan_end f xs i n all past before = sym before ∙ at_drop_all (scan f n) xs i past
