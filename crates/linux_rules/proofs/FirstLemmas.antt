-- The first result over the elements of a list.
use Rattle.std.proofs.Common.{◌≡◌, ◌+◌, ◌≤◌, ◌<◌, ℕ, zero, suc, List, [], ◌∷◌, sym, ap, ◌∙◌, Option, Some, None, length, drop, get_or}
use Rattle.std.specs.Prelude.{slice_get}
use Rattle.std.specs.Option.{option_or}
use Rattle.std.proofs.lemmas.List.{at_drop_more, at_drop_all}
use Rattle.linux_rules.specs.Rules.{first_from}

pub first_more : {X R : Type 0} (f : ℕ → X → Option R) (xs : List X) (i n : ℕ) (x : X) (all : Option R) → i < length xs → x ≡ get_or xs i x
    → f n x ≡ None → first_from f n (drop i xs) ≡ all → first_from f (n + 1) (drop (i + 1) xs) ≡ all
first_more f xs i n x all low is none before =
    sym (ap (λ o. option_or o (first_from f (n + 1) (drop (i + 1) xs))) (sym (ap (f n) is) ∙ none)) ∙ sym (at_drop_more (first_from f n) xs i x low) ∙ before

pub first_found : {X R : Type 0} (f : ℕ → X → Option R) (xs : List X) (i n : ℕ) (x : X) (r : R) (all : Option R) → i < length xs → x ≡ get_or xs i x
    → f n x ≡ Some r → first_from f n (drop i xs) ≡ all → all ≡ Some r
first_found f xs i n x r all low is some before =
    sym before ∙ at_drop_more (first_from f n) xs i x low ∙ ap (λ o. option_or o (first_from f (n + 1) (drop (i + 1) xs))) (sym (ap (f n) is) ∙ some)

pub first_end : {X R : Type 0} (f : ℕ → X → Option R) (xs : List X) (i n : ℕ) (all : Option R) → length xs ≤ i → first_from f n (drop i xs) ≡ all → all ≡ None
first_end f xs i n all past before = sym before ∙ at_drop_all (first_from f n) xs i past

-- an element by its place
pub read-of : {X : Type 0} (xs : List X) (i : ℕ) (x : X) → slice_get xs i ≡ Some x → x ≡ get_or xs i x
read-of [] i x is = let clash : None ≡ Some x = is in cc
read-of (y ∷ ys) zero x is = let same : y ≡ x = cc in sym same
read-of (y ∷ ys) (suc i) x is = read-of ys i x is
