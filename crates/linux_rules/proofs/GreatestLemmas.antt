-- The greatest number of a list.
use Rattle.std.proofs.Common.{◌≡◌, ◌+◌, ◌≤◌, ◌<◌, ℕ, max, List, ap, sym, ◌∙◌, length, drop, get_or, map, arith}
use Rattle.std.specs.Ordering.{ord_max, nat_cmp}
use Rattle.std.proofs.lemmas.Bool.Decides.{nat_tests}
use Rattle.std.proofs.lemmas.Grind.{common_steps}
use Rattle.std.proofs.lemmas.List.{at_drop_more, at_drop_all}
use Rattle.stack_rules.specs.Descend.{greatest}

pub greatest_more : {X : Type 0} (f : X → ℕ) (xs : List X) (i g : ℕ) (x : X) (y all : ℕ) → i < length xs → x ≡ get_or xs i x → y ≡ f x
    → max g (greatest (map f (drop i xs))) ≡ all → max (max g y) (greatest (map f (drop (i + 1) xs))) ≡ all
greatest_more f xs i g x y all low is same before =
    let e = at_drop_more (λ xs. greatest (map f xs)) xs i x low in
    let here : f (get_or xs i x) ≡ y = ap f (sym is) ∙ sym same in
    omega (arith, e, here, before)

pub greatest_all : {X : Type 0} (f : X → ℕ) (xs : List X) (i g all : ℕ) → length xs ≤ i → max g (greatest (map f (drop i xs))) ≡ all → g ≡ all
greatest_all f xs i g all past before =
    let none = at_drop_all (λ xs. greatest (map f xs)) xs i past in
    omega (arith, none, before)

pub ord_max-nat : (a b : ℕ) → ord_max nat_cmp a b ≡ max a b
ord_max-nat a b = first_of (grind (arith, nat_tests), grind (arith, common_steps))
