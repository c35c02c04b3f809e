-- Numbers that rise along a list are apart.
use Rattle.std.proofs.Common.{◌≡◌, ℕ, ◌<◌, ◌&&◌, List, [], ◌∷◌, Bool, true, false, refl, arith}
use Rattle.std.specs.Prelude.{AllPairs, nat_lt}
use Rattle.std.specs.List.{list_all}
use Rattle.std.proofs.lemmas.Bool.{ltb-true}
use Rattle.std.proofs.lemmas.List.Kept.{AllPairs-cons}
use Rattle.std.proofs.lemmas.List.Sums.{AllPass-from_list_all}
use Rattle.io_fault_text.specs.Refusals.{HaveOwnNumbers, refusals}

-- each number is below those after it
rise : List (ℕ × List ℕ) → Bool
rise [] = true
rise (row ∷ rows) = list_all (λ later. nat_lt row.0 later.0) rows && rise rows

both : (a b : Bool) → (a && b) ≡ true → (a ≡ true) × (b ≡ true)
both true b h = (refl, h)
both false b h = let clash : false ≡ true = h in cc

rise-pairs : (rows : List (ℕ × List ℕ)) → rise rows ≡ true → AllPairs (λ (a : ℕ × List ℕ) (b : ℕ × List ℕ). a.0 < b.0) rows
unfolding rise
rise-pairs [] h = λ i j d lt within. absurd (omega arith)
rise-pairs (row ∷ rows) h =
    let each = both (list_all (λ later. nat_lt row.0 later.0) rows) (rise rows) h in
    let pass = AllPass-from_list_all (λ (later : ℕ × List ℕ). nat_lt row.0 later.0) rows each.0 in
    AllPairs-cons (λ (a : ℕ × List ℕ) (b : ℕ × List ℕ). a.0 < b.0) row rows (λ k d within. ltb-true _ _ (pass k d within)) (rise-pairs rows each.1)

pub own-numbers : HaveOwnNumbers
unfolding refusals rise
own-numbers = rise-pairs refusals refl
