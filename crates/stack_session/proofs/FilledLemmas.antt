-- Bytes are all one where each is the one before it.
use Rattle.std.proofs.Common.{◌≡◌, ◌<◌, ◌&&◌, ◌==◌, ◌-◌, Bool, true, false, ℕ, List, [], ◌∷◌, length, take, drop, slice_index, arith, refl, sym, ap, ◌∙◌}
use Rattle.std.specs.List.{list_all}
use Rattle.std.specs.Str.{bytes_eq}
use Rattle.std.proofs.lemmas.Bool.{eqb-true, eq-eqb}
use Rattle.std.proofs.lemmas.List.{take_all}
use native.Mathlib.Numerals.{unary_clauses}

next : (x y : ℕ) (ys : List ℕ) (t : Bool) → (y == x) ≡ t → (t && list_all (λ b. b == y) ys) ≡ (t && list_all (λ b. b == x) ys)
next x y ys true same = ap (λ n. list_all (λ b. b == n) ys) (eqb-true y x same)
next x y ys false same = refl

behind : (x : ℕ) (rest : List ℕ) → bytes_eq rest (take (length rest) (x ∷ rest)) ≡ list_all (λ b. b == x) rest
behind x [] = refl
behind x (y ∷ ys) = ap (λ b. (y == x) && b) (behind y ys) ∙ next x y ys (y == x) refl

first : (x : ℕ) (rest : List ℕ) → bytes_eq (take (length rest) rest) (take (length rest) (x ∷ rest)) ≡ list_all (λ b. b == x) (x ∷ rest)
first x rest =
    ap (λ l. bytes_eq l (take (length rest) (x ∷ rest))) (take_all (length rest) rest (omega arith)) ∙ behind x rest
    ∙ sym (ap (λ b. b && list_all (λ b. b == x) rest) (eq-eqb x x refl))

pub filled : (bytes : List ℕ) → 0 < length bytes
    → bytes_eq (take (length bytes - 1) (drop 1 bytes)) (take (length bytes - 1) bytes) ≡ list_all (λ b. b == slice_index bytes 0) bytes
filled [] some = absurd (omega (arith, some))
filled (x ∷ rest) some = simp unary_clauses (first x rest)
