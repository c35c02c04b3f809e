-- Elements of lists by place.
use Rattle.std.proofs.Common.{◌≡◌, ◌<◌, ℕ, zero, suc, List, [], ◌∷◌, refl, sym, ap, ◌∙◌, Option, Some, None, length, get_or, map, arith}
use Rattle.std.specs.Prelude.{slice_get}
use Rattle.std.specs.Option.{option_map_or, option_and_then}

pub slice_get-read : {X : Type 0} (xs : List X) (i : ℕ) (x : X) → i < length xs → x ≡ get_or xs i x → slice_get xs i ≡ Some x
slice_get-read [] i x low is = let no : ⊥ = omega (arith, low) in absurd no
slice_get-read (y ∷ ys) zero x low is = ap Some (sym is)
slice_get-read (y ∷ ys) (suc i) x low is = slice_get-read ys i x (omega (arith, low)) is

-- there is an element at each place within a list
pub slice_get-some : {X : Type 0} (xs : List X) (i : ℕ) → i < length xs → (x : X) × (slice_get xs i ≡ Some x)
slice_get-some [] i low = let no : ⊥ = omega (arith, low) in absurd no
slice_get-some (y ∷ ys) zero low = (y, refl)
slice_get-some (y ∷ ys) (suc i) low = slice_get-some ys i (omega (arith, low))

-- rows of two tables that agree row by row
pub same_row : {X Y Z : Type 0} (f : X → Z) (g : Y → List Z) (xs : List (List X)) (ys : List Y) (i : ℕ)
    → map (map f) xs ≡ map g ys → map f (get_or xs i []) ≡ option_map_or g (slice_get ys i) []
same_row f g [] [] i e = refl
same_row f g [] (y ∷ ys) i e = let clash : [] ≡ map g (y ∷ ys) = e in cc
same_row f g (x ∷ xs) [] i e = let clash : map (map f) (x ∷ xs) ≡ [] = e in cc
same_row f g (x ∷ xs) (y ∷ ys) zero e = let here : map f x ≡ g y = cc in here
same_row f g (x ∷ xs) (y ∷ ys) (suc i) e = let more : map (map f) xs ≡ map g ys = cc in same_row f g xs ys i more

pub same_at : {Y Z : Type 0} (f : Y → Option Z) (xs : List Z) (ys : List Y) (i : ℕ) (x : Z)
    → map (λ z. Some z) xs ≡ map f ys → slice_get xs i ≡ Some x → option_and_then f (slice_get ys i) ≡ Some x
same_at f [] ys i x e is = let clash : None ≡ Some x = is in cc
same_at f (z ∷ xs) [] i x e is = let clash : map (λ z. Some z) (z ∷ xs) ≡ [] = e in cc
same_at f (z ∷ xs) (y ∷ ys) zero x e is = let here : Some z ≡ f y = cc in sym here ∙ is
same_at f (z ∷ xs) (y ∷ ys) (suc i) x e is = let more : map (λ z. Some z) xs ≡ map f ys = cc in same_at f xs ys i x more is
