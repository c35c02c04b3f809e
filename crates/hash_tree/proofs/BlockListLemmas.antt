-- Blocks in a list of vectors.
use Rattle.std.proofs.Common.{◌≡◌, ◌≢◌, ◌<◌, ℕ, List, [], Vec, Global, Bool, true, false, not, get_or, length, map, refl, sym, ap, ◌∙◌}
use Rattle.std.proofs.lemmas.List.{get_or-map}
use Rattle.std.proofs.lemmas.Slice.Eq.{bytes_eq-Decides}
use Rattle.std.proofs.lemmas.Bool.Decides.{not_from_Decides}
use Rattle.std.specs.Str.{bytes_eq}

-- the bytes of each block
abbrev pub blocks_of : List (Vec ℕ Global) → List (List ℕ)
blocks_of xs = map (λ b. b.items) xs

-- what indexing gave, as a block
pub block_read : (xs : List (Vec ℕ Global)) (k : ℕ) (v : Vec ℕ Global) (ys : List ℕ) → k < length xs → v ≡ get_or xs k v → ys ≡ v.items → ys ≡ get_or (blocks_of xs) k []
block_read xs k v ys inside is value = value ∙ ap (λ (v : Vec ℕ Global). v.items) is ∙ sym (get_or-map (λ (b : Vec ℕ Global). b.items) xs k v [] inside)

differ_at : (xs ys : List ℕ) (b : Bool) → bytes_eq xs ys ≡ b → true ≡ not b → xs ≢ ys
differ_at xs ys true is h = cc
differ_at xs ys false is h = not_from_Decides (bytes_eq xs ys) (bytes_eq-Decides xs ys) is

same_at : (xs ys : List ℕ) (b : Bool) → bytes_eq xs ys ≡ b → false ≡ not b → xs ≡ ys
same_at xs ys true is h = (bytes_eq-Decides xs ys).0 is
same_at xs ys false is h = cc

-- what `!=` says of two blocks
pub ne_differ : (xs ys : List ℕ) → true ≡ not (bytes_eq xs ys) → xs ≢ ys
ne_differ xs ys h = differ_at xs ys (bytes_eq xs ys) refl h

pub ne_same : (xs ys : List ℕ) → false ≡ not (bytes_eq xs ys) → xs ≡ ys
ne_same xs ys h = same_at xs ys (bytes_eq xs ys) refl h
