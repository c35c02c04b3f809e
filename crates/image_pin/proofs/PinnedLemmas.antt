-- Two lists of data blocks with one pin.
use Rattle.std.proofs.Common.{◌≡◌, ◌≢◌, ◌<◌, ℕ, List, [], ◌∷◌, Bool, true, false, refl, sym, ◌∙◌, ap, subst, length, take, arith, inl, inr, ◌⊎◌, suc}
use Rattle.std.specs.List.{slice_index_or}
use Rattle.std.specs.Str.{bytes_eq}
use Rattle.std.proofs.lemmas.Slice.Eq.{bytes_eq-Decides}
use Rattle.std.proofs.lemmas.Bool.Decides.{not_from_Decides}
use Rattle.tree_shape.specs.Shape.{ShapeRecord}
use Rattle.hash_tree.specs.Chain.{ChainRecord, IsGood, formed}
use Rattle.hash_tree.specs.Difference.{FirstDiffer}
use Rattle.hash_tree.specs.Laws.{FormedChainsAreGood, GoodChainsCollide}
use Rattle.image_pin.specs.Laws.{PinnedImagesAreEqual, shape_of}

same_or_not : (xs ys : List ℕ) (b : Bool) → bytes_eq xs ys ≡ b → (xs ≡ ys) ⊎ (xs ≢ ys)
same_or_not xs ys true is = inl ((bytes_eq-Decides xs ys).0 is)
same_or_not xs ys false is = inr (not_from_Decides (bytes_eq xs ys) (bytes_eq-Decides xs ys) is)

-- two lists of one length are equal or differ first at some index
first_differ : (p q : List (List ℕ)) → length p ≡ length q → (p ≡ q) ⊎ ((k : ℕ) × FirstDiffer p q k)
first_differ [] [] lengths = inl refl
first_differ [] (b ∷ q) lengths = absurd (omega (arith, lengths))
first_differ (a ∷ p) [] lengths = absurd (omega (arith, lengths))
first_differ (a ∷ p) (b ∷ q) lengths =
    elim (same_or_not a b (bytes_eq a b) refl) [
      | inr apart ↦ inr (0, record { inside = omega arith; above = refl; differ = apart })
      | inl same ↦ elim (first_differ p q (omega (arith, lengths))) [
        | inl rest ↦ inl (ap (λ x. x ∷ p) same ∙ ap (λ xs. b ∷ xs) rest)
        | inr found ↦ inr (
          suc found.0,
          record {
            inside = omega (arith, found.1.inside);
            above = ap (λ x. x ∷ take found.0 p) same ∙ ap (λ xs. b ∷ xs) found.1.above;
            differ = found.1.differ;
          },
        )
      ]
    ]

-- the chains formed of block i have one index, and as contents the blocks
same_index : (s : ShapeRecord) (salt : List ℕ) (a b : List (List ℕ)) (i : ℕ) → (formed s salt a i).index ≡ (formed s salt b i).index
unfolding formed
same_index s salt a b i = refl

contents : (s : ShapeRecord) (salt : List ℕ) (a b : List (List ℕ)) (i : ℕ) → formed s salt a i ≡ formed s salt b i → slice_index_or a i [] ≡ slice_index_or b i []
unfolding formed
contents s salt a b i same = ap (λ (c : ChainRecord). c.content) same

pub pinned-equal : FormedChainsAreGood → GoodChainsCollide → PinnedImagesAreEqual
pinned-equal are_good collide pin a b pa pb =
    elim (first_differ a b (pa.are.count ∙ sym pb.are.count)) [
      | inl same ↦ inl same
      | inr found ↦
          let i : ℕ = found.0 in
          let s : ShapeRecord = shape_of pin in
          let inside : i < pin.blocks = omega (arith, found.1.inside, pa.are.count) in
          let good_a : IsGood s pin.salt pin.root (formed s pin.salt a i) = subst (λ (r : List ℕ). IsGood s pin.salt r (formed s pin.salt a i)) pa.root (are_good s pa.valid pin.salt a pa.are i inside) in
          let good_b : IsGood s pin.salt pin.root (formed s pin.salt b i) = subst (λ (r : List ℕ). IsGood s pin.salt r (formed s pin.salt b i)) pb.root (are_good s pb.valid pin.salt b pb.are i inside) in
          let place = collide s pin.salt pin.root (formed s pin.salt a i) (formed s pin.salt b i) good_a good_b (same_index s pin.salt a b i) (λ same. found.1.differ (contents s pin.salt a b i same)) in
          inr (i, (place.0, place.1.1))
    ]
