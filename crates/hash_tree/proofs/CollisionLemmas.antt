-- Two good chains that differ hold two blocks with one digest.
use Rattle.std.proofs.Common.{◌≡◌, ◌≢◌, ◌<◌, ℕ, zero, suc, List, [], ◌∷◌, Bool, true, false, refl, sym, ◌∙◌, ap, subst, length, get_or, take, map, arith, inl, inr, ◌⊎◌}
use Rattle.std.specs.Str.{bytes_eq}
use Rattle.std.proofs.lemmas.Slice.Eq.{bytes_eq-Decides}
use Rattle.std.proofs.lemmas.Bool.Decides.{not_from_Decides}
use Rattle.hash_tree.specs.declared.difference.Place.{Place}
use Rattle.hash_tree.specs.declared.difference.Place.TheVariants.{Hash, Content}
use Rattle.tree_shape.specs.Digests.{digest, digest_in}
use Rattle.tree_shape.specs.Shape.{ShapeRecord, IsShape, slot, ancestor}
use Rattle.hash_tree.specs.Tree.{root}
use Rattle.hash_tree.specs.Chain.{ChainRecord, HangsFrom, IsGood, formed}
use Rattle.std.specs.Prelude.{Option, Some, None, IfSome, IfNone, IsSome}
use Rattle.hash_tree.specs.Difference.{HaveNoDifference, FirstDiffer, IsTopmostDifference, IsCollision, chain_at}
use Rattle.hash_tree.specs.Laws.{AreBlocks}
use Rattle.hash_tree.proofs.FormedLemmas.{formed-good}

module _ (s : ShapeRecord) (salt : List ℕ) (i : ℕ) where
  -- the blocks where two paths that hang from one digest first differ have one digest
  hash-same : (k : ℕ) (e : List ℕ) (p q : List (List ℕ)) (x y : List ℕ) → HangsFrom s salt i e p x → HangsFrom s salt i e q y
      → length p ≡ length q → k < length p → take k p ≡ take k q → digest salt (get_or p k []) ≡ digest salt (get_or q k [])
  hash-same k e [] q x y hp hq lengths inside above = absurd (omega (arith, inside))
  hash-same k e (a ∷ p) [] x y hp hq lengths inside above = absurd (omega (arith, lengths))
  hash-same zero e (a ∷ p) (b ∷ q) x y hp hq lengths inside above = hp.1 ∙ sym hq.1
  hash-same (suc k) e (a ∷ p) (b ∷ q) x y hp hq lengths inside above =
      let first : a ≡ b = cc in
      let rest : take k p ≡ take k q = cc in
      let count : length p ≡ length q = omega (arith, lengths) in
      let below : HangsFrom s salt i (digest_in a (slot s (ancestor s (length p) i))) q y = rw (first, count) hq.2 in
      hash-same k (digest_in a (slot s (ancestor s (length p) i))) p q x y hp.2 below count (omega (arith, inside)) rest

  content-same : (e : List ℕ) (p : List (List ℕ)) (x y : List ℕ) → HangsFrom s salt i e p x → HangsFrom s salt i e p y → digest salt x ≡ digest salt y
  content-same e [] x y hx hy = hx.1 ∙ sym hy.1
  content-same e (a ∷ p) x y hx hy = content-same (digest_in a (slot s (ancestor s (length p) i))) p x y hx.2 hy.2

same-digest : (s : ShapeRecord) (salt root : List ℕ) (a b : ChainRecord) → IsGood s salt root a → IsGood s salt root b
    → (place : Place) → IsTopmostDifference a b place → digest salt (chain_at a place) ≡ digest salt (chain_at b place)
same-digest s salt root a b ga gb (Hash k) top =
    hash-same s salt a.index k root a.path b.path a.content b.content ga.hangs
    (subst (λ (i : ℕ). HangsFrom s salt i root b.path b.content) (sym top.index) gb.hangs) top.lengths top.inside top.above
same-digest s salt root a b ga gb Content top =
    content-same s salt a.index root a.path a.content b.content ga.hangs
    (subst (λ (p : List (List ℕ)). HangsFrom s salt a.index root p b.content) (sym top.above)
    (subst (λ (i : ℕ). HangsFrom s salt i root b.path b.content) (sym top.index) gb.hangs))

pub difference-collides : (s : ShapeRecord) (salt root : List ℕ) (a b : ChainRecord) → IsGood s salt root a → IsGood s salt root b
    → (place : Place) → IsTopmostDifference a b place → IsCollision salt (chain_at a place) (chain_at b place)
difference-collides s salt root a b ga gb place top = record { differ = top.differ; same = same-digest s salt root a b ga gb place top }

same_or_not : (xs ys : List ℕ) (b : Bool) → bytes_eq xs ys ≡ b → (xs ≡ ys) ⊎ (xs ≢ ys)
same_or_not xs ys true is = inl ((bytes_eq-Decides xs ys).0 is)
same_or_not xs ys false is = inr (not_from_Decides (bytes_eq xs ys) (bytes_eq-Decides xs ys) is)

-- two lists of one length are equal or differ first at some index
first_differ : (p q : List (List ℕ)) → length p ≡ length q → (p ≡ q) ⊎ ((k : ℕ) × FirstDiffer p q k)
first_differ [] [] lengths = inl refl
first_differ [] (b ∷ q) lengths = absurd (omega (arith, lengths))
first_differ (a ∷ p) [] lengths = absurd (omega (arith, lengths))
first_differ (a ∷ p) (b ∷ q) lengths =
    elim (same_or_not a b (bytes_eq a b) refl) [
      | inr apart ↦ inr (0, record { inside = omega arith; above = refl; differ = apart })
      | inl same ↦ elim (first_differ p q (omega (arith, lengths))) [
        | inl rest ↦ inl (ap (λ x. x ∷ p) same ∙ ap (λ xs. b ∷ xs) rest)
        | inr found ↦ inr (
          suc found.0,
          record {
            inside = omega (arith, found.1.inside);
            above = ap (λ x. x ∷ take found.0 p) same ∙ ap (λ xs. b ∷ xs) found.1.above;
            differ = found.1.differ;
          },
        )
      ]
    ]

same_chain : (a b : ChainRecord) → a.index ≡ b.index → a.content ≡ b.content → a.path ≡ b.path → a ≡ b
same_chain a b index content path =
    ap (λ (i : ℕ). let c : ChainRecord = record { index = i; content = a.content; path = a.path } in c) index
    ∙ ap (λ (x : List ℕ). let c : ChainRecord = record { index = b.index; content = x; path = a.path } in c) content
    ∙ ap (λ (p : List (List ℕ)). let c : ChainRecord = record { index = b.index; content = b.content; path = p } in c) path

topmost : (a b : ChainRecord) → a.index ≡ b.index → length a.path ≡ length b.path → a ≢ b → (place : Place) × IsTopmostDifference a b place
topmost a b index lengths apart =
    elim (first_differ a.path b.path lengths) [
      | inr found ↦ (Hash found.0, record { index = index; lengths = lengths; inside = found.1.inside; above = found.1.above; differ = found.1.differ })
      | inl paths ↦ (Content, record { index = index; lengths = lengths; inside = tt; above = paths; differ = λ same. apart (same_chain a b index same paths) })
    ]

pub good-collide : (s : ShapeRecord) (salt root : List ℕ) (a b : ChainRecord) → IsGood s salt root a → IsGood s salt root b
    → a.index ≡ b.index → a ≢ b → (place : Place) × (IsTopmostDifference a b place × IsCollision salt (chain_at a place) (chain_at b place))
good-collide s salt root a b ga gb index apart =
    let found = topmost a b index (ga.path ∙ sym gb.path) apart in
    (found.0, (found.1, difference-collides s salt root a b ga gb found.0 found.1))

pub forged-collide : (s : ShapeRecord) → IsShape s → (salt : List ℕ) (blocks : List (List ℕ)) → AreBlocks s.blocks s.data_block blocks
    → (chain : ChainRecord) → IsGood s salt (root s.hash_block salt (map (digest salt) blocks)) chain
    → chain.content ≢ get_or blocks chain.index []
    → (place : Place) × (IsTopmostDifference (formed s salt blocks chain.index) chain place
    × IsCollision salt (chain_at (formed s salt blocks chain.index) place) (chain_at chain place))
unfolding formed
forged-collide s valid salt blocks are chain good apart =
    good-collide s salt (root s.hash_block salt (map (digest salt) blocks)) (formed s salt blocks chain.index) chain
    (formed-good s valid salt blocks are chain.index good.index) good refl (λ same. apart (sym (ap (λ (c : ChainRecord). c.content) same)))

-- the place that is found for two good chains
pub found-collides : (s : ShapeRecord) (salt root : List ℕ) (a b : ChainRecord) → IsGood s salt root a → IsGood s salt root b
    → (r : Option Place) → IfSome r (λ place. IsTopmostDifference a b place) → IfSome r (λ place. IsCollision salt (chain_at a place) (chain_at b place))
found-collides s salt root a b ga gb None found = tt
found-collides s salt root a b ga gb (Some place) found = difference-collides s salt root a b ga gb place found

pub differing-found : (s : ShapeRecord) (salt root : List ℕ) (a b : ChainRecord) → IsGood s salt root a → IsGood s salt root b
    → (r : Option Place) → IfNone r (HaveNoDifference a b) → a.index ≡ b.index → a.content ≢ b.content → IsSome r
differing-found s salt root a b ga gb (Some place) none index apart = refl
differing-found s salt root a b ga gb None none index apart =
    elim none [
      | inl other ↦ absurd (other index)
      | inr (inl longer) ↦ absurd (longer (ga.path ∙ sym gb.path))
      | inr (inr same) ↦ absurd (apart same.1)
    ]
