-- What is known of a data block that is seen as good, or as changed.
use Rattle.std.proofs.Common.{◌≡◌, ◌≢◌, ◌<◌, ℕ, List, [], ◌∷◌, length, refl, sym, ap, ◌∙◌, subst, arith, inl, inr, ◌⊎◌}
use Rattle.tree_shape.specs.Digests.{digest}
use Rattle.tree_shape.specs.Shape.{ShapeRecord}
use Rattle.hash_tree.specs.Chain.{ChainRecord, HangsFrom, IsGood, formed}
use Rattle.hash_tree.specs.Laws.{FormedChainsAreGood}
use Rattle.tree_path.specs.Laws.{Collide}
use Rattle.tree_path.specs.Path.{PathRecord, IsPathOf, digest_on}
use Rattle.tree_path.proofs.lemmas.ChainLemmas.{Ends, blocks-one, hangs-on}
use Rattle.tree_survey.specs.Laws.{IsChain, AreContents, GoodBlocksAreGood, ChangedBlocksDiffer, GoodContentsAreData, ChangedContentsDiffer}
use Rattle.tree_survey.specs.Surveys.{Tree, IsWay}

good-of : (t : Tree) (p : PathRecord) (c : ChainRecord) → IsPathOf t.shape t.salt t.root p → IsGood t.shape t.salt t.root c → IsGood p.shape p.salt p.root c
good-of t p c is good =
    subst (λ (x : List ℕ). IsGood p.shape p.salt x c) (sym is.root_is)
    (subst (λ (x : List ℕ). IsGood p.shape x t.root c) (sym is.salt_is) (subst (λ (x : ShapeRecord). IsGood x t.salt t.root c) (sym is.shape_is) good))

digest-here : (p : PathRecord) (i : ℕ) (content : List ℕ) (rest : List (List ℕ)) → length rest ≡ 0 → HangsFrom p.shape p.salt i (digest_on p i 0) rest content → digest p.salt content ≡ digest_on p i 0
digest-here p i content [] count hangs = hangs.1
digest-here p i content (x ∷ rest) count hangs = absurd (omega (arith, count))

module _ (t : Tree) (i : ℕ) (p : PathRecord) (way : IsWay t i 0 p) (c : ChainRecord) (chain : IsChain t i c) where
  ends : Ends p i 0 c.content ⊎ Collide t.salt
  ends =
      subst (λ (x : List ℕ). Ends p i 0 c.content ⊎ Collide x) way.is.salt_is
      (hangs-on p i 0 c (sym chain.index) (omega arith) way.leads (good-of t p c way.is chain.good))

  chain-digest : Ends p i 0 c.content → digest t.salt c.content ≡ digest_on p i 0
  chain-digest x = ap (λ (z : List ℕ). digest z c.content) (sym way.is.salt_is) ∙ digest-here p i c.content x.0 x.1.0 x.1.1

  good-found : (content : List ℕ) → digest t.salt content ≡ digest_on p i 0 → (content ≡ c.content) ⊎ Collide t.salt
  good-found content same = elim ends [
    | inr clash ↦ inr clash
    | inl x ↦ blocks-one t.salt content c.content (same ∙ sym (chain-digest x))
  ]

  changed-found : (content : List ℕ) → digest t.salt content ≢ digest_on p i 0 → (content ≢ c.content) ⊎ Collide t.salt
  changed-found content apart = elim ends [
    | inr clash ↦ inr clash
    | inl x ↦ inl (λ same. apart (ap (digest t.salt) same ∙ chain-digest x))
  ]

pub good-blocks : GoodBlocksAreGood
good-blocks t i content (p, (way, same)) c chain = good-found t i p way c chain content same

pub changed-blocks : ChangedBlocksDiffer
changed-blocks t i content (p, (way, apart)) c chain = changed-found t i p way c chain content apart

-- the chain that is formed of the data
formed-chain : FormedChainsAreGood → (t : Tree) (contents : List (List ℕ)) → AreContents t contents → (i : ℕ) → i < t.shape.blocks → IsChain t i (formed t.shape t.salt contents i)
unfolding formed
formed-chain form t contents are i inside = record {
  index = refl;
  good = subst (λ (r : List ℕ). IsGood t.shape t.salt r (formed t.shape t.salt contents i)) (sym are.root)
      (form t.shape are.shape t.salt contents are.blocks i inside);
}

pub good-contents : FormedChainsAreGood → GoodContentsAreData
unfolding formed
good-contents form t contents are i inside content good =
    good-blocks t i content good (formed t.shape t.salt contents i) (formed-chain form t contents are i inside)

pub changed-contents : FormedChainsAreGood → ChangedContentsDiffer
unfolding formed
changed-contents form t contents are i inside content changed =
    changed-blocks t i content changed (formed t.shape t.salt contents i) (formed-chain form t contents are i inside)
