-- What a comparison says of all data under the two roots.
use Rattle.std.proofs.Common.{◌≡◌, ◌≢◌, ◌<◌, ℕ, List, [], ◌∷◌, length, refl, sym, ap, ◌∙◌, subst, arith, inl, inr, ◌⊎◌}
use Rattle.tree_shape.specs.Digests.{digest}
use Rattle.tree_shape.specs.Shape.{ShapeRecord, levels}
use Rattle.hash_tree.specs.Chain.{ChainRecord, HangsFrom, IsGood, formed}
use Rattle.hash_tree.specs.Laws.{FormedChainsAreGood}
use Rattle.tree_path.specs.Laws.{Collide}
use Rattle.tree_path.specs.Path.{PathRecord, IsPathOf, digest_on}
use Rattle.tree_path.proofs.lemmas.ChainLemmas.{Ends, hangs-on, hang-together}
use Rattle.tree_difference.specs.Laws.{AreChains, AreBothContents, SameBlocksAreSame, ChangedChainsDiffer, SameContentsAreSame, ChangedListsDiffer}
use Rattle.tree_difference.specs.Trees.{Trees, AreComparable, AreWays, common_blocks}

good-of : (s : ShapeRecord) (salt r : List ℕ) (p : PathRecord) (c : ChainRecord) → IsPathOf s salt r p → IsGood s salt r c → IsGood p.shape p.salt p.root c
good-of s salt r p c is good =
    subst (λ (x : List ℕ). IsGood p.shape p.salt x c) (sym is.root_is)
    (subst (λ (x : List ℕ). IsGood p.shape x r c) (sym is.salt_is) (subst (λ (x : ShapeRecord). IsGood x salt r c) (sym is.shape_is) good))

module _ (t : Trees) (alike : AreComparable t) (i k : ℕ) (p q : PathRecord) (ways : AreWays t i k p q) (a b : ChainRecord) (chains : AreChains t i a b) where
  first-ends : Ends p i k a.content ⊎ Collide t.first_salt
  first-ends =
      subst (λ (x : List ℕ). Ends p i k a.content ⊎ Collide x) ways.first_is.salt_is
      (hangs-on p i k a (sym chains.first_index) (omega (arith, ways.few, ap levels ways.first_is.shape_is)) ways.first_leads
      (good-of t.first t.first_salt t.first_root p a ways.first_is chains.first_good))

  second-ends : Ends q i k b.content ⊎ Collide t.first_salt
  second-ends =
      subst (λ (x : List ℕ). Ends q i k b.content ⊎ Collide x) (ways.second_is.salt_is ∙ alike.salt)
      (hangs-on q i k b (sym chains.second_index) (omega (arith, ways.few, ap levels ways.second_is.shape_is)) ways.second_leads
      (good-of t.second t.second_salt t.second_root q b ways.second_is chains.second_good))

  salts : q.salt ≡ p.salt
  salts = ways.second_is.salt_is ∙ alike.salt ∙ sym ways.first_is.salt_is

  sizes : p.shape.hash_block ≡ q.shape.hash_block
  sizes =
      ap (λ (s : ShapeRecord). s.hash_block) ways.first_is.shape_is ∙ sym alike.hash_block
      ∙ sym (ap (λ (s : ShapeRecord). s.hash_block) ways.second_is.shape_is)

  same-ends : digest_on p i k ≡ digest_on q i k → Ends p i k a.content → Ends q i k b.content → (a.content ≡ b.content) ⊎ Collide t.first_salt
  same-ends same x y =
      subst (λ (z : List ℕ). (a.content ≡ b.content) ⊎ Collide z) ways.first_is.salt_is
      (hang-together p.shape q.shape p.salt i sizes (digest_on p i k) x.0 y.0 a.content b.content (x.1.0 ∙ sym y.1.0) x.1.1
      (subst (λ (z : List ℕ). HangsFrom q.shape p.salt i z y.0 b.content) (sym same) (subst (λ (z : List ℕ). HangsFrom q.shape z i (digest_on q i k) y.0 b.content) salts y.1.1)))

  same-found : digest_on p i k ≡ digest_on q i k → (a.content ≡ b.content) ⊎ Collide t.first_salt
  same-found same = elim first-ends [
    | inr clash ↦ inr clash
    | inl x ↦ elim second-ends [
      | inr clash ↦ inr clash
      | inl y ↦ same-ends same x y
    ]
  ]

digest-here : (p : PathRecord) (i : ℕ) (content : List ℕ) (rest : List (List ℕ)) → length rest ≡ 0 → HangsFrom p.shape p.salt i (digest_on p i 0) rest content → digest p.salt content ≡ digest_on p i 0
digest-here p i content [] count hangs = hangs.1
digest-here p i content (x ∷ rest) count hangs = absurd (omega (arith, count))

module _ (t : Trees) (alike : AreComparable t) (i : ℕ) (p q : PathRecord) (ways : AreWays t i 0 p q) (a b : ChainRecord) (chains : AreChains t i a b) where
  changed-found : digest_on p i 0 ≢ digest_on q i 0 → (a.content ≢ b.content) ⊎ Collide t.first_salt
  changed-found apart = elim (first-ends t alike i 0 p q ways a b chains) [
    | inr clash ↦ inr clash
    | inl x ↦ elim (second-ends t alike i 0 p q ways a b chains) [
      | inr clash ↦ inr clash
      | inl y ↦ inl (λ same. apart (
          sym (digest-here p i a.content x.0 x.1.0 x.1.1) ∙ ap (digest p.salt) same ∙ ap (λ (z : List ℕ). digest z b.content) (sym (salts t alike i 0 p q ways a b chains))
          ∙ digest-here q i b.content y.0 y.1.0 y.1.1))
    ]
  ]

pub same-blocks : SameBlocksAreSame
same-blocks t alike i (k, (p, (q, (ways, same)))) a b chains = same-found t alike i k p q ways a b chains same

pub changed-blocks : ChangedChainsDiffer
changed-blocks t alike i (p, (q, (ways, differ))) a b chains = changed-found t alike i p q ways a b chains differ

-- the chains that are formed of the data
module _ (form : FormedChainsAreGood) (t : Trees) (first second : List (List ℕ)) (are : AreBothContents t first second) (i : ℕ) (inside : i < common_blocks t) where
  chain-first : ChainRecord
  chain-first = formed t.first t.first_salt first i

  chain-second : ChainRecord
  chain-second = formed t.second t.second_salt second i

  formed-chains : AreChains t i chain-first chain-second
  unfolding formed chain-first chain-second
  formed-chains = record {
    first_index = refl;
    second_index = refl;
    first_good = subst (λ (r : List ℕ). IsGood t.first t.first_salt r (formed t.first t.first_salt first i)) (sym are.first_root)
        (form t.first are.first_shape t.first_salt first are.first_blocks i (omega (arith, inside)));
    second_good = subst (λ (r : List ℕ). IsGood t.second t.second_salt r (formed t.second t.second_salt second i)) (sym are.second_root)
        (form t.second are.second_shape t.second_salt second are.second_blocks i (omega (arith, inside)));
  }

pub same-contents : FormedChainsAreGood → SameContentsAreSame
unfolding formed chain-first chain-second
same-contents form t alike first second are i inside same =
    same-blocks t alike i same (chain-first form t first second are i inside) (chain-second form t first second are i inside) (formed-chains form t first second are i inside)

pub changed-contents : FormedChainsAreGood → ChangedListsDiffer
unfolding formed chain-first chain-second
changed-contents form t alike first second are i inside differ =
    changed-blocks t alike i differ (chain-first form t first second are i inside) (chain-second form t first second are i inside) (formed-chains form t first second are i inside)
