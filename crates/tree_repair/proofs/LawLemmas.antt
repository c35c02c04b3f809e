-- A block that was mended is that of each chain that is good under the root.
use Rattle.std.proofs.Common.{◌≡◌, ◌≤◌, ◌<◌, ◌+◌, ◌-◌, ℕ, zero, suc, Bool, List, [], ◌∷◌, length, map, get_or, add-one, refl, sym, ap, ◌∙◌, subst, arith, inl, inr, ◌⊎◌}
use Rattle.tree_shape.specs.Digests.{digest, digest_in}
use Rattle.block_device.specs.Device.{Device}
use Rattle.tree_shape.specs.Shape.{ShapeRecord, IsShape, levels, slot, ancestor}
use Rattle.hash_tree.specs.Tree.{level}
use Rattle.verity_format.specs.Blocks.{blocks_at}
use Rattle.hash_tree.specs.Chain.{ChainRecord, HangsFrom, IsGood, formed}
use Rattle.hash_tree.specs.Laws.{FormedChainsAreGood}
use Rattle.tree_path.specs.Laws.{Collide}
use Rattle.tree_path.specs.Path.{PathRecord, LeadsTo, block_of, digest_on}
use Rattle.tree_path.proofs.lemmas.ChainLemmas.{blocks-one}
use Rattle.tree_path.proofs.lemmas.PathLemmas.{digest_on-below, digest_on-top}
use Rattle.tree_survey.specs.Laws.{AreContents, IsChain}
use Rattle.tree_survey.specs.Surveys.{Tree, IsWay}
use Rattle.tree_repair.specs.declared.mending.Mended.{Mended}
use Rattle.tree_repair.specs.declared.mending.Mended.TheVariants as mended
use Rattle.tree_repair.specs.Laws.{MendedBlocksAreFormatted, MendedBlocksAreGood, NoHashBlockIsLost, chain_block_below, block_of_height}
use Rattle.tree_repair.specs.Mending.{IsBlockFound, IsMended, BlockCheck}
use Rattle.tree_repair.specs.Remaking.{ground, lost_hash, made, made_on}
use Rattle.tree_repair.proofs.MakeLemmas.{unlike-data}
use Rattle.tree_repair.specs.Runs.{IsMadeOf, look_at}
use Rattle.tree_repair.proofs.FormedLemmas.{below-path, level-made}

-- the block of a chain d blocks beneath its top has the digest to which a path leads there, or two blocks collide
module _ (p : PathRecord) (i k : ℕ) (content : List ℕ) (leads : LeadsTo p i k) where
  meets : (d : ℕ) (path : List (List ℕ)) → length path ≡ k + d → k + d ≤ levels p.shape → HangsFrom p.shape p.salt i (digest_on p i (k + d)) path content
      → (digest p.salt (chain_block_below path content d) ≡ digest_on p i k) ⊎ Collide p.salt
  meets zero [] count few hangs = let none : k + 0 ≡ k = omega arith in inl (hangs.1 ∙ ap (digest_on p i) none)
  meets zero (b ∷ path) count few hangs = let none : k + 0 ≡ k = omega arith in inl (hangs.1 ∙ ap (digest_on p i) none)
  meets (suc d) [] count few hangs = absurd (omega (arith, count))
  meets (suc d) (b ∷ path) count few hangs =
      let l : ℕ = k + d in
      let up : k + suc d ≡ l + 1 = omega arith in
      let rest : length path ≡ l = omega (arith, count) in
      let low : l < levels p.shape = omega (arith, few) in
      elim (blocks-one p.salt b (block_of p l) (hangs.1 ∙ ap (digest_on p i) up ∙ sym (leads.up l (omega arith) low))) [
        | inr clash ↦ inr clash
        | inl same ↦
            let stands : digest_in b (slot p.shape (ancestor p.shape (length path) i)) ≡ digest_on p i l =
            ap (λ (x : List ℕ). digest_in x (slot p.shape (ancestor p.shape (length path) i))) same
            ∙ ap (λ (n : ℕ). digest_in (block_of p l) (slot p.shape (ancestor p.shape n i))) rest
            ∙ sym (digest_on-below p i l low) in
            meets d path rest (omega (arith, few)) (subst (λ (e : List ℕ). HangsFrom p.shape p.salt i e path content) stands hangs.2)
      ]

-- of a path in its own tree
path-digest : (p : PathRecord) (i h : ℕ) (c : ChainRecord) → LeadsTo p i h → h ≤ levels p.shape → c.index ≡ i → IsGood p.shape p.salt p.root c
    → (digest p.salt (chain_block_below c.path c.content (levels p.shape - h)) ≡ digest_on p i h) ⊎ Collide p.salt
path-digest p i h c leads few at good =
    let d : ℕ = levels p.shape - h in
    let all : h + d ≡ levels p.shape = omega (arith, few) in
    let top : p.root ≡ digest_on p i (h + d) = sym (digest_on-top p i (h + d) all) in
    let hangs : HangsFrom p.shape p.salt i (digest_on p i (h + d)) c.path c.content =
    subst (λ (e : List ℕ). HangsFrom p.shape p.salt i e c.path c.content) top (subst (λ (n : ℕ). HangsFrom p.shape p.salt n p.root c.path c.content) at good.hangs) in
    meets p i h c.content leads d c.path (good.path ∙ sym all) (omega (arith, all)) hangs

-- a chain's block has the digest to which a way leads
pub way-digest : (t : Tree) (p : PathRecord) (i h : ℕ) (c : ChainRecord) → IsWay t i h p → IsChain t i c → (digest t.salt (block_of_height t c h) ≡ digest_on p i h) ⊎ Collide t.salt
way-digest t p i h c way chain =
    let good : IsGood p.shape p.salt p.root c =
    subst (λ (x : List ℕ). IsGood p.shape p.salt x c) (sym way.is.root_is)
    (subst (λ (x : List ℕ). IsGood p.shape x t.root c) (sym way.is.salt_is) (subst (λ (x : ShapeRecord). IsGood x t.salt t.root c) (sym way.is.shape_is) chain.good)) in
    let few : h ≤ levels p.shape = omega (arith, way.few, ap levels way.is.shape_is) in
    subst (λ (x : List ℕ). (digest x (block_of_height t c h) ≡ digest_on p i h) ⊎ Collide x) way.is.salt_is
    (subst (λ (s : ShapeRecord). (digest p.salt (chain_block_below c.path c.content (levels s - h)) ≡ digest_on p i h) ⊎ Collide p.salt) way.is.shape_is (path-digest p i h c way.leads few chain.index good))

-- so one of the same digest is that block
pub way-good : (t : Tree) (p : PathRecord) (i h : ℕ) (bytes : List ℕ) (c : ChainRecord) → IsWay t i h p → IsChain t i c → digest t.salt bytes ≡ digest_on p i h → (bytes ≡ block_of_height t c h) ⊎ Collide t.salt
way-good t p i h bytes c way chain same =
    elim (way-digest t p i h c way chain) [
      | inr clash ↦ inr clash
      | inl met ↦ blocks-one t.salt bytes (block_of_height t c h) (same ∙ sym met)
    ]

found-good : (l : BlockCheck) (bytes : List ℕ) (done : Bool) (m : Mended) → IsMended l bytes done m → IsBlockFound m → digest l.w.salt bytes ≡ l.w.digest_is
found-good l bytes done mended.Good looked found = absurd found
found-good l bytes done (mended.Copy n) looked found = looked.good
found-good l bytes done mended.Remade looked found = looked.good
found-good l bytes done mended.Parity looked found = looked.replaced.good
found-good l bytes done mended.Lost looked found = absurd found

pub mended-good : MendedBlocksAreGood
mended-good j v w w' m c chain =
    way-good j.tree m.visited.p v.index v.height v.bytes c m.visited.way chain (found-good (look_at j m.visited.p v.height v.index w w') v.bytes v.done v.mended m.visited.mended_as m.found)

-- the chain that is formed of the data
pub formed-chain : FormedChainsAreGood → (t : Tree) (contents : List (List ℕ)) → AreContents t contents → (i : ℕ) → i < t.shape.blocks → IsChain t i (formed t.shape t.salt contents i)
unfolding formed
formed-chain form t contents are i inside = record {
  index = refl;
  good = subst (λ (r : List ℕ). IsGood t.shape t.salt r (formed t.shape t.salt contents i)) (sym are.root)
      (form t.shape are.shape t.salt contents are.blocks i inside);
}

pub mended-formatted : FormedChainsAreGood → MendedBlocksAreFormatted
mended-formatted form j v w w' m contents are =
    mended-good j v w w' m (formed j.tree.shape j.tree.salt contents v.index) (formed-chain form j.tree contents are v.index m.visited.inside)

-- ---- hash blocks that are lost

module _ (t : Tree) (contents : List (List ℕ)) (d h : Device) (l i : ℕ) (valid : IsShape t.shape) (inside : i < t.shape.blocks) (few : suc l ≤ levels t.shape)
    (stand : contents ≡ blocks_at d.image t.shape.data_block 0 t.shape.blocks) where
  -- what is made of the data is the block of the chain that is formed of them
  made-formed : made_on (ground t.shape t.salt d h 0) l i ≡ block_of_height t (formed t.shape t.salt contents i) (suc l)
  unfolding formed
  made-formed =
      let steps : l + 1 - 0 ≡ suc l = omega arith in
      let all : levels t.shape ≡ suc l + (levels t.shape - suc l) = omega (arith, few) in
      ap (λ (k : ℕ). made (ground t.shape t.salt d h 0) k (ancestor t.shape (l + 1) i)) steps
      ∙ sym (level-made t.shape valid t.salt d.image h.image l i inside)
      ∙ ap (λ (x : List (List ℕ)). get_or (level t.shape.hash_block t.salt (map (digest t.salt) x) l) (ancestor t.shape (l + 1) i) []) (sym stand)
      ∙ sym (below-path t.shape t.salt (map (digest t.salt) contents) (get_or contents i []) i l (levels t.shape) (levels t.shape - suc l) all)

pub none-lost : FormedChainsAreGood → NoHashBlockIsLost
none-lost form j v w w' l lost contents holds =
    let p = lost.visited.p in
    let t = j.tree in
    let i = v.index in
    let c : ChainRecord = formed t.shape t.salt contents i in
    let way : IsWay t i (suc l) p = subst (λ (n : ℕ). IsWay t i n p) lost.height_is lost.visited.way in
    let none : IsMadeOf j p (suc l) i w w' v.bytes mended.Lost =
    subst (λ (m : Mended). IsMadeOf j p (suc l) i w w' v.bytes m) lost.lost
    (subst (λ (n : ℕ). IsMadeOf j p n i w w' v.bytes v.mended) lost.height_is lost.visited.made_of) in
    elim (way-digest t p i (suc l) c way (formed-chain form t contents holds.are i lost.visited.inside)) [
      | inr clash ↦ clash
      | inl same ↦
          let x = lost_hash t.shape t.salt l i (digest_on p i (l + 1)) in
          let other = unlike-data x w.data_dev w.hash_dev w'.data_dev w'.hash_dev holds.data_none holds.hash_none none holds.data_steady holds.hash_steady in
          absurd (other (ap (digest t.salt) (made-formed t contents w.data_dev w.hash_dev l i holds.are.shape lost.visited.inside way.few holds.stand) ∙ same ∙ ap (digest_on p i) (sym (add-one l))))
    ]
