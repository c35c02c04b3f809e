-- A data block is good if it and all hash blocks above it are, each by a way of its own.
use Rattle.std.proofs.Common.{◌≡◌, ◌≤◌, ◌<◌, ◌+◌, ◌-◌, ℕ, zero, suc, List, None, refl, sym, ap, ◌∙◌, arith, inl, inr, ◌⊎◌, add-one}
use Rattle.std.proofs.lemmas.Bool.{cases_lt}
use Rattle.tree_shape.specs.Digests.{digest}
use Rattle.tree_shape.specs.Shape.{ShapeRecord, levels}
use Rattle.tree_path.specs.Laws.{Collide}
use Rattle.tree_path.specs.Path.{PathRecord, block_of, digest_on, stored_block, stored_digest}
use Rattle.tree_path.proofs.lemmas.ChainLemmas.{blocks-one}
use Rattle.tree_path.proofs.lemmas.PathLemmas.{digest_on-same, digest_on-stored, digest_on-top, leads-higher}
use Rattle.tree_survey.specs.Surveys.{AllStand, HasDigestAbove, IsContentStoredAs, IsWay, Tree}
use Rattle.verity_format.specs.Blocks.{block_at}
use Rattle.tree_repair.specs.Runs.{Job}
use Rattle.tree_repair.specs.Standing.{LeftGoodWaysStand, StandsGood, standing_bytes}
use Rattle.tree_repair.specs.Worlds.{RepairWorld}
use Rattle.tree_repair.proofs.StandLemmas.{left-good-stand}
use Rattle.tree_repair.proofs.lemmas.EachLemmas.{each-or}

-- ---- two ways to one block

way-higher : (t : Tree) (i h m : ℕ) (p : PathRecord) → h ≤ m → m ≤ levels t.shape → IsWay t i h p → IsWay t i m p
way-higher t i h m p le few way = record { is = way.is; few = few; leads = leads-higher p i h m le way.leads }

-- the block that a way has there has the digest above it
way-block : (t : Tree) (i l : ℕ) (p : PathRecord) → IsWay t i l p → l < levels t.shape → digest t.salt (block_of p l) ≡ digest_on p i (l + 1)
way-block t i l p way low =
    ap (λ (x : List ℕ). digest x (block_of p l)) (sym way.is.salt_is) ∙ way.leads.up l (omega arith) (omega (arith, low, ap levels way.is.shape_is))

-- they lead to one digest, or two blocks collide
module _ (t : Tree) (i : ℕ) (p q : PathRecord) where
  agree : (d h : ℕ) → levels t.shape ≡ h + d → IsWay t i h p → IsWay t i h q → (digest_on p i h ≡ digest_on q i h) ⊎ Collide t.salt
  agree zero h all way way' =
      inl (digest_on-top p i h (omega (arith, all, ap levels way.is.shape_is)) ∙ way.is.root_is ∙ sym way'.is.root_is
      ∙ sym (digest_on-top q i h (omega (arith, all, ap levels way'.is.shape_is))))
  agree (suc d) h all way way' =
      let few : h + 1 ≤ levels t.shape = omega (arith, all) in
      let low : h < levels t.shape = omega (arith, all) in
      elim (agree d (h + 1) (omega (arith, all)) (way-higher t i h (h + 1) p (omega arith) few way) (way-higher t i h (h + 1) q (omega arith) few way')) [
        | inr clash ↦ inr clash
        | inl same ↦ elim (blocks-one t.salt (block_of p h) (block_of q h) (way-block t i h p way low ∙ same ∙ sym (way-block t i h q way' low))) [
          | inr clash ↦ inr clash
          | inl one ↦ inl (digest_on-same p q i h (way.is.shape_is ∙ sym way'.is.shape_is) (way.is.root_is ∙ sym way'.is.root_is) one)
        ]
      ]

  pub ways-agree : (h : ℕ) → IsWay t i h p → IsWay t i h q → (digest_on p i h ≡ digest_on q i h) ⊎ Collide t.salt
  ways-agree h way way' = agree (levels t.shape - h) h (omega (arith, way.few)) way way'

-- the digest to which a way leads is stored where its block is stored
stored-by : (t : Tree) (p : PathRecord) (image : List (List ℕ)) (i h : ℕ) → IsWay t i h p → (h < levels t.shape → block_of p h ≡ stored_block t.shape image h i) → digest_on p i h ≡ stored_digest t.shape t.root image i h
stored-by t p image i h way same =
    digest_on-stored p image i h (omega (arith, way.few, ap levels way.is.shape_is))
    (λ low. same (omega (arith, low, ap levels way.is.shape_is)) ∙ ap (λ (s : ShapeRecord). stored_block s image h i) (sym way.is.shape_is))
    ∙ ap (λ (s : ShapeRecord). stored_digest s p.root image i h) way.is.shape_is
    ∙ ap (λ (r : List ℕ). stored_digest t.shape r image i h) way.is.root_is

-- ---- blocks that all are good

data-block : (j : Job) (i : ℕ) (w : RepairWorld) → block_at w.data_dev.image j.tree.shape.data_block i ≡ standing_bytes j zero i w
unfolding block_at
data-block j i w = refl

pub hash-block : (j : Job) (l i : ℕ) (w : RepairWorld) → stored_block j.tree.shape w.hash_dev.image l i ≡ standing_bytes j (suc l) i w
unfolding block_at
hash-block j l i w = refl

module _ (j : Job) (i : ℕ) (w : RepairWorld) (all : (h : ℕ) → h ≤ levels j.tree.shape → StandsGood j h i w) where
  -- the hash block that is stored is that of the way to it
  block-stands : (l : ℕ) (few : l ≤ levels j.tree.shape) → l < levels j.tree.shape → (block_of (all l few).p l ≡ stored_block j.tree.shape w.hash_dev.image l i) ⊎ Collide j.tree.salt
  block-stands l few low =
      let t = j.tree in
      let here = all l few in
      let above = all (suc l) low in
      let up : l + 1 ≡ suc l = add-one l in
      let way : IsWay t i (suc l) here.p = way-higher t i l (suc l) here.p (omega arith) low here.way in
      elim (ways-agree t i here.p above.p (suc l) way above.way) [
        | inr clash ↦ inr clash
        | inl same ↦
            blocks-one t.salt (block_of here.p l) (stored_block t.shape w.hash_dev.image l i)
            (way-block t i l here.p here.way low ∙ ap (digest_on here.p i) up ∙ same ∙ sym above.good ∙ ap (digest t.salt) (sym (hash-block j l i w)))
      ]

  -- the digest to which the way leads is the stored one
  digest-stands : (h : ℕ) (few : h ≤ levels j.tree.shape) → (digest_on (all h few).p i h ≡ stored_digest j.tree.shape j.tree.root w.hash_dev.image i h) ⊎ Collide j.tree.salt
  digest-stands h few = elim (cases_lt h (levels j.tree.shape)) [
    | inl low ↦ elim (block-stands h few low) [
      | inr clash ↦ inr clash
      | inl same ↦ inl (stored-by j.tree (all h few).p w.hash_dev.image i h (all h few).way (λ under. same))
    ]
    | inr high ↦ inl (stored-by j.tree (all h few).p w.hash_dev.image i h (all h few).way (λ under. absurd (omega (arith, under, high))))
  ]

  hash-stands : (l : ℕ) → l < levels j.tree.shape → HasDigestAbove j.tree w.hash_dev.image l i ⊎ Collide j.tree.salt
  hash-stands l low = elim (digest-stands (suc l) low) [
    | inr clash ↦ inr clash
    | inl same ↦
        inl (ap (digest j.tree.salt) (hash-block j l i w) ∙ (all (suc l) low).good ∙ same
        ∙ ap (stored_digest j.tree.shape j.tree.root w.hash_dev.image i) (sym (add-one l)))
  ]

  all-stand : AllStand j.tree w.hash_dev.image i ⊎ Collide j.tree.salt
  all-stand = each-or (λ (l : ℕ). HasDigestAbove j.tree w.hash_dev.image l i) (Collide j.tree.salt) (levels j.tree.shape) hash-stands

  pub way-stands : IsContentStoredAs j.tree w.data_dev.image w.hash_dev.image i None ⊎ Collide j.tree.salt
  way-stands = elim all-stand [
    | inr clash ↦ inr clash
    | inl above ↦ elim (digest-stands 0 (omega arith)) [
      | inr clash ↦ inr clash
      | inl same ↦ inl (above, ap (digest j.tree.salt) (data-block j i w) ∙ (all 0 (omega arith)).good ∙ same)
    ]
  ]

pub left-good-ways : LeftGoodWaysStand
left-good-ways j vs w w' run i inside left = way-stands j i w' (λ h few. left-good-stand j vs w w' run h i inside (left h few))
