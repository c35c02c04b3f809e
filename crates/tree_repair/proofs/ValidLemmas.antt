-- An image whose blocks are all valid stores the data that have its root hash, and their tree.
use Rattle.std.proofs.Common.{◌≡◌, ◌≤◌, ◌<◌, ◌+◌, ◌-◌, ℕ, suc, zero-add, add-one, List, [], length, map, get_or, refl, sym, ap, ◌∙◌, arith, inl, inr, ◌⊎◌}
use Rattle.std.specs.List.{range_with_len}
use Rattle.std.proofs.lemmas.List.{ext_get_or}
use Rattle.std.proofs.lemmas.List.FromFn.{get_or-map-range_with_len, length-map-range_with_len}
use Rattle.tree_shape.specs.Digests.{digest}
use Rattle.tree_shape.specs.Shape.{ancestor, levels}
use Rattle.hash_tree.specs.Chain.{formed, path_to}
use Rattle.hash_tree.specs.Laws.{FormedChainsAreGood}
use Rattle.hash_tree.specs.Tree.{level}
use Rattle.tree_path.specs.Laws.{Collide}
use Rattle.tree_path.specs.Path.{LeadsTo, PathRecord, block_of, digest_on, stored_block, stored_digest}
use Rattle.tree_path.proofs.lemmas.PathLemmas.{digest_on-stored, leads-higher}
use Rattle.tree_survey.specs.Laws.{AreContents}
use Rattle.tree_survey.specs.Surveys.{AllStand, IsWay, Tree}
use Rattle.verity_format.specs.Blocks.{block_at, blocks_at}
use Rattle.tree_repair.specs.Laws.{block_of_height}
use Rattle.tree_repair.specs.Valid.{AreAllValid, ValidImagesAreFormatted}
use Rattle.tree_repair.proofs.FormedLemmas.{below-path}
use Rattle.tree_repair.proofs.FormerLemmas.{content-below, length-path}
use Rattle.tree_repair.proofs.LawLemmas.{formed-chain, way-good}
use Rattle.tree_repair.proofs.lemmas.EachLemmas.{each-or}

-- ---- the hash blocks that are stored above a data block are a path to it

module _ (t : Tree) (image : List (List ℕ)) (i : ℕ) where
  abbrev stored_path : PathRecord
  stored_path = record { shape = t.shape; salt = t.salt; root = t.root; blocks = map (λ (l : ℕ). stored_block t.shape image l i) (range_with_len 0 (levels t.shape)) }

  block-stored : (l : ℕ) → l < levels t.shape → block_of stored_path l ≡ stored_block t.shape image l i
  block-stored l low = get_or-map-range_with_len (λ (k : ℕ). stored_block t.shape image k i) 0 (levels t.shape) l l [] low (zero-add l)

  digest-stored : (m : ℕ) → m ≤ levels t.shape → digest_on stored_path i m ≡ stored_digest t.shape t.root image i m
  digest-stored m few = digest_on-stored stored_path image i m few (λ low. block-stored m low)

  stored-leads : AllStand t image i → LeadsTo stored_path i 0
  stored-leads above = record {
    up = λ l le low.
        let few : l + 1 ≤ levels t.shape = omega (arith, low) in
        ap (digest t.salt) (block-stored l low) ∙ above l low ∙ sym (digest-stored (l + 1) few);
  }

  stored-way : (k : ℕ) → k ≤ levels t.shape → AllStand t image i → IsWay t i k stored_path
  stored-way k few above = record {
    is = record { shape_is = refl; salt_is = refl; root_is = refl };
    few = few;
    leads = leads-higher stored_path i 0 k (omega arith) (stored-leads above);
  }

-- ---- each block is the one of the chain that is formed of the data, or two blocks collide

module _ (form : FormedChainsAreGood) (t : Tree) (data_image hash_image : List (List ℕ)) (all : AreAllValid t data_image hash_image) (contents : List (List ℕ)) (are : AreContents t contents) where
  abbrev ds : List (List ℕ)
  ds = map (digest t.salt) contents

  -- the content is beneath all hash blocks
  formed-content : (i : ℕ) → block_of_height t (formed t.shape t.salt contents i) 0 ≡ get_or contents i []
  unfolding formed
  formed-content i =
      let few : length (path_to t.shape t.salt ds (levels t.shape) i) ≤ levels t.shape - 0 = omega (arith, length-path t.shape t.salt ds (levels t.shape) i) in
      content-below (path_to t.shape t.salt ds (levels t.shape) i) (get_or contents i []) (levels t.shape - 0) few

  formed-hash : (l i : ℕ) → l < levels t.shape → block_of_height t (formed t.shape t.salt contents i) (suc l) ≡ get_or (level t.shape.hash_block t.salt ds l) (ancestor t.shape (l + 1) i) []
  unfolding formed
  formed-hash l i low =
      let count : levels t.shape ≡ suc l + (levels t.shape - suc l) = omega (arith, low) in
      below-path t.shape t.salt ds (get_or contents i []) i l (levels t.shape) (levels t.shape - suc l) count

  -- what is stored of a data block, and of the hash blocks above it
  abbrev IsHere : ℕ → Type 0
  IsHere i = AllStand t hash_image i × (digest t.salt (block_at data_image t.shape.data_block i) ≡ stored_digest t.shape t.root hash_image i 0)

  abbrev IsData : ℕ → Type 0
  IsData i = block_at data_image t.shape.data_block i ≡ get_or contents i []

  abbrev IsOfTree : ℕ → ℕ → Type 0
  IsOfTree l i = stored_block t.shape hash_image l i ≡ get_or (level t.shape.hash_block t.salt ds l) (ancestor t.shape (l + 1) i) []

  data-formed : (i : ℕ) → i < t.shape.blocks → IsData i ⊎ Collide t.salt
  data-formed i inside =
      let here : IsHere i = all i inside in
      let way : IsWay t i 0 (stored_path t hash_image i) = stored-way t hash_image i 0 (omega arith) here.0 in
      let good : digest t.salt (block_at data_image t.shape.data_block i) ≡ digest_on (stored_path t hash_image i) i 0 = here.1 ∙ sym (digest-stored t hash_image i 0 (omega arith)) in
      elim (way-good t (stored_path t hash_image i) i 0 (block_at data_image t.shape.data_block i) (formed t.shape t.salt contents i) way (formed-chain form t contents are i inside) good) [
        | inr clash ↦ inr clash
        | inl same ↦ inl (same ∙ formed-content i)
      ]

  hash-formed : (l i : ℕ) → l < levels t.shape → i < t.shape.blocks → IsOfTree l i ⊎ Collide t.salt
  hash-formed l i low inside =
      let here : IsHere i = all i inside in
      let p = stored_path t hash_image i in
      let few : suc l ≤ levels t.shape = omega (arith, low) in
      let next : l + 1 ≤ levels t.shape = omega (arith, low) in
      let way : IsWay t i (suc l) p = stored-way t hash_image i (suc l) few here.0 in
      let good : digest t.salt (stored_block t.shape hash_image l i) ≡ digest_on p i (suc l) =
      here.0 l low ∙ sym (digest-stored t hash_image i (l + 1) next) ∙ ap (digest_on p i) (add-one l) in
      elim (way-good t p i (suc l) (stored_block t.shape hash_image l i) (formed t.shape t.salt contents i) way (formed-chain form t contents are i inside) good) [
        | inr clash ↦ inr clash
        | inl same ↦ inl (same ∙ formed-hash l i low)
      ]

  data-all : ((i : ℕ) → i < t.shape.blocks → IsData i) ⊎ Collide t.salt
  data-all = each-or (λ (i : ℕ). IsData i) (Collide t.salt) t.shape.blocks data-formed

  hash-all : ((l : ℕ) → l < levels t.shape → (i : ℕ) → i < t.shape.blocks → IsOfTree l i) ⊎ Collide t.salt
  hash-all =
      each-or (λ (l : ℕ). (i : ℕ) → i < t.shape.blocks → IsOfTree l i) (Collide t.salt) (levels t.shape)
      (λ l low. each-or (λ (i : ℕ). IsOfTree l i) (Collide t.salt) t.shape.blocks (λ i inside. hash-formed l i low inside))

  data-list : ((i : ℕ) → i < t.shape.blocks → IsData i) → blocks_at data_image t.shape.data_block 0 t.shape.blocks ≡ contents
  data-list each =
      let f = block_at data_image t.shape.data_block in
      let n = t.shape.blocks in
      let count : length (blocks_at data_image t.shape.data_block 0 n) ≡ n = length-map-range_with_len f 0 n in
      ext_get_or [] (blocks_at data_image t.shape.data_block 0 n) contents (count ∙ sym are.blocks.count)
      (λ i low.
      let inside : i < n = omega (arith, low, count) in
      get_or-map-range_with_len f 0 n i i [] inside (zero-add i) ∙ each i inside)

pub valid-formatted : FormedChainsAreGood → ValidImagesAreFormatted
valid-formatted form t data_image hash_image all contents are = elim (data-all form t data_image hash_image all contents are) [
  | inr clash ↦ inr clash
  | inl data_each ↦ elim (hash-all form t data_image hash_image all contents are) [
    | inr clash ↦ inr clash
    | inl hash_each ↦ inl (record {
      data_are = data-list form t data_image hash_image all contents are data_each;
      tree_is = λ l i low inside. hash_each l low i inside;
    })
  ]
]
