-- What is stored at each place of a formatted image.
use Rattle.std.proofs.Common.{◌≡◌, ◌≤◌, ◌<◌, ◌+◌, ◌-◌, ◌*◌, ◌/◌, ℕ, zero, suc, List, [], ◌∷◌, length, get_or, add-one, zero-add, refl, sym, ap, ◌∙◌, subst, arith, inl, inr, ◌⊎◌}
use Rattle.std.specs.Prelude.{slice_get}
use Rattle.std.proofs.lemmas.Bool.{cases_lt}
use Rattle.std.proofs.lemmas.List.FromFn.{get_or-map-range_with_len, length-map-range_with_len}
use Rattle.std.proofs.lemmas.Option.{get_or_from_slice_get, slice_get-get_or}
use Rattle.tree_shape.specs.Digests.{digest, digest_in}
use Rattle.tree_shape.specs.Shape.{ShapeRecord, IsShape, ancestor, area_blocks, blocks_above, levels, position, slot}
use Rattle.tree_shape.proofs.lemmas.ShapeFactLemmas.{above-lt, ancestor-lt}
use Rattle.hash_tree.specs.Chain.{ChainRecord, HangsFrom, formed, path_to}
use Rattle.hash_tree.specs.Laws.{FormedChainsAreGood, HasBlock, StandsInShape}
use Rattle.hash_tree.specs.Tree.{level}
use Rattle.verity_format.specs.Blocks.{block_at, blocks_at}
use Rattle.verity_format.specs.Image.{area_over, digests_of}
use Rattle.verity_format.proofs.lemmas.AreaLemmas.{area-stands}
use Rattle.verity_format.proofs.lemmas.RunLemmas.{blocks-sized}
use Rattle.fec_area.specs.declared.layout.Layout.{Layout}
use Rattle.fec_area.specs.Layouts.{covered}
use Rattle.tree_path.specs.Laws.{Collide}
use Rattle.tree_path.specs.Path.{PathRecord, block_of, digest_on}
use Rattle.tree_path.proofs.lemmas.PathLemmas.{digest_on-below, digest_on-top, leads-higher}
use Rattle.tree_survey.specs.Laws.{AreContents, IsChain}
use Rattle.tree_survey.specs.Surveys.{Tree, IsWay}
use Rattle.tree_repair.specs.Laws.{block_of_height, chain_block_below}
use Rattle.tree_repair.specs.Parity.{IsCoveredAt}
use Rattle.tree_repair.specs.Runs.{Job, size_at}
use Rattle.tree_repair.specs.Standing.{StandsGood, standing_bytes}
use Rattle.tree_repair.specs.WithinParity.{FormerImage, IsFormerOf}
use Rattle.tree_repair.specs.Worlds.{RepairWorld}
use Rattle.tree_repair.proofs.FormedLemmas.{below-path}
use Rattle.tree_repair.proofs.LawLemmas.{formed-chain, way-good}

-- ---- the blocks of a chain

pub length-path : (s : ShapeRecord) (salt : List ℕ) (ds : List (List ℕ)) (n i : ℕ) → length (path_to s salt ds n i) ≡ n
length-path s salt ds zero i = refl
length-path s salt ds (suc l) i = ap suc (length-path s salt ds l i)

-- beneath all hash blocks is the content
pub content-below : (path : List (List ℕ)) (content : List ℕ) (d : ℕ) → length path ≤ d → chain_block_below path content d ≡ content
content-below [] content d few = refl
content-below (b ∷ path) content zero few = absurd (omega (arith, few))
content-below (b ∷ path) content (suc d) few = content-below path content d (omega (arith, few))

-- the topmost block has the digest from which a chain hangs
hangs-top : (s : ShapeRecord) (salt : List ℕ) (i : ℕ) (e : List ℕ) (path : List (List ℕ)) (content : List ℕ) → HangsFrom s salt i e path content → digest salt (chain_block_below path content 0) ≡ e
hangs-top s salt i e [] content hangs = hangs.1
hangs-top s salt i e (b ∷ path) content hangs = hangs.1

-- and each further one the digest that is stored in the block above it
hangs-link : (s : ShapeRecord) (salt : List ℕ) (i : ℕ) (e : List ℕ) (path : List (List ℕ)) (content : List ℕ) → HangsFrom s salt i e path content → (d h : ℕ) → length path ≡ h + suc d
    → digest salt (chain_block_below path content (suc d)) ≡ digest_in (chain_block_below path content d) (slot s (ancestor s h i))
hangs-link s salt i e [] content hangs d h count = absurd (omega (arith, count))
hangs-link s salt i e (b ∷ path) content hangs zero h count =
    let rest : length path ≡ h = omega (arith, count) in
    hangs-top s salt i (digest_in b (slot s (ancestor s (length path) i))) path content hangs.2 ∙ ap (λ (n : ℕ). digest_in b (slot s (ancestor s n i))) rest
hangs-link s salt i e (b ∷ path) content hangs (suc d) h count =
    hangs-link s salt i (digest_in b (slot s (ancestor s (length path) i))) path content hangs.2 d h (omega (arith, count))

-- each block has its size
hangs-long : (s : ShapeRecord) (salt : List ℕ) (i : ℕ) (e : List ℕ) (path : List (List ℕ)) (content : List ℕ) → HangsFrom s salt i e path content → (d h : ℕ) → length path ≡ h + d
    → length (chain_block_below path content d) ≡ size_at s h
hangs-long s salt i e [] content hangs d zero count = hangs.0
hangs-long s salt i e [] content hangs d (suc h) count = absurd (omega (arith, count))
hangs-long s salt i e (b ∷ path) content hangs zero zero count = absurd (omega (arith, count))
hangs-long s salt i e (b ∷ path) content hangs zero (suc h) count = hangs.0
hangs-long s salt i e (b ∷ path) content hangs (suc d) h count = hangs-long s salt i (digest_in b (slot s (ancestor s (length path) i))) path content hangs.2 d h (omega (arith, count))

-- a chain's block has the digest to which a way leads, or two blocks collide
module _ (t : Tree) (p : PathRecord) (i h : ℕ) (c : ChainRecord) (way : IsWay t i h p) (chain : IsChain t i c) where
  hangs : HangsFrom t.shape t.salt i t.root c.path c.content
  hangs = subst (λ (n : ℕ). HangsFrom t.shape t.salt n t.root c.path c.content) chain.index chain.good.hangs

  top-digest : levels t.shape ≡ h → digest t.salt (block_of_height t c h) ≡ digest_on p i h
  top-digest all =
      let none : levels t.shape - h ≡ 0 = omega (arith, all) in
      let top : h ≡ levels p.shape = sym all ∙ ap levels (sym way.is.shape_is) in
      ap (λ (d : ℕ). digest t.salt (chain_block_below c.path c.content d)) none ∙ hangs-top t.shape t.salt i t.root c.path c.content hangs ∙ sym (digest_on-top p i h top ∙ way.is.root_is)

  lower-digest : h < levels t.shape → (digest t.salt (block_of_height t c h) ≡ digest_on p i h) ⊎ Collide t.salt
  lower-digest low =
      let d : ℕ = levels t.shape - suc h in
      let steps : levels t.shape - h ≡ suc d = omega (arith, low) in
      let few : h < levels p.shape = omega (arith, low, ap levels way.is.shape_is) in
      let high : IsWay t i (suc h) p = record { is = way.is; few = omega (arith, low); leads = leads-higher p i h (suc h) (omega arith) way.leads } in
      let good : digest t.salt (block_of p h) ≡ digest_on p i (suc h) =
      subst (λ (x : List ℕ). digest x (block_of p h) ≡ digest_on p i (suc h)) way.is.salt_is (way.leads.up h (omega arith) few ∙ ap (digest_on p i) (add-one h)) in
      elim (way-good t p i (suc h) (block_of p h) c high chain good) [
        | inr clash ↦ inr clash
        | inl same ↦ inl (
            ap (λ (n : ℕ). digest t.salt (chain_block_below c.path c.content n)) steps
            ∙ hangs-link t.shape t.salt i t.root c.path c.content hangs d h (chain.good.path ∙ omega (arith, low))
            ∙ ap (λ (b : List ℕ). digest_in b (slot t.shape (ancestor t.shape h i))) (sym same)
            ∙ ap (λ (s : ShapeRecord). digest_in (block_of p h) (slot s (ancestor s h i))) (sym way.is.shape_is)
            ∙ sym (digest_on-below p i h few))
      ]

  chain-digest : (digest t.salt (block_of_height t c h) ≡ digest_on p i h) ⊎ Collide t.salt
  chain-digest = elim (cases_lt h (levels t.shape)) [
    | inl low ↦ lower-digest low
    | inr high ↦ inl (top-digest (omega (arith, high, way.few)))
  ]

chain-long : (t : Tree) (i h : ℕ) (c : ChainRecord) → IsChain t i c → h ≤ levels t.shape → length (block_of_height t c h) ≡ size_at t.shape h
chain-long t i h c chain few = hangs-long t.shape t.salt c.index t.root c.path c.content chain.good.hangs (levels t.shape - h) h (chain.good.path ∙ omega (arith, few))

-- ---- the blocks of the image

same-element : (xs ys : List (List ℕ)) (i j : ℕ) → i < length xs → slice_get xs i ≡ slice_get ys j → get_or xs i [] ≡ get_or ys j []
same-element xs ys i j low same = sym (get_or_from_slice_get ys j (get_or xs i []) [] (sym same ∙ slice_get-get_or xs i [] low))

module _ (t : Tree) (valid : IsShape t.shape) (f : FormerImage) (former : IsFormerOf t f) where
  abbrev data_blocks_of : List (List ℕ)
  data_blocks_of = blocks_at f.data_image t.shape.data_block 0 t.shape.blocks

  are-contents : AreContents t data_blocks_of
  are-contents =
      let none : 0 + t.shape.blocks ≡ t.shape.blocks = omega arith in
      record {
        shape = valid;
        blocks = record {
          count = length-map-range_with_len (block_at f.data_image t.shape.data_block) 0 t.shape.blocks;
          sized = blocks-sized f.data_image t.shape.data_block valid.data_size former.sectors 0 t.shape.blocks
              (subst (λ (n : ℕ). n * (t.shape.data_block / 512) ≤ length f.data_image) (sym none) former.data_fits);
        };
        root = former.root_is;
      }

  former-data : (i : ℕ) → i < t.shape.blocks → block_at f.data_image t.shape.data_block i ≡ block_of_height t (formed t.shape t.salt data_blocks_of i) zero
  unfolding formed
  former-data i inside =
      let ds = digests_of t.shape t.salt f.data_image in
      let few : length (path_to t.shape t.salt ds (levels t.shape) i) ≤ levels t.shape - 0 = omega (arith, length-path t.shape t.salt ds (levels t.shape) i) in
      sym (content-below (path_to t.shape t.salt ds (levels t.shape) i) (get_or data_blocks_of i []) (levels t.shape - 0) few
      ∙ get_or-map-range_with_len (block_at f.data_image t.shape.data_block) 0 t.shape.blocks i i [] inside (zero-add i))

  -- a hash block, by its place in the area
  pub former-area : (l a : ℕ) → HasBlock t.shape l a
      → block_at f.hash_image t.shape.hash_block (position t.shape l a) ≡ get_or (level t.shape.hash_block t.salt (digests_of t.shape t.salt f.data_image) l) a []
  unfolding position
  former-area l a has =
      let s = t.shape in
      let stands : StandsInShape s t.salt (digests_of s t.salt f.data_image) = area-stands s valid t.salt f.data_image in
      let k : ℕ = blocks_above s l + a in
      let below : k < area_blocks s = above-lt s valid l a has.0 has.1 in
      let at : s.start + k ≡ position s l a = omega arith in
      let from : position s l a - s.start ≡ k = omega (arith, at) in
      sym (get_or-map-range_with_len (block_at f.hash_image s.hash_block) s.start (area_blocks s) k (position s l a) [] below at)
      ∙ ap (λ (x : List (List ℕ)). get_or x k []) former.tree_is
      ∙ same-element (area_over s t.salt f.data_image) (level s.hash_block t.salt (digests_of s t.salt f.data_image) l) k a (omega (arith, below, stands.total))
      (ap (slice_get (area_over s t.salt f.data_image)) (sym from) ∙ stands.places l a has)

  former-hash : (l i : ℕ) → l < levels t.shape → i < t.shape.blocks
      → block_at f.hash_image t.shape.hash_block (position t.shape l (ancestor t.shape (l + 1) i)) ≡ block_of_height t (formed t.shape t.salt data_blocks_of i) (suc l)
  unfolding formed
  former-hash l i low inside =
      let all : levels t.shape ≡ suc l + (levels t.shape - suc l) = omega (arith, low) in
      former-area l (ancestor t.shape (l + 1) i) (low, ancestor-lt t.shape valid l i inside)
      ∙ sym (below-path t.shape t.salt (digests_of t.shape t.salt f.data_image) (get_or data_blocks_of i []) i l (levels t.shape) (levels t.shape - suc l) all)

  -- a covered block is the one of the chain that is formed of the data
  former-at : (l : Layout) (h i k : ℕ) → IsCoveredAt t.shape l h i k → covered l f.data_image f.hash_image k ≡ block_of_height t (formed t.shape t.salt data_blocks_of i) h
  former-at l zero i k at =
      at.is.bytes f.data_image f.hash_image ∙ ap (λ (n : ℕ). block_at f.data_image n i) at.size ∙ former-data i at.place.inside
  former-at l (suc h) i k at =
      at.is.bytes f.data_image f.hash_image ∙ ap (λ (n : ℕ). block_at f.hash_image n (position t.shape h (ancestor t.shape (h + 1) i))) at.size
      ∙ former-hash h i (omega (arith, at.place.high)) at.place.inside

  module _ (form : FormedChainsAreGood) (l : Layout) (h i k : ℕ) (at : IsCoveredAt t.shape l h i k) where
    former-chain : IsChain t i (formed t.shape t.salt data_blocks_of i)
    former-chain = formed-chain form t data_blocks_of are-contents i at.place.inside

    -- it is whole
    pub former-whole : length (covered l f.data_image f.hash_image k) ≡ l.block
    former-whole = ap length (former-at l h i k at) ∙ chain-long t i h (formed t.shape t.salt data_blocks_of i) former-chain at.place.high ∙ sym at.size

    -- and has the digest to which a way leads, or two blocks collide
    pub former-digest : (p : PathRecord) → IsWay t i h p → (digest t.salt (covered l f.data_image f.hash_image k) ≡ digest_on p i h) ⊎ Collide t.salt
    former-digest p way =
        elim (chain-digest t p i h (formed t.shape t.salt data_blocks_of i) way former-chain) [
          | inl good ↦ inl (ap (digest t.salt) (former-at l h i k at) ∙ good)
          | inr clash ↦ inr clash
        ]

-- ---- blocks of the tree

-- the block of that height above data block i
abbrev pub former_bytes : ShapeRecord → FormerImage → ℕ → ℕ → List ℕ
former_bytes s f zero i = block_at f.data_image s.data_block i
former_bytes s f (suc l) i = block_at f.hash_image s.hash_block (position s l (ancestor s (l + 1) i))

module _ (form : FormedChainsAreGood) (j : Job) (valid : IsShape j.tree.shape) (f : FormerImage) (former : IsFormerOf j.tree f) where
  former-formed : (h i : ℕ) → h ≤ levels j.tree.shape → i < j.tree.shape.blocks
      → former_bytes j.tree.shape f h i ≡ block_of_height j.tree (formed j.tree.shape j.tree.salt (data_blocks_of j.tree valid f former) i) h
  former-formed zero i high inside = former-data j.tree valid f former i inside
  former-formed (suc l) i high inside = former-hash j.tree valid f former l i (omega (arith, high)) inside

  -- if one is good it is that of the image, or two blocks collide
  pub former-stands : (h i : ℕ) (w : RepairWorld) → i < j.tree.shape.blocks → StandsGood j h i w → (standing_bytes j h i w ≡ former_bytes j.tree.shape f h i) ⊎ Collide j.tree.salt
  former-stands h i w inside stands =
      let contents : List (List ℕ) = data_blocks_of j.tree valid f former in
      elim (way-good j.tree stands.p i h (standing_bytes j h i w) (formed j.tree.shape j.tree.salt contents i) stands.way
      (formed-chain form j.tree contents (are-contents j.tree valid f former) i inside) stands.good) [
        | inr clash ↦ inr clash
        | inl is ↦ inl (is ∙ sym (former-formed h i stands.way.few inside))
      ]
