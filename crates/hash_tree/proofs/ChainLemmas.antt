-- One step down a chain.
use Rattle.std.proofs.Common.{◌≡◌, ◌↔◌, ℕ, List, [], ◌∷◌, Bool, IsTrue, length, sym, ◌∙◌}
use Rattle.std.specs.Str.{bytes_eq}
use Rattle.std.proofs.lemmas.Slice.Eq.{bytes_eq-Decides}
use Rattle.tree_shape.specs.Digests.{digest, digest_in}
use Rattle.std.specs.List.{All}
use Rattle.std.proofs.lemmas.List.Elements.{All-nil, All-cons}
use Rattle.tree_shape.specs.Shape.{ShapeRecord, levels, slot, ancestor}
use Rattle.hash_tree.specs.Chain.{ChainRecord, HangsFrom, IsGood}
use Rattle.hash_tree.specs.Laws.{AreBlocks}

-- the content of the right size hangs exactly where its digest is the one expected
pub hangs_last : (shape : ShapeRecord) (salt : List ℕ) (i : ℕ) (expected content found : List ℕ) (r : Bool)
    → length content ≡ shape.data_block → found ≡ digest salt content → r ≡ bytes_eq found expected
    → IsTrue r ↔ HangsFrom shape salt i expected [] content
hangs_last shape salt i expected content found r size is test =
    let decides = bytes_eq-Decides found expected in
    (λ yes. (size, sym is ∙ decides.0 (sym test ∙ yes)), λ hangs. test ∙ decides.1 (is ∙ hangs.1))

-- a hash block of the right size and digest, and what hangs below it
pub hangs_step : (shape : ShapeRecord) (salt : List ℕ) (i : ℕ) (expected block next content : List ℕ) (path : List (List ℕ)) (r : Bool)
    → length block ≡ shape.hash_block → digest salt block ≡ expected
    → next ≡ digest_in block (slot shape (ancestor shape (length path) i))
    → (IsTrue r ↔ HangsFrom shape salt i next path content)
    → IsTrue r ↔ HangsFrom shape salt i expected (block ∷ path) content
hangs_step shape salt i expected block next content path r size is at below =
    (λ yes. (size, is, rw (← at) (below.0 yes)), λ hangs. below.1 (rw at hangs.2))

path-sized : (shape : ShapeRecord) (salt : List ℕ) (i : ℕ) (expected : List ℕ) (path : List (List ℕ)) (content : List ℕ)
    → HangsFrom shape salt i expected path content → All (λ b. length b ≡ shape.hash_block) path × (length content ≡ shape.data_block)
path-sized shape salt i expected [] content hangs = (All-nil (λ b. length b ≡ shape.hash_block), hangs.0)
path-sized shape salt i expected (block ∷ path) content hangs =
    let below = path-sized shape salt i (digest_in block (slot shape (ancestor shape (length path) i))) path content hangs.2 in
    (All-cons (λ b. length b ≡ shape.hash_block) block path hangs.0 below.0, below.1)

pub good-whole : (s : ShapeRecord) (salt root : List ℕ) (chain : ChainRecord) → IsGood s salt root chain
    → AreBlocks (levels s) s.hash_block chain.path × (length chain.content ≡ s.data_block)
good-whole s salt root chain good =
    let sized = path-sized s salt chain.index root chain.path chain.content good.hangs in
    (record { count = good.path; sized = sized.0 }, sized.1)
