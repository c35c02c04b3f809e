-- One block more.
use Rattle.std.proofs.Common.{◌≡◌, ◌<◌, ◌+◌, ◌-◌, ◌*◌, ◌/◌, ℕ, zero, suc, List, [], ◌∷◌, ◌++◌, Vec, Global, length, take, map, sym, ap, ◌∙◌, arith, append_assoc}
use Rattle.std.specs.Prelude.{slice_set}
use Rattle.std.specs.Vec.{with_items}
use Rattle.std.proofs.lemmas.List.{map-append, take_more_set, with_items_is}
use Rattle.tree_shape.specs.Shape.{ShapeRecord, position, ancestor}
use Rattle.verity_format.specs.Blocks.{block_at}
use Rattle.verity_format.specs.Chain.{stored_path}

-- the sectors of one block more
pub sectors-step : (i size size' : ℕ) → size' ≡ size → i * (size / 512) + size / 512 ≡ (i + 1) * (size' / 512)
sectors-step i size size' same = (let e : i * (size / 512) + size / 512 ≡ (i + 1) * (size / 512) = grind arith in e) ∙ ap (λ n. (i + 1) * (n / 512)) (sym same)

-- one block more of a path
pub path-step : (shape : ShapeRecord) (image : List (List ℕ)) (level i : ℕ) (blocks : List (List ℕ)) (block : List ℕ) (rest : List (List ℕ))
    → 0 < level → block ≡ block_at image shape.hash_block (position shape (level - 1) (ancestor shape (level - 1 + 1) i))
    → blocks ++ stored_path shape image level i ≡ rest → (blocks ++ block ∷ []) ++ stored_path shape image (level - 1) i ≡ rest
path-step shape image zero i blocks block rest some is so_far = absurd (omega arith)
path-step shape image (suc l) i blocks block rest some is so_far =
    let low : suc l - 1 ≡ l = omega arith in
    let block_is : block ≡ block_at image shape.hash_block (position shape l (ancestor shape (l + 1) i)) = is ∙ ap (λ k. block_at image shape.hash_block (position shape k (ancestor shape (k + 1) i))) low in
    append_assoc blocks (block ∷ []) (stored_path shape image (suc l - 1) i)
    ∙ ap (λ k. blocks ++ (block ∷ stored_path shape image k i)) low
    ∙ ap (λ b. blocks ++ (b ∷ stored_path shape image l i)) block_is
    ∙ so_far

-- one block more in a path's own memory
pub path-more : (shape : ShapeRecord) (image : List (List ℕ)) (level i k : ℕ) (path : List (Vec ℕ Global)) (v : Vec ℕ Global) (block : List ℕ) (rest : List (List ℕ))
    → k < length path → length block ≡ v.len → 0 < level → block ≡ block_at image shape.hash_block (position shape (level - 1) (ancestor shape (level - 1 + 1) i))
    → map (λ b. b.items) (take k path) ++ stored_path shape image level i ≡ rest
    → map (λ b. b.items) (take (k + 1) (slice_set path k (with_items v block))) ++ stored_path shape image (level - 1) i ≡ rest
path-more shape image level i k path v block rest inside long some is so_far =
    ap (λ xs. map (λ b. b.items) xs ++ stored_path shape image (level - 1) i) (take_more_set path k (with_items v block) inside)
    ∙ ap (λ xs. xs ++ stored_path shape image (level - 1) i) (map-append (λ b. b.items) (take k path) (with_items v block ∷ []))
    ∙ ap (λ b. (map (λ b. b.items) (take k path) ++ b ∷ []) ++ stored_path shape image (level - 1) i) (with_items_is v block long)
    ∙ path-step shape image level i (map (λ b. b.items) (take k path)) block rest some is so_far
