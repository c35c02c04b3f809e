-- The reads of a path's hash blocks, call after call.
use Rattle.std.proofs.Common.{◌≡◌, ◌<◌, ◌+◌, ◌-◌, ◌*◌, ◌/◌, ◌∙◌, ℕ, suc, true, false, List, [], ◌∷◌, ◌++◌, Vec, Global, length, take, map, sym, ap, subst, arith}
use Rattle.std.specs.Prelude.{slice_set}
use Rattle.std.specs.Vec.{with_items}
use Rattle.std.proofs.lemmas.List.{length-map, length-take-le, map-append, take_more_set, with_items_is}
use Rattle.block_device.specs.Call.{Call, Calls}
use Rattle.block_device.proofs.lemmas.CallLemmas.{calls-last}
use Rattle.tree_shape.specs.Shape.{ShapeRecord, levels}
use Rattle.verity_format.specs.ChainCalls.{GivesPathPart, path_read, path_reads}

-- one block more
path_reads-last : (shape : ShapeRecord) (i n : ℕ) (blocks : List (List ℕ)) (block : List ℕ)
    → path_reads shape i n (blocks ++ block ∷ []) ≡ path_reads shape i n blocks ++ path_read shape i (n - length blocks - 1) block true ∷ []
path_reads-last shape i n [] block =
    let same : n - 1 ≡ n - 0 - 1 = omega arith in
    ap (λ (l : ℕ). path_read shape i l block true ∷ []) same
path_reads-last shape i n (first ∷ more) block =
    let same : n - 1 - length more - 1 ≡ n - suc (length more) - 1 = omega arith in
    ap (λ (calls : List Call). path_read shape i (n - 1) first true ∷ calls)
    (path_reads-last shape i (n - 1) more block ∙ ap (λ (l : ℕ). path_reads shape i (n - 1) more ++ path_read shape i l block true ∷ []) same)

-- after the reads of the first k blocks of a path, the next one is that of the level
module _ {H : Type 0} (does : H → Call → H → Type 0) (shape : ShapeRecord) (i level k : ℕ) (path : List (Vec ℕ Global)) (old mid new : H) (inside : k < length path) (at : level + k ≡ levels shape)
    (so_far : Calls does old (path_reads shape i (levels shape) (map (λ b. b.items) (take k path))) mid) where
  abbrev blocks : List (List ℕ)
  blocks = map (λ b. b.items) (take k path)

  count : length blocks ≡ k
  count = length-map (take k path) (λ b. b.items) ∙ length-take-le k path (omega (arith, inside))

  here : levels shape - length blocks - 1 ≡ level - 1
  here = omega (arith, count, at)

  -- it succeeded, and its block is put into the path
  pub path-reads-more : (v : Vec ℕ Global) (block : List ℕ) → length block ≡ v.len → does mid (path_read shape i (level - 1) block true) new
      → Calls does old (path_reads shape i (levels shape) (map (λ b. b.items) (take (k + 1) (slice_set path k (with_items v block))))) new
  path-reads-more v block long call =
      let list : map (λ b. b.items) (take (k + 1) (slice_set path k (with_items v block))) ≡ blocks ++ block ∷ [] =
      ap (λ (xs : List (Vec ℕ Global)). map (λ b. b.items) xs) (take_more_set path k (with_items v block) inside)
      ∙ (map-append (λ b. b.items) (take k path) (with_items v block ∷ []) ∙ ap (λ (b : List ℕ). blocks ++ b ∷ []) (with_items_is v block long)) in
      let all : path_reads shape i (levels shape) (blocks ++ block ∷ []) ≡ path_reads shape i (levels shape) blocks ++ path_read shape i (level - 1) block true ∷ [] =
      path_reads-last shape i (levels shape) blocks block ∙ ap (λ (l : ℕ). path_reads shape i (levels shape) blocks ++ path_read shape i l block true ∷ []) here in
      subst (λ (xs : List (List ℕ)). Calls does old (path_reads shape i (levels shape) xs) new) (sym list)
      (subst (λ (calls : List Call). Calls does old calls new) (sym all) (calls-last does old mid new (path_reads shape i (levels shape) blocks) (path_read shape i (level - 1) block true) so_far call))

  -- it failed
  pub path-reads-part : (block : List ℕ) → 0 < level → does mid (path_read shape i (level - 1) block false) new → GivesPathPart does shape i old new
  path-reads-part block some call = record {
    path = blocks;
    last = block;
    few = omega (arith, count, at, some);
    made = calls-last does old mid new (path_reads shape i (levels shape) blocks) (path_read shape i (levels shape - length blocks - 1) block false) so_far
        (subst (λ (l : ℕ). does mid (path_read shape i l block false) new) (sym here) call);
  }
