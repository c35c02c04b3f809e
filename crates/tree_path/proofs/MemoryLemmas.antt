-- A path's own memory.
use Rattle.std.proofs.Common.{◌≡◌, ◌<◌, ℕ, List, [], All, Vec, Global, length, get_or, map, sym, ap, ◌∙◌, arith}
use Rattle.std.specs.Prelude.{slice_set}
use Rattle.std.specs.Vec.{with_items}
use Rattle.std.proofs.Math.ListN.{length-set}
use Rattle.std.proofs.lemmas.List.{with_items_is, map-set, get_or-map, length-map}
use Rattle.std.proofs.lemmas.List.Elements.{All-get_or, All-set}
use Rattle.tree_path.specs.Path.{PathRecord, IsPath}

abbrev pub bytes_of : List (Vec ℕ Global) → List (List ℕ)
bytes_of bs = map (λ b. b.items) bs

-- the block that was read by its index is that of the list
pub read-is : (bs : List (Vec ℕ Global)) (l : ℕ) (v : Vec ℕ Global) → v ≡ get_or bs l v → l < length bs → v.items ≡ get_or (bytes_of bs) l []
read-is bs l v is inside = ap (λ (b : Vec ℕ Global). b.items) is ∙ sym (get_or-map (λ (b : Vec ℕ Global). b.items) bs l v [] inside)

pub read-sized : (bs : List (Vec ℕ Global)) (size l : ℕ) (v : Vec ℕ Global) → All (λ b. length b ≡ size) (bytes_of bs) → v ≡ get_or bs l v → l < length bs → length v.items ≡ size
read-sized bs size l v sized is inside =
    let low : l < length (bytes_of bs) = omega (arith, length-map bs (λ (b : Vec ℕ Global). b.items), inside) in
    ap length (read-is bs l v is inside) ∙ All-get_or (λ b. length b ≡ size) (bytes_of bs) l [] low sized

-- a block that was put there
pub put-is : (bs : List (Vec ℕ Global)) (l : ℕ) (v : Vec ℕ Global) (b : List ℕ) → length b ≡ v.len → bytes_of (slice_set bs l (with_items v b)) ≡ slice_set (bytes_of bs) l b
put-is bs l v b long = map-set (λ (b : Vec ℕ Global). b.items) bs l (with_items v b) ∙ ap (λ (x : List ℕ). slice_set (bytes_of bs) l x) (with_items_is v b long)

abbrev pub with_block : PathRecord → ℕ → List ℕ → PathRecord
with_block p l b = record { shape = p.shape; salt = p.salt; root = p.root; blocks = slice_set p.blocks l b }

pub path-put : (p : PathRecord) (l : ℕ) (b : List ℕ) → IsPath p → length b ≡ p.shape.hash_block → IsPath (with_block p l b)
path-put p l b valid size = record {
  valid = valid.valid;
  count = length-set p.blocks l b ∙ valid.count;
  sized = All-set (λ x. length x ≡ p.shape.hash_block) p.blocks l b size valid.sized;
}
