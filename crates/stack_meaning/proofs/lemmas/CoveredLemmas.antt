-- Where the blocks of a `verity` line are among those that parity covers.
use Rattle.std.proofs.Common.{◌≡◌, ℕ, ◌+◌, ◌-◌, ◌*◌, ◌/◌, ◌<◌, ◌≤◌, Bool, cond, sym, ap, ◌∙◌, arith}
use Rattle.std.proofs.lemmas.Bool.{le-ltb, lt-ltb}
use Rattle.tree_shape.specs.Shape.{IsShape, ancestor, level_blocks, levels, position}
use Rattle.tree_shape.proofs.lemmas.ShapeFactLemmas.{above-lt, ancestor-lt}
use Rattle.dm_table.specs.declared.verity.Verity.{Verity}
use Rattle.stack_rules.specs.Trees.{block_sectors, tree_of}
use Rattle.stack_meaning.specs.Blocks.{covered_hash, hash_place, hash_sectors}
use Rattle.stack_meaning.specs.Outcomes.{Outcome, span}
use Rattle.stack_meaning.specs.Spares.{BlockSources, covered_block, verified_blocks}

-- a data block
pub covered-data : (v : Verity) (below : BlockSources) (i : ℕ) → i < v.blocks → span below.on_data (block_sectors v * i) (block_sectors v) ≡ covered_block v below i
covered-data v below i low =
    ap (λ (t : Bool). span (cond t below.on_data below.on_hash) (cond t (block_sectors v * i) (block_sectors v * (v.start + (i - v.blocks)))) (block_sectors v)) (sym (lt-ltb i v.blocks low))

position-start : (v : Verity) (l b : ℕ) → v.start ≤ position (tree_of v) l b
unfolding position
position-start v l b = omega arith

-- a hash block, if it has the size of a data block
pub covered-hash : (v : Verity) (below : BlockSources) (l b : ℕ) → v.data_block ≡ v.hash_block → span below.on_hash (hash_place v l b) (hash_sectors v) ≡ covered_block v below (covered_hash v l b)
covered-hash v below l b size =
    let at : ℕ = position (tree_of v) l b in
    let j : ℕ = covered_hash v l b in
    let past : v.blocks ≤ j = omega arith in
    let place : v.start + (j - v.blocks) ≡ at = omega (arith, position-start v l b) in
    let same : block_sectors v ≡ hash_sectors v = ap (λ (k : ℕ). k / 512) size in
    sym (
    ap (λ (t : Bool). span (cond t below.on_data below.on_hash) (cond t (block_sectors v * j) (block_sectors v * (v.start + (j - v.blocks)))) (block_sectors v)) (le-ltb j v.blocks past)
    ∙ ap (λ (k : ℕ). span below.on_hash (block_sectors v * k) (block_sectors v)) place
    ∙ ap (λ (k : ℕ). span below.on_hash (k * at) k) same
    )

-- it is one of those that are verified
block-verified : (v : Verity) → IsShape (tree_of v) → (l b : ℕ) → l < levels (tree_of v) → b < level_blocks (tree_of v) l → covered_hash v l b < verified_blocks v
unfolding position
block-verified v valid l b low inside = omega (arith, above-lt (tree_of v) valid l b low inside)

pub hash-verified : (v : Verity) → IsShape (tree_of v) → (l i : ℕ) → l < levels (tree_of v) → i < v.blocks → covered_hash v l (ancestor (tree_of v) (l + 1) i) < verified_blocks v
hash-verified v valid l i low there = block-verified v valid l (ancestor (tree_of v) (l + 1) i) low (ancestor-lt (tree_of v) valid l i there)
