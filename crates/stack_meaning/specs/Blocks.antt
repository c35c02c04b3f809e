-- Data blocks of a `verity` line, verified from the root hash down; of each block on the way its spare may be taken.
use Rattle.std.specs.Prelude.{◌≡◌, ◌⊎◌, ℕ, zero, suc, ◌+◌, ◌*◌, ◌<◌, Bool, ◌&&◌, List, Ok, if◌then◌else◌}
use Rattle.std.specs.Str.{bytes_eq}
use Rattle.tree_shape.specs.Digests.{digest}
use Rattle.tree_shape.specs.Shape.{levels, ancestor}
use Rattle.dm_table.specs.declared.verity.Verity.{Verity}
use Rattle.stack_rules.specs.Trees.{tree_of, block_sectors, zero_block}
use Rattle.stack_meaning.specs.Sectors.{SomeOf}
use Rattle.stack_meaning.specs.declared.fault.Fault.{Fault}
use Rattle.stack_meaning.specs.Outcomes.{Outcome, mismatch, then_outcome}
use Rattle.stack_meaning.specs.Erasures.{covered_spare}
use Rattle.stack_meaning.specs.Spares.{BlockSources, healed_outcome}
pub use Rattle.stack_meaning.specs.Checked.{checked, checked_span}
pub use Rattle.stack_meaning.specs.Paths.{covered_hash, hash_place, hash_sectors, hash_start, next_digest}

-- the line has `ignore_zero_blocks`, and the digest is that of a block of zeros
abbrev pub is_ignored : Verity → List ℕ → Bool
is_ignored v expected = v.ignore_zero_blocks && bytes_eq (digest v.salt (zero_block v)) expected

-- data block i, given its expected digest: zeros if the line ignores it; otherwise it, or its spare, must have that
-- digest
abbrev pub data_block_at : Verity → BlockSources → ℕ → List ℕ → Outcome
data_block_at v below i expected =
    if is_ignored v expected then Ok (zero_block v)
    else healed_outcome (checked_span below.on_data (block_sectors v * i) (block_sectors v) v.salt expected) (covered_spare v below v.parity i expected)

-- hash block b of level l, given its expected digest: it, or its spare, must have that digest
abbrev pub hash_block_at : Verity → BlockSources → ℕ → ℕ → List ℕ → Outcome
hash_block_at v below l b expected = healed_outcome (checked_span below.on_hash (hash_place v l b) (hash_sectors v) v.salt expected) (covered_spare v below v.parity (covered_hash v l b) expected)

-- data block i, given the number of levels left and the digest expected of the next block: each hash block from the
-- top level down, and then the data block, or its spare, must have its expected digest
abbrev pub block_below : Verity → BlockSources → ℕ → ℕ → List ℕ → Outcome
block_below v below i zero expected = data_block_at v below i expected
block_below v below i (suc l) expected =
    then_outcome (hash_block_at v below l (ancestor (tree_of v) (l + 1) i) expected)
    (λ block. block_below v below i l (next_digest v l i block))

-- data block i; the root hash is the digest expected of the topmost block
abbrev pub verified_block : Verity → BlockSources → ℕ → Outcome
verified_block v below i = block_below v below i (levels (tree_of v)) v.root

-- the faults possible on the path to data block i: a wrong digest, and the faults of the sectors of the data block,
-- whether it is ignored or not, and of the hash blocks
abbrev pub BlockMeets : Verity → (ℕ → Fault → Type 0) → (ℕ → Fault → Type 0) → ℕ → Fault → Type 0
BlockMeets v on_data on_hash i fault =
    (fault ≡ mismatch)
    ⊎ (SomeOf (λ s. on_data s fault) (block_sectors v * i) (block_sectors v)
    ⊎ ((l : ℕ) × (l < levels (tree_of v)) × SomeOf (λ s. on_hash s fault) (hash_start v l i) (hash_sectors v)))
