-- The hash blocks on the path to a data block of a `verity` line.
use Rattle.std.specs.Prelude.{ℕ, ◌+◌, ◌-◌, ◌*◌, ◌/◌, List}
use Rattle.tree_shape.specs.Digests.{digest_in}
use Rattle.tree_shape.specs.Shape.{ancestor, position, slot}
use Rattle.dm_table.specs.declared.verity.Verity.{Verity}
use Rattle.stack_rules.specs.Trees.{tree_of}

-- the number of sectors of a hash block
abbrev pub hash_sectors : Verity → ℕ
hash_sectors v = v.hash_block / 512

-- the first sector, on the hash device, of hash block b of level l
abbrev pub hash_place : Verity → ℕ → ℕ → ℕ
hash_place v l b = hash_sectors v * position (tree_of v) l b

-- the first sector of the hash block of level l on the path to data block i
abbrev pub hash_start : Verity → ℕ → ℕ → ℕ
hash_start v l i = hash_place v l (ancestor (tree_of v) (l + 1) i)

-- the number of hash block b of level l among the covered blocks
abbrev pub covered_hash : Verity → ℕ → ℕ → ℕ
covered_hash v l b = v.blocks + (position (tree_of v) l b - v.start)

-- the digest that this hash block stores for the next block on the path
abbrev pub next_digest : Verity → ℕ → ℕ → List ℕ → List ℕ
next_digest v l i block = digest_in block (slot (tree_of v) (ancestor (tree_of v) l i))
