-- The entries of a hash block that hold digests, and the bytes after them.
use Rattle.std.specs.Prelude.{ℕ, zero, suc, ◌-◌, ◌*◌, ◌==◌, min, drop, Bool, List}
use Rattle.std.specs.List.{list_all}
use Rattle.tree_shape.specs.Shape.{ShapeRecord, level_blocks, per_block}

-- the number of digests in level l: those of the data blocks, or of the hash blocks of the level below
abbrev pub digests_in : ShapeRecord → ℕ → ℕ
digests_in s zero = s.blocks
digests_in s (suc l) = level_blocks s l

-- the number of entries of hash block n of level l that hold a digest: all, or the remaining ones in the last block
-- of the level. An entry is the slot of a digest; used entries come first
abbrev pub used_entries : ShapeRecord → ℕ → ℕ → ℕ
used_entries s l n = min (per_block s) (digests_in s l - n * per_block s)

-- the bytes of hash block n of level l after its last used entry
abbrev pub unused_part : ShapeRecord → ℕ → ℕ → List ℕ → List ℕ
unused_part s l n block = drop (32 * used_entries s l n) block

-- these bytes are zero, as in every tree that is formatted
unfoldable pub is_unused_zero : ShapeRecord → ℕ → ℕ → List ℕ → Bool
is_unused_zero s l n block = list_all (λ b. b == 0) (unused_part s l n block)
