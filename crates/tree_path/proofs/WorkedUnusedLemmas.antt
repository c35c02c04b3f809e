-- Used entries of hash blocks, computed.
use Rattle.std.proofs.Common.{◌≡◌, ℕ, [], ◌∷◌, ◌++◌, true, false, refl, replicate}
use Rattle.tree_shape.specs.Shape.{ShapeRecord, level_blocks}
use Rattle.tree_path.specs.Unused.{is_unused_zero, used_entries}

-- blocks of 4,096 bytes, the tree at hash block 1
abbrev of_4096 : ℕ → ShapeRecord
of_4096 n = record { data_block = 4096; hash_block = 4096; blocks = n; start = 1 }

-- 8,217 data blocks are 64 times 128 and 25 more; their 65 hash blocks are in one above
last_blocks : used_entries (of_4096 8217) 0 63 ∷ used_entries (of_4096 8217) 0 64 ∷ used_entries (of_4096 8217) 1 0 ∷ [] ≡ 128 ∷ 25 ∷ 65 ∷ []
unfolding level_blocks
last_blocks = refl

-- 8,193 have a tree of the same shape, whose last hash block of level 0 has one entry
shortened : used_entries (of_4096 8193) 0 63 ∷ used_entries (of_4096 8193) 0 64 ∷ used_entries (of_4096 8193) 1 0 ∷ [] ≡ 128 ∷ 1 ∷ 65 ∷ []
unfolding level_blocks
shortened = refl

-- 16,384 fill all hash blocks
full : used_entries (of_4096 16384) 0 127 ∷ used_entries (of_4096 16384) 1 0 ∷ [] ≡ 128 ∷ 128 ∷ []
unfolding level_blocks
full = refl

-- 17 data blocks under hash blocks of 512 bytes, of 16 entries: one entry of the second is used
abbrev small : ShapeRecord
small = record { data_block = 512; hash_block = 512; blocks = 17; start = 1 }

-- a block that is all entries; one with one entry, and zeros; and with another byte right after the entry, or as the last one
tests : is_unused_zero small 0 0 (replicate 512 7) ∷ is_unused_zero small 0 1 (replicate 32 7 ++ replicate 480 0)
    ∷ is_unused_zero small 0 1 (replicate 33 7 ++ replicate 479 0) ∷ is_unused_zero small 0 1 (replicate 32 7 ++ replicate 479 0 ++ 7 ∷ []) ∷ []
    ≡ true ∷ true ∷ false ∷ false ∷ []
unfolding is_unused_zero level_blocks
tests = refl

-- above them two entries are used
tests_above : is_unused_zero small 1 0 (replicate 64 7 ++ replicate 448 0) ∷ is_unused_zero small 1 0 (replicate 65 7 ++ replicate 447 0) ∷ [] ≡ true ∷ false ∷ []
unfolding is_unused_zero level_blocks
tests_above = refl
