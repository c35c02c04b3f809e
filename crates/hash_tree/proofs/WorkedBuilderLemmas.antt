-- A builder, computed.
use Rattle.std.proofs.Common.{◌≡◌, ℕ, List, [], ◌∷◌, refl, replicate, map}
use Rattle.sha2.specs.Sha256.{sha256, first_words, schedule, rounds, compress, hash_after, digest_bytes}
use Rattle.tree_shape.specs.Digests.{digest}
use Rattle.tree_shape.specs.Shape.{levels, level_blocks, blocks_above, position}
use Rattle.hash_tree.specs.Tree.{cut, root}
use Rattle.hash_tree.specs.Building.{PlacedRecord, BuilderRecord, begun_builder, grow, grow_all, close, pushed, completed, last_completed, built_root}

-- that many data blocks under hash blocks of 512 bytes, the tree at hash block 1
abbrev small : ℕ → BuilderRecord
small n = begun_builder (record { data_block = 512; hash_block = 512; blocks = n; start = 1 }) []

abbrev sevens : ℕ → List (List ℕ)
sevens n = replicate n (replicate 32 7)

-- the numbers of the blocks
abbrev numbers : List PlacedRecord → List ℕ
numbers ps = map (λ p. p.block) ps

-- one digest is the root, and no block comes out
one_block : built_root (pushed (small 1) (sevens 1)) ≡ replicate 32 7
unfolding begun_builder levels grow grow_all close pushed built_root
one_block = refl

one_block-none : last_completed (pushed (small 1) (sevens 1)) ≡ []
unfolding begun_builder levels grow grow_all close pushed last_completed
one_block-none = refl

-- 15 of 17 digests fill no block, and the next one fills the first block of level 0, which is at 2
not_yet : completed (small 17) (sevens 15) ≡ []
unfolding begun_builder levels level_blocks blocks_above position grow grow_all completed
not_yet = refl

first_block : completed (pushed (small 17) (sevens 15)) (sevens 1) ≡ record { block = 2; bytes = replicate 512 7 } ∷ []
unfolding begun_builder levels level_blocks blocks_above position grow grow_all pushed completed digest sha256 digest_bytes
first_block = refl

-- at the end come level 0's second block and the block of level 1
last_blocks : numbers (last_completed (pushed (small 17) (sevens 17))) ≡ 3 ∷ 1 ∷ []
unfolding begun_builder levels level_blocks blocks_above position grow grow_all close pushed last_completed digest first_words schedule rounds compress hash_after digest_bytes sha256
last_blocks = refl

same_root : built_root (pushed (small 17) (sevens 17)) ≡ root 512 [] (sevens 17)
unfolding begun_builder levels level_blocks blocks_above position grow grow_all close pushed built_root root cut digest first_words schedule rounds compress hash_after digest_bytes sha256
same_root = refl
