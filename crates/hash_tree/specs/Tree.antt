-- The tree over a list of digests: the blocks they are packed into, the root, the levels, and the
-- area on which the whole tree is stored.
use Rattle.std.specs.Prelude.{ℕ, zero, suc, ◌-◌, ◌*◌, List, [], ◌∷◌, ◌++◌, length, map, take, drop, replicate}
use Rattle.std.specs.Int.{div_ceil}
use Rattle.std.specs.List.{concat, range_with_len}
use Rattle.tree_shape.specs.Digests.{digest}

-- the bytes followed by zeros up to that size
abbrev pub filled : ℕ → List ℕ → List ℕ
filled size bytes = bytes ++ replicate (size - length bytes) 0

-- the bytes cut into blocks of that size, the last one filled with zeros
unfoldable pub cut : ℕ → List ℕ → List (List ℕ)
cut size bytes = map (λ i. filled size (take size (drop (size * i) bytes))) (range_with_len 0 (div_ceil (length bytes) size))

-- the digests joined and cut into hash blocks
abbrev pub pack : ℕ → List (List ℕ) → List (List ℕ)
pack hash_block digests = cut hash_block (concat digests)

-- the digests of the hash blocks that the digests are packed into
abbrev pub digests_above : ℕ → List ℕ → List (List ℕ) → List (List ℕ)
digests_above hash_block salt digests = map (digest salt) (pack hash_block digests)

-- One digest is the root; over more of them is the tree over the digests of their hash blocks.
-- Each step leaves fewer digests, so as many steps as digests are enough.
abbrev pub root_in : ℕ → ℕ → List ℕ → List (List ℕ) → List ℕ
root_in zero hash_block salt digests = []
root_in (suc steps) hash_block salt [] = []
root_in (suc steps) hash_block salt (one ∷ []) = one
root_in (suc steps) hash_block salt (one ∷ two ∷ more) = root_in steps hash_block salt (digests_above hash_block salt (one ∷ two ∷ more))

-- the root digest over the data blocks' digests
unfoldable pub root : ℕ → List ℕ → List (List ℕ) → List ℕ
root hash_block salt digests = root_in (length digests) hash_block salt digests

-- the hash blocks of the whole tree in the order in which they are stored, the top level first
abbrev pub area_in : ℕ → ℕ → List ℕ → List (List ℕ) → List (List ℕ)
area_in zero hash_block salt digests = []
area_in (suc steps) hash_block salt [] = []
area_in (suc steps) hash_block salt (one ∷ []) = []
area_in (suc steps) hash_block salt (one ∷ two ∷ more) =
    area_in steps hash_block salt (digests_above hash_block salt (one ∷ two ∷ more)) ++ pack hash_block (one ∷ two ∷ more)

-- the hash blocks of the tree over the data blocks' digests
unfoldable pub area : ℕ → List ℕ → List (List ℕ) → List (List ℕ)
area hash_block salt digests = area_in (length digests) hash_block salt digests

-- the hash blocks of level l: packed l + 1 times, with digests between
unfoldable pub level : ℕ → List ℕ → List (List ℕ) → ℕ → List (List ℕ)
level hash_block salt digests zero = pack hash_block digests
level hash_block salt digests (suc l) = level hash_block salt (digests_above hash_block salt digests) l
