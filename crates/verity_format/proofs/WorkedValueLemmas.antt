-- Worked values: a superblock's bytes, the faults of changed bytes, and sizes.
use Rattle.std.proofs.Common.{◌≡◌, [], ◌∷◌, refl, length, replicate, Some, None}
use Rattle.std.specs.Prelude.{slice_range, slice_set, take}
use Rattle.tree_shape.specs.Shape.{first_fault, levels, area_blocks, area_end, level_blocks}
use Rattle.verity_format.specs.declared.decoding.SuperFault.TheVariants.{Version, HashType, DataBlockSize, SaltSize}
use Rattle.verity_format.specs.Superblock.{SuperRecord, spelling, super_fault, read_of, shape_of}
use Rattle.verity_format.specs.Image.{data_sectors, image_sectors, tree_sectors}

-- blocks of 4096 bytes, 129 data blocks, no salt
abbrev s129 : SuperRecord
s129 = record { uuid = replicate 16 0; data_block = 4096; hash_block = 4096; blocks = 129; salt = [] }

written : (take 16 (spelling s129) ≡ 0x76 ∷ 0x65 ∷ 0x72 ∷ 0x69 ∷ 0x74 ∷ 0x79 ∷ 0 ∷ 0 ∷ 1 ∷ 0 ∷ 0 ∷ 0 ∷ 1 ∷ 0 ∷ 0 ∷ 0 ∷ [])
    × (slice_range (spelling s129) 64 82 ≡ 0 ∷ 0x10 ∷ 0 ∷ 0 ∷ 0 ∷ 0x10 ∷ 0 ∷ 0 ∷ 0x81 ∷ 0 ∷ 0 ∷ 0 ∷ 0 ∷ 0 ∷ 0 ∷ 0 ∷ 0 ∷ 0 ∷ [])
    × (length (spelling s129) ≡ 512)
unfolding spelling
written = (refl, refl, refl)

read : read_of (spelling s129) ≡ s129
unfolding spelling read_of
read = refl

faults : (super_fault (slice_set (spelling s129) 8 2) ≡ Some Version) × (super_fault (slice_set (spelling s129) 12 0) ≡ Some HashType) × (super_fault (slice_set (spelling s129) 65 24) ≡ Some DataBlockSize)
unfolding spelling super_fault
faults = (refl, refl, refl)

-- one block of 512 bytes
abbrev one_zero_block : SuperRecord
one_zero_block = record { uuid = replicate 16 0; data_block = 512; hash_block = 512; blocks = 1; salt = [] }

-- 129 blocks take 1032 sectors, and their image 32
sizes : data_sectors (shape_of s129) ∷ image_sectors (shape_of s129) ∷ tree_sectors (shape_of s129) ∷ [] ≡ 1032 ∷ 32 ∷ 32 ∷ []
unfolding levels area_blocks area_end level_blocks
sizes = refl

-- one data block has no tree: formatting writes hash block 0, and nothing of a tree is read
sizes_of_one : image_sectors (shape_of one_zero_block) ∷ tree_sectors (shape_of one_zero_block) ∷ [] ≡ 1 ∷ 0 ∷ []
unfolding levels area_blocks area_end level_blocks
sizes_of_one = refl

whole : super_fault (spelling s129) ≡ None
unfolding spelling super_fault first_fault levels area_blocks area_end level_blocks
whole = refl

salt_too_long : super_fault (slice_set (slice_set (spelling s129) 80 1) 81 1) ≡ Some SaltSize
unfolding spelling super_fault first_fault levels area_blocks area_end level_blocks
salt_too_long = refl
