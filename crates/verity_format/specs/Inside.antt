-- The fields of a superblock, and its value in contracts.
use Rattle.std.specs.Prelude.{◌≡◌, ℕ, length}
use Rattle.std.proofs.Common.{ap, sym}
use Rattle.tree_shape.specs.Shape.{IsShape}
use Rattle.verity_format.specs.declared.superblock.Superblock.TheInside.{Inside}
use Rattle.verity_format.specs.Superblock.{SuperRecord, shape_of}

-- the value: the fields of the shape next to the other fields
abbrev pub seen_super : Inside → SuperRecord
seen_super s = record { uuid = s.uuid; data_block = s.shape.data_block; hash_block = s.shape.hash_block; blocks = s.shape.blocks; salt = s.salt }

-- the shape is valid, its tree begins at hash block 1, and the UUID has 16 bytes
pub record IsValidInside (s : Inside) : Type 0 where
  pub start : s.shape.start ≡ 1
  pub shape : IsShape s.shape
  pub uuid : length s.uuid ≡ 16

-- the fields of a superblock
abbrev pub superblock_inside : SuperRecord → Inside
superblock_inside s = record { uuid = s.uuid; shape = shape_of s; salt = s.salt }

-- a value determines the fields
pub inside_of-seen : (s : Inside) → IsValidInside s → superblock_inside (seen_super s) ≡ s
inside_of-seen s valid =
    let with_start : ℕ → Inside = λ n. record { uuid = s.uuid; shape = record { data_block = s.shape.data_block; hash_block = s.shape.hash_block; blocks = s.shape.blocks; start = n }; salt = s.salt } in
    ap with_start (sym valid.start)
