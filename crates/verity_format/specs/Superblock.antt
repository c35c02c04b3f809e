-- The verity superblock of version 1: 512 bytes at the beginning of the hash image, with little-endian numbers.
use Rattle.std.specs.Prelude.{◌≡◌, ℕ, ◌+◌, ◌-◌, ◌≤◌, not, ◌==◌, nat_lt, List, [], ◌∷◌, ◌++◌, length, replicate, slice_range, codes, Option, Some, None, is_some, if◌then◌else◌}
use Rattle.std.specs.List.{before_first}
use Rattle.std.specs.Str.{bytes_eq}
use Rattle.std.specs.Int.{w16, w32, w64, from_le_bytes, to_le_bytes}
use Rattle.tree_shape.specs.declared.algorithm.Algorithm.TheVariants.{Sha256}
use Rattle.tree_shape.specs.Algorithms.{algorithm_name}
use Rattle.tree_shape.specs.Shape.{ShapeRecord, IsShape, first_fault, is_block_size}
use Rattle.verity_format.specs.declared.decoding.SuperFault.{SuperFault}
use Rattle.verity_format.specs.declared.decoding.SuperFault.TheVariants.{Signature, Version, HashType, Algorithm, DataBlockSize, HashBlockSize, DataBlocks, SaltSize}

-- the fields of a superblock: the UUID, the block sizes in bytes, the number of data blocks, and the salt
pub record SuperRecord : Type 0 where
  pub uuid : List ℕ
  pub data_block : ℕ
  pub hash_block : ℕ
  pub blocks : ℕ
  pub salt : List ℕ

-- the shape of a tree that begins at hash block 1, after the superblock
abbrev pub shape_after : ℕ → ℕ → ℕ → ShapeRecord
shape_after data_block hash_block blocks = record { data_block = data_block; hash_block = hash_block; blocks = blocks; start = 1 }

-- the shape of a superblock's tree
abbrev pub shape_of : SuperRecord → ShapeRecord
shape_of s = shape_after s.data_block s.hash_block s.blocks

-- the superblock with these fields
abbrev pub super_of : List ℕ → ℕ → ℕ → ℕ → List ℕ → SuperRecord
super_of uuid data_block hash_block blocks salt = record { uuid = uuid; data_block = data_block; hash_block = hash_block; blocks = blocks; salt = salt }

-- a valid superblock
pub record IsSuperblock (s : SuperRecord) : Type 0 where
  pub uuid : length s.uuid ≡ 16
  pub shape : IsShape (shape_of s)
  pub salt : length s.salt ≤ 256

-- the number stored in 2, 4 or 8 bytes from an offset on
abbrev pub field_number16 : List ℕ → ℕ → ℕ
field_number16 bytes at = from_le_bytes w16 (slice_range bytes at (at + 2))

abbrev pub field_number32 : List ℕ → ℕ → ℕ
field_number32 bytes at = from_le_bytes w32 (slice_range bytes at (at + 4))

abbrev pub field_number64 : List ℕ → ℕ → ℕ
field_number64 bytes at = from_le_bytes w64 (slice_range bytes at (at + 8))

-- "verity" and two zero bytes
abbrev pub signature : List ℕ
signature = codes "verity" ++ (0 ∷ 0 ∷ [])

-- the algorithm's name: the bytes of its field before the first zero byte
abbrev pub algorithm_of : List ℕ → List ℕ
algorithm_of bytes = before_first (λ b. b == 0) (slice_range bytes 32 64)

-- the 512 bytes store the superblock; bytes outside all fields are arbitrary
pub record Carries (s : SuperRecord) (bytes : List ℕ) : Type 0 where
  pub valid : IsSuperblock s
  pub size : length bytes ≡ 512
  pub signature : slice_range bytes 0 8 ≡ signature
  pub version : field_number32 bytes 8 ≡ 1
  pub hash_type : field_number32 bytes 12 ≡ 1
  pub uuid : slice_range bytes 16 32 ≡ s.uuid
  pub algorithm : algorithm_of bytes ≡ algorithm_name Sha256
  pub data_block : field_number32 bytes 64 ≡ s.data_block
  pub hash_block : field_number32 bytes 68 ≡ s.hash_block
  pub blocks : field_number64 bytes 72 ≡ s.blocks
  pub salt_size : field_number16 bytes 80 ≡ length s.salt
  pub salt : slice_range bytes 88 (88 + length s.salt) ≡ s.salt

-- the bytes that store the superblock with zeros outside all fields
unfoldable pub spelling : SuperRecord → List ℕ
spelling s = signature ++ to_le_bytes w32 1 ++ to_le_bytes w32 1 ++ s.uuid ++ algorithm_name Sha256 ++ replicate 26 0
    ++ to_le_bytes w32 s.data_block ++ to_le_bytes w32 s.hash_block ++ to_le_bytes w64 s.blocks ++ to_le_bytes w16 (length s.salt) ++ replicate 6 0
    ++ s.salt ++ replicate (424 - length s.salt) 0

-- why the bytes store no superblock: the first of these checks that fails; with valid block sizes, a shape can only
-- have no data block or be too large
unfoldable pub super_fault : List ℕ → Option SuperFault
super_fault bytes =
    if not (bytes_eq (slice_range bytes 0 8) signature) then Some Signature
    else if not (field_number32 bytes 8 == 1) then Some Version
    else if not (field_number32 bytes 12 == 1) then Some HashType
    else if not (bytes_eq (algorithm_of bytes) (algorithm_name Sha256)) then Some Algorithm
    else if not (is_block_size (field_number32 bytes 64)) then Some DataBlockSize
    else if not (is_block_size (field_number32 bytes 68)) then Some HashBlockSize
    else if is_some (first_fault (shape_after (field_number32 bytes 64) (field_number32 bytes 68) (field_number64 bytes 72))) then Some DataBlocks
    else if nat_lt 256 (field_number16 bytes 80) then Some SaltSize
    else None

-- the fields as they are read
unfoldable pub read_of : List ℕ → SuperRecord
read_of bytes = record {
  uuid = slice_range bytes 16 32;
  data_block = field_number32 bytes 64;
  hash_block = field_number32 bytes 68;
  blocks = field_number64 bytes 72;
  salt = slice_range bytes 88 (88 + field_number16 bytes 80);
}
