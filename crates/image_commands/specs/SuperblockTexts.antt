-- The printed fields of a superblock.
use Rattle.std.specs.Prelude.{ℕ, List, ◌++◌, codes, decimal}
use Rattle.hex.specs.Hex.{encode_lower}
use Rattle.uuid.specs.Text.{hyphenated_text, lower}
use Rattle.verity_format.specs.Line.{salt_word}
use Rattle.verity_format.specs.Superblock.{SuperRecord}

unfoldable pub root_text : List ℕ → List ℕ
root_text root = codes "root " ++ (encode_lower root ++ codes "\n")

unfoldable pub salt_text : List ℕ → List ℕ
salt_text salt = codes "salt " ++ (salt_word salt ++ codes "\n")

unfoldable pub uuid_text : List ℕ → List ℕ
uuid_text uuid = codes "uuid " ++ (hyphenated_text lower uuid ++ codes "\n")

-- block sizes in bytes, and how many data blocks
unfoldable pub data_block_text : ℕ → List ℕ
data_block_text size = codes "data_block " ++ (decimal size ++ codes "\n")

unfoldable pub hash_block_text : ℕ → List ℕ
hash_block_text size = codes "hash_block " ++ (decimal size ++ codes "\n")

unfoldable pub data_blocks_text : ℕ → List ℕ
data_blocks_text count = codes "data_blocks " ++ (decimal count ++ codes "\n")

unfoldable pub blocks_text : ℕ → List ℕ
blocks_text count = codes "blocks " ++ (decimal count ++ codes "\n")

unfoldable pub sizes_text : SuperRecord → List ℕ
sizes_text s = data_block_text s.data_block ++ (hash_block_text s.hash_block ++ data_blocks_text s.blocks)

-- the hash type and the algorithm are always these
unfoldable pub algorithm_text : List ℕ
algorithm_text = codes "hash_type 1\nalgorithm sha256\n"

-- the fields, a line each
unfoldable pub superblock_text : SuperRecord → List ℕ
superblock_text s = uuid_text s.uuid ++ (algorithm_text ++ (sizes_text s ++ salt_text s.salt))
