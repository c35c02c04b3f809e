-- The layout of codewords across an image, as Linux's drivers/md/dm-verity-fec.c reads it and cryptsetup's
-- lib/verity/verity_fec.c writes it.
use Rattle.std.specs.Prelude.{◌≡◌, ◌⊎◌, ℕ, min, ◌+◌, ◌-◌, ◌*◌, ◌/◌, ◌^◌, ◌<◌, ◌≤◌, List, [], IsTrue, map, nat_lt, slice_index, if◌then◌else◌}
use Rattle.std.specs.Int.{div_ceil}
use Rattle.std.specs.List.{range_with_len}
use Rattle.block_device.specs.Device.{Device}
use Rattle.reed_solomon.specs.Code.{IsCodeword}
use Rattle.tree_shape.specs.Shape.{ShapeRecord, is_block_size}
use Rattle.verity_format.specs.Blocks.{block_at}
use Rattle.fec_area.specs.declared.layout.Layout.{Layout}

-- the number of covered blocks: the data blocks, followed by those of the hash device
abbrev pub covered_blocks : Layout → ℕ
covered_blocks l = l.data_blocks + l.hash_blocks

-- the number of rounds; a round has one block at each position of the message, and the blocks at one position are
-- consecutive over the rounds
abbrev pub code_rounds : Layout → ℕ
code_rounds l = div_ceil (covered_blocks l) (255 - l.roots)

-- covered block j; empty after the last one
abbrev pub covered : Layout → List (List ℕ) → List (List ℕ) → ℕ → List ℕ
covered l data_image hash_image j =
    if nat_lt j l.data_blocks then block_at data_image l.block j
    else if nat_lt j (covered_blocks l) then block_at hash_image l.block (l.hash_first + (j - l.data_blocks))
    else []

-- if the devices are steady, the bytes are covered block j
abbrev pub IsCovered : Layout → Device → Device → ℕ → List ℕ → Type 0
IsCovered l data_dev hash_dev j bytes = IsTrue data_dev.steady → IsTrue hash_dev.steady → bytes ≡ covered l data_dev.image hash_dev.image j

-- the byte at position i of the message of codeword c of a round; 0 after the last covered block
abbrev pub message_byte : Layout → List (List ℕ) → List (List ℕ) → ℕ → ℕ → ℕ → ℕ
message_byte l data_image hash_image round c i = slice_index (covered l data_image hash_image (i * code_rounds l + round)) c

-- codeword c of a round: its message, and its bytes of parity, which are stored together
unfoldable pub codeword : Layout → List (List ℕ) → List (List ℕ) → ℕ → List ℕ → ℕ → List ℕ
codeword l data_image hash_image round parity c =
    map (λ i. if nat_lt i (255 - l.roots) then message_byte l data_image hash_image round c i else slice_index parity (c * l.roots + (i - (255 - l.roots)))) (range_with_len 0 255)

-- the bytes are the parity of a round
abbrev pub IsParityOf : Layout → List (List ℕ) → List (List ℕ) → ℕ → List ℕ → Type 0
IsParityOf l data_image hash_image round parity = (c : ℕ) → c < l.block → IsCodeword l.roots (codeword l data_image hash_image round parity c)

-- the size of the parity of a round in bytes, and of all rounds in sectors
abbrev pub round_bytes : Layout → ℕ
round_bytes l = l.roots * l.block

abbrev pub parity_sectors : Layout → ℕ
parity_sectors l = code_rounds l * (l.roots * (l.block / 512))

-- the most elements of one allocation; the largest allocation is that of the parity of a round
abbrev pub largest_allocation : ℕ
largest_allocation = 0x20000

-- the parity image holds the parity of all rounds, consecutively
abbrev pub IsProtected : Layout → List (List ℕ) → List (List ℕ) → List (List ℕ) → Type 0
IsProtected l data_image hash_image parity_image = (round : ℕ) → round < code_rounds l → IsParityOf l data_image hash_image round (block_at parity_image (round_bytes l) round)

-- the layout of an image with a tree of that shape; on the hash device, which has `hash_sectors` sectors, all blocks
-- from the first block of the tree to the end of the device are covered
pub record IsLayoutOf (shape : ShapeRecord) (hash_sectors roots : ℕ) (l : Layout) : Type 0 where
  pub data_size : l.block ≡ shape.data_block
  pub hash_size : l.block ≡ shape.hash_block
  pub data_blocks : l.data_blocks ≡ shape.blocks
  pub first : l.hash_first ≡ min shape.start (hash_sectors / (l.block / 512))
  pub to_end : l.hash_first + l.hash_blocks ≡ hash_sectors / (l.block / 512)
  pub roots_are : l.roots ≡ roots

-- a valid layout
pub record IsLayout (l : Layout) : Type 0 where
  pub size : IsTrue (is_block_size l.block)
  pub some : 2 ≤ l.roots
  pub few : l.roots ≤ 24
  pub data_small : l.data_blocks * (l.block / 512) ≤ 2 ^ 54
  pub hash_small : (l.hash_first + l.hash_blocks) * (l.block / 512) ≤ 2 ^ 54

-- the covered blocks are within the two devices
pub record IsLaidOn (l : Layout) (data_dev hash_dev : Device) : Type 0 where
  pub layout : IsLayout l
  pub data_room : l.data_blocks * (l.block / 512) ≤ data_dev.size
  pub hash_room : (l.hash_first + l.hash_blocks) * (l.block / 512) ≤ hash_dev.size

-- covered block j is this block of the data device, whatever the images are
pub record IsOfData (l : Layout) (number j : ℕ) : Type 0 where
  pub is_covered : j < covered_blocks l
  pub bytes : (data_image hash_image : List (List ℕ)) → covered l data_image hash_image j ≡ block_at data_image l.block number

-- covered block j is this block of the hash device, whatever the images are
pub record IsOfHash (l : Layout) (number j : ℕ) : Type 0 where
  pub is_covered : j < covered_blocks l
  pub bytes : (data_image hash_image : List (List ℕ)) → covered l data_image hash_image j ≡ block_at hash_image l.block number

-- a block of the hash device that isn't covered
abbrev pub IsOffHash : Layout → ℕ → Type 0
IsOffHash l number = (number < l.hash_first) ⊎ (l.hash_first + l.hash_blocks ≤ number)
