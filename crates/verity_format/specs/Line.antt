-- The table line that opens a verity image, and how its text is read.
use Rattle.std.specs.Prelude.{◌≡◌, ℕ, ◌+◌, ◌^◌, ◌<◌, ◌≤◌, false, true, IfSome, IsTrue, List, [], ◌∷◌, length, Option, None, Some, Ok}
use Rattle.hex.specs.Hex.{IsBytes}
use Rattle.tree_shape.specs.Shape.{IsShape}
use Rattle.dm_table.specs.declared.parity.Parity.{Parity}
use Rattle.dm_table.specs.declared.table.Line.{Line}
use Rattle.dm_table.specs.declared.table.Target.TheVariants.{Verity as verity_target}
use Rattle.dm_table.specs.declared.verity.CorruptionMode.TheVariants.{Fail}
use Rattle.dm_table.specs.Names.{is_device}
use Rattle.dm_table.specs.Parity.{IsParityOfGrammar}
use Rattle.dm_table.specs.TableText.{table_of}
use Rattle.table_text.specs.Print.{line_text}
pub use Rattle.table_text.specs.ArgumentWords.{salt_word}
use Rattle.verity_format.specs.declared.table.LineDevices.{LineDevices}
use Rattle.verity_format.specs.declared.table.LineParity.{LineParity}
use Rattle.verity_format.specs.declared.tree.VerityTree.{VerityTree}
use Rattle.verity_format.specs.Superblock.{SuperRecord}
use Rattle.verity_format.specs.Trees.{superblock_tree}
use Rattle.verity_format.specs.Image.{data_sectors}

-- the device arguments of a line, and its parity, if it has some
pub record LineNames : Type 0 where
  pub data_name : List ℕ
  pub hash_name : List ℕ
  pub parity : Option Parity

-- without parity
abbrev pub two_names : List ℕ → List ℕ → LineNames
two_names data_name hash_name = record { data_name = data_name; hash_name = hash_name; parity = None }

-- all data blocks of an image from sector 0 on, verified with its tree at block `start` of the hash device
abbrev pub image_line : VerityTree → LineNames → List ℕ → ℕ → Line
image_line tree names root start = record {
  start = 0;
  length = data_sectors tree.shape;
  target = verity_target (record {
    «data» = names.data_name;
    hash = names.hash_name;
    data_block = tree.shape.data_block;
    hash_block = tree.shape.hash_block;
    blocks = tree.shape.blocks;
    start = start;
    root = root;
    salt = tree.salt;
    ignore_zero_blocks = false;
    corruption = Fail;
    in_tasklet = false;
    parity = names.parity;
    signature_key = None;
  });
}

-- the text of the line, without a newline
abbrev pub verity_text : VerityTree → LineNames → List ℕ → ℕ → List ℕ
verity_text tree names root start = line_text true (image_line tree names root start)

-- the length of the device argument of the parity
abbrev pub parity_room : Option Parity → ℕ
parity_room None = 0
parity_room (Some parity) = length parity.device

-- the length of the device arguments
abbrev pub names_room : LineNames → ℕ
names_room names = length names.data_name + length names.hash_name + parity_room names.parity

-- the largest size of an allocation for the line: the length of the names and the text
abbrev pub text_room : VerityTree → LineNames → List ℕ → ℕ → ℕ
text_room tree names root start = names_room names + length (verity_text tree names root start)

-- ---- the tree of a superblock, without parity

abbrev pub verity_line : SuperRecord → List ℕ → List ℕ → List ℕ → ℕ → Line
verity_line s data_name hash_name root start = image_line (superblock_tree s) (two_names data_name hash_name) root start

abbrev pub line_room : SuperRecord → List ℕ → List ℕ → List ℕ → ℕ → ℕ
line_room s data_name hash_name root start = text_room (superblock_tree s) (two_names data_name hash_name) root start

-- the line of an image whose tree follows its superblock, at hash block 1
abbrev pub table_text : SuperRecord → List ℕ → List ℕ → List ℕ → List ℕ
table_text s data_name hash_name root = verity_text (superblock_tree s) (two_names data_name hash_name) root 1

-- a tree, the names of the devices as device arguments, a root hash, and parity within the grammar's limits
pub record AreLineParts (tree : VerityTree) (names : LineNames) (root : List ℕ) : Type 0 where
  pub shape : IsShape tree.shape
  pub salt_size : length tree.salt ≤ 256
  pub salt_bytes : IsBytes tree.salt
  pub data_is : IsTrue (is_device names.data_name)
  pub hash_is : IsTrue (is_device names.hash_name)
  pub root_size : length root ≡ 32
  pub root_bytes : IsBytes root
  pub parity : IfSome names.parity IsParityOfGrammar

-- whatever the offset of the tree, the text is read as that single line
abbrev pub TableLinesReadBack : Type 0
TableLinesReadBack = (tree : VerityTree) (names : LineNames) (root : List ℕ) (start : ℕ) → AreLineParts tree names root → start < 2 ^ 64
    → table_of (verity_text tree names root start) ≡ Ok (image_line tree names root start ∷ [])

-- ---- as a call sees them

-- the parity begins with its device
abbrev pub parity_of : Option LineParity → Option Parity
parity_of None = None
parity_of (Some parity) = Some (record { device = parity.device.now; roots = parity.roots; blocks = parity.blocks; start = 0 })

abbrev pub names_of : LineDevices → LineNames
names_of devices = record { data_name = devices.«data».now; hash_name = devices.hash.now; parity = parity_of devices.parity }
