-- The arguments of a `verity` line, as documented on the kernel's dm-verity page.
use Rattle.std.specs.Prelude.{◌≡◌, ℕ, ◌/◌, ◌^◌, ◌<◌, ◌≤◌, Bool, true, false, ◌&&◌, ◌==◌, nat_le, IsTrue, if◌then◌else◌, List, [], ◌∷◌, ◌++◌, length, drop, codes, Ok, Err, IfSome, ok_or}
use Rattle.std.specs.Str.{bytes_eq}
use Rattle.hex.specs.Hex.{IsBytes}
use Rattle.tree_shape.specs.declared.algorithm.Algorithm.{Algorithm}
use Rattle.tree_shape.specs.Algorithms.{algorithm_named}
use Rattle.tree_shape.specs.Shape.{is_block_size}
use Rattle.dm_table.specs.declared.verity.CorruptionMode.{CorruptionMode}
use Rattle.dm_table.specs.declared.verity.CorruptionMode.TheVariants.{Fail, Panic, Restart}
use Rattle.dm_table.specs.declared.verity.Verity.{Verity}
use Rattle.dm_table.specs.declared.fault.TextKind.TheVariants as kinds
use Rattle.dm_table.specs.Words.{Word}
use Rattle.dm_table.specs.Numbers.{number, number_if}
use Rattle.dm_table.specs.Names.{is_device}
use Rattle.dm_table.specs.Reading.{Read, ◌>>=◌}
use Rattle.dm_table.specs.Arguments.{device_at, number_at, bytes_at}
use Rattle.dm_table.specs.Options.{is_one_of, options_at}
use Rattle.dm_table.specs.ValuedOptions.{valued_options}
use Rattle.dm_table.specs.Parity.{IsParityOfGrammar, parity_at, parity_words}
use Rattle.dm_table.specs.SignatureKey.{is_key_description, signature_key_at, signature_words}

-- version 1 of the hash format
abbrev pub version_at : Word → Read ℕ
version_at word = ok_or (number_if (λ n. n == 1) (number word)) kinds.Version

-- 512, 1024, 2048 or 4096 bytes
abbrev pub block_size_at : Word → Read ℕ
block_size_at word = ok_or (number_if is_block_size (number word)) kinds.BlockSize

abbrev pub algorithm_at : Word → Read Algorithm
algorithm_at word = ok_or (algorithm_named word) kinds.Algorithm

-- a root hash of 32 bytes
abbrev pub digest_at : Word → Read (List ℕ)
digest_at word = bytes_at 32 kinds.Digest word

-- `-` for no salt, or 1 to 256 bytes
unfoldable pub salt_at : Word → Read (List ℕ)
salt_at word =
    if bytes_eq word (codes "-") then Ok []
    else if nat_le 2 (length word) && nat_le (length word) 512 then bytes_at (length word / 2) kinds.Salt word
    else Err kinds.Salt

-- a data block whose digest is that of a block of zeros is returned as zeros without being read
abbrev pub ignore_zero_blocks : Word
ignore_zero_blocks = codes "ignore_zero_blocks"

-- words for the kernel alone: what it does after corruption, and where it verifies
abbrev pub restart_on_corruption : Word
restart_on_corruption = codes "restart_on_corruption"

abbrev pub panic_on_corruption : Word
panic_on_corruption = codes "panic_on_corruption"

abbrev pub try_verify_in_tasklet : Word
try_verify_in_tasklet = codes "try_verify_in_tasklet"

abbrev pub known_verity_options : List Word
known_verity_options = ignore_zero_blocks ∷ restart_on_corruption ∷ panic_on_corruption ∷ try_verify_in_tasklet ∷ valued_options

-- at most one of the words for corruption
abbrev pub corruption_at : List Word → Read CorruptionMode
corruption_at options =
    if is_one_of restart_on_corruption options
    then (if is_one_of panic_on_corruption options then Err kinds.Option else Ok Restart)
    else (if is_one_of panic_on_corruption options then Ok Panic else Ok Fail)

-- the option for a mode, if it has one
abbrev pub corruption_words : CorruptionMode → List Word
corruption_words Fail = []
corruption_words Restart = restart_on_corruption ∷ []
corruption_words Panic = panic_on_corruption ∷ []

-- the word if the flag is set
abbrev pub word_if : Bool → Word → List Word
word_if true word = word ∷ []
word_if false word = []

-- the options of a line with their values, in the order in which the kernel prints them
abbrev pub verity_options : Verity → List Word
verity_options verity = corruption_words verity.corruption ++ word_if verity.ignore_zero_blocks ignore_zero_blocks ++ word_if verity.in_tasklet try_verify_in_tasklet ++ parity_words verity.parity ++ signature_words verity.signature_key

-- `<version> <dev> <hash_dev> <data_block_size> <hash_block_size> <num_data_blocks> <hash_start_block> <algorithm> <digest> <salt> [<#opt_params> <opt_params>]`
unfoldable pub verity_at : List Word → Read Verity
verity_at (version ∷ dev ∷ hash_dev ∷ data_size ∷ hash_size ∷ count ∷ begin ∷ algorithm ∷ digest ∷ digits ∷ params) = do
  one ← version_at version
  below ← device_at dev
  hash ← device_at hash_dev
  data_block ← block_size_at data_size
  hash_block ← block_size_at hash_size
  blocks ← number_at count
  start ← number_at begin
  known ← algorithm_at algorithm
  root ← digest_at digest
  salt ← salt_at digits
  options ← options_at known_verity_options valued_options params
  corruption ← corruption_at options
  parity ← parity_at options (drop 1 params)
  key ← signature_key_at options (drop 1 params)
  Ok (record { «data» = below; hash = hash; data_block = data_block; hash_block = hash_block; blocks = blocks; start = start; root = root; salt = salt; ignore_zero_blocks = is_one_of ignore_zero_blocks options; corruption = corruption; in_tasklet = is_one_of try_verify_in_tasklet options; parity = parity; signature_key = key })
verity_at words = Err kinds.ArgCount

-- two device arguments
pub record AreVerityDevices (verity : Verity) : Type 0 where
  pub below : IsTrue (is_device verity.data)
  pub hash : IsTrue (is_device verity.hash)

-- valid block sizes, and the number of data blocks and the offset of the tree, in blocks
pub record AreVerityBlocks (verity : Verity) : Type 0 where
  pub data_block : IsTrue (is_block_size verity.data_block)
  pub hash_block : IsTrue (is_block_size verity.hash_block)
  pub blocks : verity.blocks < 2 ^ 64
  pub start : verity.start < 2 ^ 64

-- a root hash of 32 bytes, a salt of at most 256, and parity and a key description if the line has them
pub record IsVerityOfGrammar (verity : Verity) : Type 0 where
  pub devices : AreVerityDevices verity
  pub places : AreVerityBlocks verity
  pub root_size : length verity.root ≡ 32
  pub root_bytes : IsBytes verity.root
  pub salt_size : length verity.salt ≤ 256
  pub salt_bytes : IsBytes verity.salt
  pub parity : IfSome verity.parity IsParityOfGrammar
  pub signature_key : IfSome verity.signature_key (λ key. IsTrue (is_key_description key))
