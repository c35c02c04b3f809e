-- The options of a command line as texts, and what those that say what an image is say.
use Rattle.std.specs.Prelude.{ℕ, ◌≡◌, ◌==◌, nat_lt, Bool, List, [], length, map, codes, Option, Some, None, option_map, if◌then◌else◌}
use Rattle.std.specs.Borrow.{Bor}
use Rattle.std.specs.Str.{bytes_eq}
use Rattle.std.specs.Result.{result_ok}
use Rattle.hex.specs.Hex.{decode_of}
use Rattle.uuid.specs.Text.{parsed}
use Rattle.dm_table.specs.Numbers.{number, number_if}
use Rattle.command_line.specs.declared.option_words.OptionWords.{OptionWords}
use Rattle.command_line.specs.declared.image_options.ImageOptions.{ImageOptions}

-- 4,096 bytes unless a word says another number below 2^32
abbrev pub block_size_of : Option (List ℕ) → Option ℕ
block_size_of None = Some 4096
block_size_of (Some word) = number_if (λ n. nat_lt n 4294967296) (number word)

-- `-` for no bytes, or hexadecimal digits
abbrev pub salt_of : List ℕ → Option (List ℕ)
salt_of word =
    if bytes_eq word (codes "-") then Some []
    else if length word == 0 then None
    else result_ok (decode_of word)

-- the values of the options, and which options without a value were given
pub record OptionTexts : Type 0 where
  pub data_block : Option (List ℕ)
  pub hash_block : Option (List ℕ)
  pub blocks : Option (List ℕ)
  pub salt : Option (List ℕ)
  pub uuid : Option (List ℕ)
  pub cache : Option (List ℕ)
  pub first : Option (List ℕ)
  pub count : Option (List ℕ)
  pub hash_offset : Option (List ℕ)
  pub old_hash_offset : Option (List ℕ)
  pub root_hash_file : Option (List ℕ)
  pub name : Option (List ℕ)
  pub sector_size : Option (List ℕ)
  pub root : Option (List ℕ)
  pub map : Option (List ℕ)
  pub fec : Option (List ℕ)
  pub fec_roots : Option (List ℕ)
  pub pin : Option (List ℕ)
  pub old_pin : Option (List ℕ)
  pub old_root_hash_file : Option (List ℕ)
  pub runs : Option (List ℕ)
  pub retries : Option (List ℕ)
  -- of `--type`
  pub kind : Option (List ℕ)
  pub arch : Option (List ℕ)
  pub draw_from : Option (List ℕ)
  pub all : Bool
  pub stack : Bool
  pub no_superblock : Bool
  pub grow : Bool
  pub differing : Bool
  pub no_scrape : Bool
  pub no_index : Bool
  pub progress : Bool
  pub json : Bool
  pub check : Bool
  pub linux : Bool
  pub chart : Bool
  pub tree : Bool
  pub quiet : Bool
  pub writable : Bool
  -- of `--fec` without a value
  pub parity : Bool
  pub disk : Bool

-- what the program's own value says
abbrev pub text_of : Option (Bor (List ℕ)) → Option (List ℕ)
text_of word = option_map (λ w. w.now) word

abbrev pub texts_of : List (Bor (List ℕ)) → List (List ℕ)
texts_of words = map (λ w. w.now) words

abbrev pub option_texts : OptionWords → OptionTexts
option_texts words = record {
  data_block = text_of words.data_block;
  hash_block = text_of words.hash_block;
  blocks = text_of words.blocks;
  salt = text_of words.salt;
  uuid = text_of words.uuid;
  cache = text_of words.cache;
  first = text_of words.first;
  count = text_of words.count;
  hash_offset = text_of words.hash_offset;
  old_hash_offset = text_of words.old_hash_offset;
  root_hash_file = text_of words.root_hash_file;
  name = text_of words.name;
  sector_size = text_of words.sector_size;
  root = text_of words.root;
  map = text_of words.map;
  fec = text_of words.fec;
  fec_roots = text_of words.fec_roots;
  pin = text_of words.pin;
  old_pin = text_of words.old_pin;
  old_root_hash_file = text_of words.old_root_hash_file;
  runs = text_of words.runs;
  retries = text_of words.retries;
  kind = text_of words.kind;
  arch = text_of words.arch;
  draw_from = text_of words.draw_from;
  all = words.all;
  stack = words.stack;
  no_superblock = words.no_superblock;
  grow = words.grow;
  differing = words.differing;
  no_scrape = words.no_scrape;
  no_index = words.no_index;
  progress = words.progress;
  json = words.json;
  check = words.check;
  linux = words.linux;
  chart = words.chart;
  tree = words.tree;
  quiet = words.quiet;
  writable = words.writable;
  parity = words.parity;
  disk = words.disk;
}

-- each value is the one that its text says; if there is no text, it is 4,096 for a block size, and none for the others
pub record AreSaid (texts : OptionTexts) (options : ImageOptions) : Type 0 where
  pub data_block : block_size_of texts.data_block ≡ Some options.data_block
  pub hash_block : block_size_of texts.hash_block ≡ Some options.hash_block
  pub blocks : option_map number texts.blocks ≡ option_map Some options.blocks
  pub salt : option_map salt_of texts.salt ≡ option_map Some options.salt
  pub uuid : option_map parsed texts.uuid ≡ option_map Some options.uuid
