-- What the words of a command line say, as clap cuts them into a command's name, its options and its positional words.
use Rattle.std.specs.Prelude.{◌≡◌, ◌-◌, ◌&&◌, ℕ, Bool, false, nat_lt, List, [], ◌∷◌, length, get_or, codes, Option, None, Some, Ok, Err, unwrap_or}
use Rattle.std.specs.Option.{option_map_or}
use Rattle.std.specs.Str.{bytes_eq}
use Rattle.clap.specs.Faults.{fault_of}
use Rattle.clap.specs.Kinds.{Kinds}
use Rattle.clap.specs.Simple.{subcommand_of}
use Rattle.clap.specs.Walk.{Row, Text, all_of, first_of}
use Rattle.command_line.specs.CommandWords.{invocation_of}
use Rattle.command_line.specs.FormatOptions.{OptionTexts, option_texts}
use Rattle.command_line.specs.ImageValues.{options_read}
use Rattle.command_line.specs.Invocations.{InvocationRecord, invocation_record}
use Rattle.command_line.specs.Misuses.{MisuseRecord, Reading, said_as, when}
use Rattle.command_parser.specs.declared.parser.CommandLine.{CommandLine}
use Rattle.command_parser.specs.Grammar.{grammar}
use Rattle.command_parser.specs.Unread.{unread, unread_argument}

-- an option without a value was given: clap's value of it is `true` then, and else `false`
abbrev pub is_there : Text → List Row → Bool
is_there name rows = option_map_or (λ word. bytes_eq word (codes "true")) (first_of name rows) false

-- the values under the names of the options
unfoldable pub texts_in : List Row → OptionTexts
texts_in rows = record {
  data_block = first_of (codes "data-block") rows;
  hash_block = first_of (codes "hash-block") rows;
  blocks = first_of (codes "blocks") rows;
  salt = first_of (codes "salt") rows;
  uuid = first_of (codes "uuid") rows;
  cache = first_of (codes "cache") rows;
  first = first_of (codes "first") rows;
  count = first_of (codes "count") rows;
  hash_offset = first_of (codes "hash-offset") rows;
  old_hash_offset = first_of (codes "old-hash-offset") rows;
  root_hash_file = first_of (codes "root-hash-file") rows;
  name = first_of (codes "name") rows;
  sector_size = first_of (codes "sector-size") rows;
  root = first_of (codes "root") rows;
  map = first_of (codes "map") rows;
  fec = first_of (codes "fec") rows;
  fec_roots = first_of (codes "fec-roots") rows;
  pin = first_of (codes "pin") rows;
  old_pin = first_of (codes "old-pin") rows;
  old_root_hash_file = first_of (codes "old-root-hash-file") rows;
  runs = first_of (codes "runs") rows;
  retries = first_of (codes "retries") rows;
  kind = first_of (codes "type") rows;
  arch = first_of (codes "arch") rows;
  draw_from = first_of (codes "draw-from") rows;
  all = is_there (codes "all") rows;
  stack = is_there (codes "stack") rows;
  no_superblock = is_there (codes "no-superblock") rows;
  grow = is_there (codes "grow") rows;
  differing = is_there (codes "differing") rows;
  no_scrape = is_there (codes "no-scrape") rows;
  no_index = is_there (codes "no-index") rows;
  progress = is_there (codes "progress") rows;
  json = is_there (codes "json") rows;
  check = is_there (codes "check") rows;
  linux = is_there (codes "linux") rows;
  chart = is_there (codes "chart") rows;
  tree = is_there (codes "tree") rows;
  quiet = is_there (codes "quiet") rows;
  writable = is_there (codes "writable") rows;
  parity = is_there (codes "fec") rows;
  disk = is_there (codes "disk") rows;
}

-- the positional words
abbrev pub positional_in : List Row → List Text
positional_in rows = unwrap_or (all_of (codes "words") rows) []

-- `--` is right before the last words, of which there are so many
unfoldable pub is_behind_dashes : List Text → ℕ → Bool
is_behind_dashes words behind = nat_lt behind (length words) && bytes_eq (get_or words (length words - behind - 1) []) (codes "--")

-- a command, and the values of its options
pub record LineRecord : Type 0 where
  pub invocation : InvocationRecord
  pub options : OptionTexts

abbrev pub line_with : OptionTexts → InvocationRecord → LineRecord
line_with options invocation = record { invocation = invocation; options = options }

-- by a command's name and what clap found in the words
abbrev pub said_by_rows : List Text → Text → List Row → Reading LineRecord
said_by_rows words name rows =
    said_as (line_with (texts_in rows)) (invocation_of name (texts_in rows) (positional_in rows) (is_behind_dashes words (length (positional_in rows))))

-- no argument is named if clap found no command
abbrev pub said_by_cut : List Text → Option (Text × List Row) → Reading LineRecord
said_by_cut words None = Err unread
said_by_cut words (Some cut) = said_by_rows words cut.0 cut.1

-- the argument that clap refuses, if its refusals have a kind
abbrev pub unless_refused : Kinds → List Text → Reading LineRecord → Reading LineRecord
unless_refused [] words said = said
unless_refused (kind ∷ kinds) words said = Err (unread_argument words)

-- what the words of a command line invoke, as clap cuts them into a command's name, its options and its positional words
unfoldable pub line_invoked : List Text → Reading LineRecord
line_invoked words = unless_refused (fault_of grammar words) words (said_by_cut words (subcommand_of grammar words))

-- the command, if each option that says what an image is says a value
abbrev pub with_values : LineRecord → Reading LineRecord
with_values line = when (options_read line.options) (λ read. Ok line)

-- the command that words invoke, or the misused argument: what clap refuses, else what keeps them from being a command, else an
-- option that says no value of an image
unfoldable pub line_said : List Text → Reading LineRecord
line_said words = when (line_invoked words) with_values

-- clap refuses the words
abbrev pub IsUnread : List Text → MisuseRecord → Type 0
IsUnread words misuse = (fault_of grammar words ≡ [] → ⊥) × (misuse ≡ unread_argument words)

-- what the program's own value says
abbrev pub line_record : CommandLine → LineRecord
line_record line = line_with (option_texts line.options) (invocation_record line.invocation)
