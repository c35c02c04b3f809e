-- The commands, and the options that may precede their positional words.
use Rattle.std.specs.Prelude.{ℕ, Bool, true, false, List, [], ◌∷◌, codes}

-- an option: its name, other names of it, and whether it takes a value
pub record OptionText : Type 0 where
  pub name : List ℕ
  pub others : List (List ℕ)
  pub has_value : Bool

-- a command: its name, and its options
pub record CommandText : Type 0 where
  pub name : List ℕ
  pub options : List OptionText

abbrev pub value_option : List ℕ → OptionText
value_option name = record { name = name; others = []; has_value = true }

abbrev pub flag : List ℕ → OptionText
flag name = record { name = name; others = []; has_value = false }

-- beside the name that veritysetup has for it
abbrev pub value_or : List ℕ → List ℕ → OptionText
value_or name other = record { name = name; others = other ∷ []; has_value = true }

abbrev pub cache : OptionText
cache = value_option (codes "cache")

abbrev pub progress : OptionText
progress = flag (codes "progress")

abbrev pub json : OptionText
json = flag (codes "json")

abbrev pub chart : OptionText
chart = flag (codes "chart")

-- no stack: a disk is read
abbrev pub disk : OptionText
disk = flag (codes "disk")

abbrev pub offset : OptionText
offset = value_option (codes "hash-offset")

abbrev pub root_file : OptionText
root_file = value_option (codes "root-hash-file")

-- the file of a pin, or the root hash of the pin that is printed
abbrev pub pin : OptionText
pin = value_option (codes "pin")

-- the files of the root hashes of two trees
abbrev pub root_options : List OptionText → List OptionText
root_options more = value_option (codes "old-root-hash-file") ∷ root_file ∷ value_option (codes "old-pin") ∷ pin ∷ more

-- parity: its file or, of `table`, its device, and how many bytes of it a codeword has
abbrev pub fec_options : List OptionText → List OptionText
fec_options more = value_or (codes "fec") (codes "fec-device") ∷ value_option (codes "fec-roots") ∷ more

abbrev pub bare_option : OptionText
bare_option = flag (codes "no-superblock")

-- what the tree of a verity image is
abbrev pub tree_options : List OptionText → List OptionText
tree_options more =
    value_or (codes "data-block") (codes "data-block-size") ∷ value_or (codes "hash-block") (codes "hash-block-size")
    ∷ value_or (codes "blocks") (codes "data-blocks") ∷ value_option (codes "salt") ∷ more

-- every command has it
abbrev pub quiet : OptionText
quiet = flag (codes "quiet")

abbrev pub command : List ℕ → List OptionText → CommandText
command name options = record { name = name; options = quiet ∷ options }

-- the commands on images
abbrev pub image_commands : List CommandText → List CommandText
image_commands more =
    command (codes "format") (tree_options (value_option (codes "uuid") ∷ offset ∷ root_file ∷ bare_option ∷ flag (codes "grow") ∷ progress ∷ fec_options (pin ∷ [])))
    ∷ command (codes "verify") (tree_options (offset ∷ root_file ∷ bare_option ∷ flag (codes "all") ∷ json ∷ chart ∷ progress ∷ fec_options (pin ∷ [])))
    ∷ command (codes "dump") (offset ∷ json ∷ pin ∷ [])
    ∷ command (codes "table") (tree_options (offset ∷ root_file ∷ value_option (codes "name") ∷ bare_option ∷ fec_options (pin ∷ [])))
    ∷ command (codes "repair") (tree_options (offset ∷ root_file ∷ bare_option ∷ flag (codes "check") ∷ fec_options (pin ∷ [])))
    ∷ command (codes "update") (json ∷ flag (codes "no-index") ∷ progress ∷ pin ∷ [])
    ∷ command (codes "find") (json ∷ [])
    ∷ command (codes "assemble") (value_option (codes "type") ∷ value_option (codes "arch") ∷ flag (codes "fec") ∷ value_option (codes "sector-size") ∷ value_option (codes "draw-from") ∷ progress ∷ pin ∷ [])
    ∷ more

-- the commands on stacks
abbrev pub stack_commands : List CommandText → List CommandText
stack_commands more =
    command (codes "load") (json ∷ flag (codes "tree") ∷ flag (codes "linux") ∷ [])
    ∷ command (codes "read") (cache ∷ [])
    ∷ command (codes "write") (cache ∷ [])
    ∷ command (codes "session") (cache ∷ [])
    ∷ command (codes "nbd") (cache ∷ flag (codes "all") ∷ [])
    ∷ command (codes "scan") (cache ∷ value_option (codes "map") ∷ value_option (codes "retries") ∷ flag (codes "no-scrape") ∷ progress ∷ json ∷ chart ∷ disk ∷ [])
    ∷ command (codes "copy") (cache ∷ flag (codes "differing") ∷ value_option (codes "map") ∷ value_option (codes "retries") ∷ flag (codes "no-scrape") ∷ progress ∷ disk ∷ flag (codes "grow") ∷ [])
    ∷ command (codes "cat") (cache ∷ value_option (codes "first") ∷ value_option (codes "count") ∷ progress ∷ [])
    ∷ command (codes "store") (cache ∷ value_option (codes "first") ∷ progress ∷ [])
    ∷ more

-- all commands
unfoldable pub commands : List CommandText
commands =
    image_commands (stack_commands
    (command (codes "partitions") (value_option (codes "sector-size") ∷ flag (codes "stack") ∷ value_option (codes "root") ∷ json ∷ pin ∷ flag (codes "writable") ∷ fec_options [])
    ∷ command (codes "diff") (tree_options (bare_option ∷ flag (codes "all") ∷ value_option (codes "runs") ∷ json ∷ value_option (codes "old-hash-offset") ∷ offset ∷ root_options []))
    ∷ command (codes "manual") [] ∷ command (codes "version") [] ∷ []))
