-- The commands.
use Rattle.std.specs.Prelude.{ℕ, List, [], ◌∷◌, codes, find, Option}
use Rattle.std.specs.Str.{bytes_eq}
use Rattle.manual_pages.specs.declared.command.Command.{Command}
use Rattle.manual_pages.specs.declared.commands.TheConstants.{ASSEMBLE_USAGE, CAT_USAGE, COPY_USAGE, DIFF_USAGE, DUMP_USAGE, FIND_USAGE, FORMAT_USAGE, LOAD_USAGE, MANUAL_USAGE, NBD_USAGE, PARTITIONS_USAGE, READ_USAGE, REPAIR_USAGE, SCAN_USAGE, SESSION_USAGE, STORE_USAGE, TABLE_USAGE, UPDATE_USAGE, VERIFY_USAGE, VERSION_USAGE, WRITE_USAGE}

-- a command's name, and how it is called
pub record CommandRecord : Type 0 where
  pub name : List ℕ
  pub usage : List ℕ

abbrev pub command_text : List ℕ → List ℕ → CommandRecord
command_text name usage = record { name = name; usage = usage }

abbrev pub command_record : Command → CommandRecord
command_record command = command_text command.name.now command.usage.now

unfoldable pub commands : List CommandRecord
commands =
    command_text (codes "load") LOAD_USAGE.now ∷
    command_text (codes "read") READ_USAGE.now ∷
    command_text (codes "write") WRITE_USAGE.now ∷
    command_text (codes "session") SESSION_USAGE.now ∷
    command_text (codes "nbd") NBD_USAGE.now ∷
    command_text (codes "scan") SCAN_USAGE.now ∷
    command_text (codes "copy") COPY_USAGE.now ∷
    command_text (codes "cat") CAT_USAGE.now ∷
    command_text (codes "store") STORE_USAGE.now ∷
    command_text (codes "format") FORMAT_USAGE.now ∷
    command_text (codes "verify") VERIFY_USAGE.now ∷
    command_text (codes "dump") DUMP_USAGE.now ∷
    command_text (codes "table") TABLE_USAGE.now ∷
    command_text (codes "repair") REPAIR_USAGE.now ∷
    command_text (codes "update") UPDATE_USAGE.now ∷
    command_text (codes "partitions") PARTITIONS_USAGE.now ∷
    command_text (codes "assemble") ASSEMBLE_USAGE.now ∷
    command_text (codes "find") FIND_USAGE.now ∷
    command_text (codes "diff") DIFF_USAGE.now ∷
    command_text (codes "manual") MANUAL_USAGE.now ∷
    command_text (codes "version") VERSION_USAGE.now ∷ []

unfoldable pub command_in : List CommandRecord → List ℕ → Option CommandRecord
command_in commands name = find (λ command. bytes_eq command.name name) commands

-- the command of that name
abbrev pub command_of : List ℕ → Option CommandRecord
command_of name = command_in commands name
