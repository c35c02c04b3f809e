-- The commands of a session's lines.
use Rattle.std.specs.Prelude.{ℕ, ◌≤◌, nat_le, List, [], ◌∷◌, length, drop, slice_index, codes, replicate, ◌*◌, Option, Some, None, option_map, if◌then◌else◌}
use Rattle.std.specs.List.{prefix_len, position_or_len}
use Rattle.std.specs.Option.{option_map_or}
use Rattle.std.specs.Result.{result_ok}
use Rattle.std.specs.Str.{bytes_eq}
use Rattle.hex.specs.Hex.{decode_sized}
use Rattle.dm_table.specs.Words.{Word, words, is_white}
use Rattle.dm_table.specs.Numbers.{number, number_if}
use Rattle.request_queue.specs.Requests.{RequestRecord, a_read, a_write}
use Rattle.stack_session.specs.declared.command.Command.{Command}
use Rattle.stack_session.specs.declared.command.Command.TheVariants.{Nothing, Load, Run, Submit, Step, Remove, Cost, Table, Moved, Usage}
use Rattle.stack_session.specs.declared.verb.Verb.{Verb}
use Rattle.stack_session.specs.declared.verb.Verb.TheVariants as verb
use Rattle.stack_session.specs.Accesses.{access_record, IsSmall}

pub data CommandRecord : Type 0 where
  -- the line has no words
  nothing : CommandRecord
  -- a stack text to load
  load : List ℕ → CommandRecord
  -- sectors to read or write at once
  run : RequestRecord → CommandRecord
  -- sectors to read or write step by step
  submit : RequestRecord → CommandRecord
  -- the ticket of the request whose next piece is to be served
  step : ℕ → CommandRecord
  -- the name of a device to remove
  remove : Word → CommandRecord
  -- print the size, the depth and the costs of the device of that name
  cost : Word → CommandRecord
  -- print the table of the device of that name
  table : Word → CommandRecord
  -- print how many sectors the backing devices have transferred
  moved : CommandRecord
  -- the line is no command
  usage : CommandRecord

-- the rest of a line after its first word
unfoldable pub after_word : List ℕ → List ℕ
after_word line =
    let rest = drop (prefix_len is_white line) line in
    drop (position_or_len is_white rest) rest

-- ---- sectors

-- a read, if both numbers are valid
abbrev pub read_where : Word → Option ℕ → Option ℕ → Option RequestRecord
read_where name (Some first) (Some count) = Some (a_read name first count)
read_where name (Some first) None = None
read_where name None count = None

-- `NAME FIRST COUNT`
abbrev pub session_read : List Word → Option RequestRecord
session_read (name ∷ first ∷ count ∷ []) = read_where name (number first) (number count)
session_read words = None

-- how many sectors a write may request: one more than the most is refused by the queue, and more are no command
abbrev pub write_count : Word → Option ℕ
write_count word = number_if (λ n. nat_le n 2049) (number word)

-- the byte of two hexadecimal digits
unfoldable pub hex_byte : Word → Option ℕ
hex_byte word = option_map (λ bytes. slice_index bytes 0) (result_ok (decode_sized word 1))

-- a write of so many sectors of that byte, if all numbers are valid
abbrev pub write_where : Word → Option ℕ → Option ℕ → Option ℕ → Option RequestRecord
write_where name (Some first) (Some count) (Some byte) = Some (a_write name first (replicate (512 * count) byte))
write_where name (Some first) (Some count) None = None
write_where name (Some first) None byte = None
write_where name None count byte = None

-- `NAME FIRST COUNT BB`
abbrev pub session_write : List Word → Option RequestRecord
session_write (name ∷ first ∷ count ∷ byte ∷ []) = write_where name (number first) (write_count count) (hex_byte byte)
session_write words = None

-- ---- commands

-- the word, if there is just one
abbrev pub only_word : List Word → Option Word
only_word (word ∷ []) = Some word
only_word words = None

-- a command with the value of its words, if they have one
abbrev pub command_with : {T : Type 0} → (T → CommandRecord) → Option T → CommandRecord
command_with command said = option_map_or command said usage

-- `T`
abbrev pub ticket_of : List Word → Option ℕ
ticket_of (word ∷ []) = number word
ticket_of words = None

-- no further word
abbrev pub lone_command : CommandRecord → List Word → CommandRecord
lone_command command [] = command
lone_command command words = usage

-- the command of that name
unfoldable pub verb_of : Word → Option Verb
verb_of word =
    if bytes_eq word (codes "load") then Some verb.Load
    else if bytes_eq word (codes "read") then Some verb.Read
    else if bytes_eq word (codes "write") then Some verb.Write
    else if bytes_eq word (codes "submit") then Some verb.Submit
    else if bytes_eq word (codes "step") then Some verb.Step
    else if bytes_eq word (codes "remove") then Some verb.Remove
    else if bytes_eq word (codes "cost") then Some verb.Cost
    else if bytes_eq word (codes "table") then Some verb.Table
    else if bytes_eq word (codes "moved") then Some verb.Moved
    else None

-- `read NAME FIRST COUNT` or `write NAME FIRST COUNT BB`
abbrev pub access_in : Option Verb → List Word → Option RequestRecord
access_in (Some verb.Read) words = session_read words
access_in (Some verb.Write) words = session_write words
access_in verb words = None

abbrev pub session_access : List Word → Option RequestRecord
session_access [] = None
session_access (word ∷ words) = access_in (verb_of word) words

-- `load TEXT`, in which the text is the rest of the line, `read NAME FIRST COUNT`, `write NAME FIRST COUNT BB`, `submit` and
-- one of these two, `step T`, `remove NAME`, `cost NAME`, `table NAME` or `moved`
abbrev pub verb_command : Option Verb → List ℕ → List Word → CommandRecord
verb_command (Some verb.Load) line words = load (after_word line)
verb_command (Some verb.Read) line words = command_with run (session_read words)
verb_command (Some verb.Write) line words = command_with run (session_write words)
verb_command (Some verb.Submit) line words = command_with submit (session_access words)
verb_command (Some verb.Step) line words = command_with step (ticket_of words)
verb_command (Some verb.Remove) line words = command_with remove (only_word words)
verb_command (Some verb.Cost) line words = command_with cost (only_word words)
verb_command (Some verb.Table) line words = command_with table (only_word words)
verb_command (Some verb.Moved) line words = lone_command moved words
verb_command None line words = usage

-- the command of a line, by its words
abbrev pub words_command : List ℕ → List Word → CommandRecord
words_command line [] = nothing
words_command line (verb ∷ words) = verb_command (verb_of verb) line words

unfoldable pub line_command : List ℕ → CommandRecord
line_command line = words_command line (words line)

-- the record of a program's command
abbrev pub command_record : Command → CommandRecord
command_record Nothing = nothing
command_record (Load text) = load text.now
command_record (Run access) = run (access_record access)
command_record (Submit access) = submit (access_record access)
command_record (Step ticket) = step ticket
command_record (Remove name) = remove name.now
command_record (Cost name) = cost name.now
command_record (Table name) = table name.now
command_record Moved = moved
command_record Usage = usage

-- a text to load has at most n bytes, and a write at most 2,049 sectors
abbrev pub IsWithinLimits : ℕ → Command → Type 0
IsWithinLimits n Nothing = Unit {0}
IsWithinLimits n (Load text) = length text.now ≤ n
IsWithinLimits n (Run access) = IsSmall access
IsWithinLimits n (Submit access) = IsSmall access
IsWithinLimits n (Step ticket) = Unit {0}
IsWithinLimits n (Remove name) = Unit {0}
IsWithinLimits n (Cost name) = Unit {0}
IsWithinLimits n (Table name) = Unit {0}
IsWithinLimits n Moved = Unit {0}
IsWithinLimits n Usage = Unit {0}
