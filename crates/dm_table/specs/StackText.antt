-- Stack texts, in the form of the kernel's parameter `dm-mod.create=`: their value, or their first fault in reading
-- order.
use Rattle.std.specs.Prelude.{ℕ, ◌+◌, ◌<◌, ◌≤◌, Bool, true, false, not, ◌||◌, ◌==◌, if◌then◌else◌, IsTrue, List, [], ◌∷◌, length, All, AllPairs, codes, is_some, Result, Ok, Err}
use Rattle.std.specs.List.{list_all}
use Rattle.std.specs.Str.{bytes_eq}
use Rattle.dm_table.specs.declared.table.Line.{Line}
use Rattle.dm_table.specs.declared.stack.Entry.{Entry}
use Rattle.dm_table.specs.declared.fault.TextFault.{TextFault}
use Rattle.dm_table.specs.declared.fault.TextKind.TheVariants as kinds
use Rattle.dm_table.specs.Words.{Word, is_white, is_text, words, trimmed_text, entries_of, fields_of}
use Rattle.dm_table.specs.Names.{is_mapped_name}
use Rattle.dm_table.specs.Reading.{Read, ◌>>=◌, at_place}
use Rattle.dm_table.specs.Numbers.{number}
use Rattle.dm_table.specs.Lines.{line_of}
use Rattle.dm_table.specs.Grammar.{IsTableOfGrammar}

-- the name of a mapped device
abbrev pub name_at : Word → Read Word
name_at name = if is_mapped_name name then Ok name else Err kinds.Name

-- an optional minor number: empty or a number
abbrev pub is_minor : Word → Bool
is_minor word = (length word == 0) || is_some (number word)

abbrev pub minor_at : Word → Read Word
minor_at minor = if is_minor minor then Ok minor else Err kinds.Number

-- `rw` for a writable device, `ro` for a read-only one
abbrev pub flags_at : Word → Read Bool
flags_at word = if bytes_eq word (codes "ro") then Ok false else if bytes_eq word (codes "rw") then Ok true else Err kinds.Flags

-- the lines of entry e, numbered from n on
abbrev pub entry_lines : ℕ → ℕ → List (List ℕ) → Result (List Line) TextFault
entry_lines e n [] = Ok []
entry_lines e n (field ∷ more) = do
  line ← at_place e n (line_of (words field))
  lines ← entry_lines e (n + 1) more
  Ok (line ∷ lines)

-- the fields of an entry before its lines, and the text of its lines
pub record Head : Type 0 where
  pub name : Word
  pub writable : Bool
  pub lines : List (List ℕ)

-- `<name>,<uuid>,<minor>,<flags>,<table>[,<table>+]`: the uuid may be any text
unfoldable pub head_of : List (List ℕ) → Read Head
head_of (name ∷ uuid ∷ minor ∷ flags ∷ line ∷ lines) = do
  word ← name_at (trimmed_text name)
  digits ← minor_at (trimmed_text minor)
  writable ← flags_at (trimmed_text flags)
  Ok (record { name = word; writable = writable; lines = line ∷ lines })
head_of fields = Err kinds.Fields

-- entry e; a fault before its lines has line number 0
unfoldable pub entry_of : ℕ → List (List ℕ) → Result Entry TextFault
entry_of e fields = do
  head ← at_place e 0 (head_of fields)
  table ← entry_lines e 1 head.lines
  Ok (record { number = e; name = head.name; writable = head.writable; table = table })

-- the entries that aren't blank; all are numbered, from e on
abbrev pub entries_from : ℕ → List (List ℕ) → Result (List Entry) TextFault
entries_from e [] = Ok []
entries_from e (text ∷ more) =
    if list_all is_white text then entries_from (e + 1) more
    else do
      entry ← entry_of e (fields_of text)
      entries ← entries_from (e + 1) more
      Ok (entry ∷ entries)

-- the value of a stack text
unfoldable pub stack_of : List ℕ → Result (List Entry) TextFault
stack_of text = if not (is_text text) then at_place 0 0 (Err kinds.NotText) else entries_from 1 (entries_of text)

-- a stack of a single entry with this name
abbrev pub single_of : Word → Bool → List Line → Result (List Entry) TextFault
single_of name writable table = do
  word ← at_place 1 0 (name_at name)
  Ok (record { number = 1; name = word; writable = writable; table = table } ∷ [])

-- an entry has a number from 1 on, and the name of a mapped device
pub record IsEntryOfGrammar (entry : Entry) : Type 0 where
  pub number : 1 ≤ entry.number
  pub name : IsTrue (is_mapped_name entry.name)
  pub table : IsTableOfGrammar entry.table

-- the entries' numbers increase
pub record IsStackOfGrammar (entries : List Entry) : Type 0 where
  pub each : All IsEntryOfGrammar entries
  pub rise : AllPairs (λ before after. before.number < after.number) entries
