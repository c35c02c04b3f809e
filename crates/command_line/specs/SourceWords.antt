-- What a command reads: a device of a stack, or a disk without one.
use Rattle.std.specs.Prelude.{ℕ, Bool, List, codes, Ok, if◌then◌else◌}
use Rattle.std.specs.Borrow.{Bor}
use Rattle.command_line.specs.FormatOptions.{texts_of}
use Rattle.command_line.specs.Misuses.{Reading, when}
use Rattle.command_line.specs.Positional.{no_more, positional}
use Rattle.command_line.specs.declared.source_words.SourceWords.{SourceWords}
use Rattle.command_line.specs.declared.source_words.SourceWords.TheVariants.{Disk, Stack}

pub data SourceRecord : Type 0 where
  -- the path of a stack file, and the name of one of its devices
  on_stack : List ℕ → List ℕ → SourceRecord
  -- a file, a device or a part of one
  on_disk : List ℕ → SourceRecord

-- DISK, and the arguments after it
unfoldable pub disk_first : List (List ℕ) → Reading (SourceRecord × List (List ℕ))
disk_first words = when (positional (codes "DISK") words) (λ place. Ok (on_disk place.0, place.1))

-- STACK and NAME, and the arguments after them
unfoldable pub stack_first : List (List ℕ) → Reading (SourceRecord × List (List ℕ))
stack_first words =
    when (positional (codes "STACK") words) (λ stack. when (positional (codes "NAME") stack.1) (λ name. Ok (on_stack stack.0 name.0, name.1)))

-- one of the two, with `--disk` or without it
unfoldable pub source_first : Bool → List (List ℕ) → Reading (SourceRecord × List (List ℕ))
source_first disk words = if disk then disk_first words else stack_first words

-- a disk has no bindings
unfoldable pub no_binding : Bool → List (List ℕ) → Reading (Unit {0})
no_binding disk words = if disk then no_more words else Ok tt

-- what the program's own values say
abbrev pub source_record : SourceWords → SourceRecord
source_record (Stack stack name) = on_stack stack.now name.now
source_record (Disk place) = on_disk place.now

abbrev pub first_source : SourceWords × Bor (List (Bor (List ℕ))) → SourceRecord × List (List ℕ)
first_source found = (source_record found.0, texts_of found.1.now)
