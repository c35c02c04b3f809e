-- Keys in a printed table.
use Rattle.std.specs.Prelude.{◌≡◌, Bool, true, false, List, length, map, replicate}
use Rattle.dm_table.specs.declared.crypt.Crypt.{Crypt}
use Rattle.dm_table.specs.declared.table.Line.{Line}
use Rattle.dm_table.specs.declared.table.Target.{Target}
use Rattle.dm_table.specs.declared.table.Target.TheVariants.{Crypt as crypt_target}

-- a line with its key replaced by zeros
abbrev pub crypt_without_key : Crypt → Crypt
crypt_without_key crypt = record crypt { key = replicate (length crypt.key) 0 }

abbrev pub target_without_key : Target → Target
target_without_key (crypt_target crypt) = crypt_target (crypt_without_key crypt)
target_without_key target = target

abbrev pub line_without_key : Line → Line
line_without_key line = record line { target = target_without_key line.target }

-- the lines that a printed table is read as
abbrev pub printed_lines : Bool → List Line → List Line
printed_lines true lines = lines
printed_lines false lines = map line_without_key lines

-- the line has no key, or a key of zeros
abbrev pub HasNoKey : Line → Type 0
HasNoKey line = line_without_key line ≡ line
