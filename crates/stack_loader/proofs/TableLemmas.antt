-- The rules on the lines of one device.
use Rattle.std.specs.Prelude.{ℕ, ◌-◌, Bool, List, Option, take}
use Rattle.dm_table.specs.declared.table.Line.{Line}
use Rattle.stack_rules.specs.declared.refusal.Refusal.{Refusal}
use Rattle.stack_rules.specs.Records.{Configuration}
use Rattle.stack_rules.specs.Names.{table_sectors}
use Rattle.stack_rules.specs.Rules.{line_rules}

-- the rules of line l of the lines of device d
abbrev pub line_of_table : Configuration → Bool → List Line → ℕ → ℕ → Line → List (Option Refusal)
line_of_table c writable lines d l line = line_rules c writable d l (table_sectors (take (l - 1) lines)) line
