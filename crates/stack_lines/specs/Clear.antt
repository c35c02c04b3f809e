-- Devices and lines whose sectors meet no fault.
use Rattle.std.specs.Prelude.{ℕ, Bool, true, false}
use Rattle.dm_table.specs.declared.table.Target.{Target}
use Rattle.dm_table.specs.declared.table.Target.TheVariants.{Error, Verity}
use Rattle.stack_rules.specs.declared.lower.Lower.{Lower}
use Rattle.stack_rules.specs.Records.{Configuration}
use Rattle.stack_meaning.specs.declared.fault.Fault.{Fault}
use Rattle.stack_meaning.specs.Meaning.{Said, line_said, said_at, said_by_name}

-- a sector meets no fault
abbrev pub MeetsNone : Said → Type 0
MeetsNone said = (fault : Fault) → said.meets fault → ⊥

-- no sector of a leaf or device meets one
abbrev pub IsClear : Configuration → Lower → Type 0
IsClear c lower = (s : ℕ) → MeetsNone (said_at c lower s)

-- no sector of a line of that target meets one, whichever line of which device it is
abbrev pub IsClearLine : Configuration → Target → Type 0
IsClearLine c target = (d l s : ℕ) → MeetsNone (line_said (said_by_name c) d l target s)

-- the sectors of a line of that target meet no faults but those that sectors beneath them meet
abbrev pub adds_no_fault : Target → Bool
adds_no_fault Error = false
adds_no_fault (Verity v) = false
adds_no_fault target = true
