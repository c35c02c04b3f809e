-- Results of reading a text.
use Rattle.std.specs.Prelude.{◌≡◌, ℕ, Result, Ok, Err}
use Rattle.allocation.specs.Refusal.{IsOutOfMemory}
use Rattle.dm_table.specs.declared.fault.ParseFault.{ParseFault}
use Rattle.dm_table.specs.declared.fault.ParseFault.TheVariants as parse
use Rattle.dm_table.specs.declared.fault.TextFault.{TextFault}
use Rattle.dm_table.specs.declared.fault.TextKind.{TextKind}
use Rattle.dm_table.specs.Names.{most_name}

-- the value of a part of a line, or the kind of its first fault
abbrev pub Read : Type 0 → Type 0
Read A = Result A TextKind

infixl 10 ◌>>=◌
abbrev pub ◌>>=◌ : {A B E : Type 0} → Result A E → (A → Result B E) → Result B E
Ok x >>= f = f x
Err e >>= f = Err e

-- a fault gets the numbers of its entry and line
abbrev pub at_place : {A : Type 0} → ℕ → ℕ → Read A → Result A TextFault
at_place entry line (Ok x) = Ok x
at_place entry line (Err kind) = Err (record { entry = entry; line = line; kind = kind })

-- the result is the grammar's answer for the text, unless an allocation failed that asked for at most `most_name`
-- elements
abbrev pub IsAnswer : {A : Type 0} → Result A ParseFault → Result A TextFault → Type 0
IsAnswer (Ok value) answer = answer ≡ Ok value
IsAnswer (Err (parse.Text fault)) answer = answer ≡ Err fault
IsAnswer (Err parse.NoMemory) answer = IsOutOfMemory most_name
