-- A block, and its spare where the block's own read ended in a fault.
use Rattle.std.specs.Prelude.{◌≡◌, ℕ, Bool, false, IsTrue, List, Option, None, Some, is_some, Result, Ok, Err}
use Rattle.dm_table.specs.declared.parity.Parity.{Parity}
use Rattle.dm_table.specs.declared.verity.Verity.{Verity}
use Rattle.stack_rules.specs.Records.{Configuration}
use Rattle.stack_lines.specs.Touches.{NamesOneOf}
use Rattle.stack_lines.specs.Walks.{HasVerity}
use Rattle.stack_meaning.specs.declared.fault.IoFault.{IoFault}
use Rattle.stack_meaning.specs.declared.fault.IoFault.TheVariants as io

-- no `verity` line has parity
abbrev pub HasNoParity : Configuration → Type 0
HasNoParity c = (d l : ℕ) (v : Verity) → HasVerity c d l v → v.parity ≡ None

-- the spare of a block of a line with that parity is read after the block's own read ended in that fault: in one of the lines or in a
-- device's, if there is parity
abbrev pub can_heal : Option Parity → IoFault → Bool
can_heal parity (io.Stack fault) = is_some parity
can_heal parity (io.Device i) = is_some parity
can_heal parity io.NoMemory = false

-- it is, or the fault stays
abbrev pub IsHealed : Option Parity → IoFault → Type 0
IsHealed parity fault = IsTrue (can_heal parity fault)

abbrev pub IsSettled : Option Parity → IoFault → Type 0
IsSettled parity fault = can_heal parity fault ≡ false

-- it is such a fault, and no other leaf's than one of these
pub record HealsFault (parity : Option Parity) (these : ℕ → Bool) (fault : IoFault) : Type 0 where
  pub heals : IsHealed parity fault
  pub named : NamesOneOf these fault

-- the fault of the block if that is a device's, else that of the device that failed as the spare was read
abbrev pub first_device : IoFault → ℕ → IoFault
first_device (io.Stack own) i = io.Device i
first_device (io.Device own) i = io.Device own
first_device io.NoMemory i = io.Device i

-- the fault of a block whose own read ended in the first fault, and that of its spare in the other one
abbrev pub unhealed : IoFault → IoFault → IoFault
unhealed own (io.Stack vain) = own
unhealed own (io.Device i) = first_device own i
unhealed own io.NoMemory = io.NoMemory

-- what is answered of a block whose read ended in that fault, after its spare
abbrev pub healed_result : {A : Type 0} → IoFault → Result A IoFault → Result A IoFault
healed_result fault (Ok x) = Ok x
healed_result fault (Err vain) = Err (unhealed fault vain)

-- ---- blocks that are read together

-- The read of a row ended in no fault; or in one that is healed, so each of its blocks is read alone; or in another one.
abbrev pub IsLost : Option Parity → Result (Option IoFault) IoFault → Type 0
IsLost parity (Ok None) = Unit {0}
IsLost parity (Ok (Some fault)) = IsHealed parity fault
IsLost parity (Err fault) = IsSettled parity fault

-- what the read of the row answered: these bytes, or the fault
abbrev pub row_answer : Result (Option IoFault) IoFault → List ℕ → Result (List ℕ) IoFault
row_answer (Ok None) bytes = Ok bytes
row_answer (Ok (Some fault)) bytes = Err fault
row_answer (Err fault) bytes = Err fault

-- how many blocks are scanned by reads of each alone: after a row that ended in a fault all that are scanned
abbrev pub alone_after : Option IoFault → ℕ → ℕ → ℕ
alone_after None read alone = alone
alone_after (Some fault) read alone = read
