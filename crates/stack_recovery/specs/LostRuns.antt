-- Runs of sectors that are lost by one fault, and how many sectors are lost or unscraped.
use Rattle.std.specs.Prelude.{ℕ, ◌+◌, ◌==◌, Bool, true, false, List, [], ◌∷◌, Some, None}
use Rattle.stack_meaning.specs.declared.fault.IoFault.{IoFault}
use Rattle.stack_meaning.specs.declared.fault.Fault.TheVariants.{ErrorTarget, Mismatch}
use Rattle.stack_meaning.specs.declared.fault.IoFault.TheVariants.{Stack, Device, NoMemory}
use Rattle.runs.specs.declared.run.Run.{Run}
use Rattle.stack_recovery.specs.declared.lost_run.Loss.{Loss}
use Rattle.stack_recovery.specs.declared.lost_run.Loss.TheVariants.{Lost, Unscraped}
use Rattle.stack_recovery.specs.Surveys.{SectorState}

abbrev pub LostRun : Type 0
LostRun = Run Loss

abbrev pub is_same_fault : IoFault → IoFault → Bool
is_same_fault (Stack ErrorTarget) (Stack ErrorTarget) = true
is_same_fault (Stack Mismatch) (Stack Mismatch) = true
is_same_fault (Device i) (Device j) = i == j
is_same_fault NoMemory NoMemory = true
is_same_fault a b = false

abbrev pub is_same_loss : Loss → Loss → Bool
is_same_loss (Lost a) (Lost b) = is_same_fault a b
is_same_loss (Unscraped a) (Unscraped b) = is_same_fault a b
is_same_loss a b = false

-- how many of so many sectors are lost, and how many are unscraped, if that is their loss
abbrev pub lost_count : Loss → ℕ → ℕ
lost_count (Lost fault) count = count
lost_count (Unscraped fault) count = 0

abbrev pub untried_count : Loss → ℕ → ℕ
untried_count (Lost fault) count = 0
untried_count (Unscraped fault) count = count

-- how many of the sectors are lost, and how many are unscraped
abbrev pub lost_in : List SectorState → ℕ
lost_in [] = 0
lost_in (None ∷ more) = lost_in more
lost_in (Some loss ∷ more) = lost_count loss 1 + lost_in more

abbrev pub untried_in : List SectorState → ℕ
untried_in [] = 0
untried_in (None ∷ more) = untried_in more
untried_in (Some loss ∷ more) = untried_count loss 1 + untried_in more
