-- A piece before sectors that were read backwards.
use Rattle.std.specs.Prelude.{◌≡◌, ℕ, ◌+◌, ◌-◌, ◌<◌, ◌≤◌, true, false, IsTrue, List, Ok, Err}
use Rattle.block_device.specs.Call.{Call, Write}
use Rattle.block_device.specs.Device.{Device, HasFailed, IsWritten, sectors_of, spliced}
use Rattle.stack_meaning.specs.declared.fault.IoFault.{IoFault}
use Rattle.stack_engine.specs.Bytes.{EachBytes}
use Rattle.stack_engine.specs.Pieces.{PieceGives}
use Rattle.stack_engine.specs.Stacks.{StackRecord}
use Rattle.stack_recovery.specs.declared.fault.RecoveryFault.{RecoveryFault}
use Rattle.stack_recovery.specs.declared.fault.RecoveryFault.TheVariants.{NoMemory, Output}
use Rattle.stack_recovery.specs.declared.trimming.Behind.{Behind}
use Rattle.stack_recovery.specs.declared.trimming.Behind.TheVariants.{Copied, Lost}
use Rattle.stack_recovery.specs.declared.trimming.LostEnd.{LostEnd}
use Rattle.stack_recovery.specs.Recoveries.{FindsNoMemory}
use Rattle.stack_recovery.specs.Alike.{AreAlike}
use Rattle.stack_recovery.specs.Surveys.{MayLose}

-- The sectors of device d from sector `first` on and before `low`, which are lost together, were read, and written to the same offset of the
-- output device by one call. They aren't before sector `at`.
pub record CopiesBehind {D O : Type 0} (state : D → Device) (does : D → Call → D → Type 0) (seen : O → Device) (Did : O → Call → O → Type 0) (d at low : ℕ) (w : StackRecord) (o : O) (w' : StackRecord) (o' : O) (first : ℕ) : Type 0 where
  pub bytes : List ℕ
  pub after : at ≤ first
  pub some : first < low
  pub alike : AreAlike w.config d first (low - first)
  pub answered : EachBytes w d first (low - first) (Ok bytes) w'
  pub given : PieceGives state does w (d, first) (low - first) (Ok bytes) w'
  pub written : IsWritten (seen o) first (low - first) true (seen o')
  pub image : IsTrue (seen o).steady → (seen o').image ≡ spliced (seen o).image first (sectors_of (low - first) bytes)
  pub unfailed : (seen o').failures ≡ (seen o).failures
  pub did : Did o (Write first bytes true) o'

-- the sectors before `low` that are lost together, by this fault, and the number of those before them from sector `at` on
pub record IsLostEnd {D : Type 0} (state : D → Device) (does : D → Call → D → Type 0) (d at low : ℕ) (w w' : StackRecord) (last : LostEnd) : Type 0 where
  pub some : 1 ≤ last.count
  pub ends : at + (last.before + last.count) ≡ low
  pub may : MayLose w.config d (at + last.before) last.count last.fault
  pub answered : EachBytes w d (at + last.before) last.count (Err last.fault) w'
  pub given : PieceGives state does w (d, at + last.before) last.count (Err last.fault) w'

abbrev pub ReadsBehind : {D O : Type 0} → (D → Device) → (D → Call → D → Type 0) → (O → Device) → (O → Call → O → Type 0) → ℕ → ℕ → ℕ → StackRecord → O → StackRecord → O → Behind → Type 0
ReadsBehind state does seen Did d at low w o w' o' (Copied first) = CopiesBehind state does seen Did d at low w o w' o' first
ReadsBehind state does seen Did d at low w o w' o' (Lost last) = IsLostEnd state does d at low w w' last × (o' ≡ o)

-- the read ran out of memory
pub record RunsOutBehind {D : Type 0} (state : D → Device) (does : D → Call → D → Type 0) (d at : ℕ) (w w' : StackRecord) : Type 0 where
  pub read : FindsNoMemory d at w w'
  pub behind : ℕ
  pub count : ℕ
  pub fault : IoFault
  pub given : PieceGives state does w (d, at + behind) count (Err fault) w'

-- the write failed
pub record FailsBehind {D O : Type 0} (state : D → Device) (does : D → Call → D → Type 0) (seen : O → Device) (Did : O → Call → O → Type 0) (d at low : ℕ) (w : StackRecord) (o : O) (w' : StackRecord) (o' : O) : Type 0 where
  pub behind : ℕ
  pub count : ℕ
  pub bytes : List ℕ
  pub ends : at + behind + count ≡ low
  pub answered : EachBytes w d (at + behind) count (Ok bytes) w'
  pub given : PieceGives state does w (d, at + behind) count (Ok bytes) w'
  pub written : IsWritten (seen o) (at + behind) count false (seen o')
  pub failed : HasFailed (seen o) (seen o')
  pub sure : IsTrue (seen o).never_fails → ⊥
  pub did : Did o (Write (at + behind) bytes false) o'

abbrev pub StopsBehind : {D O : Type 0} → (D → Device) → (D → Call → D → Type 0) → (O → Device) → (O → Call → O → Type 0) → ℕ → ℕ → ℕ → StackRecord → O → StackRecord → O → RecoveryFault → Type 0
StopsBehind state does seen Did d at low w o w' o' NoMemory = RunsOutBehind state does d at w w' × (o' ≡ o)
StopsBehind state does seen Did d at low w o w' o' Output = FailsBehind state does seen Did d at low w o w' o'
