-- The effects of a pass over a mapped device in large pieces.
use Rattle.std.specs.Prelude.{◌≡◌, ◌⊎◌, ℕ, Bool, false, IsTrue, List, ◌++◌, length, Option, Ok}
use Rattle.allocation.specs.Refusal.{IsOutOfMemory}
use Rattle.block_device.specs.Call.{Call, Calls}
use Rattle.block_device.specs.Device.{Device, HasFailed, IsSameDevice, IsWritten}
use Rattle.stack_rules.specs.Names.{mapped, size}
use Rattle.stack_engine.specs.Bytes.{EachBytes}
use Rattle.stack_engine.specs.Stacks.{StackRecord}
use Rattle.rescue_map.specs.declared.map.Run.{Run}
use Rattle.rescue_map.specs.Maps.{losts, marks}
use Rattle.stack_recovery.specs.declared.deadline.Deadline.{Deadline}
use Rattle.stack_recovery.specs.declared.deadline.FirstPass.{FirstPass}
use Rattle.stack_recovery.specs.declared.fault.RecoveryFault.{RecoveryFault}
use Rattle.stack_recovery.specs.declared.fault.RecoveryFault.TheVariants.{NoMemory, Output}
use Rattle.stack_recovery.specs.declared.skimming.Skimmed.{Skimmed}
use Rattle.stack_recovery.specs.Deadlines.{EndsAt}
use Rattle.stack_recovery.specs.declared.way.Way.TheVariants.{Forward}
use Rattle.stack_recovery.specs.Handing.{IsLastCall}
use Rattle.stack_recovery.specs.PassPieces.{pass_over}
use Rattle.stack_recovery.specs.Recoveries.{FindsNoMemory, Sides}
use Rattle.stack_recovery.specs.Skims.{AreSkims, IsSkimOver, Skim, skim_calls, skim_failed, skim_image, skim_marks, skip_from}

-- a stack, and the output device that its sectors are copied to
pub record Transfer (O : Type 0) : Type 0 where
  pub stack : StackRecord
  pub out : O

abbrev pub transfer : {O : Type 0} → StackRecord → O → Transfer O
transfer stack out = record { stack = stack; out = out }

-- without the reported lines
abbrev pub transfer_of : Sides → Transfer Device
transfer_of s = transfer s.stack s.out

-- the output device's state, as a proof sees it
abbrev pub seen_transfer : {O : Type 0} → (O → Device) → Transfer O → Transfer Device
seen_transfer state t = transfer t.stack (state t.out)

abbrev pub skimmed : List Run → ℕ → Skimmed
skimmed map skip = record { map = map; skip = skip }

-- a device that the pieces were copied to; if it is steady, its image is known
pub record IsSkimCopied (skims : List Skim) (old new : Device) : Type 0 where
  pub same : IsSameDevice old new
  pub image : IsTrue old.steady → new.image ≡ skim_image 0 skims old.image

-- how many sectors are skipped at most, and how many after the first failed read
pub record Skipping : Type 0 where
  pub most : ℕ
  pub wanted : ℕ

abbrev pub skipping : ℕ → ℕ → Skipping
skipping most wanted = record { most = most; wanted = wanted }

abbrev pub skipping_of : FirstPass → Skipping
skipping_of pass = skipping pass.most pass.skip

-- Such a pass over the sectors of device d before `end`, in whose map the sectors are marked that were read, now or before, and
-- those of failed pieces are bad. The sectors that were read now were copied. After the next failed read the sectors of the result are skipped.
pub record SkimsTo (skipping : Skipping) (before : List Bool) (d end : ℕ) (old : Transfer Device) (made : Skimmed) (new : Transfer Device) : Type 0 where
  pub skims : List Skim
  pub survey : IsSkimOver before d 0 old.stack skims new.stack
  pub whole : length (skim_marks skims) ≡ end
  pub pieces : AreSkims skipping.most (pass_over old.stack.config d before) 0 skipping.wanted skims
  pub next : made.skip ≡ skip_from skipping.most skipping.wanted skims
  pub copied : IsSkimCopied skims old.out new.out
  pub unfailed : new.out.failures ≡ old.out.failures
  pub noted : marks made.map ≡ skim_marks skims
  pub failed : losts made.map ≡ skim_failed skims

-- the pass over the sectors of its map, which ended there
pub record SkimsUntil (deadline : Option Deadline) (skipping : Skipping) (before : List Bool) (d : ℕ) (old : Transfer Device) (made : Skimmed) (new : Transfer Device) : Type 0 where
  pub reads : SkimsTo skipping before d (length (marks made.map)) old made new
  pub ends : EndsAt deadline Forward (length (marks made.map)) (size old.stack.config (mapped d))

-- the first pieces of the pass were read
pub record IsSkimBegun (skipping : Skipping) (before : List Bool) (d : ℕ) (old : StackRecord) : Type 0 where
  pub skims : List Skim
  pub left : StackRecord
  pub survey : IsSkimOver before d 0 old skims left
  pub pieces : AreSkims skipping.most (pass_over old.config d before) 0 skipping.wanted skims

-- Memory ran out for a read or for the map. The sectors read so far are copied, and the output device didn't fail.
pub record SkimsShort (skipping : Skipping) (before : List Bool) (d : ℕ) (old new : Transfer Device) : Type 0 where
  pub begun : IsSkimBegun skipping before d old.stack
  pub copied : IsSkimCopied begun.skims old.out new.out
  pub unfailed : new.out.failures ≡ old.out.failures
  pub refused : FindsNoMemory d (length (skim_marks begun.skims)) begun.left new.stack ⊎ IsOutOfMemory 1

-- A write of the output device failed. The sectors read before are copied. Of a steady device no sector differs from that but
-- those of the piece that was being written.
pub record FailsSkimOutput (skipping : Skipping) (before : List Bool) (d : ℕ) (old new : Transfer Device) : Type 0 where
  pub begun : IsSkimBegun skipping before d old.stack
  pub out : Device
  pub n : ℕ
  pub bytes : List ℕ
  pub read : EachBytes begun.left d (length (skim_marks begun.skims)) n (Ok bytes) new.stack
  pub copied : IsSkimCopied begun.skims old.out out
  pub writing : IsWritten out (length (skim_marks begun.skims)) n false new.out
  pub failed : HasFailed old.out new.out
  pub sure : IsTrue old.out.never_fails → ⊥

-- why the pass ended early
abbrev pub EndsSkim : Skipping → List Bool → ℕ → Transfer Device → Transfer Device → RecoveryFault → Type 0
EndsSkim skipping before d old new NoMemory = SkimsShort skipping before d old new
EndsSkim skipping before d old new Output = FailsSkimOutput skipping before d old new

-- ---- the calls on the output device

-- the calls of a pass over the sectors before `end`, after which these sectors are marked as read
pub record HandsSkimsTo {O : Type 0} (Did : O → Call → O → Type 0) (before : List Bool) (d end : ℕ) (old : Transfer O) (after : List Bool) (new : Transfer O) : Type 0 where
  pub skims : List Skim
  pub survey : IsSkimOver before d 0 old.stack skims new.stack
  pub whole : length (skim_marks skims) ≡ end
  pub noted : after ≡ skim_marks skims
  pub made : Calls Did old.out (skim_calls 0 skims) new.out

-- those of a pass that made this map
abbrev pub HandsSkimsUntil : {O : Type 0} → (O → Call → O → Type 0) → List Bool → ℕ → Transfer O → Transfer O → Skimmed → Type 0
HandsSkimsUntil Did before d old new made = HandsSkimsTo Did before d (length (marks made.map)) old (marks made.map) new

-- the pass ended early; a write that failed is the last call
pub record HandsSkimsPart {O : Type 0} (Did : O → Call → O → Type 0) (before : List Bool) (d : ℕ) (old new : Transfer O) (fault : RecoveryFault) : Type 0 where
  pub skims : List Skim
  pub left : StackRecord
  pub last : List Call
  pub survey : IsSkimOver before d 0 old.stack skims left
  pub made : Calls Did old.out (skim_calls 0 skims ++ last) new.out
  pub ends : IsLastCall d (length (skim_marks skims)) left new.stack fault last

-- ---- in terms of the arguments of a call

abbrev pub SkimsBy : {O : Type 0} → (O → Device) → FirstPass → List Bool → Transfer O → Transfer O → Skimmed → Type 0
SkimsBy state pass before old new made = SkimsUntil pass.deadline (skipping_of pass) before pass.device.0 (seen_transfer state old) made (seen_transfer state new)

abbrev pub EndsSkimBy : {O : Type 0} → (O → Device) → FirstPass → List Bool → Transfer O → Transfer O → RecoveryFault → Type 0
EndsSkimBy state pass before old new fault = EndsSkim (skipping_of pass) before pass.device.0 (seen_transfer state old) (seen_transfer state new) fault
