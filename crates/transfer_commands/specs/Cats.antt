-- Sectors of a mapped device that are written to a writer.
use Rattle.std.specs.Prelude.{◌≡◌, ◌≢◌, ℕ, ◌+◌, ◌<◌, ◌≤◌, Bool, true, List, Option, Ok, Err}
use Rattle.std.specs.Io.KnownBytes.{Appends}
use Rattle.program_io.specs.Counted.{CountedRecord}
use Rattle.stack_rules.specs.Names.{mapped, size}
use Rattle.stack_meaning.specs.declared.fault.IoFault.{IoFault}
use Rattle.stack_meaning.specs.declared.fault.IoFault.TheVariants as io
use Rattle.stack_meaning.specs.Agreement.{AgreesOn}
use Rattle.stack_meaning.specs.Leaves.{AreSteady, AreRead, steady_images}
use Rattle.stack_meaning.specs.Meaning.{said_at, sector}
use Rattle.stack_meaning.specs.Outcomes.{Outcome, span}
use Rattle.stack_meaning.specs.Reading.{MeetVerity}
use Rattle.stack_lines.specs.Touches.{TouchesOnly, leaves_of}
use Rattle.stack_engine.specs.Bytes.{EachBytes, MayBeBytes}
use Rattle.stack_lines.specs.Budgets.{ReadsAtMost}
use Rattle.stack_engine.specs.Pieces.{piece_budget}
use Rattle.stack_engine.specs.Stacks.{StackRecord}
use Rattle.stack_recovery.specs.Alike.{AreAlike}
use Rattle.stack_recovery.specs.declared.piece_limit.PieceLimit.{PieceLimit}
use Rattle.stack_recovery.specs.PieceLimits.{first_limit, limit_after_bytes, limit_after_failure}
use Rattle.stack_recovery.specs.Pieces.{EndsAligned}
use Rattle.transfer_commands.specs.declared.output.SectorRange.{SectorRange}
use Rattle.transfer_commands.specs.declared.stream_fault.CatFault.{CatFault}
use Rattle.transfer_commands.specs.declared.stream_fault.CatFault.TheVariants.{Range, Read, Write}

-- the stack, and what the writer holds, if that is known
pub record CatSide : Type 0 where
  pub stack : StackRecord
  pub written : Option (List ℕ)

abbrev pub cat_side : StackRecord → Option (List ℕ) → CatSide
cat_side stack written = record { stack = stack; written = written }

-- Sectors of device d, from the first on, were read up to the k-th by reads one after the other. Each is of the next piece before
-- the end, as `piece_at` returns it with the limit that the reads before it leave. One that didn't fail moved no more sectors
-- than these cost, each of them once.
pub data ReadsAligned (d first end : ℕ) (w : StackRecord) : ℕ → PieceLimit → StackRecord → Type 0 where
  none_read : ReadsAligned d first end w 0 first_limit w
  then_read : {k n : ℕ} {limit : PieceLimit} {bytes : List ℕ} {v w' : StackRecord} → ReadsAligned d first end w k limit v → EndsAligned v.config d (first + k) end limit.most n
      → EachBytes v d (first + k) n (Ok bytes) w' → ReadsAtMost (piece_budget v d (first + k) n) v.leaves w'.leaves → ReadsAligned d first end w (k + n) (limit_after_bytes limit n (first + k + n)) w'
  then_failed : {k n : ℕ} {limit : PieceLimit} {fault : IoFault} {v w' : StackRecord} → ReadsAligned d first end w k limit v → EndsAligned v.config d (first + k) end limit.most n
      → EachBytes v d (first + k) n (Err fault) w' → ReadsAligned d first end w k (limit_after_failure n (first + k + n)) w'

-- The bytes of k sectors of device d from the first on were written, and nothing else. Over any backing devices there are
-- verified chains for the bytes; over steady ones that agree with what parity restores the bytes are what the stack means. Only backing devices below the device
-- were accessed, by reads of pieces that end as those of a transfer up to `end` do.
pub record IsCat (d first k end : ℕ) (old new : CatSide) : Type 0 where
  pub bytes : List ℕ
  pub most : ℕ
  pub config : new.stack.config ≡ old.stack.config
  pub capacity : new.stack.capacity ≡ old.stack.capacity
  pub moved : AreRead old.stack.leaves most new.stack.leaves
  pub touches : TouchesOnly (leaves_of old.stack.config (mapped d)) old.stack.leaves new.stack.leaves (Ok bytes)
  pub may : MayBeBytes old.stack.config (mapped d) first k bytes
  pub exact : AreSteady (leaves_of old.stack.config (mapped d)) old.stack.leaves → AgreesOn old.stack.config (leaves_of old.stack.config (mapped d)) (steady_images old.stack.leaves) → span (sector old.stack.config (steady_images old.stack.leaves) (mapped d)) first k ≡ Ok bytes
  pub written : Appends old.written new.written bytes
  pub limit : PieceLimit
  pub pieces : ReadsAligned d first end old.stack k limit new.stack

-- the sector means this fault, if it is a fault that a sector may mean
abbrev pub MeansFault : Outcome → IoFault → Type 0
MeansFault outcome (io.Stack fault) = outcome ≡ Err fault
MeansFault outcome fault = Unit {0}

-- The sectors before the k-th were written. The k-th is lost by the fault: some sectors were read, of it alone or of it and
-- those lost together with it; or memory ran out, which happens only on a verity line.
pub record IsCatStop (d first count : ℕ) (old new : CatSide) (fault : IoFault) : Type 0 where
  pub k : ℕ
  pub left : StackRecord
  pub n : ℕ
  pub before : k + n ≤ count
  pub some : 1 ≤ n
  pub had : IsCat d first k (first + count) old (cat_side left new.written)
  pub piece : EndsAligned left.config d (first + k) (first + count) had.limit.most n
  pub read : EachBytes left d (first + k) n (Err fault) new.stack
  pub memory : fault ≡ io.NoMemory → MeetVerity (said_at old.stack.config (mapped d)) (first + k) n
  pub alike : fault ≢ io.NoMemory → AreAlike old.stack.config d (first + k) n
  pub means : AreSteady (leaves_of old.stack.config (mapped d)) old.stack.leaves → AgreesOn old.stack.config (leaves_of old.stack.config (mapped d)) (steady_images old.stack.leaves) → MeansFault (sector old.stack.config (steady_images old.stack.leaves) (mapped d) (first + k)) fault

-- why writing stopped early; `failed` is whether the writer failed
abbrev pub IsCatEnd : ℕ → SectorRange → CatSide → CatSide → Bool → CatFault → Type 0
IsCatEnd d range old new failed Range = (new ≡ old) × (size old.stack.config (mapped d) < range.first + range.count)
IsCatEnd d range old new failed (Read fault) = IsCatStop d range.first range.count old new fault
IsCatEnd d range old new failed Write = failed ≡ true

-- ---- in terms of the arguments of a call: the stack and a counted writer, before and after

abbrev pub CatsBy : {T : Type 0} → (T → Option (List ℕ)) → ℕ → SectorRange → StackRecord → CountedRecord T → StackRecord → CountedRecord T → Type 0
CatsBy contents d range stack writer stack' writer' =
    IsCat d range.first range.count (range.first + range.count) (cat_side stack (contents writer.inner)) (cat_side stack' (contents writer'.inner))

abbrev pub EndsCatBy : {T : Type 0} → (T → Option (List ℕ)) → ℕ → SectorRange → StackRecord → CountedRecord T → StackRecord → CountedRecord T → CatFault → Type 0
EndsCatBy contents d range stack writer stack' writer' fault =
    IsCatEnd d range (cat_side stack (contents writer.inner)) (cat_side stack' (contents writer'.inner)) writer'.failed fault
