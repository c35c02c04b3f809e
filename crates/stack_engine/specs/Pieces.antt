-- Pieces of a read: at most 128 sectors, or into a slice at most 2,048, which one call answers.
use Rattle.std.specs.Prelude.{◌≡◌, ◌⊎◌, ◌≤◌, ℕ, ◌*◌, ◌/◌, false, List, [], length, None, Result, Ok, Err}
use Rattle.block_device.specs.Call.{Call, DeviceDoes}
use Rattle.block_device.specs.Device.{Device}
use Rattle.stack_rules.specs.Records.{Configuration}
use Rattle.stack_rules.specs.Names.{mapped}
use Rattle.stack_rules.specs.Descend.{read_cost}
use Rattle.stack_meaning.specs.declared.fault.IoFault.{IoFault}
use Rattle.stack_meaning.specs.declared.fault.IoFault.TheVariants as io
use Rattle.stack_meaning.specs.Outcomes.{span}
use Rattle.stack_meaning.specs.Meaning.{said_at, sector}
use Rattle.stack_meaning.specs.May.{MayBe, MayFault}
use Rattle.stack_meaning.specs.Leaves.{steady_images, AreSteady, AreRead}
use Rattle.stack_meaning.specs.Places.{place_of, run_expected}
use Rattle.stack_meaning.specs.Reading.{Ends, Answers, IsCertain, MeetVerity}
use Rattle.stack_meaning.specs.Stops.{ReadStops}
use Rattle.stack_lines.specs.declared.source.Source.TheVariants.{Below}
use Rattle.stack_lines.specs.Budgets.{budget}
use Rattle.stack_lines.specs.Caches.{StackCache, capacity_of, with_last}
use Rattle.stack_lines.specs.Touches.{EndsAtFailure, TouchesOnly, leaves_of}
use Rattle.stack_lines.specs.Writing.{AreSectors}
use Rattle.stack_engine.specs.Healing.{HasNoParity}
use Rattle.stack_engine.specs.LeafCalls.{LeafCall, ServesCalls}
use Rattle.stack_engine.specs.SectorCalls.{AreReadCalls}
use Rattle.stack_engine.specs.Stacks.{StackRecord, AnswerRecord}

-- a configuration over its leaves' devices, with the blocks of a cache, after so many blocks were restored
abbrev pub stack_with : Configuration → List Device → StackCache → ℕ → StackRecord
stack_with config leaves cache restored = record { config = config; leaves = leaves; capacity = capacity_of cache; kept = cache.blocks.blocks; last = cache.last; restored = restored }

-- with room for so many hash blocks, of which none is kept, and for no data block; nothing was restored
abbrev pub stack_over : Configuration → List Device → ℕ → StackRecord
stack_over config leaves capacity = record { config = config; leaves = leaves; capacity = record { blocks = capacity; last = false }; kept = []; last = None; restored = 0 }

-- with room for a data block beside them
abbrev pub stack_keeping : StackRecord → StackRecord
stack_keeping w = record w { capacity = with_last w.capacity }

-- the bytes of 1 to 2,048 whole sectors
pub record AreReadSectors (bytes : List ℕ) : Type 0 where
  pub sectors : AreSectors bytes
  pub most : length bytes / 512 ≤ 2048

-- the leaves beneath a mapped device are steady
abbrev pub AreSteadyBeneath : StackRecord → ℕ → Type 0
AreSteadyBeneath w d = AreSteady (leaves_of w.config (mapped d)) w.leaves

-- the leaves beneath mapped device d are steady; and if a `verity` line is on the way of one of n sectors, from the first on, no block
-- that parity restores on them is another one than the stored block
abbrev pub IsCertainPiece : StackRecord → ℕ → ℕ → ℕ → Type 0
IsCertainPiece w d first n = IsCertain (run_expected (place_of w.config (mapped d)) [] first n) w.leaves

-- a `verity` line is on the way of one of n sectors of mapped device d, from the first on
abbrev pub MeetsVerity : StackRecord → ℕ → ℕ → ℕ → Type 0
MeetsVerity w d first n = MeetVerity (said_at w.config (mapped d)) first n

-- what their read costs at most, by the units and data blocks that it touches
abbrev pub piece_budget : StackRecord → ℕ → ℕ → ℕ → ℕ
piece_budget w d first n = budget w.config (mapped d) first n

-- if no `verity` line is on their way, nothing after the first fault is read
abbrev pub PieceStops : {A : Type 0} → StackRecord → ℕ → ℕ → ℕ → Result A IoFault → StackRecord → Type 0
PieceStops w d first n result w' = (MeetsVerity w d first n → ⊥) → ReadStops (said_at w.config (mapped d)) first n w.leaves w'.leaves result

-- the bytes of an answer, or the fault
abbrev pub answer_bytes : Result AnswerRecord IoFault → Result (List ℕ) IoFault
answer_bytes (Ok got) = Ok got.bytes
answer_bytes (Err fault) = Err fault

-- The calls of a read, between two counts of restored blocks: none where memory ran out before it, and else those that give the bytes.
abbrev pub ReadPieceCalls : Configuration → ℕ → ℕ → ℕ → Result (List ℕ) IoFault → ℕ → ℕ → List LeafCall → Type 0
ReadPieceCalls c d first n answer from to calls = ((answer ≡ Err io.NoMemory) × (to ≡ from) × (calls ≡ [])) ⊎ AreReadCalls c (Below (mapped d) first) n calls from to answer

-- Whatever the leaves answer, of n sectors of mapped device at.0, from sector at.1 on: these calls of their devices were made, and no
-- others. As many blocks are counted as the calls restored.
abbrev pub PieceGives : {D : Type 0} → (D → Device) → (D → Call → D → Type 0) → StackRecord → ℕ × ℕ → ℕ → Result (List ℕ) IoFault → StackRecord → Type 0
PieceGives state does w at n answer w' = ServesCalls state (DeviceDoes state does) (ReadPieceCalls w.config at.0 at.1 n answer w.restored w'.restored) w.leaves w'.leaves

-- The count of restored blocks after a read of n sectors of mapped device d, from the first on: no less than before, and the same
-- if no `verity` line is on their way.
pub record ReadRestores (w : StackRecord) (d first n : ℕ) (w' : StackRecord) : Type 0 where
  pub grows : w.restored ≤ w'.restored
  pub same : (MeetsVerity w d first n → ⊥) → w'.restored ≡ w.restored

-- How a piece is answered, n sectors of mapped device d from the first on, with the stack that the answer leaves:
-- whatever the leaves answer
pub record AnyPiece (w : StackRecord) (d first n : ℕ) (answer : Result AnswerRecord IoFault) (w' : StackRecord) : Type 0 where
  pub config : w'.config ≡ w.config
  pub capacity : w'.capacity ≡ w.capacity
  pub moved : AreRead w.leaves (n * read_cost w.config (mapped d)) w'.leaves
  pub may : Ends (λ got. MayBe w.config (mapped d) first n got.bytes got.chains) (MayFault w.config (mapped d) first n) w.leaves w'.leaves answer
  pub touches : TouchesOnly (leaves_of w.config (mapped d)) w.leaves w'.leaves answer
  pub fails : (MeetsVerity w d first n → HasNoParity w.config) → EndsAtFailure w.leaves w'.leaves answer

-- where the leaves beneath determine it: what the stack means
pub record SteadyPiece (w : StackRecord) (d first n : ℕ) (answer : Result AnswerRecord IoFault) (w' : StackRecord) : Type 0 where
  pub any : AnyPiece w d first n answer w'
  pub exact : Answers (λ got. got.bytes) (span (sector w.config (steady_images w.leaves) (mapped d)) first n) answer

-- both
pub record EachPiece (w : StackRecord) (d first n : ℕ) (answer : Result AnswerRecord IoFault) (w' : StackRecord) : Type 0 where
  pub any : AnyPiece w d first n answer w'
  pub steady : IsCertainPiece w d first n → SteadyPiece w d first n answer w'
