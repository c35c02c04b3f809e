-- A request that is run: what it is as a whole, from the stack before it to the stack after.
use Rattle.std.specs.Prelude.{◌≡◌, ◌<◌, ℕ, ◌*◌, List, take, Result, Ok, Err}
use Rattle.allocation.specs.Refusal.{IsOutOfMemory}
use Rattle.stack_rules.specs.Names.{mapped}
use Rattle.stack_rules.specs.Descend.{read_cost}
use Rattle.stack_meaning.specs.declared.fault.IoFault.{IoFault}
use Rattle.stack_meaning.specs.declared.fault.IoFault.TheVariants as io
use Rattle.stack_meaning.specs.Memory.{largest_allocation}
use Rattle.stack_meaning.specs.Outcomes.{span}
use Rattle.stack_meaning.specs.Meaning.{sector}
use Rattle.stack_meaning.specs.May.{MayRead, MayFault}
use Rattle.stack_meaning.specs.Leaves.{steady_images, AreRead}
use Rattle.stack_meaning.specs.Reading.{Ends, Answers}
use Rattle.stack_lines.specs.Touches.{EndsAtFailure, TouchesOnly, leaves_of}
use Rattle.stack_engine.specs.Healing.{HasNoParity}
use Rattle.stack_engine.specs.KeptBlocks.{ReadKeeps}
use Rattle.stack_engine.specs.Pieces.{IsCertainPiece, MeetsVerity}
use Rattle.stack_engine.specs.WritePieces.{WritesInPieces}
use Rattle.stack_engine.specs.Stacks.{StackRecord, AnswerRecord}
use Rattle.request_queue.specs.declared.fault.SubmitFault.{SubmitFault}
use Rattle.request_queue.specs.declared.range.SectorRange.{SectorRange}
use Rattle.request_queue.specs.declared.reply.Reply.{Reply}
use Rattle.request_queue.specs.declared.reply.Reply.TheVariants.{Sectors, Written}
use Rattle.request_queue.specs.Requests.{RequestRecord, a_read, a_write}
use Rattle.request_queue.specs.World.{World, admission}

-- A read as a whole: what it moved, what it may answer whatever the leaves are, which of them it touches, that it ends at
-- the first device call that fails, unless parity may restore, what it leaves of the kept hash blocks, and if the leaves beneath
-- determine it all its bytes as the stack means them, or the error of the least sector that has one.
pub record ReadsWhole (v : StackRecord) (range : SectorRange) (answer : Result AnswerRecord IoFault) (v' : StackRecord) : Type 0 where
  pub config : v'.config ≡ v.config
  pub capacity : v'.capacity ≡ v.capacity
  pub moved : AreRead v.leaves (range.count * read_cost v.config (mapped range.device.0)) v'.leaves
  pub may : Ends (λ got. MayRead v.config (mapped range.device.0) range.first range.count got.bytes got.chains) (MayFault v.config (mapped range.device.0) range.first range.count) v.leaves v'.leaves answer
  pub touches : TouchesOnly (leaves_of v.config (mapped range.device.0)) v.leaves v'.leaves answer
  pub fails : (MeetsVerity v range.device.0 range.first range.count → HasNoParity v.config) → EndsAtFailure v.leaves v'.leaves answer
  pub kept : ReadKeeps v range.device.0 range.first range.count v'
  pub exact : IsCertainPiece v range.device.0 range.first range.count → Answers (λ got. got.bytes) (span (sector v.config (steady_images v.leaves) (mapped range.device.0)) range.first range.count) answer

-- A write as a whole: all bytes in pieces, or up to the piece that ended it by its fault; where memory ran out, the
-- sectors before that piece are written and no others, and an allocation was refused.
abbrev pub WritesWhole : StackRecord → SectorRange → List ℕ → Result Unit IoFault → StackRecord → Type 0
WritesWhole v range bytes (Err io.NoMemory) v' = (k : ℕ) × (k < range.count) × WritesInPieces v range.device.0 range.first (take (512 * k) bytes) (Ok tt) v' × IsOutOfMemory largest_allocation
WritesWhole v range bytes result v' = WritesInPieces v range.device.0 range.first bytes result v'

-- a request as a whole
abbrev pub Whole : RequestRecord → StackRecord → SectorRange → Result Reply IoFault → StackRecord → Type 0
Whole (a_read name first count) v range (Ok (Sectors got)) v' = ReadsWhole v range (Ok got) v'
Whole (a_read name first count) v range (Ok Written) v' = ⊥
Whole (a_read name first count) v range (Err fault) v' = ReadsWhole v range (Err fault) v'
Whole (a_write name first bytes) v range (Ok Written) v' = WritesWhole v range bytes (Ok tt) v'
Whole (a_write name first bytes) v range (Ok (Sectors got)) v' = ⊥
Whole (a_write name first bytes) v range (Err fault) v' = WritesWhole v range bytes (Err fault) v'

-- what is answered to a request that is run, if it was begun
abbrev pub RunAnswers : World → RequestRecord → Result (Result Reply IoFault) SubmitFault → World → Type 0
RunAnswers w r (Ok answer) w' = (range : SectorRange) × (admission w r ≡ Ok range) × Whole r w.stack range answer w'.stack
RunAnswers w r (Err fault) w' = Unit {0}
