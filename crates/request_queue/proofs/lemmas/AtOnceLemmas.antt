-- Writes at once as runs of the queue, and one piece after those before it.
use Rattle.std.proofs.Common.{◌≡◌, ◌≤◌, ℕ, ◌+◌, ◌*◌, ◌/◌, List, ◌++◌, length, IsTrue, refl, sym, ap, ◌∙◌, subst, arith, Some, Result, Ok, Err}
use Rattle.alignment.specs.Lengths.{IsAlignedLen, aligned_len}
use Rattle.stack_rules.specs.Names.{mapped, may_write, size}
use Rattle.stack_rules.specs.Records.{Configuration}
use Rattle.stack_meaning.specs.declared.fault.IoFault.{IoFault}
use Rattle.stack_engine.specs.KeptBlocks.{AreChecked}
use Rattle.stack_engine.specs.Stacks.{StackRecord}
use Rattle.stack_engine.specs.WritePieces.{EachWrite}
use Rattle.request_queue.specs.declared.range.SectorRange.{SectorRange}
use Rattle.request_queue.specs.declared.fault.PieceFault.{PieceFault}
use Rattle.request_queue.specs.AtOnce.{EndsRead, EndsSteps, EndsWrite, IsNextPiece, IsNextWrite, IsPieceOf, ReadsInTurn, WritesBeside, WritesInSteps, failed_read, no_read, a_read, last_read, no_step, a_step, last_step, bytes_after, sector_after}
use Rattle.request_queue.specs.Flights.{FlightRecord}
use Rattle.request_queue.specs.Ranges.{most_piece}
use Rattle.request_queue.specs.Parts.{EachPart}
use Rattle.request_queue.specs.Runs.{IsLed}
use Rattle.request_queue.specs.World.{PieceWritten, World, world, write_piece}
use Rattle.request_queue.proofs.lemmas.LedLemmas.{led-none, led-one, led-then}
use Rattle.request_queue.proofs.lemmas.PutLemmas.{ending-same}

pub steps-led : (range : SectorRange) (w : World) (bytes : List ℕ) (result : Result Unit IoFault) (w' : World) → WritesInSteps range w bytes result w' → IsLed EachPart w w'
steps-led range w bytes result w' no_step = led-none EachPart w
steps-led range w bytes result w' (a_step {x = x} {y = y} {v = v} p q s) =
    led-then EachPart w v w' (steps-led range w x (Ok tt) v p) (led-one EachPart v (write_piece range.device.0 (sector_after range x) y (Ok tt)) w' s)
steps-led range w bytes result w' (last_step {x = x} {y = y} {v = v} {fault = fault} z p q s) =
    led-then EachPart w v w' (steps-led range w x (Ok tt) v p) (led-one EachPart v (write_piece range.device.0 (sector_after range x) y (Err fault)) w' s)

-- the write of these bytes to a range, however it ended, is a run of the queue
pub ends-led : (range : SectorRange) (w : World) (bytes : List ℕ) (result : Result Unit PieceFault) (w' : World) → EndsSteps range w bytes result w' → IsLed EachPart w w'
ends-led range w bytes (Ok done) w' s = steps-led range w bytes (Ok tt) w' s
ends-led range w bytes (Err piece) w' s = steps-led range w bytes (Err piece.fault) w' s.0

-- ---- the piece that fails

piece-of : {range : SectorRange} {w : StackRecord} {answer : Result (List ℕ) IoFault} {w' : StackRecord} (turns : ReadsInTurn range w answer w') (piece : PieceFault) → failed_read turns ≡ Some piece → IsPieceOf range piece
piece-of no_read piece is = cc
piece-of (a_read before read) piece is = cc
piece-of {range = range} (last_read {x = x} met before fails) piece is =
    let same : met ≡ piece = cc in
    subst (IsPieceOf range) same (record {
      from = omega (arith, fails.first);
      some = omega (arith, fails.next.some);
      inside = omega (arith, fails.first, fails.next.some, fails.next.inside);
    })

-- a piece at which a read ended is one of its range
pub failed-inside : (range : SectorRange) (w : StackRecord) (piece : PieceFault) (w' : StackRecord) → EndsRead range w (Err piece) w' → IsPieceOf range piece
failed-inside range w piece w' ended = piece-of ended.0 piece ended.1

-- ---- one piece more

-- a piece of as many sectors as `aligned_len` says is the next one of a write
pub next-piece : (c : Configuration) (d first rest n left bytes : ℕ) → IsAlignedLen c d first rest most_piece n → bytes ≡ 512 * n → left ≡ 512 * rest → IsNextPiece most_piece c d first left bytes
next-piece c d first rest n left bytes len size all =
    let sectors : rest ≡ left / 512 = omega (arith, all) in
    record {
      value = size ∙ ap (λ (k : ℕ). 512 * k) (len.value ∙ ap (λ (r : ℕ). aligned_len c d first r most_piece) sectors);
      whole = omega (arith, size);
      some = omega (arith, size, len.some);
      few = omega (arith, size, len.few);
      inside = omega (arith, size, len.inside, all);
    }

-- a write of the bytes y after the bytes x, within a device that may be written
module _ (range : SectorRange) (base v v' : StackRecord) (x y : List ℕ) (allowed : IsTrue (may_write v.config (mapped range.device.0))) (inside : sector_after range x + length y / 512 ≤ size v.config (mapped range.device.0)) (checked : AreChecked v') where
  one-step : (result : Result Unit IoFault) → EachWrite v range.device.0 (sector_after range x) y result v' → (given : ℕ) (fs : List FlightRecord)
      → PieceWritten EachPart (world v given fs) range.device.0 (sector_after range x) y result (world v' given fs)
  one-step result each given fs = record {
    inside = inside;
    allowed = allowed;
    stack = v';
    asks = record { answered = subst (λ r. EachWrite v range.device.0 (sector_after range x) y r v') (sym (ending-same result)) each; kept = checked };
    leaves = refl;
  }

  module _ (next : IsNextWrite v range.device.0 (sector_after range x) (bytes_after range x) (length y) v') (before : WritesBeside range base x (Ok tt) v) where
    pub beside-more : EachWrite v range.device.0 (sector_after range x) y (Ok tt) v' → WritesBeside range base (x ++ y) (Ok tt) v'
    beside-more each = λ given fs. a_step (before given fs) next (one-step (Ok tt) each given fs)

    pub beside-fails : (z : List ℕ) (fault : IoFault) → EachWrite v range.device.0 (sector_after range x) y (Err fault) v'
        → EndsWrite range base (x ++ (y ++ z)) (Err (record { first = sector_after range x; count = length y / 512; fault = fault })) v'
    beside-fails z fault each = λ given fs. (last_step z (before given fs) next (one-step (Err fault) each given fs), refl)
