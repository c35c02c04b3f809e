-- A part of a request that was served.
use Rattle.std.proofs.Common.{◌≡◌, inr, ℕ, ◌+◌, ◌-◌, ◌*◌, List, take, drop, refl, sym, ap, ◌∙◌, subst, arith, Result, Ok, Err}
use Rattle.std.specs.Prelude.{IfErr, IsErrAnd, OnOk}
use Rattle.allocation.specs.Refusal.{IsOutOfMemory}
use Rattle.block_device.specs.Call.{Call}
use Rattle.block_device.specs.Device.{Device}
use Rattle.stack_meaning.specs.declared.fault.IoFault.{IoFault}
use Rattle.stack_meaning.specs.declared.fault.IoFault.TheVariants as io
use Rattle.stack_meaning.specs.Leaves.{AreSteady}
use Rattle.stack_meaning.specs.Memory.{largest_allocation}
use Rattle.stack_rules.specs.Names.{mapped}
use Rattle.stack_lines.specs.Touches.{leaves_of}
use Rattle.stack_lines.proofs.lemmas.TouchLemmas.{touches-as}
use Rattle.stack_engine.specs.KeptBlocks.{AreChecked, ReadKeeps}
use Rattle.stack_engine.specs.Pieces.{AnyPiece, IsCertainPiece, PieceGives, SteadyPiece}
use Rattle.stack_engine.specs.Stacks.{StackRecord, AnswerRecord}
use Rattle.stack_engine.specs.WritePieces.{ArePiece, AnyWrite, SteadyWrite, EachWrite, PieceHands}
use Rattle.request_queue.specs.declared.range.SectorRange.{SectorRange}
use Rattle.request_queue.specs.Flights.{WorkRecord, joint_answer, reads, writes, nothing}
use Rattle.request_queue.specs.Parts.{EachPart}
use Rattle.request_queue.specs.PieceCalls.{CalledPart}
use Rattle.request_queue.specs.Serving.{PartDone, PartFailed}

-- what holds of a fault holds of the result that hands it on
pub err-from : {T E : Type 0} (r : Result T E) (P : E → Type 0) (fault : E) → IsErrAnd r (λ e. e ≡ fault) → P fault → IfErr r P
err-from (Ok done) P fault is holds = tt
err-from (Err e) P fault is holds = subst P (sym is) holds

-- the bytes of a part, as the code cuts them out
pub part-bytes : (now items : List ℕ) (done count : ℕ) → now ≡ items → take (done * 512 + count * 512 - done * 512) (drop (done * 512) now) ≡ take (512 * count) (drop (512 * done) items)
part-bytes now items done count same =
    let len : done * 512 + count * 512 - done * 512 ≡ 512 * count = omega arith in
    let start : done * 512 ≡ 512 * done = omega arith in
    ap (λ k. take k (drop (done * 512) now)) len ∙ ap (λ k. take (512 * count) (drop k now)) start ∙ ap (λ l. take (512 * count) (drop (512 * done) l)) same

pub write-done : {v v' : StackRecord} {part : List ℕ} (piece : SectorRange) (done : ℕ) (items : List ℕ) (result : Result Unit IoFault) → ArePiece part → AnyWrite v piece.device.0 piece.first part result v'
    → (AreSteady (leaves_of v.config (mapped piece.device.0)) v.leaves → SteadyWrite v piece.device.0 piece.first part result v') → AreChecked v' → part ≡ take (512 * piece.count) (drop (512 * done) items) → OnOk result (PartDone EachPart v piece done (writes items) v' (writes items))
write-done piece done items (Err fault) sized any steady checked is = tt
write-done {v} {v'} piece done items (Ok x) sized any steady checked is = record {
  got = nothing;
  answered = record { answered = subst (λ l. EachWrite v piece.device.0 piece.first l (Ok tt) v') is (record { piece = sized; any = any; steady = steady }); kept = checked };
  is = refl;
}

pub write-failed : {v v' : StackRecord} {part : List ℕ} (piece : SectorRange) (done : ℕ) (items : List ℕ) (result : Result Unit IoFault) → ArePiece part → AnyWrite v piece.device.0 piece.first part result v'
    → (AreSteady (leaves_of v.config (mapped piece.device.0)) v.leaves → SteadyWrite v piece.device.0 piece.first part result v') → AreChecked v' → part ≡ take (512 * piece.count) (drop (512 * done) items)
    → IfErr result (λ fault. PartFailed EachPart v piece done (writes items) fault v')
write-failed {v} {v'} piece done items (Err fault) sized any steady checked is =
    record { answered = subst (λ l. EachWrite v piece.device.0 piece.first l (Err fault) v') is (record { piece = sized; any = any; steady = steady }); kept = checked }
write-failed piece done items (Ok x) sized any steady checked is = tt

-- ---- a part of a read

module _ {v v' : StackRecord} (piece : SectorRange) (done : ℕ) (got more : AnswerRecord) (any : AnyPiece v piece.device.0 piece.first piece.count (Ok more) v')
    (kept : ReadKeeps v piece.device.0 piece.first piece.count v') where
  pub read-done : (IsCertainPiece v piece.device.0 piece.first piece.count → SteadyPiece v piece.device.0 piece.first piece.count (Ok more) v') → {work : WorkRecord} → work ≡ reads (joint_answer got more) → PartDone EachPart v piece done (reads got) v' work
  read-done steady is = record { got = more; answered = record { answered = record { any = any; steady = steady }; kept = kept }; is = is }

  -- there is no memory for what it read
  pub read-short : IsOutOfMemory largest_allocation → PartFailed EachPart v piece done (reads got) io.NoMemory v'
  read-short refused =
      let short : AnyPiece v piece.device.0 piece.first piece.count (Err io.NoMemory) v' = record { config = any.config; capacity = any.capacity; moved = any.moved; may = refused; touches = touches-as (Err io.NoMemory) tt any.touches; fails = any.fails } in
      record { answered = record { any = short; steady = λ sure. record { any = short; exact = tt } }; kept = kept }

-- ---- by its calls

module _ {D : Type 0} (state : D → Device) (does : D → Call → D → Type 0) (v v' : StackRecord) (piece : SectorRange) (done : ℕ) where
  pub write-called : {part : List ℕ} (items : List ℕ) (result : Result Unit IoFault) → part ≡ take (512 * piece.count) (drop (512 * done) items) → PieceHands state does v (piece.device.0, piece.first) part result v'
      → OnOk result (PartDone (CalledPart state does) v piece done (writes items) v' (writes items))
  write-called items (Err fault) is handed = tt
  write-called items (Ok x) is handed = record { got = nothing; answered = subst (λ l. PieceHands state does v (piece.device.0, piece.first) l (Ok tt) v') is handed; is = refl }

  pub write-lost : {part : List ℕ} (items : List ℕ) (result : Result Unit IoFault) → part ≡ take (512 * piece.count) (drop (512 * done) items) → PieceHands state does v (piece.device.0, piece.first) part result v'
      → IfErr result (λ fault. PartFailed (CalledPart state does) v piece done (writes items) fault v')
  write-lost items (Err fault) is handed = subst (λ l. PieceHands state does v (piece.device.0, piece.first) l (Err fault) v') is handed
  write-lost items (Ok x) is handed = tt

  -- memory ran out for what a read gave
  pub read-unkept : (got : AnswerRecord) (bytes : List ℕ) → PieceGives state does v (piece.device.0, piece.first) piece.count (Ok bytes) v' → PartFailed (CalledPart state does) v piece done (reads got) io.NoMemory v'
  read-unkept got bytes given = inr (refl, bytes, given)
