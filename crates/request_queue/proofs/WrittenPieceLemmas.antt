-- One piece of a write at once, after those before it.
use Rattle.std.proofs.Common.{◌≡◌, ◌≤◌, ℕ, ◌+◌, ◌-◌, ◌*◌, ◌/◌, ◌%◌, List, ◌++◌, length, take, drop, refl, ap, sym, ◌∙◌, subst, arith, Result, Ok, Err}
use Rattle.std.proofs.lemmas.List.{length-drop, length-take-le, take-append-drop}
use Rattle.std.proofs.Math.Seq.{take-length, take-add}
use Rattle.block_device.specs.Call.{Call}
use Rattle.block_device.specs.Device.{Device}
use Rattle.stack_rules.specs.Names.{mapped, size}
use Rattle.stack_rules.specs.Records.{Configuration}
use Rattle.stack_meaning.specs.declared.fault.IoFault.{IoFault}
use Rattle.stack_meaning.specs.declared.fault.IoFault.TheVariants as io
use Rattle.stack_meaning.specs.Meaning.{said_at}
use Rattle.stack_meaning.proofs.lemmas.FoundLemmas.{SomeOf-more}
use Rattle.stack_lines.specs.Writing.{SomeEncrypt}
use Rattle.stack_engine.specs.KeptBlocks.{AreChecked}
use Rattle.stack_engine.specs.Stacks.{StackRecord}
use Rattle.stack_engine.specs.WritePieces.{EachWrite, PieceHands, PieceNeeded, PieceWrote, WritesInPieces}
use Rattle.stack_engine.proofs.lemmas.PieceLemmas.{same-stack}
use Rattle.stack_engine.proofs.lemmas.WritePieceLemmas.{write-then, write-ends}
use Rattle.request_queue.specs.declared.fault.PieceFault.{PieceFault}
use Rattle.request_queue.specs.AtOnce.{BytesWritten, CanBeWritten, EndsWrite, IsNextPiece, IsNextWrite, WritesBeside, write_range}
use Rattle.request_queue.specs.Flights.{FlightRecord}
use Rattle.request_queue.specs.PieceCalls.{HandsInTurn, last_handed, piece_handed}
use Rattle.request_queue.specs.Ranges.{bytes_range, most_piece, range_at}
use Rattle.request_queue.specs.Replies.{piece_ending}
use Rattle.request_queue.specs.declared.range.SectorRange.{SectorRange}
use Rattle.request_queue.specs.WholeRuns.{WritesWhole}
use Rattle.request_queue.specs.World.{world}
use Rattle.request_queue.proofs.lemmas.AdmissionLemmas.{writable-ok}
use Rattle.request_queue.proofs.lemmas.BytesLemmas.{bytes_range-ok}
use Rattle.request_queue.proofs.lemmas.AtOnceLemmas.{beside-fails, beside-more}

-- the bytes of the next piece
abbrev pub next_part : List ℕ → ℕ → ℕ → List ℕ
next_part bytes done end = take (end - done) (drop done bytes)

-- how a piece ended, what it moved, and what is kept then
pub record IsWritten (v : StackRecord) (d first : ℕ) (bytes : List ℕ) (result : Result Unit IoFault) (v' : StackRecord) : Type 0 where
  pub each : EachWrite v d first bytes result v'
  pub wrote : PieceWrote v d first (length bytes / 512) v'
  pub needed : PieceNeeded v d first (length bytes / 512) v'
  pub checked : AreChecked v'

module _ (base v v' : StackRecord) (d first : ℕ) (bytes : List ℕ) (done end : ℕ) (even : done % 512 ≡ 0) (more : done + 512 ≤ end) (within : end ≤ length bytes) where
  front-length : length (take done bytes) ≡ done
  front-length = length-take-le done bytes (omega (arith, more, within))

  part-length : length (next_part bytes done end) ≡ end - done
  part-length = length-take-le (end - done) (drop done bytes) (omega (arith, length-drop done bytes, within))

  front-even : length (take done bytes) % 512 ≡ 0
  front-even = omega (arith, front-length, even)

  start : first + done / 512 ≡ first + length (take done bytes) / 512
  start = omega (arith, front-length)

  seam : take done bytes ++ next_part bytes done end ≡ take end bytes
  seam = let all : done + (end - done) ≡ end = omega (arith, more) in sym (take-add done (end - done) bytes) ∙ ap (λ k. take k bytes) all

  all-is : take done bytes ++ (next_part bytes done end ++ drop (end - done) (drop done bytes)) ≡ bytes
  all-is = ap (λ l. take done bytes ++ l) (take-append-drop (end - done) (drop done bytes)) ∙ take-append-drop done bytes

  from-start : (result : Result Unit IoFault) → EachWrite v d (first + done / 512) (next_part bytes done end) result v' → EachWrite v d (first + length (take done bytes) / 512) (next_part bytes done end) result v'
  from-start result q = subst (λ k. EachWrite v d k (next_part bytes done end) result v') start q

  module _ (p : WritesInPieces base d first (take done bytes) (Ok tt) v) where
    pub put-more : EachWrite v d (first + done / 512) (next_part bytes done end) (Ok tt) v' → WritesInPieces base d first (take end bytes) (Ok tt) v'
    put-more q = subst (λ l. WritesInPieces base d first l (Ok tt) v') seam (write-then d first (take done bytes) (next_part bytes done end) front-even p (from-start (Ok tt) q))

    put-ends : (fault : IoFault) → (fault ≡ io.NoMemory → ⊥) → EachWrite v d (first + done / 512) (next_part bytes done end) (Err fault) v' → WritesInPieces base d first bytes (Err fault) v'
    put-ends fault kind q =
        subst (λ l. WritesInPieces base d first l (Err fault) v') all-is (write-ends d first (take done bytes) (next_part bytes done end) front-even p (drop (end - done) (drop done bytes)) fault kind (from-start (Err fault) q))

    -- where memory ran out nothing more was written
    put-nothing : EachWrite v d (first + done / 512) (next_part bytes done end) (Err io.NoMemory) v' → WritesInPieces base d first (take (512 * (done / 512)) bytes) (Ok tt) v'
    put-nothing q =
        let same : v ≡ v' = same-stack v v' (sym q.any.config) (sym q.any.ends.0) (sym q.any.capacity) (sym (q.any.short refl).0, sym (q.any.short refl).1) (sym q.any.restored) in
        let sectors : done ≡ 512 * (done / 512) = omega (arith, even) in
        subst (λ x. WritesInPieces base d first (take (512 * (done / 512)) bytes) (Ok tt) x) same (subst (λ k. WritesInPieces base d first (take k bytes) (Ok tt) v) sectors p)

    pub put-fails : (fault : IoFault) → EachWrite v d (first + done / 512) (next_part bytes done end) (Err fault) v' → WritesWhole base (range_at d first (length bytes / 512)) bytes (Err fault) v'
    put-fails (io.Stack why) q = put-ends (io.Stack why) (λ e. cc) q
    put-fails (io.Device i) q = put-ends (io.Device i) (λ e. cc) q
    put-fails io.NoMemory q = (done / 512, omega (arith, more, within), put-nothing q, q.any.ends.1)

    -- memory runs out where some sector is encrypted
    pub some-encrypt : SomeEncrypt (said_at v.config (mapped d)) (first + done / 512) (length (next_part bytes done end) / 512) → SomeEncrypt (said_at base.config (mapped d)) first (length bytes / 512)
    some-encrypt some =
        let inside : done / 512 + length (next_part bytes done end) / 512 ≤ length bytes / 512 = omega (arith, part-length, even, more, within) in
        SomeOf-more (λ s. (said_at base.config (mapped d) s).encrypts) first (done / 512) (length (next_part bytes done end) / 512) (length bytes / 512) inside
        (subst (λ (c : Configuration). SomeEncrypt (said_at c (mapped d)) (first + done / 512) (length (next_part bytes done end) / 512)) p.any.config some)

  module _ (can : CanBeWritten v.config d first bytes) (next : IsNextPiece most_piece v.config d (first + done / 512) (length bytes - done) (end - done)) where
    part-inside : first + length (take done bytes) / 512 + length (next_part bytes done end) / 512 ≤ size v.config (mapped d)
    part-inside = omega (arith, part-length, front-length, even, more, within, can.sectors.inside)

    next-write : (result : Result Unit IoFault) → IsWritten v d (first + done / 512) (next_part bytes done end) result v'
        → IsNextWrite v d (first + length (take done bytes) / 512) (512 * (length bytes / 512) - length (take done bytes)) (length (next_part bytes done end)) v'
    next-write result q =
        let left : length bytes - done ≡ 512 * (length bytes / 512) - length (take done bytes) = omega (arith, front-length, can.sectors.whole) in
        subst (λ k. IsNextWrite v d k (512 * (length bytes / 512) - length (take done bytes)) (length (next_part bytes done end)) v') start
        (subst (λ m. IsNextWrite v d (first + done / 512) m (length (next_part bytes done end)) v') left
        (record { next = subst (λ n. IsNextPiece most_piece v.config d (first + done / 512) (length bytes - done) n) (sym part-length) next; wrote = q.wrote; needed = q.needed }))

    module _ (p : WritesBeside (range_at d first (length bytes / 512)) base (take done bytes) (Ok tt) v) where
      pub steps-more : IsWritten v d (first + done / 512) (next_part bytes done end) (Ok tt) v' → WritesBeside (range_at d first (length bytes / 512)) base (take end bytes) (Ok tt) v'
      steps-more q =
          subst (λ l. WritesBeside (range_at d first (length bytes / 512)) base l (Ok tt) v') seam
          (beside-more (range_at d first (length bytes / 512)) base v v' (take done bytes) (next_part bytes done end) can.allowed part-inside q.checked (next-write (Ok tt) q) p (from-start (Ok tt) q.each))

      pub steps-end : (fault : IoFault) → IsWritten v d (first + done / 512) (next_part bytes done end) (Err fault) v'
          → EndsWrite (range_at d first (length bytes / 512)) base bytes (Err (record { first = first + done / 512; count = (end - done) / 512; fault = fault })) v'
      steps-end fault q =
          let range = range_at d first (length bytes / 512) in
          let at : first + length (take done bytes) / 512 ≡ first + done / 512 = sym start in
          let count : length (next_part bytes done end) / 512 ≡ (end - done) / 512 = ap (λ (k : ℕ). k / 512) part-length in
          subst (λ (k : ℕ). EndsWrite range base bytes (Err (record { first = first + done / 512; count = k; fault = fault })) v') count
          (subst (λ (k : ℕ). EndsWrite range base bytes (Err (record { first = k; count = length (next_part bytes done end) / 512; fault = fault })) v') at
          (subst (λ l. EndsWrite range base l (Err (record { first = first + length (take done bytes) / 512; count = length (next_part bytes done end) / 512; fault = fault })) v') all-is
          (beside-fails range base v v' (take done bytes) (next_part bytes done end) can.allowed part-inside q.checked (next-write (Err fault) q) p (drop (end - done) (drop done bytes)) fault (from-start (Err fault) q.each))))

  -- the calls of the piece
  module _ {D : Type 0} {state : D → Device} {does : D → Call → D → Type 0} (whole : length bytes % 512 ≡ 0) (next : IsNextPiece most_piece v.config d (first + done / 512) (length bytes - done) (end - done)) (p : HandsInTurn state does (range_at d first (length bytes / 512)) base (take done bytes) (Ok tt) v) where
    here : IsNextPiece most_piece v.config d (first + length (take done bytes) / 512) (512 * (length bytes / 512) - length (take done bytes)) (length (next_part bytes done end))
    here =
        let left : length bytes - done ≡ 512 * (length bytes / 512) - length (take done bytes) = omega (arith, front-length, whole) in
        subst (λ n. IsNextPiece most_piece v.config d (first + length (take done bytes) / 512) (512 * (length bytes / 512) - length (take done bytes)) n) (sym part-length)
        (subst (λ m. IsNextPiece most_piece v.config d (first + length (take done bytes) / 512) m (end - done)) left (subst (λ k. IsNextPiece most_piece v.config d k (length bytes - done) (end - done)) start next))

    hands : (result : Result Unit IoFault) → PieceHands state does v (d, first + done / 512) (next_part bytes done end) result v' → PieceHands state does v (d, first + length (take done bytes) / 512) (next_part bytes done end) result v'
    hands result handed = subst (λ k. PieceHands state does v (d, k) (next_part bytes done end) result v') start handed

    pub handed-more : PieceHands state does v (d, first + done / 512) (next_part bytes done end) (Ok tt) v' → HandsInTurn state does (range_at d first (length bytes / 512)) base (take end bytes) (Ok tt) v'
    handed-more handed = subst (λ l. HandsInTurn state does (range_at d first (length bytes / 512)) base l (Ok tt) v') seam (piece_handed p here (hands (Ok tt) handed))

    pub handed-ends : (fault : IoFault) → PieceHands state does v (d, first + done / 512) (next_part bytes done end) (Err fault) v' → HandsInTurn state does (range_at d first (length bytes / 512)) base bytes (Err fault) v'
    handed-ends fault handed =
        subst (λ l. HandsInTurn state does (range_at d first (length bytes / 512)) base l (Err fault) v') all-is (last_handed (drop (end - done) (drop done bytes)) p here (hands (Err fault) handed))

-- all of them are the first so many
pub take-all : (bytes : List ℕ) (done : ℕ) → done ≤ length bytes → length bytes ≤ done → take done bytes ≡ bytes
take-all bytes done within all = let n : done ≡ length bytes = omega (arith, within, all) in ap (λ k. take k bytes) n ∙ take-length bytes

-- ---- a write at once

pub written-bytes : (v v' : StackRecord) (given : ℕ) (fs : List FlightRecord) (d first : ℕ) (bytes : List ℕ) (range : SectorRange) (result : Result Unit PieceFault) → Ok range ≡ write_range v.config d first bytes
    → WritesWhole v (range_at d first (length bytes / 512)) bytes (piece_ending result) v' → EndsWrite (range_at d first (length bytes / 512)) v bytes result v' → BytesWritten (world v given fs) d first bytes result (world v' given fs)
written-bytes v v' given fs d first bytes range result found whole steps =
    let range_is = writable-ok v.config bytes (bytes_range v.config d first (length bytes)) range (sym found) in
    let same : range_at d first (length bytes / 512) ≡ range = bytes_range-ok v.config d first (length bytes) range range_is.0 in
    record {
      range = range_at d first (length bytes / 512);
      admits = sym found ∙ ap Ok (sym same);
      whole = whole;
      steps = steps given fs;
    }
