-- One piece of a read at once after those before it.
use Rattle.std.proofs.Common.{◌≡◌, ◌≤◌, ℕ, ◌+◌, ◌-◌, ◌*◌, ◌/◌, ◌%◌, List, ◌++◌, length, take, drop, refl, ap, ◌∙◌, subst, arith, Result, Ok, Err}
use Rattle.std.proofs.lemmas.List.{length-drop, length-take-le}
use Rattle.block_device.specs.Call.{Call}
use Rattle.block_device.specs.Device.{Device}
use Rattle.stack_meaning.specs.declared.fault.IoFault.{IoFault}
use Rattle.stack_lines.specs.Budgets.{ReadsAtMost}
use Rattle.stack_engine.specs.Bytes.{EachBytes}
use Rattle.stack_engine.specs.Pieces.{PieceGives, piece_budget}
use Rattle.stack_engine.specs.Stacks.{StackRecord}
use Rattle.request_queue.specs.declared.fault.PieceFault.{PieceFault}
use Rattle.request_queue.specs.AtOnce.{EndsRead, IsNextPiece, PieceFails, PieceRead, ReadsInTurn, a_read, last_read}
use Rattle.request_queue.specs.PieceCalls.{GivesInTurn, last_given, piece_given}
use Rattle.request_queue.specs.Ranges.{most_read, range_at}

-- so many bytes were read of a slice, the next piece has n, and all of it is to be read
module _ (base v v' : StackRecord) (d first all : ℕ) (out : List ℕ) (done n : ℕ) (even : done % 512 ≡ 0) (whole : all % 512 ≡ 0) (fits : length out ≡ all) (inside : done + n ≤ length out) where
  -- the bytes of the slice that the piece fills
  abbrev pub room_of_piece : List ℕ
  room_of_piece = take (done + n - done) (drop done out)

  front-length : length (take done out) ≡ done
  front-length = length-take-le done out (omega (arith, inside))

  room-length : length room_of_piece ≡ n
  room-length = let same : done + n - done ≡ n = omega arith in length-take-le (done + n - done) (drop done out) (omega (arith, length-drop done out, inside)) ∙ same

  module _ (next : IsNextPiece most_read v.config d (first + done / 512) (length out - done) n) (p : ReadsInTurn (range_at d first (all / 512)) base (Ok (take done out)) v) where
    a-piece : (answer : Result (List ℕ) IoFault) → EachBytes v d (first + done / 512) (length room_of_piece / 512) answer v' → ReadsAtMost (piece_budget v d (first + done / 512) (length room_of_piece / 512)) v.leaves v'.leaves
        → PieceRead v d (first + length (take done out) / 512) (512 * (all / 512) - length (take done out)) answer v'
    a-piece answer each spent =
        let at : first + done / 512 ≡ first + length (take done out) / 512 = omega (arith, front-length) in
        let left : length out - done ≡ 512 * (all / 512) - length (take done out) = omega (arith, front-length, fits, whole) in
        let count : length room_of_piece / 512 ≡ n / 512 = ap (λ (k : ℕ). k / 512) room-length in
        subst (λ k. PieceRead v d k (512 * (all / 512) - length (take done out)) answer v') at
        (subst (λ m. PieceRead v d (first + done / 512) m answer v') left
        (record {
          size = n;
          next = next;
          each = subst (λ k. EachBytes v d (first + done / 512) k answer v') count each;
          spent = subst (λ k. ReadsAtMost (piece_budget v d (first + done / 512) k) v.leaves v'.leaves) count spent;
        }))

    pub turn-more : (part bytes : List ℕ) → take done out ++ part ≡ bytes → EachBytes v d (first + done / 512) (length room_of_piece / 512) (Ok part) v'
        → ReadsAtMost (piece_budget v d (first + done / 512) (length room_of_piece / 512)) v.leaves v'.leaves → ReadsInTurn (range_at d first (all / 512)) base (Ok bytes) v'
    turn-more part bytes is each spent = subst (λ l. ReadsInTurn (range_at d first (all / 512)) base (Ok l) v') is (a_read p (a-piece (Ok part) each spent))

    -- the piece that fails
    abbrev pub failed_piece : IoFault → PieceFault
    failed_piece fault = record { first = first + done / 512; count = (done + n - done) / 512; fault = fault }

    fails : (fault : IoFault) → EachBytes v d (first + done / 512) (length room_of_piece / 512) (Err fault) v'
        → ReadsAtMost (piece_budget v d (first + done / 512) (length room_of_piece / 512)) v.leaves v'.leaves → PieceFails v (range_at d first (all / 512)) (take done out) (failed_piece fault) v'
    fails fault each spent =
        let left : length out - done ≡ 512 * (all / 512) - length (take done out) = omega (arith, front-length, fits, whole) in
        let size : n ≡ 512 * ((done + n - done) / 512) = omega (arith, next.whole) in
        let count : length room_of_piece / 512 ≡ (done + n - done) / 512 = omega (arith, room-length) in
        record {
          first = omega (arith, front-length);
          next = subst (λ m. IsNextPiece most_read v.config d (first + done / 512) (512 * (all / 512) - length (take done out)) m) size (subst (λ m. IsNextPiece most_read v.config d (first + done / 512) m n) left next);
          each = subst (λ k. EachBytes v d (first + done / 512) k (Err fault) v') count each;
          spent = subst (λ k. ReadsAtMost (piece_budget v d (first + done / 512) k) v.leaves v'.leaves) count spent;
        }

    pub turn-ends : (fault : IoFault) → EachBytes v d (first + done / 512) (length room_of_piece / 512) (Err fault) v'
        → ReadsAtMost (piece_budget v d (first + done / 512) (length room_of_piece / 512)) v.leaves v'.leaves → EndsRead (range_at d first (all / 512)) base (Err (failed_piece fault)) v'
    turn-ends fault each spent = (last_read (failed_piece fault) p (fails fault each spent), refl)

  -- the calls of the piece
  module _ {D : Type 0} {state : D → Device} {does : D → Call → D → Type 0} (next : IsNextPiece most_read v.config d (first + done / 512) (length out - done) n) (p : GivesInTurn state does (range_at d first (all / 512)) base (Ok (take done out)) v) where
    here : IsNextPiece most_read v.config d (first + length (take done out) / 512) (512 * (all / 512) - length (take done out)) n
    here =
        let at : first + done / 512 ≡ first + length (take done out) / 512 = omega (arith, front-length) in
        let left : length out - done ≡ 512 * (all / 512) - length (take done out) = omega (arith, front-length, fits, whole) in
        subst (λ m. IsNextPiece most_read v.config d (first + length (take done out) / 512) m n) left (subst (λ k. IsNextPiece most_read v.config d k (length out - done) n) at next)

    gives : (answer : Result (List ℕ) IoFault) → PieceGives state does v (d, first + done / 512) (length room_of_piece / 512) answer v' → PieceGives state does v (d, first + length (take done out) / 512) (n / 512) answer v'
    gives answer given =
        let at : first + done / 512 ≡ first + length (take done out) / 512 = omega (arith, front-length) in
        let count : length room_of_piece / 512 ≡ n / 512 = ap (λ (k : ℕ). k / 512) room-length in
        subst (λ k. PieceGives state does v (d, k) (n / 512) answer v') at (subst (λ k. PieceGives state does v (d, first + done / 512) k answer v') count given)

    pub given-more : (part bytes : List ℕ) → take done out ++ part ≡ bytes → PieceGives state does v (d, first + done / 512) (length room_of_piece / 512) (Ok part) v' → GivesInTurn state does (range_at d first (all / 512)) base (Ok bytes) v'
    given-more part bytes is given = subst (λ l. GivesInTurn state does (range_at d first (all / 512)) base (Ok l) v') is (piece_given n p here (gives (Ok part) given))

    pub given-ends : (fault : IoFault) → PieceGives state does v (d, first + done / 512) (length room_of_piece / 512) (Err fault) v' → GivesInTurn state does (range_at d first (all / 512)) base (Err fault) v'
    given-ends fault given = last_given n p here (gives (Err fault) given)
