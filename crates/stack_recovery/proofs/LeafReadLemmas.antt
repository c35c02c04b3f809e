-- The calls of a pass: a piece more.
use Rattle.std.proofs.Common.{◌≡◌, ℕ, ◌+◌, Bool, true, List, Ok, Err, add-zero, subst, sym}
use Rattle.block_device.specs.Call.{Call, Write}
use Rattle.block_device.specs.Device.{Device}
use Rattle.stack_meaning.specs.declared.fault.IoFault.{IoFault}
use Rattle.stack_engine.specs.Pieces.{PieceGives}
use Rattle.stack_engine.specs.Stacks.{StackRecord}
use Rattle.stack_recovery.specs.LeafReads.{Ahead, CopiesLeaves, piece_copied, piece_failed}

module _ {D O : Type 0} (state : D → Device) (does : D → Call → D → Type 0) (Did : O → Call → O → Type 0) (marks : List Bool) (d : ℕ) (w : StackRecord) (o : O) (at : ℕ) (v v' : StackRecord) (p : O) (a : Ahead) (h : CopiesLeaves state does Did marks d w o at a v p) (n : ℕ) where
  -- the piece was read and written, and its length is stated otherwise
  pub copies-had : (m : ℕ) (bytes : List ℕ) (p' : O) → n ≡ m → PieceGives state does v (d, at) n (Ok bytes) v' → Did p (Write at bytes true) p' → CopiesLeaves state does Did marks d w o (at + m) a v' p'
  copies-had m bytes p' is given written = subst (λ (k : ℕ). CopiesLeaves state does Did marks d w o (at + k) a v' p') is (piece_copied n bytes h given written)

  -- its read failed, and its sectors are read again
  pub copies-again : (fault : IoFault) → PieceGives state does v (d, at) n (Err fault) v' → CopiesLeaves state does Did marks d w o at a v' p
  copies-again fault given = subst (λ (k : ℕ). CopiesLeaves state does Did marks d w o k a v' p) (add-zero at) (piece_failed 0 n 0 fault h (subst (λ (k : ℕ). PieceGives state does v (d, k) n (Err fault) v') (sym (add-zero at)) given))

  -- its read failed, and the pass goes on further on
  pub copies-failed : (further : ℕ) (fault : IoFault) → PieceGives state does v (d, at) n (Err fault) v' → CopiesLeaves state does Did marks d w o (at + further) a v' p
  copies-failed further fault given = piece_failed 0 n further fault h (subst (λ (k : ℕ). PieceGives state does v (d, k) n (Err fault) v') (sym (add-zero at)) given)
