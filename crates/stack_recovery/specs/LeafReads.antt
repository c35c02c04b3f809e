-- The calls of a pass over a mapped device, whatever the devices answer: on the leaves' devices those of the pieces that are read, in
-- order, and no others; on the output device one write for each piece that was read, of the bytes that its calls gave.
use Rattle.std.specs.Prelude.{◌≡◌, ◌⊎◌, ℕ, ◌+◌, ◌-◌, ◌<◌, ◌≤◌, Bool, true, false, List, Result, Ok, Err}
use Rattle.block_device.specs.Call.{Call, Write}
use Rattle.block_device.specs.Device.{Device}
use Rattle.stack_meaning.specs.declared.fault.IoFault.{IoFault}
use Rattle.stack_engine.specs.Pieces.{PieceGives}
use Rattle.stack_engine.specs.Stacks.{StackRecord}
use Rattle.stack_recovery.specs.declared.fault.RecoveryFault.{RecoveryFault}
use Rattle.stack_recovery.specs.Surveys.{AreMarked}

-- sectors from `low` on and before `high` that were copied, ahead of the sector to which a pass has come
pub record Ahead : Type 0 where
  pub low : ℕ
  pub high : ℕ

abbrev pub ahead : ℕ → ℕ → Ahead
ahead low high = record { low = low; high = high }

-- A pass has come to a sector of device d. Each piece is read from the sector to which the pass has come, or from one further on; the next one
-- further on may end where that one begins. What was read is written to the same offset. After a piece from the sector to which it has
-- come the pass goes on after the piece; after a failed read it goes on there or further on. Only past sectors that were read before, or that
-- it has copied, it goes without a call.
pub data CopiesLeaves {D O : Type 0} (state : D → Device) (does : D → Call → D → Type 0) (Did : O → Call → O → Type 0) (marks : List Bool) (d : ℕ) (w : StackRecord) (o : O) : ℕ → Ahead → StackRecord → O → Type 0 where
  no_piece : CopiesLeaves state does Did marks d w o 0 (ahead 0 0) w o
  piece_copied : {at : ℕ} {a : Ahead} {v w' : StackRecord} {p o' : O} (n : ℕ) (bytes : List ℕ) → CopiesLeaves state does Did marks d w o at a v p → PieceGives state does v (d, at) n (Ok bytes) w' → Did p (Write at bytes true) o'
      → CopiesLeaves state does Did marks d w o (at + n) a w' o'
  piece_failed : {at : ℕ} {a : Ahead} {v w' : StackRecord} {p : O} (behind n further : ℕ) (fault : IoFault) → CopiesLeaves state does Did marks d w o at a v p → PieceGives state does v (d, at + behind) n (Err fault) w'
      → CopiesLeaves state does Did marks d w o (at + further) a w' p
  piece_behind : {at : ℕ} {a : Ahead} {v w' : StackRecord} {p o' : O} (first high : ℕ) (bytes : List ℕ) → CopiesLeaves state does Did marks d w o at a v p → at ≤ first → first < high → PieceGives state does v (d, first) (high - first) (Ok bytes) w' → Did p (Write first bytes true) o'
      → CopiesLeaves state does Did marks d w o at (ahead first high) w' o'
  piece_further : {at low high : ℕ} {v w' : StackRecord} {p o' : O} (first : ℕ) (bytes : List ℕ) → CopiesLeaves state does Did marks d w o at (ahead low high) v p → at ≤ first → first < low → PieceGives state does v (d, first) (low - first) (Ok bytes) w' → Did p (Write first bytes true) o'
      → CopiesLeaves state does Did marks d w o at (ahead first high) w' o'
  sectors_copied : {low high : ℕ} {v : StackRecord} {p : O} → CopiesLeaves state does Did marks d w o low (ahead low high) v p → CopiesLeaves state does Did marks d w o high (ahead low high) v p
  sectors_had : {at : ℕ} {a : Ahead} {v : StackRecord} {p : O} (n : ℕ) → CopiesLeaves state does Did marks d w o at a v p → AreMarked marks at n true → CopiesLeaves state does Did marks d w o (at + n) a v p

-- the last piece was read, and then nothing was called, or its write failed
pub record IsReadUnwritten {D O : Type 0} (state : D → Device) (does : D → Call → D → Type 0) (Did : O → Call → O → Type 0) (marks : List Bool) (d : ℕ) (w : StackRecord) (o : O) (w' : StackRecord) (o' : O) : Type 0 where
  pub at : ℕ
  pub copied : Ahead
  pub left : StackRecord
  pub out : O
  pub first : ℕ
  pub after : at ≤ first
  pub count : ℕ
  pub bytes : List ℕ
  pub so_far : CopiesLeaves state does Did marks d w o at copied left out
  pub given : PieceGives state does left (d, first) count (Ok bytes) w'
  pub rest : (o' ≡ out) ⊎ Did out (Write first bytes false) o'

-- all calls of a pass that ended early
abbrev pub EndsCopying : {D O : Type 0} → (D → Device) → (D → Call → D → Type 0) → (O → Call → O → Type 0) → List Bool → ℕ → StackRecord → O → StackRecord → O → Type 0
EndsCopying state does Did marks d w o w' o' = ((at : ℕ) × (a : Ahead) × CopiesLeaves state does Did marks d w o at a w' o') ⊎ IsReadUnwritten state does Did marks d w o w' o'

-- all calls of a pass, up to the sector that its result gives
abbrev pub CopiesOver : {D O A : Type 0} → (D → Device) → (D → Call → D → Type 0) → (O → Call → O → Type 0) → List Bool → ℕ → StackRecord → O → StackRecord → O → Result A RecoveryFault → (A → ℕ) → Type 0
CopiesOver state does Did marks d w o w' o' (Ok x) end = (a : Ahead) × CopiesLeaves state does Did marks d w o (end x) a w' o'
CopiesOver state does Did marks d w o w' o' (Err fault) end = EndsCopying state does Did marks d w o w' o'
