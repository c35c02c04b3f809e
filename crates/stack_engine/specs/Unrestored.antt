-- Reads that restore no block.
use Rattle.std.specs.Prelude.{◌≡◌, ℕ, List, Result}
use Rattle.block_device.specs.Call.{Call}
use Rattle.block_device.specs.Device.{Device}
use Rattle.stack_meaning.specs.declared.fault.IoFault.{IoFault}
pub use Rattle.stack_engine.specs.Healing.{HasNoParity}
use Rattle.stack_engine.specs.Pieces.{PieceGives}
use Rattle.stack_engine.specs.Stacks.{StackRecord}

-- if no `verity` line has parity, a piece of a read restores none
abbrev pub NoneRestoredWithoutParity : {D : Type 0} → (D → Device) → (D → Call → D → Type 0) → Type 0
NoneRestoredWithoutParity state does = (w w' : StackRecord) (at : ℕ × ℕ) (n : ℕ) (answer : Result (List ℕ) IoFault) → HasNoParity w.config → PieceGives state does w at n answer w' → w'.restored ≡ w.restored
