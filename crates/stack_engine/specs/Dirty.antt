-- Which leaves are dirty after reads and writes.
use Rattle.std.specs.Prelude.{◌≡◌, ℕ, Bool, true, List, [], ◌∷◌, map, set, Result, if◌then◌else◌}
use Rattle.block_device.specs.Call.{Call}
use Rattle.block_device.specs.CallList.{is_read}
use Rattle.block_device.specs.Device.{Device}
use Rattle.stack_meaning.specs.declared.fault.IoFault.{IoFault}
use Rattle.stack_engine.specs.LeafCalls.{LeafCall}
use Rattle.stack_engine.specs.Pieces.{PieceGives}
use Rattle.stack_engine.specs.Stacks.{StackRecord}
use Rattle.stack_engine.specs.WritePieces.{PieceHands}

-- each leaf, in order
abbrev pub dirty_of : List Device → List Bool
dirty_of leaves = map (λ l. l.dirty) leaves

-- and after calls that are no syncs: also those that were called to write, whether that succeeded or not
abbrev pub dirty_after : List LeafCall → List Bool → List Bool
dirty_after [] dirty = dirty
dirty_after (x ∷ more) dirty = dirty_after more (if is_read x.call then dirty else set dirty x.leaf true)

-- after a piece of a read: those that were before
abbrev pub ReadsKeepDirty : {D : Type 0} → (D → Device) → (D → Call → D → Type 0) → Type 0
ReadsKeepDirty state does = (w w' : StackRecord) (at : ℕ × ℕ) (n : ℕ) (answer : Result (List ℕ) IoFault) → PieceGives state does w at n answer w' → dirty_of w'.leaves ≡ dirty_of w.leaves

-- after a piece of a write: those that were before, and those that it called to write
abbrev pub WritesMakeDirty : {D : Type 0} → (D → Device) → (D → Call → D → Type 0) → Type 0
WritesMakeDirty state does = (w w' : StackRecord) (at : ℕ × ℕ) (bytes : List ℕ) (result : Result Unit IoFault) → (h : PieceHands state does w at bytes result w') → dirty_of w'.leaves ≡ dirty_after h.made.calls (dirty_of w.leaves)
