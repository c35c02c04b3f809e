-- Calls on the devices of leaves.
use Rattle.std.specs.Prelude.{◌≡◌, ◌<◌, ℕ, IsTrue, List, [], ◌∷◌, length, map, set, Result, Ok, Err}
use Rattle.std.specs.List.{slice_index_or}
use Rattle.block_device.specs.Call.{Call}
use Rattle.block_device.specs.CallList.{has_succeeded}
use Rattle.block_device.specs.Device.{Device}

-- One call on the device of leaf i, and none on another: what leads from these devices to those.
pub record IsLeafCall {D : Type 0} (does : D → Call → D → Type 0) (i : ℕ) (old : List D) (call : Call) (new : List D) : Type 0 where
  pub before : D
  pub after : D
  pub there : i < length old
  pub is : (d : D) → slice_index_or old i d ≡ before
  pub made : does before call after
  pub leaves : new ≡ set old i after

-- a call on the device of a leaf
pub record LeafCall : Type 0 where
  pub leaf : ℕ
  pub call : Call

-- these calls, in this order and no others, lead from some devices to others
abbrev pub LeafCalls : {D : Type 0} → (D → Call → D → Type 0) → List D → List LeafCall → List D → Type 0
LeafCalls does old [] new = new ≡ old
LeafCalls {D = D} does old (x ∷ more) new = (next : List D) × IsLeafCall does x.leaf old x.call next × LeafCalls does next more new

-- calls of which that holds, in this order and no others, lead from some devices to others
pub record MakesCalls {D : Type 0} (does : D → Call → D → Type 0) (Are : List LeafCall → Type 0) (old new : List D) : Type 0 where
  pub calls : List LeafCall
  pub are : Are calls
  pub made : LeafCalls does old calls new

-- Calls on devices of which only the records are known: some devices have the old records, and the calls lead from them to
-- devices that have the new records.
pub record ServesCalls {D : Type 0} (state : D → Device) (does : D → Call → D → Type 0) (Are : List LeafCall → Type 0) (old new : List Device) : Type 0 where
  pub before : List D
  pub after : List D
  pub was : map state before ≡ old
  pub is : map state after ≡ new
  pub made : MakesCalls does Are before after

-- all of the calls succeeded; or all of them but the last one, which may have failed
abbrev pub AllLeafCallsSucceeded : List LeafCall → Type 0
AllLeafCallsSucceeded [] = Unit {0}
AllLeafCallsSucceeded (x ∷ more) = IsTrue (has_succeeded x.call) × AllLeafCallsSucceeded more

abbrev pub NoneAfterFailure : List LeafCall → Type 0
NoneAfterFailure [] = Unit {0}
NoneAfterFailure (x ∷ []) = Unit {0}
NoneAfterFailure (x ∷ (y ∷ more)) = IsTrue (has_succeeded x.call) × NoneAfterFailure (y ∷ more)

-- by an answer
abbrev pub EndAtFailure : {A B : Type 0} → Result A B → List LeafCall → Type 0
EndAtFailure (Ok x) calls = AllLeafCallsSucceeded calls
EndAtFailure (Err fault) calls = NoneAfterFailure calls
