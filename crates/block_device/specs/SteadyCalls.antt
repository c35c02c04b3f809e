-- What calls mean for the sectors of a steady device.
use Rattle.std.specs.Prelude.{◌≡◌, ◌⊎◌, ℕ, ◌+◌, ◌/◌, ◌<◌, ◌≤◌, Bool, List, [], ◌∷◌, length}
use Rattle.block_device.specs.Call.{Call, Read, Sync, Write}
use Rattle.block_device.specs.Faithful.{HoldsAfter}

-- what a list of calls leaves: a successful read returns the sectors held, a successful write stores its bytes, and no other
-- sector changes
abbrev pub HoldsThrough : Bool → List (List ℕ) → List Call → List (List ℕ) → Type 0
HoldsThrough steady old [] new = new ≡ old
HoldsThrough steady old (call ∷ more) new = (next : List (List ℕ)) × HoldsAfter steady old call next × HoldsThrough steady next more new

-- no call writes that sector
abbrev pub LeavesSector : ℕ → List Call → Type 0
LeavesSector k [] = Unit {0}
LeavesSector k (Read first bytes ok ∷ more) = LeavesSector k more
LeavesSector k (Write first bytes ok ∷ more) = ((k < first) ⊎ (first + length bytes / 512 ≤ k)) × LeavesSector k more
LeavesSector k (Sync ok ∷ more) = LeavesSector k more
