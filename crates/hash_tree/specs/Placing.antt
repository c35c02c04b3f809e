-- What a device holds after blocks were written to it in the order in which they came, and which of
-- them is the least that differs from what it holds. A device is seen as its blocks by number.
use Rattle.std.specs.Prelude.{◌≡◌, ◌≢◌, ◌<◌, ℕ, List, [], ◌∷◌, min, Option, None, Some, ◌==◌, if◌then◌else◌}
use Rattle.std.specs.List.{All, Contains}
use Rattle.hash_tree.specs.Building.{PlacedRecord}

-- the device after a block was written
abbrev pub put : (ℕ → List ℕ) → PlacedRecord → ℕ → List ℕ
put device p i = if i == p.block then p.bytes else device i

-- the device after these blocks were written, one after the other
unfoldable pub written : (ℕ → List ℕ) → List PlacedRecord → ℕ → List ℕ
written device [] = device
written device (p ∷ ps) = written (put device p) ps

-- block n is one of the blocks, the device holds something else there, and it holds each one with a lesser number
pub record DiffersFirst (device : ℕ → List ℕ) (ps : List PlacedRecord) (n : ℕ) : Type 0 where
  pub bytes : List ℕ
  pub here : Contains ps (record { block = n; bytes = bytes })
  pub differ : device n ≢ bytes
  pub below : All (λ p. p.block < n → device p.block ≡ p.bytes) ps

-- the device holds each of the blocks, or block n is the least that differs
abbrev pub IsLeastDiffering : (ℕ → List ℕ) → List PlacedRecord → Option ℕ → Type 0
IsLeastDiffering device ps None = All (λ p. device p.block ≡ p.bytes) ps
IsLeastDiffering device ps (Some n) = DiffersFirst device ps n

-- the lesser number
abbrev pub lesser : Option ℕ → ℕ → ℕ
lesser None n = n
lesser (Some m) n = min m n
