-- Failed allocations.
use Rattle.std.specs.Prelude.{◌≤◌, ℕ}
use Rattle.std.specs.Coded.{Unit-prop}
use Rattle.allocation.specs.declared.seal.Seal.{Seal}

-- An allocation of room for n elements failed. The definition isn't unfoldable, so other crates know it only from a
-- call of this one.
pub IsRefused : ℕ → Type 0
IsRefused n = Unit {0}

pub IsRefused-prop : (n : ℕ) → IsProp (IsRefused n)
unfolding IsRefused
IsRefused-prop n = Unit-prop

-- the library reported the failure; only the proofs of this crate can name a `Seal`
pub library-refused : (n : ℕ) → Seal → IsRefused n
unfolding IsRefused
library-refused n seal = tt

-- the cause of a fault `NoMemory`: an allocation of room for at most n elements failed
abbrev pub IsOutOfMemory : ℕ → Type 0
IsOutOfMemory n = (asked : ℕ) × (asked ≤ n) × IsRefused asked
