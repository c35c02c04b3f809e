-- Correction of wrong bytes at unknown positions.
use Rattle.std.specs.Prelude.{◌≡◌, ◌==◌, ℕ, zero, suc, ◌+◌, ◌/◌, ◌≤◌, List, slice_index, if◌then◌else◌}
use Rattle.reed_solomon.specs.Code.{IsCodeword}

-- 1 for two different bytes, and 0 for equal ones
abbrev pub other : ℕ → ℕ → ℕ
other a b = if a == b then 0 else 1

-- at how many of the first n positions two words differ
unfoldable pub differing : List ℕ → List ℕ → ℕ → ℕ
differing v w zero = 0
differing v w (suc n) = differing v w n + other (slice_index v n) (slice_index w n)

-- a codeword that differs from the word at no more than half as many positions as there are parity bytes
pub record IsCorrected (parity : ℕ) (word corrected : List ℕ) : Type 0 where
  pub code : IsCodeword parity corrected
  pub near : differing word corrected 255 ≤ parity / 2
