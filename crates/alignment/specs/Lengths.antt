-- How many sectors the pieces of a transfer have.
use Rattle.std.specs.Prelude.{◌≡◌, ℕ, zero, suc, ◌+◌, ◌≤◌, Bool, nat_le, if◌then◌else◌}
use Rattle.stack_rules.specs.Names.{mapped}
use Rattle.stack_rules.specs.Records.{Configuration}
use Rattle.alignment.specs.Ends.{ends_units}

-- of n sectors from the first on, as many as there are up to the last one that ends what the test says; 0 if none does
unfoldable pub last_end : (ℕ → Bool) → ℕ → ℕ → ℕ
last_end ends first zero = 0
last_end ends first (suc n) = if ends (first + n) then suc n else last_end ends first n

-- that many, or the most if there is none
abbrev pub or_most : ℕ → ℕ → ℕ
or_most most zero = most
or_most most (suc n) = suc n

-- how many sectors the next piece has, of the rest of a transfer from sector first of device d on
abbrev pub aligned_len : Configuration → ℕ → ℕ → ℕ → ℕ → ℕ
aligned_len c d first rest most = if nat_le rest most then rest else or_most most (last_end (ends_units c (mapped d)) first most)

-- a piece of n sectors, and within which bounds they are
pub record IsAlignedLen (c : Configuration) (d first rest most n : ℕ) : Type 0 where
  pub value : n ≡ aligned_len c d first rest most
  pub some : 1 ≤ n
  pub inside : n ≤ rest
  pub few : n ≤ most
