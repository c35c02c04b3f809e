-- What is before a first byte.
use Rattle.std.proofs.Common.{◌≡◌, ◌≤◌, ◌∙◌, ℕ, Bool, true, false, List, length, take, nat_lt, refl, sym, arith}
use Rattle.std.specs.Prelude.{position, unwrap_or}
use Rattle.std.specs.List.{before_first, position_or_len}
use Rattle.std.proofs.lemmas.Bool.Decides.{nat_tests}
use Rattle.std.proofs.lemmas.List.{take_all}

-- a list up to the first place that passes, found or not
pub take-position : (p : ℕ → Bool) (xs : List ℕ) → take (unwrap_or (position p xs) (length xs)) xs ≡ before_first p xs
take-position p xs = found (nat_lt (position_or_len p xs) (length xs)) refl
  where
    found : (b : Bool) → nat_lt (position_or_len p xs) (length xs) ≡ b → take (unwrap_or (position p xs) (length xs)) xs ≡ before_first p xs
    found true h = rw h refl
    found false h = let past : length xs ≤ position_or_len p xs = grind (arith, nat_tests) in rw h (take_all (length xs) xs (omega arith) ∙ sym (take_all (position_or_len p xs) xs past))
