-- Allocations that were refused.
use Rattle.std.proofs.Common.{ℕ, ◌≤◌, Result, Ok, Err}
use Rattle.std.specs.Prelude.{IfErr, OnErr}
use Rattle.allocation.specs.Asked.{WasRefused}
use Rattle.allocation.specs.Refusal.{IsOutOfMemory}
use Rattle.allocation.specs.declared.out_of_memory.OutOfMemory.{OutOfMemory}

-- one that asked for no more than that
pub refused-within : {A : Type 0} (result : Result A OutOfMemory) (n most : ℕ) → n ≤ most → IfErr result (WasRefused n) → OnErr result (IsOutOfMemory most)
refused-within (Ok x) n most few refused = tt
refused-within (Err e) n most few refused = (n, few, refused.1)

-- what holds of a call that failed is said of how it ended
pub on-err : {A E P : Type 0} (result : Result A E) → P → OnErr result P
on-err (Ok x) p = tt
on-err (Err e) p = p
