-- The size of a failed allocation.
use Rattle.std.specs.Prelude.{◌≡◌, ℕ, Option, Some, None}
use Rattle.allocation.specs.declared.out_of_memory.OutOfMemory.{OutOfMemory}
use Rattle.allocation.specs.Refusal.{IsRefused}

abbrev pub asked : OutOfMemory → ℕ
asked e = e.asked

-- the error is that of an allocation of room for n elements
abbrev pub WasRefused : ℕ → OutOfMemory → Type 0
WasRefused n e = (e.asked ≡ n) × IsRefused n

-- the size of the failed allocation that is kept, or 0 if none failed
abbrev pub refused_size : Option OutOfMemory → ℕ
refused_size None = 0
refused_size (Some e) = e.asked
