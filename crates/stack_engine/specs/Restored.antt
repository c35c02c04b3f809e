-- How many blocks were restored by reads.
use Rattle.std.specs.Prelude.{ℕ, ◌+◌, ◌-◌, ◌^◌, nat_lt, if◌then◌else◌, List, Result, Ok, Err}
use Rattle.stack_meaning.specs.declared.fault.IoFault.{IoFault}

-- a count and one more; it stays at the greatest u64
abbrev pub one_more : ℕ → ℕ
one_more n = if nat_lt n (2 ^ 64 - 1) then n + 1 else n

-- after a spare was read: one more if there is one
abbrev pub restored_after : {A : Type 0} → Result A IoFault → ℕ → ℕ
restored_after (Ok x) n = one_more n
restored_after (Err fault) n = n

-- the devices of the leaves, and how many blocks were restored
pub record Served (D : Type 0) : Type 0 where
  pub devices : List D
  pub restored : ℕ

abbrev pub serving : {D : Type 0} → List D → ℕ → Served D
serving devices restored = record { devices = devices; restored = restored }

-- after a spare was read
abbrev pub after_spare : {D A : Type 0} → Result A IoFault → Served D → Served D
after_spare spare s = serving s.devices (restored_after spare s.restored)
