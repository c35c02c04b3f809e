-- The status of bytes in a map file.
use Rattle.std.specs.Prelude.{ℕ, Bool, false, true, nat_le, ◌==◌, codes, Option, Some, None, if◌then◌else◌}
use Rattle.dm_table.specs.Words.{Word}
use Rattle.rescue_map.specs.declared.status.Status.{Status}
use Rattle.rescue_map.specs.declared.status.Status.TheVariants.{Bad, Recovered, Unscraped, Untried, Untrimmed}

abbrev pub is_recovered : Status → Bool
is_recovered Recovered = true
is_recovered other = false

abbrev pub is_bad : Status → Bool
is_bad Bad = true
is_bad other = false

-- from the least advanced one on
abbrev pub rank : Status → ℕ
rank Untried = 0
rank Untrimmed = 1
rank Unscraped = 2
rank Bad = 3
rank Recovered = 4

-- whether two are the same
abbrev pub is_same : Status → Status → Bool
is_same a b = rank a == rank b

-- the less advanced of two
abbrev pub least : Status → Status → Status
least a b = if nat_le (rank a) (rank b) then a else b

abbrev pub letter : Status → Word
letter Untried = codes "?"
letter Untrimmed = codes "*"
letter Unscraped = codes "/"
letter Bad = codes "-"
letter Recovered = codes "+"

-- the status with that letter
abbrev pub status_named : ℕ → Option Status
status_named b =
    if b == 43 then Some Recovered
    else if b == 45 then Some Bad
    else if b == 47 then Some Unscraped
    else if b == 42 then Some Untrimmed
    else if b == 63 then Some Untried
    else None
