-- The room of a name by a number.
use Rattle.std.proofs.Common.{◌≡◌, ◌+◌, ◌++◌, ◌≤◌, ℕ, List, ap, codes, length, length-append, refl, arith}
use Rattle.dm_table.specs.Names.{most_name}
use Rattle.partition_table.specs.Labels.{name_room}

-- `p` and at most 40 digits
pub room-digits : (asked : ℕ) (digits : List ℕ) → asked ≡ length (codes "p") + length digits → length digits ≤ 40 → asked ≤ name_room
room-digits asked digits is short = let one : length (codes "p") ≡ 1 = refl in omega (arith, one, is, short)

-- such a name is no longer than any name may be
pub length-digits : (name digits : List ℕ) → name ≡ codes "p" ++ digits → length digits ≤ 40 → length name ≤ most_name
length-digits name digits is short = let one : length (codes "p") ≡ 1 = refl in omega (arith, ap (length {A = ℕ}) is, length-append (codes "p") digits, one, short)
