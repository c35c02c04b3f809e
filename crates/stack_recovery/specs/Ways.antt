-- How far a pass has read a run backwards.
use Rattle.std.specs.Prelude.{ℕ, ◌==◌, Bool, true, false}
use Rattle.stack_recovery.specs.PassPieces.{Scanned, way_kept}
use Rattle.stack_recovery.specs.declared.way.Way.{Way}
use Rattle.stack_recovery.specs.declared.way.Way.TheVariants.{Backward, Forward}

-- whether it reads the next sectors
abbrev pub is_forward : Way → Bool
is_forward Forward = true
is_forward other = false

-- whether it has read some sectors of the run that begins there
abbrev pub is_backward : Way → Bool
is_backward (Backward low end) = true
is_backward other = false

-- whether it has copied the rest of the run from sector `at` on
abbrev pub is_copied : Way → ℕ → Bool
is_copied (Backward low end) at = low == at
is_copied other at = false

-- the sector before which it reads backwards, in a run that ends at `end`
abbrev pub low_of : Way → ℕ → ℕ
low_of (Backward low top) end = low
low_of other end = end

-- the way after sectors that were read before the pass, or backwards by it
abbrev pub way_past : Scanned → Way → ℕ → Way
way_past scan (Backward low end) at = Forward
way_past scan other at = way_kept scan at
