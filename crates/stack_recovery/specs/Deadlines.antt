-- When a pass over a mapped device ends.
use Rattle.std.specs.Prelude.{◌≡◌, ◌⊎◌, ℕ, ◌<◌, ◌≤◌, true, Option, Some, None}
use Rattle.stack_recovery.specs.declared.deadline.Deadline.{Deadline}
use Rattle.stack_recovery.specs.declared.way.Way.{Way}
use Rattle.stack_recovery.specs.Ways.{is_backward}

-- a pass that goes on this way may end early before sector `at`: after a sector, or after reads backwards
abbrev pub MayEnd : Option Deadline → Way → ℕ → Type 0
MayEnd None way at = ⊥
MayEnd (Some deadline) way at = (deadline.first < at) ⊎ (is_backward way ≡ true)

-- a pass over so many sectors ended before sector `at`: after the last one, or early
abbrev pub EndsAt : Option Deadline → Way → ℕ → ℕ → Type 0
EndsAt deadline way at sectors = (at ≡ sectors) ⊎ (MayEnd deadline way at × (at ≤ sectors))
