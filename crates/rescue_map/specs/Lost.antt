-- The sectors that a map doesn't have, as parts of the device.
use Rattle.std.specs.Prelude.{ℕ, ◌+◌, List, [], ◌∷◌, ◌++◌, if◌then◌else◌}
use Rattle.device_adapters.specs.declared.part.Part.{Part}
use Rattle.rescue_map.specs.declared.map.Run.{Run}

-- the sectors of a run that begins at a sector, unless they were recovered
abbrev pub lost_of : ℕ → Run → List Part
lost_of at run = if run.had then [] else record { first = at; count = run.count } ∷ []

-- those of all runs, of which the first begins at that sector
abbrev pub lost_from : ℕ → List Run → List Part
lost_from at [] = []
lost_from at (run ∷ more) = lost_of at run ++ lost_from (at + run.count) more
