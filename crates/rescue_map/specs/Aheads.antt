-- The sectors of a map that remain to be processed.
use Rattle.std.specs.Prelude.{Bool, List, ◌++◌, replicate}
use Rattle.rescue_map.specs.declared.ahead.Ahead.{Ahead}
use Rattle.rescue_map.specs.declared.status.Status.{Status}
use Rattle.rescue_map.specs.Maps.{losts, marks}
use Rattle.rescue_map.specs.Stages.{run_status, statuses}

-- for each remaining sector, whether it was recovered
abbrev pub marks_ahead : Ahead → List Bool
marks_ahead a = replicate a.first.count a.first.had ++ marks a.rest.now

-- and whether a read found it bad
abbrev pub losts_ahead : Ahead → List Bool
losts_ahead a = replicate a.first.count a.first.lost ++ losts a.rest.now

-- and its status
abbrev pub statuses_ahead : Ahead → List Status
statuses_ahead a = replicate a.first.count (run_status a.first) ++ statuses a.rest.now
