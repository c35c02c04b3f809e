-- A map of a device's lost sectors, after the lines of the lost runs.
use Rattle.std.specs.Prelude.{ℕ, Bool, List, ◌++◌, codes, if◌then◌else◌}
use Rattle.std.specs.List.{list_any}
use Rattle.block_device.specs.Device.{capped}
use Rattle.charts.specs.Charts.{Marking, chart_text, is_touched}
use Rattle.stack_recovery.specs.declared.recovery.Counts.{Counts}
use Rattle.stack_recovery.specs.LostRuns.{LostRun}
use Rattle.stack_recovery.specs.Recoveries.{counted_sectors}
use Rattle.stack_recovery.specs.Texts.{lost_text}

-- one of `width` sectors from `at` on is in the run
abbrev pub touches : ℕ → ℕ → LostRun → Bool
touches at width run = is_touched at width run.first run.count

-- one of them is lost
abbrev pub is_lost : List LostRun → ℕ → ℕ → Bool
is_lost runs at width = list_any (touches at width) runs

-- `x` if one of them is lost, and else `.`
abbrev pub lost_mark : List LostRun → Marking
lost_mark runs at width = if is_lost runs at width then codes "x" else codes "."

-- a line for each lost run, and the map of all sectors
abbrev pub charted_text : List LostRun → Counts → List ℕ
charted_text runs counts = lost_text runs ++ chart_text (lost_mark runs) (capped (counted_sectors counts))
