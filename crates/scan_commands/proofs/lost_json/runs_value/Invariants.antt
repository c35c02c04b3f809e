use Rattle.std.proofs.Common.{◌≡◌, map, take}
use Rattle.serde_json.specs.View.{view}
use Rattle.scan_commands.specs.LostJson.{lost_runs_json}
use Rattle.scan_commands.proofs.lost_json.runs_value.Given as goal

-- the runs so far
abbrev pub invariant-runs : goal.invariant-runs
invariant-runs l = map view l.values.items ≡ lost_runs_json (take l.run-index l.runs)
