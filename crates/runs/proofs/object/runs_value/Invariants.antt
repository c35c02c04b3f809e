use Rattle.std.proofs.Common.{◌≡◌, ◌++◌, map, drop}
use Rattle.serde_json.specs.View.{view}
use Rattle.runs.specs.Objects.{runs_json}
use Rattle.runs.proofs.object.runs_value.Given as goal

-- those so far, and those of which the other lines tell, are all
abbrev pub invariant-lines : goal.invariant-lines
invariant-lines l = map view l.values.items ++ runs_json (drop l.line-index l.lines) ≡ runs_json l.lines
