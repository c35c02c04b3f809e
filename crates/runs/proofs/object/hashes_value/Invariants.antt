use Rattle.std.proofs.Common.{◌≡◌, ◌++◌, map, drop}
use Rattle.serde_json.specs.View.{view}
use Rattle.runs.specs.Objects.{hashes_json}
use Rattle.runs.proofs.object.hashes_value.Given as goal

-- those so far, and those of which the other lines tell, are all
abbrev pub invariant-lines : goal.invariant-lines
invariant-lines l = map view l.values.items ++ hashes_json (drop l.line-index l.lines) ≡ hashes_json l.lines
