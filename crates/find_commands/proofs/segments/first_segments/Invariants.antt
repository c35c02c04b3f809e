use Rattle.std.proofs.Common.{◌≡◌, map}
use Rattle.serde_json.specs.View.{view}
use Rattle.find_commands.specs.Objects.{segments_to}
use Rattle.find_commands.proofs.segments.first_segments.Given as goal

-- the segments so far
abbrev pub invariant-segments : goal.invariant-segments
invariant-segments l = map view l.values.items ≡ segments_to (view l.area) l.id
