use Rattle.std.specs.Prelude.{option_map}
use Rattle.std.proofs.lemmas.Result.{IfOk-weaker}
use Rattle.serde_json.specs.View.{view}
use Rattle.find_commands.proofs.segments.text_segments.Goals as goal

pub returns : goal.returns
returns c = IfOk-weaker c.known_segments.result _ _ (λ value are. record { value = option_map view c.in_ok-area.area; parsed = c.in_ok-area.ensures; are = are }) c.known_segments.ensures
