use Rattle.std.proofs.Common.{◌∙◌, Bor, ap}
use Rattle.std.specs.Prelude.{option_map}
use Rattle.std.specs.Option.{option_and_then}
use Rattle.serde_json.specs.Find.{get}
use Rattle.serde_json.specs.View.{view}
use Rattle.serde_json.specs.declared.value.Value.{Value}
use Rattle.find_commands.proofs.luks.segment_at.Goals as goal

pub returns-in_err-segments : goal.returns-in_err-segments
returns-in_err-segments c = ap (option_map (λ (v : Bor Value). view v.now)) c.from_residual.ensures ∙ ap (option_and_then (get c.args.name.now)) c.in_err-segments.ensures

pub returns : goal.returns
returns c = c.get.ensures ∙ ap (option_and_then (get c.args.name.now)) c.in_ok-segments.ensures
