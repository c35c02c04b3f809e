use Rattle.std.proofs.Common.{◌∙◌, ◌++◌, ℕ, List, ap, map}
use Rattle.std.proofs.lemmas.Result.{on_ok_weaker}
use Rattle.serde_json.specs.View.{view}
use Rattle.find_commands.specs.Luks.{segment_at}
use Rattle.find_commands.specs.Objects.{segment_items}
use Rattle.find_commands.proofs.segments.add_segment_at.Goals as goal

pub returns : goal.returns
returns c =
    on_ok_weaker c.add_named.result
    (λ added. added ∙ ap (λ (name : List ℕ). map view c.args.values.now.items ++ segment_items c.args.id (segment_at name (view c.args.area.now))) (c.as_str.ensures.value ∙ c.in_ok-name.ensures.ok))
    c.add_named.ensures
