use Rattle.std.proofs.Common.{◌∙◌, ◌++◌, Option, append-nil, ap, map, sym}
use Rattle.std.proofs.lemmas.Result.{on_ok_weaker}
use Rattle.serde_json.specs.Data.{Data}
use Rattle.serde_json.specs.View.{view}
use Rattle.find_commands.specs.Objects.{segment_items}
use Rattle.find_commands.proofs.segments.add_named.Goals as goal

pub returns-in-Some : goal.returns-in-Some
returns-in-Some c =
    on_ok_weaker c.add_crypt.result (λ added. added ∙ ap (λ (segment : Option Data). map view c.args.values.now.items ++ segment_items c.args.id segment) c.in-Some.ensures) c.add_crypt.ensures

pub returns-in-None : goal.returns-in-None
returns-in-None c = sym (append-nil _) ∙ ap (λ (segment : Option Data). map view c.args.values.now.items ++ segment_items c.args.id segment) c.in-None.ensures
