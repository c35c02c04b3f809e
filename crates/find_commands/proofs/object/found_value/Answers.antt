use Rattle.std.proofs.Common.{◌∙◌, List, ap}
use Rattle.std.proofs.lemmas.Result.{IfOk-weaker}
use Rattle.serde_json.specs.Data.{Data, array}
use Rattle.serde_json.specs.View.{items_of}
use Rattle.find_commands.specs.Objects.{counted_json}
use Rattle.find_commands.proofs.object.found_value.Goals as goal

pub returns-clause-ok : goal.returns-clause-ok
returns-clause-ok g c =
    let states = c.in_ok-values.ensures.ok in
    IfOk-weaker c.counted_value.result _ _
    (λ value is. record {
      shown = states.shown;
      are = states.are;
      finds = states.finds;
      value_is = is ∙ ap (λ (found : Data). counted_json found c.args.counts) (c.array_value.ensures ∙ ap (λ (values : List Data). array (items_of values)) states.values_are);
    })
    c.counted_value.ensures
