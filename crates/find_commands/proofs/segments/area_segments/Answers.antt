use Rattle.std.proofs.Common.{◌∙◌, ℕ, List, ap, subst}
use Rattle.std.proofs.lemmas.Result.{IfOk-weaker}
use Rattle.partition_table.specs.Labels.{before_zero}
use Rattle.serde_json.specs.View.{view}
use Rattle.find_commands.specs.Areas.{StatesSegments}
use Rattle.find_commands.proofs.segments.area_segments.Goals as goal

pub returns : goal.returns
returns c =
    IfOk-weaker c.text_segments.result _ _
    (λ value states. subst (λ (text : List ℕ). StatesSegments text (view value)) (c.as_slice.ensures.value ∙ c.in_ok-text.ensures ∙ ap before_zero c.deref.ensures.value) states)
    c.text_segments.ensures
