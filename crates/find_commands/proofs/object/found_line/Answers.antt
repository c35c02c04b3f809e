use Rattle.std.proofs.Common.{◌∙◌, ap}
use Rattle.std.proofs.lemmas.Result.{IfOk-weaker}
use Rattle.program_io.specs.JsonLines.{json_line}
use Rattle.serde_json.specs.Written.{has_float}
use Rattle.find_commands.proofs.ObjectLemmas.{plain_found}
use Rattle.find_commands.proofs.object.found_line.Goals as goal

pub line_of-requires : goal.line_of-requires
line_of-requires g c =
    let states = c.in_ok-value.ensures.ok in
    ap has_float states.value_is ∙ plain_found g.D.BlockDev.state c.args.device.now c.found_value.new.device states.shown c.args.counts states.finds

pub returns-clause-ok : goal.returns-clause-ok
returns-clause-ok g c =
    let states = c.in_ok-value.ensures.ok in
    IfOk-weaker c.line_of.result _ _ (λ line is. record { shown = states.shown; are = states.are; finds = states.finds; line_is = is ∙ ap json_line states.value_is }) c.line_of.ensures
