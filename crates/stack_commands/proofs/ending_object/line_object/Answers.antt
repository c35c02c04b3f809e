use Rattle.std.proofs.Common.{ap, ◌∙◌}
use Rattle.serde_json.specs.Written.{has_float}
use Rattle.stack_commands.specs.EndingParts.{fault_parts}
use Rattle.stack_commands.proofs.EndingObjectLemmas.{plain_ending}
use Rattle.stack_commands.proofs.ending_object.line_object.Goals as goal

pub line_of-requires : goal.line_of-requires
line_of-requires c = ap has_float c.in_ok-value.ensures ∙ plain_ending c.args.line.now (fault_parts c.args.line.now)
