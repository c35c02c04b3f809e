use Rattle.std.proofs.Common.{ap, ◌∙◌}
use Rattle.serde_json.specs.Written.{has_float}
use Rattle.verity_commands.proofs.ObjectLemmas.{plain_checked}
use Rattle.verity_commands.proofs.checked_object.checked_line.Goals as goal

pub line_of-requires : goal.line_of-requires
line_of-requires c = ap has_float c.in-Ok.ensures ∙ plain_checked c.args.lines.now c.args.totals
