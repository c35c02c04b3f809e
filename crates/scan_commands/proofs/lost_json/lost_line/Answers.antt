use Rattle.std.proofs.Common.{ap, ◌∙◌}
use Rattle.serde_json.specs.Written.{has_float}
use Rattle.scan_commands.proofs.PlainLemmas.{plain_lost}
use Rattle.scan_commands.proofs.lost_json.lost_line.Goals as goal

pub line_of-requires : goal.line_of-requires
line_of-requires c = ap has_float c.in_ok-value.ensures ∙ plain_lost c.args.runs.now c.args.counts
