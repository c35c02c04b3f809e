use Rattle.std.proofs.Common.{ap, ◌∙◌}
use Rattle.serde_json.specs.Written.{has_float}
use Rattle.update_commands.proofs.CountLemmas.{plain_counts}
use Rattle.update_commands.proofs.counts.counts_line.Goals as goal

pub line_of-requires : goal.line_of-requires
line_of-requires c = ap has_float c.in_ok-value.ensures ∙ plain_counts c.args.counts.now
