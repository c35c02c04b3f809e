use Rattle.std.proofs.Common.{map, take}
use Rattle.serde_json.specs.View.{view}
use Rattle.find_commands.specs.Areas.{StatesFindings}
use Rattle.find_commands.proofs.object.finding_values.Given as goal

-- the findings so far
abbrev pub invariant-findings : goal.invariant-findings
invariant-findings g l = StatesFindings g.D.BlockDev.state l.fn.device (take l.finding-index l.findings) l.device (map view l.values.items)
