use Rattle.std.proofs.Common.{ap}
use Rattle.stack_commands.specs.EndingParts.{name_or_all}
use Rattle.stack_commands.proofs.ending_parts.name_and_detail.Goals as goal

pub returns-in-Some : goal.returns-in-Some
returns-in-Some c = ap (name_or_all c.args.text.now) c.in-Some.ensures

pub returns-in-None : goal.returns-in-None
returns-in-None c = ap (name_or_all c.args.text.now) c.in-None.ensures
