use Rattle.std.proofs.Common.{◌∙◌, Some, ap}
use Rattle.stack_commands.specs.EndingParts.{parts_after}
use Rattle.stack_commands.proofs.ending_parts.parts_in.Goals as goal

pub returns-in-Some : goal.returns-in-Some
returns-in-Some c = ap Some c.parts_from.ensures ∙ ap (parts_after c.args.kind.now c.args.rest.now) c.in-Some.ensures

pub returns-in-None : goal.returns-in-None
returns-in-None c = c.bare_parts.ensures ∙ ap (parts_after c.args.kind.now c.args.rest.now) c.in-None.ensures
