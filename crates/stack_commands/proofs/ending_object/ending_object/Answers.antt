use Rattle.std.proofs.Common.{◌∙◌, Some, ap, sym}
use Rattle.std.specs.Prelude.{option_map}
use Rattle.stack_commands.specs.EndingObjects.{object_line}
use Rattle.stack_commands.proofs.ending_object.ending_object.Goals as goal

pub returns-in-Ok : goal.returns-in-Ok
returns-in-Ok c = ap (option_map object_line) (sym c.in_ok-line.ensures) ∙ ap Some (sym c.in-Ok.ensures)
