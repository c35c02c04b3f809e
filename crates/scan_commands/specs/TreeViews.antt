-- What the program's own values of a tree say.
use Rattle.std.specs.Prelude.{◌≡◌, map, slice_get, Some}
use Rattle.stack_rules.specs.Records.{Configuration}
use Rattle.stack_rules.specs.Lines.{IsLine}
use Rattle.command_line.specs.Bindings.{binding_record}
use Rattle.scan_commands.specs.declared.tree.Bound.{Bound}
use Rattle.scan_commands.specs.declared.tree.LineAt.{LineAt}
use Rattle.scan_commands.specs.Trees as trees

abbrev pub bound : Bound → trees.BoundRecord
bound b = record { config = b.config.now; bindings = map binding_record b.bindings.now }

abbrev pub line_at : LineAt → trees.PlacedLine
line_at at = record { device = at.device.0; number = at.number; last = at.last; line = at.line.now }

-- it is a line of the configuration
abbrev pub IsPlaced : Configuration → trees.PlacedLine → Type 0
IsPlaced c at = IsLine c at.device at.number at.line
