use Rattle.std.proofs.Common.{◌≡◌, length}
use Rattle.image_pin.specs.Fields.{no_fields}
use Rattle.image_pin.specs.PinTexts.{rest_lines, take_lines}
use Rattle.image_pin.proofs.read.take_lines.Given as goal

abbrev pub invariant-lines : goal.invariant-lines
invariant-lines l = take_lines no_fields (rest_lines l.lines) ≡ take_lines l.fields (rest_lines l.rest)

abbrev pub decreases-lines : goal.decreases-lines
decreases-lines l = length (rest_lines l.rest)
