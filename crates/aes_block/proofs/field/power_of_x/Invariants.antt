use Rattle.std.proofs.Common.{◌≡◌}
use Rattle.aes_block.specs.Field.{power_of_x}
use Rattle.aes_block.proofs.field.power_of_x.Given as goal

abbrev pub invariant-loop-step : goal.invariant-loop-step
invariant-loop-step l = l.power ≡ power_of_x l._step
