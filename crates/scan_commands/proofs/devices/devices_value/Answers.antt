use Rattle.std.proofs.Common.{arith}
use Rattle.stack_rules.proofs.lemmas.ValidLineLemmas.{few}
use Rattle.scan_commands.proofs.devices.devices_value.Goals as goal

pub overflow_cast-d : goal.overflow_cast-d
overflow_cast-d c = omega (arith, few c.args.config.now c.count-d-end.ensures.loaded.valid)
