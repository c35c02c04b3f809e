use Rattle.std.proofs.Common.{arith}
use Rattle.stack_config.proofs.config.Config.depth.Goals as goal

pub overflow_cast-result : goal.overflow_cast-result
overflow_cast-result c = record { fits = omega (arith, c.device_facts.ensures.depth.1) }
