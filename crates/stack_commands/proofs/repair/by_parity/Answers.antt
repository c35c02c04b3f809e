use Rattle.std.proofs.Common.{inr}
use Rattle.stack_commands.proofs.repair.by_parity.Goals as goal

pub returns-in-Err-clause-err : goal.returns-in-Err-clause-err
returns-in-Err-clause-err g c = inr (c.in-Err.fault, (c.parity_fault.ensures, c.in-Err.ensures.err))
