use Rattle.std.proofs.Common.{arith, refl}
use Rattle.find_commands.proofs.listing.KeptFindingsFindingList.tell.Goals as goal

pub returns-in-Err-clause-err : goal.returns-in-Err-clause-err
returns-in-Err-clause-err c = (refl, (1, omega arith, c.in-Err.ensures.err.1))
