use Rattle.std.proofs.Common.{refl}
use Rattle.std.proofs.KnownBytes.{Appends-nil}
use Rattle.stack_commands.proofs.fault_texts.say_recovering_fault.Goals as goal

-- nothing is written
pub returns-in-Write : goal.returns-in-Write
returns-in-Write g c = rw c.in-Write.is (record { ok = Appends-nil (g.W.Write.contents c.args.writer.now.inner); kept = refl; failed = tt })

pub returns-in-LostAsSaid : goal.returns-in-LostAsSaid
returns-in-LostAsSaid g c = rw c.in-LostAsSaid.is (record { ok = Appends-nil (g.W.Write.contents c.args.writer.now.inner); kept = refl; failed = tt })
