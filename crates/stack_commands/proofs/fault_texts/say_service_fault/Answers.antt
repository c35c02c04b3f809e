use Rattle.std.proofs.Common.{refl}
use Rattle.std.proofs.KnownBytes.{Appends-nil}
use Rattle.stack_commands.proofs.fault_texts.say_service_fault.Goals as goal

-- nothing is written
pub returns-in-ReadFault : goal.returns-in-ReadFault
returns-in-ReadFault g c = rw c.in-ReadFault.is (record { ok = Appends-nil (g.W.Write.contents c.args.writer.now.inner); kept = refl; failed = tt })

pub returns-in-WriteFault : goal.returns-in-WriteFault
returns-in-WriteFault g c = rw c.in-WriteFault.is (record { ok = Appends-nil (g.W.Write.contents c.args.writer.now.inner); kept = refl; failed = tt })
