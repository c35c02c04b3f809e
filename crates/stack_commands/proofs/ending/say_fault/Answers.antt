use Rattle.std.proofs.Common.{refl}
use Rattle.std.proofs.KnownBytes.{Appends-nil}
use Rattle.stack_commands.proofs.ending.say_fault.Goals as goal

-- nothing is written
pub returns-in-Session : goal.returns-in-Session
returns-in-Session g c = rw c.in-Session.is (record { ok = Appends-nil (g.W.Write.contents c.args.writer.now.inner); kept = refl; failed = tt })
