use Rattle.std.proofs.Common.{refl}
use Rattle.std.proofs.KnownBytes.{Appends-nil}
use Rattle.transfer_commands.proofs.texts.say_cat_fault.Goals as goal

-- nothing is written
pub returns-in-Write : goal.returns-in-Write
returns-in-Write g c = rw c.in-Write.is (record { ok = Appends-nil (g.W.Write.contents c.args.writer.now.inner); kept = refl; failed = tt })
