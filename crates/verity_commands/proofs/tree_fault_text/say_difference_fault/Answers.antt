use Rattle.std.proofs.Common.{refl}
use Rattle.std.proofs.KnownBytes.{Appends-nil}
use Rattle.verity_commands.proofs.tree_fault_text.say_difference_fault.Goals as goal

-- nothing is written
pub returns-in-Write : goal.returns-in-Write
returns-in-Write g c = rw c.in-Write.is (record { ok = Appends-nil (g.W.Write.contents c.args.writer.now.inner); kept = refl; failed = tt })
