use Rattle.std.proofs.Common.{sym}
use Rattle.image_pin.proofs.CutLemmas.{line-left}
use Rattle.image_pin.proofs.read.at_end.Goals as goal

pub returns-in-Some : goal.returns-in-Some
returns-in-Some c = rw c.in-Some.is (sym (line-left c.args.fields c.in-Some.field-0.now))
