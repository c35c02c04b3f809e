use Rattle.std.proofs.Common.{refl}
use Rattle.std.proofs.lemmas.Bool.{iff_false}
use Rattle.find_commands.proofs.area.unparsed.Goals as goal

pub returns : goal.returns
returns c = (refl, iff_false c.is_memory.ensures c.if-is_memory.false)
