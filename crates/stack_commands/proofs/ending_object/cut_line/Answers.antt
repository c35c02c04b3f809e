use Rattle.std.proofs.Common.{arith, sym}
use Rattle.command_line.proofs.lemmas.CutLemmas.{cut_first-split}
use Rattle.stack_commands.proofs.ending_object.cut_line.Goals as goal

pub returns : goal.returns
returns c = sym (cut_first-split 10 c.args.text.now c.split_once.result c.split_once.ensures.cases (omega arith))
