use Rattle.stack_engine.proofs.KernelWordLemmas.{no-line}
use Rattle.stack_engine.proofs.laws.kernel_words_change_no_line.Goals as goal

pub returns : goal.returns
returns c = no-line
