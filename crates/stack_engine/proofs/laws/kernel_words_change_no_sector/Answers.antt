use Rattle.stack_engine.proofs.KernelWordLemmas.{no-sector}
use Rattle.stack_engine.proofs.laws.kernel_words_change_no_sector.Goals as goal

pub returns : goal.returns
returns c = no-sector
