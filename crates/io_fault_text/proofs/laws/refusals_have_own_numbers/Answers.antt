use Rattle.io_fault_text.proofs.RefusalLemmas.{own-numbers}
use Rattle.io_fault_text.proofs.laws.refusals_have_own_numbers.Goals as goal

pub returns : goal.returns
returns c = own-numbers
