use Rattle.stack_engine.proofs.lemmas.DamagedLemmas.{damaged-read}
use Rattle.stack_engine.proofs.laws.damaged_data_is_read.Goals as goal

pub returns : goal.returns
returns c = damaged-read c.formed_chains_are_good.ensures
