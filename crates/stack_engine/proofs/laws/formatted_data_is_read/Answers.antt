use Rattle.stack_engine.proofs.lemmas.FormattedLemmas.{formatted-read}
use Rattle.stack_engine.proofs.laws.formatted_data_is_read.Goals as goal

pub returns : goal.returns
returns c = formatted-read c.formed_chains_are_good.ensures
