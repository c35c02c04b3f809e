use Rattle.parity_laws.proofs.ProtectedLemmas.{protected-read}
use Rattle.parity_laws.proofs.laws.protected_data_is_read.Goals as goal

pub returns : goal.returns
returns c = protected-read c.rounds_sum_to_zeros.ensures c.damaged_data_is_read.ensures
