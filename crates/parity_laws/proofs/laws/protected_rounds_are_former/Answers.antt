use Rattle.parity_laws.proofs.ProtectedLemmas.{rounds-former}
use Rattle.parity_laws.proofs.laws.protected_rounds_are_former.Goals as goal

pub returns : goal.returns
returns c = rounds-former c.rounds_sum_to_zeros.ensures
