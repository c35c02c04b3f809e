use Rattle.fec_area.proofs.LostSumLemmas.{rounds-sum}
use Rattle.fec_area.proofs.laws.rounds_sum_to_zeros.Goals as goal

pub returns : goal.returns
returns c = rounds-sum
